-- A word of a padded copy is the word of the data, and 0 past their end, where the definitions take 0 too. So all that is computed of a padded copy is what
-- is computed of the data; and as what is found is the same, a repair lies in the data, which are the copy's front.
use mathlib.Core.Path.{◌≡◌, refl, sym, ap, ap₂, subst, ◌∙◌}
use mathlib.Core.List.{List, [], ◌∷◌, ◌++◌}
use Prim.Native.Nat.{ℕ, zero, suc, ◌+◌, ◌-◌, ◌*◌, ◌^◌, ◌<◌}
use native.Mathlib.Omega.{arith}
use lib.ListN.{length, get_or, set, take, drop, replicate, length-append, length-replicate, length-drop, length-set, get_or-append}
use lib.Seq.{take-append_seam, set-append_left}
use Rattle.base.specs.Xor.{◌xor◌}
use Rattle.base.specs.Refusal.{answer}
use Rattle.base.proofs.Refused.{answer-either}
use Rattle.parity_rows.specs.Parity.{bit_from, row_parity, column_parity, row_word, column_word, parity_words}
use Rattle.parity_rows.proofs.Folds.{xor-cong, number-cong}
use Rattle.parity.specs.declared.Case.TheVariants.{DataBit}
use Rattle.parity.specs.declared.Judged.{Judged}
use Rattle.parity.specs.Unit.{unit_of, flipped, row_differs, column_differs, Finding, sound, parity_bit, data_bit, neither, finding, repaired, unit_data, named, refused, judge_verdict, judge_reply, check_verdict, check_reply, check_room, write_room}
use Rattle.parity.proofs.Cases.{Within, data-within}
use Rattle.parity_laws.specs.Padded.{padded, data_padded, finding_padded, judge_reply_padded, check_reply_padded, check_room_padded, write_room_padded, PaddedIsWhole, FoundAsPadded, TakenAsPadded}
use Rattle.parity_laws.proofs.SingleFlip.{finding-by-differences}

-- ---- a word and a bit of the copy

abbrev zeros : ℕ → List ℕ
zeros n = replicate n 0

zero-at : (n i : ℕ) → get_or (zeros n) i 0 ≡ 0
zero-at zero i = refl
zero-at (suc n) zero = refl
zero-at (suc n) (suc i) = zero-at n i

zeros-behind : (d : List ℕ) (n i : ℕ) → get_or (d ++ zeros n) i 0 ≡ get_or d i 0
zeros-behind [] n i = zero-at n i
zeros-behind (x ∷ d) n zero = refl
zeros-behind (x ∷ d) n (suc i) = zeros-behind d n i

padded-bit : (d : List ℕ) (w i : ℕ) → bit_from (padded d) w i ≡ bit_from d w i
unfolding padded bit_from
padded-bit d w i = simp zeros-behind

-- ---- the words of the copy

length-behind : (d : List ℕ) (n : ℕ) → length (d ++ zeros n) ≡ length d + n
length-behind d n =
    let z : ℕ = 0 in
    length-append d (zeros n) ∙ ap (λ (m : ℕ). length d + m) (length-replicate n z)

whole : PaddedIsWhole
unfolding padded
whole d h = simp length-behind (omega arith)

-- its front is the data, also with a bit of them flipped back, whatever stands behind
front : (f : Finding) (d behind : List ℕ) → Within (length d) f → take (length d) (repaired f (d ++ behind)) ≡ repaired f d
unfolding flipped
front sound d behind i = take-append_seam d behind
front (parity_bit w b) d behind i = take-append_seam d behind
front neither d behind i = take-append_seam d behind
front (data_bit w b) d behind i =
    let x : ℕ = get_or d w 0 xor 2 ^ b in
    ap (λ (y : ℕ). take (length d) (set (d ++ behind) w (y xor 2 ^ b))) (get_or-append d behind 0 w i.0)
    ∙ ap₂ take (sym (length-set d w x)) (set-append_left d behind w x i.0)
    ∙ take-append_seam (set d w x) behind

-- ---- the parity of the copy

row : (d : List ℕ) (r : ℕ) → row_parity (padded d) r ≡ row_parity d r
unfolding row_parity
row d r = xor-cong 64 (λ c p. padded-bit d (4 * r) c)

column : (d : List ℕ) (c : ℕ) → column_parity (padded d) c ≡ column_parity d c
unfolding column_parity
column d c = xor-cong 64 (λ r p. padded-bit d (4 * r) c)

padded_row_word : (d : List ℕ) (j : ℕ) → row_word (padded d) j ≡ row_word d j
unfolding row_word
padded_row_word d j = number-cong 16 (λ i p. row d (16 * j + i))

column-word : (d : List ℕ) (j : ℕ) → column_word (padded d) j ≡ column_word d j
unfolding column_word
column-word d j = number-cong 16 (λ i p. column d (16 * j + i))

words : (d : List ℕ) → parity_words (padded d) ≡ parity_words d
unfolding parity_words
words d = simp (padded_row_word, column-word)

-- ---- what is found, and what is answered

found : FoundAsPadded
unfolding finding_padded row_differs column_differs
found u =
    let d = drop 8 u in
    sym
    (finding-by-differences u _ _ (λ r p. ap (λ (x : ℕ). bit_from u 0 r xor x) (sym (row d r))) (λ c p. ap (λ (x : ℕ). bit_from u 4 c xor x) (sym (column d c))))

judged : (u : List ℕ) → judge_reply_padded u ≡ judge_reply u
unfolding judge_reply judge_verdict judge_reply_padded
judged u = simp (found u)

checked : (u : List ℕ) (m : ℕ) → check_reply_padded u m ≡ check_reply u m
unfolding check_reply check_verdict check_reply_padded
checked u m = simp (found u)

data-from-copy : (u : List ℕ) → take (length u - 8) (repaired (finding_padded u) (data_padded u)) ≡ unit_data u
unfolding unit_data padded
data-from-copy u =
    let d = drop 8 u in
    ap₂ (λ (n : ℕ) (f : Finding). take n (repaired f (padded d))) (sym (length-drop 8 u)) (found u)
    ∙ front (finding u) d _ (subst (λ (k : ℕ). Within k (finding u)) (sym (length-drop 8 u)) (data-within u))

checked-room : (u room : List ℕ) → check_room_padded u room ≡ check_room u room
unfolding check_room check_verdict check_room_padded
checked-room u room = simp (data-from-copy u) (simp (found u))

written-room : (d room : List ℕ) → write_room_padded d room ≡ write_room d room
unfolding write_room write_room_padded unit_of
written-room d room = simp (words d)

-- ---- where a repair lies

found-in-data : (u : List ℕ) (w b : ℕ) → finding_padded u ≡ data_bit w b → w < length u - 8
found-in-data u w b e = (subst (Within (length u - 8)) (sym (found u) ∙ e) (data-within u)).0

-- of a reply: where it names a data bit, it lies in the data
abbrev InData : ℕ → Judged → Type 0
InData k j = j.case ≡ DataBit → j.word.0 < k

named-in-data : (k : ℕ) (f : Finding) → Within k f → InData k (named f k)
named-in-data k sound i e = absurd (cc)
named-in-data k (parity_bit w b) i e = absurd (cc)
named-in-data k (data_bit w b) i e = i.0
named-in-data k neither i e = absurd (cc)

answered-in-data : (v : ℕ) (u : List ℕ) → InData (length u - 8) (answer v refused (named (finding u) (length u - 8)))
answered-in-data v u =
    let k = length u - 8 in
    answer-either (InData k) v refused (named (finding u) k) (λ e. absurd (cc)) (λ z. named-in-data k (finding u) (data-within u))

judged-in-data : (u : List ℕ) → InData (length u - 8) (judge_reply u)
unfolding judge_reply
judged-in-data u = answered-in-data (judge_verdict u) u

checked-in-data : (u : List ℕ) (m : ℕ) → InData (length u - 8) (check_reply u m)
unfolding check_reply
checked-in-data u m = answered-in-data (check_verdict u m) u

pub taken-as-padded : TakenAsPadded
taken-as-padded =
    record {
      whole = whole;
      parity = record { row = row; column = column; words = words };
      found = found;
      answered = record { judged = judged; checked = checked; checked_room = checked-room; written_room = written-room };
      repair = record { found = found-in-data; judged = judged-in-data; checked = checked-in-data };
    }
