-- What the writer writes is judged sound and gives the data back, and one flipped bit of it, wherever it is, is found, named right, and the data come back
-- right. The rows and columns that differ are those of the flip, for none differs in a written unit; so each of the five cases is known by its sums and
-- its first places. The checker answers as the judge does, where the room has the data's words.
use mathlib.Core.Path.{◌≡◌, refl, sym, ap, ap₂, subst, ◌∙◌}
use mathlib.Core.Bool.{Bool, true, false, cond, not, ◌&&◌}
use mathlib.Core.List.{List}
use Prim.Native.Nat.{ℕ, ◌+◌, ◌-◌, ◌*◌, ◌/◌, ◌%◌, ◌^◌, ◌<◌, ◌≤◌}
use native.Mathlib.Omega.{arith}
use lib.Dec.{ltb}
use lib.Bits.{xor_zero_l, xor_zero_r, xor_self}
use lib.ListN.{length, get_or, set, drop, length-set}
use lib.Seq.{drop-set-lt, drop-set-add, get_or-drop, get_or-set_same, set-set, set-get_or}
use borrow.Author.Tests.{le-leb, lt-ltb, ltb-true, ltb-false}
use Rattle.base.specs.Xor.{◌xor◌}
use Rattle.base.specs.Size.{data_width}
use Rattle.base_room.specs.Room.{put}
use Rattle.base.proofs.XorLaws.{xor_assoc}
use Rattle.base.proofs.Refused.{spared, answer-yes, settled-refusal}
use Rattle.base_room.proofs.RoomLaws.{writer-left}
use Rattle.parity.specs.declared.Judged.{Judged}
use Rattle.parity.specs.declared.Case.{Case}
use Rattle.parity.specs.declared.Case.TheVariants.{Sound, ParityBit, DataBit}
use Rattle.parity.specs.Unit.{unit_of, flipped, row_differs, column_differs, sum_all, first_of, Finding, sound, parity_bit, data_bit, neither, five_cases, finding, repaired, unit_data, reply, named, judge_verdict, judge_reply, check_reply, check_room, write_causes, write_verdict, write_reply, write_room}
use Rattle.parity.proofs.Judging.{between, judgement, judged-refusal, checked-refusal, accepted-as-judged}
use Rattle.parity_laws.specs.Units.{Accepted, written, Answers, WrittenIsSound, OneFlipIsRepaired, Hold, Arrived, none, whole, hurt, ArrivedHold}
use Rattle.parity_laws.proofs.Spot.{spot, sum-cong, first_cong, sum-none, sum-spot, first-spot}
use Rattle.parity_laws.proofs.Flips.{row_flip, column_flip, flip-row, flip-column, unit-data, unit-length, no_row, no-column}
use Rattle.parity_laws.proofs.Places.{data-flip-row, data-flip-column, row-parity-flip-row, row-parity-flip-column, column-parity-flip-row, column-parity-flip-column}

-- ---- what is found

-- from the rows and the columns that differ
pub finding-by-differences : (u : List ℕ) (f g : ℕ → ℕ) → ((r : ℕ) → r < 64 → row_differs u r ≡ f r) → ((c : ℕ) → c < 64 → column_differs u c ≡ g c)
    → finding u ≡ five_cases (sum_all 64 f) (sum_all 64 g) (first_of 64 f) (first_of 64 g) (length u - 8)
unfolding finding
finding-by-differences u f g p q = same (sum-cong 64 p) (sum-cong 64 q) (first_cong 64 p) (first_cong 64 q)
  where
    same : {a b c d a' b' c' d' : ℕ} → a ≡ a' → b ≡ b' → c ≡ c' → d ≡ d' → five_cases a b c d (length u - 8) ≡ five_cases a' b' c' d' (length u - 8)
    same p q r s = cc

nowhere : ℕ → ℕ
nowhere i = 0

sum-zero : sum_all 64 nowhere ≡ 0
unfolding nowhere
sum-zero = sum-none 64 nowhere (λ i p. refl)

module _ (k x y p : ℕ) (h : p < 64) where
  nothing-differs : five_cases (sum_all 64 nowhere) (sum_all 64 nowhere) x y k ≡ sound
  unfolding five_cases
  nothing-differs = ap₂ (λ (a b : ℕ). five_cases a b x y k) sum-zero sum-zero

  one-row-differs : five_cases (sum_all 64 (spot p)) (sum_all 64 nowhere) (first_of 64 (spot p)) y k ≡ parity_bit (p / 16) (15 - p % 16)
  unfolding five_cases
  one-row-differs =
      ap₂ (λ (a b : ℕ). five_cases a b (first_of 64 (spot p)) y k) (sum-spot 64 p h) sum-zero
      ∙ ap (λ (n : ℕ). parity_bit (n / 16) (15 - n % 16)) (first-spot 64 p h)

  one-column-differs : five_cases (sum_all 64 nowhere) (sum_all 64 (spot p)) x (first_of 64 (spot p)) k ≡ parity_bit (4 + p / 16) (15 - p % 16)
  unfolding five_cases
  one-column-differs =
      ap₂ (λ (a b : ℕ). five_cases a b x (first_of 64 (spot p)) k) sum-zero (sum-spot 64 p h)
      ∙ ap (λ (n : ℕ). parity_bit (4 + n / 16) (15 - n % 16)) (first-spot 64 p h)

  one-of-each-differs : (r : ℕ) → r < 64 → 4 * r + p / 16 < k
      → five_cases (sum_all 64 (spot r)) (sum_all 64 (spot p)) (first_of 64 (spot r)) (first_of 64 (spot p)) k ≡ data_bit (4 * r + p / 16) (15 - p % 16)
  unfolding five_cases
  one-of-each-differs r q below =
      ap₂ (λ (a b : ℕ). five_cases a b (first_of 64 (spot r)) (first_of 64 (spot p)) k) (sum-spot 64 r q) (sum-spot 64 p h)
      ∙ ap₂ (λ (a b : ℕ). five_cases 1 1 a b k) (first-spot 64 r q) (first-spot 64 p h)
      ∙ ap (λ (t : Bool). cond t (data_bit (4 * r + p / 16) (15 - p % 16)) neither) (lt-ltb (4 * r + p / 16) k below)

flip-length : (i b : ℕ) (u : List ℕ) → length (flipped u i b) ≡ length u
unfolding flipped
flip-length i b u = length-set u i (get_or u i 0 xor 2 ^ b)

flip_twice : (w b : ℕ) (d : List ℕ) → w < length d → flipped (flipped d w b) w b ≡ d
unfolding flipped
flip_twice w b d h =
    let x = get_or d w 0 in
    ap (λ (y : ℕ). set (set d w (x xor 2 ^ b)) w (y xor 2 ^ b)) (get_or-set_same d w (x xor 2 ^ b) 0 h)
    ∙ set-set d w (x xor 2 ^ b) (x xor 2 ^ b xor 2 ^ b)
    ∙ ap (set d w) (xor_assoc x (2 ^ b) (2 ^ b) ∙ ap (λ (y : ℕ). x xor y) (xor_self (2 ^ b)) ∙ xor_zero_r x)
    ∙ set-get_or d w 0

-- what the judge says of a unit, and what it holds
record Repaired (u d : List ℕ) (case : Case) (word bit : ℕ) : Type 0 where
  judges : judge_reply u ≡ reply 0 case word bit (length d)
  holds : unit_data u ≡ d

-- data that a unit is written for
abbrev Fits : List ℕ → Type 0
Fits d = (1 ≤ length d) × (length d ≤ data_width)

module _ (d : List ℕ) (fits : Fits d) where
  -- a unit of the right length is judged by what is found of it
  judged-by-finding : (u : List ℕ) (f : Finding) → length u ≡ 8 + length d → finding u ≡ f → judge_reply u ≡ named f (length d)
  judged-by-finding u f n e =
      let some = fits.0 in
      let most = fits.1 in
      let k : length u - 8 ≡ length d = omega arith in
      sym (judgement u (ap₂ (λ (s t : Bool). not (s && t)) (le-leb 9 (length u) (omega arith)) (le-leb (length u) 264 (omega arith))))
      ∙ ap₂ named e k

  -- ---- as it is written

  written-finding : finding (unit_of d) ≡ sound
  unfolding nowhere
  written-finding =
      finding-by-differences (unit_of d) nowhere nowhere (no_row d) (no-column d) ∙ nothing-differs (length (unit_of d) - 8) _ _ 0 (omega arith)

  written-repaired : Repaired (unit_of d) d Sound 0 0
  unfolding unit_data
  written-repaired =
      record {
        judges = judged-by-finding (unit_of d) sound (unit-length d) written-finding;
        holds = ap (λ (f : Finding). repaired f (drop 8 (unit_of d))) written-finding ∙ unit-data d;
      }

  -- ---- one bit flipped

  module _ (i b : ℕ) (hi : i < length (unit_of d)) where
    abbrev damaged : List ℕ
    damaged = flipped (unit_of d) i b

    rows-by-flip : (f : ℕ → ℕ) → ((r : ℕ) → r < 64 → row_flip i b r ≡ f r) → (r : ℕ) → r < 64 → row_differs damaged r ≡ f r
    rows-by-flip f e r h = flip-row (unit_of d) i b hi r ∙ ap (λ (x : ℕ). x xor row_flip i b r) (no_row d r h) ∙ xor_zero_l (row_flip i b r) ∙ e r h

    columns-by-flip : (g : ℕ → ℕ) → ((c : ℕ) → c < 64 → column_flip i b c ≡ g c) → (c : ℕ) → c < 64 → column_differs damaged c ≡ g c
    columns-by-flip g e c h = flip-column (unit_of d) i b hi c ∙ ap (λ (x : ℕ). x xor column_flip i b c) (no-column d c h) ∙ xor_zero_l (column_flip i b c) ∙ e c h

    finding-by-flip : (f g : ℕ → ℕ) → ((r : ℕ) → r < 64 → row_flip i b r ≡ f r) → ((c : ℕ) → c < 64 → column_flip i b c ≡ g c)
        → finding damaged ≡ five_cases (sum_all 64 f) (sum_all 64 g) (first_of 64 f) (first_of 64 g) (length damaged - 8)
    finding-by-flip f g p q = finding-by-differences damaged f g (rows-by-flip f p) (columns-by-flip g q)

    damaged-length : length damaged ≡ 8 + length d
    damaged-length = flip-length i b (unit_of d) ∙ unit-length d

  -- a bit of parity word w
  module _ (w b : ℕ) (hw : w < 8) (hb : b < 16) where
    parity-in-unit : w < length (unit_of d)
    parity-in-unit = omega (arith, unit-length d)

    parity-named : (j c : ℕ) → j ≡ w → c ≡ b → parity_bit j c ≡ parity_bit w b
    parity-named j c p q = cc

    parity-flip-finding : finding (flipped (unit_of d) w b) ≡ parity_bit w b
    unfolding nowhere
    parity-flip-finding = by-half (ltb w 4) refl
      where
        by-half : (t : Bool) → ltb w 4 ≡ t → finding (flipped (unit_of d) w b) ≡ parity_bit w b
        by-half true e =
            let h : w < 4 = ltb-true w 4 e in
            let p = 16 * (w - 0) + (15 - b) in
            finding-by-flip w b parity-in-unit (spot p) nowhere (row-parity-flip-row w b hw hb h) (row-parity-flip-column w b hw hb h)
            ∙ one-row-differs _ 0 _ p (omega arith) ∙ parity-named (p / 16) (15 - p % 16) (omega arith) (omega arith)
        by-half false e =
            let h : 4 ≤ w = ltb-false w 4 e in
            let p = 16 * (w - 4) + (15 - b) in
            finding-by-flip w b parity-in-unit nowhere (spot p) (column-parity-flip-row w b hw hb h) (column-parity-flip-column w b hw hb h)
            ∙ one-column-differs _ _ 0 p (omega arith) ∙ parity-named (4 + p / 16) (15 - p % 16) (omega arith) (omega arith)

    parity-flip-repaired : Repaired (flipped (unit_of d) w b) d ParityBit w b
    unfolding unit_data flipped
    parity-flip-repaired =
        record {
          judges = judged-by-finding (flipped (unit_of d) w b) (parity_bit w b) (damaged-length w b parity-in-unit) parity-flip-finding;
          holds =
              ap (λ (f : Finding). repaired f (drop 8 (flipped (unit_of d) w b))) parity-flip-finding
              ∙ drop-set-lt 8 (unit_of d) w (get_or (unit_of d) w 0 xor 2 ^ b) hw ∙ unit-data d;
        }

  -- a bit of data word w
  module _ (w b : ℕ) (hw : w < length d) (hb : b < 16) where
    data-in-unit : 8 + w < length (unit_of d)
    data-in-unit = omega (arith, unit-length d)

    data-flip-finding : finding (flipped (unit_of d) (8 + w) b) ≡ data_bit w b
    data-flip-finding =
        let most = fits.1 in
        let p = 16 * (w % 4) + (15 - b) in
        let j : 4 * (w / 4) + p / 16 ≡ w = omega arith in
        let c : 15 - p % 16 ≡ b = omega arith in
        finding-by-flip (8 + w) b data-in-unit (spot (w / 4)) (spot p) (data-flip-row w b hb) (data-flip-column w b hb (omega arith))
        ∙ one-of-each-differs _ 0 0 p (omega arith) (w / 4) (omega arith) (omega (arith, damaged-length (8 + w) b data-in-unit))
        ∙ ap₂ data_bit j c

    data-flipped : drop 8 (flipped (unit_of d) (8 + w) b) ≡ flipped d w b
    unfolding flipped
    data-flipped =
        drop-set-add 8 (unit_of d) w (get_or (unit_of d) (8 + w) 0 xor 2 ^ b)
        ∙ ap₂ (λ (s : List ℕ) (x : ℕ). set s w (x xor 2 ^ b)) (unit-data d) (sym (get_or-drop 8 (unit_of d) w 0) ∙ ap (λ (s : List ℕ). get_or s w 0) (unit-data d))

    data-flip-repaired : Repaired (flipped (unit_of d) (8 + w) b) d DataBit w b
    unfolding unit_data
    data-flip-repaired =
        record {
          judges = judged-by-finding (flipped (unit_of d) (8 + w) b) (data_bit w b) (damaged-length (8 + w) b data-in-unit) data-flip-finding;
          holds = ap₂ repaired data-flip-finding data-flipped ∙ flip_twice w b d hw;
        }

  -- a bit of any word
  flip-repaired : (w b : ℕ) → w < 8 + length d → b < 16 → Repaired (flipped (unit_of d) w b) d (cond (ltb w 8) ParityBit DataBit) (cond (ltb w 8) w (w - 8)) b
  flip-repaired w b hw hb = by_part (ltb w 8) refl
    where
      by_part : (p : Bool) → ltb w 8 ≡ p → Repaired (flipped (unit_of d) w b) d (cond p ParityBit DataBit) (cond p w (w - 8)) b
      by_part true e = parity-flip-repaired w b (ltb-true w 8 e) hb
      by_part false e =
          let v : ℕ = w - 8 in
          let n : 8 + v ≡ w = omega (arith, ltb-false w 8 e) in
          subst (λ (x : ℕ). Repaired (flipped (unit_of d) x b) d DataBit v b) n (data-flip-repaired v b (omega arith) hb)

-- ---- from the judge to the checker

module _ {u d : List ℕ} {case : Case} {word bit : ℕ} (r : Repaired u d case word bit) where
  checks : (m : ℕ) → length d ≤ m → check_reply u m ≡ reply 0 case word bit (length d)
  checks m h =
      let k = ap (λ (j : Judged). j.length.0) r.judges in
      sym (accepted-as-judged u m (judge_reply u) refl (ap (λ (j : Judged). j.refusal) r.judges) (omega (arith, k))) ∙ r.judges

  gives-data : (room : List ℕ) → length d ≤ length room → check_room u room ≡ put d 0 room
  unfolding check_room
  gives-data room h =
      answer-yes _ _ _ (sym (checked-refusal u (length room)) ∙ ap (λ (j : Judged). j.refusal) (checks (length room) h))
      ∙ ap (λ (x : List ℕ). put x 0 room) r.holds

  answers : Answers u d case word bit
  answers = record { judged = r.judges; checked = checks; gives = gives-data }

  accepted : judge_verdict u ≡ 0
  accepted = sym (judged-refusal u) ∙ ap (λ (j : Judged). j.refusal) r.judges

-- ---- from the unit to what the writer left in the room

module _ (d room : List ℕ) (a : Accepted d room) where
  abbrev verdict_there : ℕ
  verdict_there = write_verdict (length d) (length room)

  no-cause : verdict_there ≡ 0
  unfolding write_reply
  no-cause = sym (settled-refusal verdict_there (8 + length d)) ∙ a

  data-fit : Fits d
  unfolding write_verdict
  data-fit = between 1 256 (length d) (spared (write_causes (length d) (length room)) refl no-cause).0

  unit-fits : 8 + length d ≤ length room
  unfolding write_verdict
  unit-fits = ltb-false (length room) (8 + length d) (spared (write_causes (length d) (length room)) refl no-cause).1.0

  unit-written : written d room ≡ unit_of d
  unfolding write_reply write_room
  unit-written = writer-left verdict_there (8 + length d) (unit_of d) room (unit-length d) unit-fits a

  whole-there : Repaired (written d room) d Sound 0 0
  whole-there = rw unit-written (written-repaired d data-fit)

  flip-there : (w b : ℕ) → w < length (written d room) → b < 16
      → Repaired (flipped (written d room) w b) d (cond (ltb w 8) ParityBit DataBit) (cond (ltb w 8) w (w - 8)) b
  flip-there w b hw hb = rw unit-written (flip-repaired d data-fit w b (omega (arith, hw, ap length unit-written ∙ unit-length d)) hb)

pub written-is-sound : WrittenIsSound
written-is-sound d room a = answers (whole-there d room a)

pub one-flip-is-repaired : OneFlipIsRepaired
one-flip-is-repaired d room a w b hw hb = answers (flip-there d room a w b hw hb)

pub arrived-hold : ArrivedHold
arrived-hold us ds a = by-unit a
  where
    by-unit : {us ds : List (List ℕ)} → Arrived us ds → Hold us ds
    by-unit none = tt
    by-unit (whole d room a rest) = let r = whole-there d room a in (accepted r, r.holds, by-unit rest)
    by-unit (hurt d room a w b hw hb rest) = let r = flip-there d room a w b hw hb in (accepted r, r.holds, by-unit rest)
