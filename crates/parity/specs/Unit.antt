-- FORMAT, "Parity units": what the writer writes, what the judge and the checker answer, and the data of a unit.
use Rattle.std.specs.Prelude.{Bool, true, false, cond, not, ◌&&◌, List, [], ◌∷◌, ◌++◌, ℕ, zero, suc, ◌+◌, ◌-◌, ◌*◌, ◌/◌, ◌%◌, ◌^◌, leb, ltb, eqb, length, get_or, set, drop}
use Rattle.base.specs.Xor.{◌xor◌}
use Rattle.base.specs.Size.{parity_width, data_width, unit_width}
use Rattle.base_room.specs.Room.{put}
use Rattle.base.specs.Refusal.{Causes, verdict, answer, settled, wrong_length, wrong_parity, no_room}
use Rattle.base.specs.declared.Written.{Written}
use Rattle.parity.specs.declared.Case.{Case}
use Rattle.parity.specs.declared.Case.TheVariants.{Sound, ParityBit, DataBit}
use Rattle.parity.specs.declared.Judged.{Judged}
use Rattle.parity_rows.specs.Parity.{bit_from, row_parity, column_parity, parity_words}

-- a unit is its parity words, then the data words
unfoldable pub unit_of : List ℕ → List ℕ
unit_of d = parity_words d ++ d

-- the words with one bit flipped; bit 15 of a word is the most significant
unfoldable pub flipped : List ℕ → ℕ → ℕ → List ℕ
flipped ws w b = set ws w (get_or ws w 0 xor 2 ^ b)

-- ---- R and C

-- 1 where the parity that the unit has for row r, or for column c, differs from that of its data, else 0: the rows' parity is in the
-- parity words from word 0 on, the columns' in those from word 4 on
unfoldable pub row_differs : List ℕ → ℕ → ℕ
row_differs u r = bit_from u 0 r xor row_parity (drop parity_width u) r

unfoldable pub column_differs : List ℕ → ℕ → ℕ
column_differs u c = bit_from u 4 c xor column_parity (drop parity_width u) c

-- f 0 + f 1 + .. + f (n - 1): how many of them are 1
unfoldable pub sum_all : ℕ → (ℕ → ℕ) → ℕ
sum_all zero f = 0
sum_all (suc n) f = sum_all n f + f n

-- the first of 0 to n - 1 at which f is not 0, else n: where one is 1, that one
unfoldable pub first_of : ℕ → (ℕ → ℕ) → ℕ
first_of zero f = 0
first_of (suc n) f = elim (eqb (f 0) 0) [ true ↦ suc (first_of n (λ i. f (suc i))) | false ↦ 0 ]

-- ---- the five cases

-- what is found of a unit, with the word, from 0, and the bit that was hit
pub data Finding : Type 0 where
  sound : Finding
  parity_bit : ℕ → ℕ → Finding
  data_bit : ℕ → ℕ → Finding
  neither : Finding

-- from R and C, from the row and the column that differ, where it is one, and from the number k of data words
unfoldable pub five_cases : ℕ → ℕ → ℕ → ℕ → ℕ → Finding
five_cases R C row column k =
    -- R = C = 0: sound
    cond (eqb R 0 && eqb C 0) sound
    -- R = 1, C = 0 or R = 0, C = 1: a parity bit was hit, that of the row or of the column
    (cond (eqb R 1 && eqb C 0) (parity_bit (row / 16) (15 - row % 16))
    (cond (eqb R 0 && eqb C 1) (parity_bit (4 + column / 16) (15 - column % 16))
    -- R = C = 1: that data bit was hit, if its word index is below k
    (cond (eqb R 1 && eqb C 1 && ltb (4 * row + column / 16) k) (data_bit (4 * row + column / 16) (15 - column % 16))
    -- all else
    neither)))

-- R and C are the numbers of rows and columns whose parity differs, of 64 each
unfoldable pub finding : List ℕ → Finding
finding u =
    five_cases (sum_all 64 (row_differs u)) (sum_all 64 (column_differs u)) (first_of 64 (row_differs u)) (first_of 64 (column_differs u))
    (length u - parity_width)

-- the data as they stand, but a data bit that was hit is flipped back
abbrev pub repaired : Finding → List ℕ → List ℕ
repaired (data_bit w b) d = flipped d w b
repaired sound d = d
repaired (parity_bit w b) d = d
repaired neither d = d

-- the data of a unit
unfoldable pub unit_data : List ℕ → List ℕ
unit_data u = repaired (finding u) (drop parity_width u)

-- ---- the judge

-- a unit has 9 to 264 words: its parity words, and 1 to 256 data words
abbrev pub not_unit : ℕ → Bool
not_unit n = not (leb (parity_width + 1) n && leb n unit_width)

abbrev pub is_neither : Finding → Bool
is_neither sound = false
is_neither (parity_bit w b) = false
is_neither (data_bit w b) = false
is_neither neither = true

abbrev pub judge_causes : List ℕ → Causes
judge_causes u = (wrong_length, not_unit (length u)) ∷ (wrong_parity, is_neither (finding u)) ∷ []

unfoldable pub judge_verdict : List ℕ → ℕ
judge_verdict u = verdict (judge_causes u)

-- the number of a case for C code
abbrev pub case_number : Case → ℕ
case_number Sound = 0
case_number ParityBit = 1
case_number DataBit = 2

abbrev pub reply : ℕ → Case → ℕ → ℕ → ℕ → Judged
reply v s w b n = record { refusal = v; case = s; word = record { 0 = w }; bit = b; length = record { 0 = n } }

abbrev pub refused : ℕ → Judged
refused v = reply v Sound 0 0 0

-- what is answered of a finding: the case, the word and the bit that was hit, zeros if sound, and the number k of data words; all else is refused
abbrev pub named : Finding → ℕ → Judged
named sound k = reply 0 Sound 0 0 k
named (parity_bit w b) k = reply 0 ParityBit w b k
named (data_bit w b) k = reply 0 DataBit w b k
named neither k = refused wrong_parity

unfoldable pub judge_reply : List ℕ → Judged
judge_reply u = answer (judge_verdict u) refused (named (finding u) (length u - parity_width))

-- ---- the checker: the judge's answer, or 3 where the room has fewer than k words; the data go to the room

abbrev pub check_causes : List ℕ → ℕ → Causes
check_causes u room = judge_causes u ++ (no_room, ltb room (length u - parity_width)) ∷ []

unfoldable pub check_verdict : List ℕ → ℕ → ℕ
check_verdict u room = verdict (check_causes u room)

unfoldable pub check_reply : List ℕ → ℕ → Judged
check_reply u room = answer (check_verdict u room) refused (named (finding u) (length u - parity_width))

unfoldable pub check_room : List ℕ → List ℕ → List ℕ
check_room u room = answer (check_verdict u (length room)) (λ v. room) (put (unit_data u) 0 room)

-- ---- the writer

-- data of 1 to 256 words, and room for them and the parity words
abbrev pub write_causes : ℕ → ℕ → Causes
write_causes k room = (wrong_length, not (leb 1 k && leb k data_width)) ∷ (no_room, ltb room (parity_width + k)) ∷ []

unfoldable pub write_verdict : ℕ → ℕ → ℕ
write_verdict k room = verdict (write_causes k room)

unfoldable pub write_reply : ℕ → ℕ → Written
write_reply k room = settled (write_verdict k room) (parity_width + k)

unfoldable pub write_room : List ℕ → List ℕ → List ℕ
write_room d room = answer (write_verdict (length d) (length room)) (λ v. room) (put (unit_of d) 0 room)
