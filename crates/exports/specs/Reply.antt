-- FORMAT, "Parity units": the unit judge and the unit checker for C code, to which a reply is one number.
use Rattle.std.specs.Prelude.{ℕ, ◌+◌, ◌*◌, ◌/◌, ◌%◌, ◌≡◌, List}
use Rattle.parity.specs.declared.Judged.{Judged}
use Rattle.parity.specs.declared.Case.TheVariants.{DataBit}
use Rattle.parity.specs.Unit.{case_number, reply, judge_reply, check_reply}

-- a reply as one number of four bytes, from the highest: the refusal, the number of the case, the bit, the word; k is the unit's words less 8, and not in it
unfoldable pub in_bytes : Judged → ℕ
in_bytes j = ((j.refusal * 256 + case_number j.case) * 256 + j.bit) * 256 + j.word.0

-- ---- what the bytes of a number say

abbrev pub refusal_in : ℕ → ℕ
refusal_in n = n / 16777216

abbrev pub case_in : ℕ → ℕ
case_in n = n / 65536 % 256

abbrev pub bit_in : ℕ → ℕ
bit_in n = n / 256 % 256

abbrev pub word_in : ℕ → ℕ
word_in n = n % 256

-- the number of a reply says that reply, but for k: no byte runs into the next
pub record Says (j : Judged) : Type 0 where
  pub refusal : refusal_in (in_bytes j) ≡ j.refusal
  pub case : case_in (in_bytes j) ≡ case_number j.case
  pub bit : bit_in (in_bytes j) ≡ j.bit
  pub word : word_in (in_bytes j) ≡ j.word.0

-- of every reply of the judge, and of the checker in a room of m words; and FORMAT's example
pub record BytesSayTheReply : Type 0 where
  pub judged : (u : List ℕ) → Says (judge_reply u)
  pub checked : (u : List ℕ) (m : ℕ) → Says (check_reply u m)
  pub example : in_bytes (reply 0 DataBit 5 14 6) ≡ 0x00020E05
