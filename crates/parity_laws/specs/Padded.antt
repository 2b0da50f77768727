-- FORMAT, "Parity units": "the data are taken as padded with zeros to 256 words", to the letter. The definitions that the calls are tied to make no copy and
-- take a word past the end as 0. Here stand the answers by a padded copy, and that they are the same. But for the first law nothing is asked of a length.
use Rattle.std.specs.Prelude.{ℕ, ◌-◌, ◌≤◌, ◌<◌, ◌≡◌, List, [], ◌∷◌, ◌++◌, ltb, length, take, drop, replicate}
use Rattle.base.specs.Xor.{◌xor◌}
use Rattle.base.specs.Size.{parity_width, data_width}
use Rattle.base.specs.Refusal.{Causes, verdict, answer, wrong_length, wrong_parity, no_room}
use Rattle.base_room.specs.Room.{put}
use Rattle.parity_rows.specs.Parity.{bit_from, row_parity, column_parity, parity_words}
use Rattle.parity.specs.declared.Case.TheVariants.{DataBit}
use Rattle.parity.specs.declared.Judged.{Judged}
use Rattle.parity.specs.Unit.{sum_all, first_of, Finding, data_bit, five_cases, finding, repaired, not_unit, is_neither, named, refused, judge_reply, check_reply, check_room, write_verdict, write_room}

-- ---- by a padded copy

-- the data with zeros behind them, 256 words
unfoldable pub padded : List ℕ → List ℕ
padded d = d ++ replicate (data_width - length d) 0

-- a padded copy of a unit's data
abbrev pub data_padded : List ℕ → List ℕ
data_padded u = padded (drop parity_width u)

-- R, C, the row and the column by the copy; k is still the number of data words that came
unfoldable pub finding_padded : List ℕ → Finding
finding_padded u =
    let row : ℕ → ℕ = λ r. bit_from u 0 r xor row_parity (data_padded u) r in
    let column : ℕ → ℕ = λ c. bit_from u 4 c xor column_parity (data_padded u) c in
    five_cases (sum_all 64 row) (sum_all 64 column) (first_of 64 row) (first_of 64 column) (length u - parity_width)

-- the judge's causes and reply
abbrev pub judge_causes_padded : List ℕ → Causes
judge_causes_padded u = (wrong_length, not_unit (length u)) ∷ (wrong_parity, is_neither (finding_padded u)) ∷ []

unfoldable pub judge_reply_padded : List ℕ → Judged
judge_reply_padded u = answer (verdict (judge_causes_padded u)) refused (named (finding_padded u) (length u - parity_width))

-- the checker's, in a room of m words
abbrev pub check_causes_padded : List ℕ → ℕ → Causes
check_causes_padded u m = judge_causes_padded u ++ (no_room, ltb m (length u - parity_width)) ∷ []

unfoldable pub check_reply_padded : List ℕ → ℕ → Judged
check_reply_padded u m = answer (verdict (check_causes_padded u m)) refused (named (finding_padded u) (length u - parity_width))

-- the bit is flipped back in the copy, and the k words at its front go to the room
unfoldable pub check_room_padded : List ℕ → List ℕ → List ℕ
check_room_padded u room =
    answer (verdict (check_causes_padded u (length room))) (λ v. room)
    (put (take (length u - parity_width) (repaired (finding_padded u) (data_padded u))) 0 room)

-- the writer's room: the parity words of the copy, then the data
unfoldable pub write_room_padded : List ℕ → List ℕ → List ℕ
write_room_padded d room = answer (write_verdict (length d) (length room)) (λ v. room) (put (parity_words (padded d) ++ d) 0 room)

-- ---- the same

-- a padded copy has 256 words
abbrev pub PaddedIsWhole : Type 0
PaddedIsWhole = (d : List ℕ) → length d ≤ data_width → length (padded d) ≡ data_width

-- its parity is that of the data: of every row, of every column, and so the parity words
pub record ParityAsPadded : Type 0 where
  pub row : (d : List ℕ) (r : ℕ) → row_parity (padded d) r ≡ row_parity d r
  pub column : (d : List ℕ) (c : ℕ) → column_parity (padded d) c ≡ column_parity d c
  pub words : (d : List ℕ) → parity_words (padded d) ≡ parity_words d

-- the same is found
abbrev pub FoundAsPadded : Type 0
FoundAsPadded = (u : List ℕ) → finding_padded u ≡ finding u

-- and so a padded copy would give what the calls reply and leave in the room
pub record AnsweredAsPadded : Type 0 where
  pub judged : (u : List ℕ) → judge_reply_padded u ≡ judge_reply u
  pub checked : (u : List ℕ) (m : ℕ) → check_reply_padded u m ≡ check_reply u m
  pub checked_room : (u room : List ℕ) → check_room_padded u room ≡ check_room u room
  pub written_room : (d room : List ℕ) → write_room_padded d room ≡ write_room d room

-- a repair never lies in the padding: a data bit that is found, or that a call names, is in one of the k words that came
pub record RepairIsOfTheData : Type 0 where
  pub found : (u : List ℕ) (w b : ℕ) → finding_padded u ≡ data_bit w b → w < length u - parity_width
  pub judged : (u : List ℕ) → (judge_reply u).case ≡ DataBit → (judge_reply u).word.0 < length u - parity_width
  pub checked : (u : List ℕ) (m : ℕ) → (check_reply u m).case ≡ DataBit → (check_reply u m).word.0 < length u - parity_width

-- all of these
pub record TakenAsPadded : Type 0 where
  pub whole : PaddedIsWhole
  pub parity : ParityAsPadded
  pub found : FoundAsPadded
  pub answered : AnsweredAsPadded
  pub repair : RepairIsOfTheData
