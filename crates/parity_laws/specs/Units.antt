-- FORMAT, "Parity units" and "The three demands": what the unit writer left in the room is sound, and one flipped bit anywhere in it is found, named, and
-- the data come back right. For data of every length that the writer takes.
use Rattle.std.specs.Prelude.{ℕ, ◌-◌, ◌≤◌, ◌<◌, ◌≡◌, cond, List, [], ◌∷◌, length, take, ltb}
use Rattle.base.specs.Size.{parity_width}
use Rattle.base_room.specs.Room.{put}
use Rattle.parity.specs.declared.Case.{Case}
use Rattle.parity.specs.declared.Case.TheVariants.{Sound, ParityBit, DataBit}
use Rattle.parity.specs.Unit.{flipped, judge_verdict, unit_data, reply, judge_reply, check_reply, check_room, write_reply, write_room}

-- the writer takes these data in this room
abbrev pub Accepted : List ℕ → List ℕ → Type 0
Accepted d room = (write_reply (length d) (length room)).refusal ≡ 0

-- the unit that it left there: as many words as it answered, from the front of the room
abbrev pub written : List ℕ → List ℕ → List ℕ
written d room = take (write_reply (length d) (length room)).length.0 (write_room d room)

-- a unit is answered so by the judge, and by the checker in a room of as many words as the data `d` at the least, and the room then holds the data
pub record Answers (u d : List ℕ) (case : Case) (word bit : ℕ) : Type 0 where
  pub judged : judge_reply u ≡ reply 0 case word bit (length d)
  pub checked : (m : ℕ) → length d ≤ m → check_reply u m ≡ reply 0 case word bit (length d)
  pub gives : (room : List ℕ) → length d ≤ length room → check_room u room ≡ put d 0 room

-- a written unit is sound
abbrev pub WrittenIsSound : Type 0
WrittenIsSound = (d room : List ℕ) → Accepted d room → Answers (written d room) d Sound 0 0

-- One bit b of any of its words w flipped: a bit of the parity words, or of the data words after them, and it is named.
abbrev pub OneFlipIsRepaired : Type 0
OneFlipIsRepaired = (d room : List ℕ) → Accepted d room → (w b : ℕ) → w < length (written d room) → b < 16
    → Answers (flipped (written d room) w b) d (cond (ltb w parity_width) ParityBit DataBit) (cond (ltb w parity_width) w (w - parity_width)) b

-- ---- many units

-- each of these units is accepted, and holds the data beside it
abbrev pub Hold : List (List ℕ) → List (List ℕ) → Type 0
Hold [] [] = Unit {0}
Hold [] (d ∷ ds) = ⊥
Hold (u ∷ us) [] = ⊥
Hold (u ∷ us) (d ∷ ds) = (judge_verdict u ≡ 0) × (unit_data u ≡ d) × Hold us ds

-- units as the writer left them, each in a room of its own, or each with one bit flipped, beside their data
pub data Arrived : List (List ℕ) → List (List ℕ) → Type 0 where
  none : Arrived [] []
  whole : {us ds : List (List ℕ)} (d room : List ℕ) → Accepted d room → Arrived us ds → Arrived (written d room ∷ us) (d ∷ ds)
  hurt : {us ds : List (List ℕ)} (d room : List ℕ) → Accepted d room → (w b : ℕ) → w < length (written d room) → b < 16 → Arrived us ds
      → Arrived (flipped (written d room) w b ∷ us) (d ∷ ds)

-- they hold their data
abbrev pub ArrivedHold : Type 0
ArrivedHold = (us ds : List (List ℕ)) → Arrived us ds → Hold us ds
