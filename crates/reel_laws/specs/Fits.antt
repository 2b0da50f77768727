-- FORMAT, "Reel": the writer and the reader fit, by their replies and by what the writer leaves in the room.
use Rattle.std.specs.Prelude.{◌≡◌, List, ◌++◌, ℕ, ◌≤◌, length, take, drop}
use Rattle.base.specs.Limit.{reel_limit}
use Rattle.base.specs.Refusal.{wrong_reel}
use Rattle.chunk.specs.Reading.{reading}
use Rattle.reel.specs.Reading.{read_reply, told, refused}
use Rattle.reel_writing.specs.Writing.{write_reply, write_room}

-- what the writer left in the room: as many words as it replied
abbrev pub written : ℕ → List ℕ → List ℕ → List ℕ
written sync ws room = take (write_reply sync ws (length room)).length.0 (write_room sync ws room)

-- the index and the trailer in it, which stand behind the recording
abbrev pub written_tail : ℕ → List ℕ → List ℕ → List ℕ
written_tail sync ws room = drop (length ws) (written sync ws room)

-- What the writer writes the reader accepts, with the recording's length and the number of its chunks.
abbrev pub WrittenIsAccepted : Type 0
WrittenIsAccepted =
    (sync : ℕ) (ws room : List ℕ) → (write_reply sync ws (length room)).refusal ≡ 0
    → read_reply sync (written sync ws room) ≡ told 0 (length ws) (length (reading sync ws))

-- The recording's own words come back: the first n words of the reel, with the n that the reader answers.
abbrev pub RecordingComesBack : Type 0
RecordingComesBack =
    (sync : ℕ) (ws room : List ℕ) → (write_reply sync ws (length room)).refusal ≡ 0
    → take (read_reply sync (written sync ws room)).n.0 (written sync ws room) ≡ ws

-- A reel that is accepted is the very one that the writer, given room, writes for its recording.
abbrev pub AcceptedIsWritten : Type 0
AcceptedIsWritten =
    (sync : ℕ) (r room : List ℕ) → (read_reply sync r).refusal ≡ 0 → length r ≤ length room
    → ((write_reply sync (take (read_reply sync r).n.0 r) (length room)).refusal ≡ 0)
    × (written sync (take (read_reply sync r).n.0 r) room ≡ r)

-- The index and trailer of a recording behind another one within the limit are refused with 13, unless the two have one length and are read
-- alike: so two of different lengths are refused whatever they read.
abbrev pub OldIndexIsRefused : Type 0
OldIndexIsRefused =
    (sync : ℕ) (ws room other : List ℕ) → (write_reply sync ws (length room)).refusal ≡ 0 → length other ≤ reel_limit
    → (length other ≡ length ws → reading sync other ≡ reading sync ws → ⊥)
    → read_reply sync (other ++ written_tail sync ws room) ≡ refused wrong_reel
