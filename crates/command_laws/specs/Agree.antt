-- FORMAT, "Commands": what reader and writer promise together, of their replies and of what the writer leaves in the room.
use Rattle.std.specs.Prelude.{ℕ, ◌+◌, ◌<◌, ◌≤◌, ◌≡◌, cond, List, ltb, length, take}
use Rattle.base.specs.Refusal.{answer, wrong_argument, no_room}
use Rattle.space_packet.specs.Layout.{AreBytes}
use Rattle.space_packet.specs.Header.{sequence_counts}
use Rattle.command.specs.declared.Fields.{Fields}
use Rattle.command.specs.Layout.{least_bytes, command_bytes}
use Rattle.command_reading.specs.Reading.{command, read_reply, further_reply}
use Rattle.command_writing.specs.Writing.{write_reply, write_room}

-- what the writer left in the room: as many bytes as it replied
abbrev pub written : ℕ → ℕ → Fields → List ℕ → List ℕ → List ℕ
written catalogue mode f xs room = take (write_reply catalogue mode f xs (length room)).length.0 (write_room catalogue mode f xs room)

-- What the writer writes, the reader accepts, and gives back every field and every byte.
abbrev pub GivenBack : Type 0
GivenBack = (catalogue mode : ℕ) (f : Fields) (xs room : List ℕ) → (write_reply catalogue mode f xs (length room)).refusal ≡ 0
    → (read_reply catalogue mode (written catalogue mode f xs room) ≡ command 0 f (length xs))
    × (further_reply catalogue mode (written catalogue mode f xs room) ≡ xs)

-- Given room, the writer accepts exactly the fields whose bytes the reader accepts: what it refuses, no reader would accept.
abbrev pub AcceptedAlike : Type 0
AcceptedAlike = (catalogue mode : ℕ) (f : Fields) (xs room : List ℕ) → least_bytes + length xs ≤ length room
    → ((write_reply catalogue mode f xs (length room)).refusal ≡ 0 → (read_reply catalogue mode (command_bytes f xs)).refusal ≡ 0)
    × ((read_reply catalogue mode (command_bytes f xs)).refusal ≡ 0 → (write_reply catalogue mode f xs (length room)).refusal ≡ 0)

-- The writer's number: 4 for a sequence count above 16,383; else the reader's for the bytes that it would write; and 3 where the reader has
-- none and the room is too small.
abbrev pub JudgedAlike : Type 0
JudgedAlike = (catalogue mode : ℕ) (f : Fields) (xs room : List ℕ)
    → (sequence_counts ≤ f.sequence → (write_reply catalogue mode f xs (length room)).refusal ≡ wrong_argument)
    × (f.sequence < sequence_counts
    → (write_reply catalogue mode f xs (length room)).refusal
    ≡ answer (read_reply catalogue mode (command_bytes f xs)).refusal (λ v. v) (cond (ltb (length room) (least_bytes + length xs)) no_room 0))

-- Bytes that the reader accepts are those that the writer writes for what it gives.
abbrev pub WrittenAlike : Type 0
WrittenAlike = (catalogue mode : ℕ) (bs room : List ℕ) → AreBytes bs → length bs ≤ length room → (read_reply catalogue mode bs).refusal ≡ 0
    → ((write_reply catalogue mode (read_reply catalogue mode bs).fields (further_reply catalogue mode bs) (length room)).refusal ≡ 0)
    × (written catalogue mode (read_reply catalogue mode bs).fields (further_reply catalogue mode bs) room ≡ bs)
