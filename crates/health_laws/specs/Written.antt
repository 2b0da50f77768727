-- FORMAT, "Health packets" and "The three demands": what the writer writes the reader gives back, and a packet that is accepted is what the writer writes.
use Rattle.std.specs.Prelude.{ℕ, ◌≤◌, ◌≡◌, List, length, take}
use Rattle.base.specs.Size.{packet_width}
use Rattle.health.specs.Reading.{packet_of, read_reply}
use Rattle.health.specs.Writing.{write_reply, write_room}

-- the writer accepts a packet of the type t with these words, in this room
abbrev pub Accepted : ℕ → List ℕ → List ℕ → Type 0
Accepted t ws room = (write_reply t (length ws) (length room)).refusal ≡ 0

-- what the writer of the type t, the time s and these words left in the room: as many words as it replied
abbrev pub written : ℕ → ℕ → List ℕ → List ℕ → List ℕ
written t s ws room = take (write_reply t (length ws) (length room)).length.0 (write_room t s ws room)

-- a written packet is read with its type, time and words
abbrev pub WrittenIsRead : Type 0
WrittenIsRead = (t s : ℕ) (ws room : List ℕ) → Accepted t ws room → read_reply (written t s ws room) ≡ packet_of 0 t s ws

-- A packet that the reader accepts is the very one that the writer, given room, writes for its type, time and words.
abbrev pub SoundIsWritten : Type 0
SoundIsWritten = (p room : List ℕ) → (read_reply p).refusal ≡ 0 → packet_width ≤ length room
    → Accepted (read_reply p).packet_type (read_reply p).words room
    × (written (read_reply p).packet_type (read_reply p).time (read_reply p).words room ≡ p)
