-- For the contracts of the search, whose functions are not public: what was found goes with the mark of its chunk, and a first look at the types alone leaves one
-- chunk to look into.
use Rattle.std.specs.Prelude.{◌≡◌, ℕ, ◌+◌, ◌≤◌, Bool, false, ◌&&◌, ◌||◌, Option, Some, None, List, length, ◌==◌}
use Rattle.base.specs.declared.Words.{Words}
use Rattle.chunk.specs.declared.Entry.{Entry}
use Rattle.chunk.specs.Header.{span}
use Rattle.health.specs.Packet.{packet_at, type_of_packet, sound_packet}
use Rattle.health_places.specs.Packets.{chunk_places, sound_of}
use Rattle.health_last.specs.declared.Marked.{Marked}
use Rattle.health_last.specs.Packets.{science_end, nowhere, last_where}
use Rattle.health_last.specs.Last.{in_science}

-- a packet of the type t stands at the place p: any, or a sound one
unfoldable pub wanted : List ℕ → ℕ → Bool → ℕ → Bool
wanted ws t any p = type_of_packet (packet_at ws p) == t && (any || sound_packet (packet_at ws p))

-- where what was found stands; and its mark, none where nothing was found
abbrev pub found_in : Option Marked → Option Words
found_in (Some m) = Some m.at
found_in None = None

abbrev pub mark_in : Option Marked → Bool
mark_in (Some m) = m.end
mark_in None = false

-- what was found is the last sound packet of the type t in the science recording, with its mark
abbrev pub Answers : ℕ → List ℕ → ℕ → Option Marked → Type 0
Answers sync ws t m = (found_in m ≡ in_science sync ws t) × (mark_in m ≡ science_end sync ws (in_science sync ws t))

-- what was found at a place of a chunk, with the mark of the chunk
abbrev pub marked : Words → Entry → Marked
marked p e = record { at = p; end = e.end }

-- A chunk of the recording whose last sound packet of the type t, where it has one, is the recording's.
pub record Decides (sync : ℕ) (ws : List ℕ) (t : ℕ) (e : Entry) : Type 0 where
  pub within : e.position.0 + span e.header ≤ length ws
  pub answers : (p : Words) → last_where (sound_of ws t) (chunk_places e) ≡ Some p → Answers sync ws t (Some (marked p e))

-- there is such a chunk; or none, where the recording has no sound packet of the type
abbrev pub Decided : ℕ → List ℕ → ℕ → Option Entry → Type 0
Decided sync ws t (Some e) = Decides sync ws t e
Decided sync ws t None = in_science sync ws t ≡ nowhere
