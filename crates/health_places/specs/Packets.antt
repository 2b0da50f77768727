-- FORMAT, "Health packets": where packets stand, in a science recording and in a health recording, and at which of these places a sound one of a type stands.
use Rattle.std.specs.Prelude.{ℕ, zero, suc, ◌+◌, ◌/◌, Bool, cond, ◌&&◌, List, [], ◌∷◌, ◌++◌, length, eqb}
use Rattle.base.specs.Size.{packet_width}
use Rattle.chunk.specs.declared.Entry.{Entry}
use Rattle.chunk.specs.Header.{header_width, kind, size}
use Rattle.chunk.specs.Reading.{reading}
use Rattle.health.specs.Packet.{packet_at, type_of_packet, sound_packet}

-- the places of n packets back to back, the first at the place `at`
unfoldable pub packet_places : ℕ → ℕ → List ℕ
packet_places zero at = []
packet_places (suc n) at = at ∷ packet_places n (at + packet_width)

-- the packets of a chunk: its payload after the header, where it is health
unfoldable pub chunk_places : Entry → List ℕ
chunk_places e = cond (eqb (kind e.header) 1) (packet_places (size e.header / packet_width) (e.position.0 + header_width)) []

-- the packets of these chunks, in order
unfoldable pub places_of : List Entry → List ℕ
places_of [] = []
places_of (e ∷ es) = chunk_places e ++ places_of es

-- the packets of a science recording are those in its listed health chunks
abbrev pub science_places : ℕ → List ℕ → List ℕ
science_places sync ws = places_of (reading sync ws)

-- a health recording is packets back to back
abbrev pub health_places : List ℕ → List ℕ
health_places ws = packet_places (length ws / packet_width) 0

-- a sound packet of the type t stands at the place p
unfoldable pub sound_of : List ℕ → ℕ → ℕ → Bool
sound_of ws t p = eqb (type_of_packet (packet_at ws p)) t && sound_packet (packet_at ws p)
