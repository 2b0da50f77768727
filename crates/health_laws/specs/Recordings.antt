-- FORMAT, "Health packets", the newest packet of a type: recordings that are made of written packets, and where the last packet of a type is found in each.
use Rattle.std.specs.Prelude.{ℕ, ◌+◌, ◌≡◌, Bool, true, not, ◌&&◌, List, [], ◌∷◌, ◌++◌, length, eqb}
use Rattle.chunk.specs.Header.{header_width}
use Rattle.chunk_laws.specs.Stretch.{empty}
use Rattle.chunk_laws.specs.Written.{WriterCall, reply, recorded}
use Rattle.health_last.specs.Packets.{science_end, found_at, nowhere}
use Rattle.health_last.specs.Last.{in_science, in_health}
use Rattle.health_laws.specs.Written.{Accepted, written}

-- A packet that the writer accepted and left in a room.
pub record Packet : Type 0 where
  pub type : ℕ
  pub time : ℕ
  pub words : List ℕ
  pub room : List ℕ
  pub accepted : Accepted type words room

-- its words, and those of packets one straight after the other
abbrev pub left : Packet → List ℕ
left p = written p.type p.time p.words p.room

abbrev pub packets : List Packet → List ℕ
packets [] = []
packets (p ∷ ps) = left p ++ packets ps

-- none of these is of the type t
abbrev pub none_of : ℕ → List Packet → Bool
none_of t [] = true
none_of t (p ∷ ps) = not (eqb p.type t) && none_of t ps

-- ---- a health recording

-- the last packet of its type is found where it begins
abbrev pub LastInHealth : Type 0
LastInHealth = (before : List Packet) (p : Packet) (after : List Packet) → none_of p.type after ≡ true
    → in_health (packets (before ++ p ∷ after)) p.type ≡ found_at (length (packets before))

-- and nothing where no packet is of the type
abbrev pub NoneInHealth : Type 0
NoneInHealth = (t : ℕ) (ps : List Packet) → none_of t ps ≡ true → in_health (packets ps) t ≡ nowhere

-- ---- a science recording

-- A chunk that its writer accepted, and the packets that it carries: none in an image chunk; in a health chunk they are the payload.
pub record Carrier : Type 0 where
  pub call : WriterCall
  pub accepted : (reply call).refusal ≡ 0
  pub carried : List Packet
  pub image : call.kind ≡ 0 → carried ≡ []
  pub health : call.kind ≡ 1 → call.payload ≡ packets carried

-- the calls that wrote a row of chunks
abbrev pub calls : List Carrier → List WriterCall
calls [] = []
calls (c ∷ cs) = c.call ∷ calls cs

-- the packets of a row, in order
abbrev pub all_carried : List Carrier → List Packet
all_carried [] = []
all_carried (c ∷ cs) = c.carried ++ all_carried cs

-- The last packet of its type is found where it begins, past the chunks before its own and the header. It has the mark exactly where its chunk is the last.
abbrev pub LastInScience : Type 0
LastInScience = (sync : ℕ) (before : List Carrier) (c : Carrier) (after : List Carrier) (earlier : List Packet) (p : Packet) (later : List Packet)
    → c.carried ≡ earlier ++ p ∷ later → none_of p.type (later ++ all_carried after) ≡ true
    → (let ws = recorded sync (calls (before ++ c ∷ after)) in
    let at = length (recorded sync (calls before)) + header_width + length (packets earlier) in
    (in_science sync ws p.type ≡ found_at at) × (science_end sync ws (found_at at) ≡ empty after))

-- and nothing where no packet is of the type
abbrev pub NoneInScience : Type 0
NoneInScience = (sync t : ℕ) (cs : List Carrier) → none_of t (all_carried cs) ≡ true → in_science sync (recorded sync (calls cs)) t ≡ nowhere
