-- FORMAT, "Health packets", the newest packet of a type: whatever the words of a recording are, what is found is a sound packet of the type, and no later
-- packet of the recording is; and where nothing is found, no packet is.
use Rattle.std.specs.Prelude.{ℕ, ◌<◌, ◌≡◌, true, false, List, [], ◌∷◌, ◌⊎◌}
use Rattle.health.specs.Packet.{packet_at, type_of_packet, sound_packet}
use Rattle.health_places.specs.Packets.{science_places, health_places, sound_of}
use Rattle.health_last.specs.Packets.{found_at, nowhere}
use Rattle.health_last.specs.Last.{in_science, in_health}

-- p is one of these places
abbrev pub OneOf : ℕ → List ℕ → Type 0
OneOf p [] = ⊥
OneOf p (q ∷ ps) = (p ≡ q) ⊎ OneOf p ps

-- Of the packets at these places, that at p is the last of the type t: it is sound and of the type, and none at a later place is.
pub record LastOf (t : ℕ) (ws places : List ℕ) (p : ℕ) : Type 0 where
  pub there : OneOf p places
  pub sound : sound_packet (packet_at ws p) ≡ true
  pub type : type_of_packet (packet_at ws p) ≡ t
  pub latest : (q : ℕ) → OneOf q places → p < q → sound_of ws t q ≡ false

-- none of the packets at these places is sound and of the type t
abbrev pub NoneAt : ℕ → List ℕ → List ℕ → Type 0
NoneAt t ws places = (q : ℕ) → OneOf q places → sound_of ws t q ≡ false

pub record FoundIsLast : Type 0 where
  pub science : (sync t : ℕ) (ws : List ℕ) (p : ℕ) → in_science sync ws t ≡ found_at p → LastOf t ws (science_places sync ws) p
  pub none_in_science : (sync t : ℕ) (ws : List ℕ) → in_science sync ws t ≡ nowhere → NoneAt t ws (science_places sync ws)
  pub health : (t : ℕ) (ws : List ℕ) (p : ℕ) → in_health ws t ≡ found_at p → LastOf t ws (health_places ws) p
  pub none_in_health : (t : ℕ) (ws : List ℕ) → in_health ws t ≡ nowhere → NoneAt t ws (health_places ws)
