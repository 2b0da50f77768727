-- FORMAT, "Chunks": where a chunk is listed. The calls for a place answer by place; here it is said of the list.
use Rattle.std.specs.Prelude.{ℕ, ◌+◌, ◌≤◌, ◌≡◌, true, List, [], ◌∷◌, ◌⊎◌, length, get_or, take, drop}
use Rattle.base.specs.Limit.{recording_limit}
use Rattle.chunk.specs.declared.Entry.{Entry}
use Rattle.chunk.specs.Header.{header_width, size, at_end}
use Rattle.chunk.specs.Reading.{entry, reading, listed_at}
use Rattle.chunk_reading.specs.Place.{heading_of, at_reply, payload_reply}

-- e is an entry of the list
abbrev pub Among : Entry → List Entry → Type 0
Among e [] = ⊥
Among e (f ∷ es) = (e ≡ f) ⊎ Among e es

-- A chunk is listed at the places of the list's entries and at no other, and there the calls for a place answer what the entry says.
pub record Places (sync : ℕ) (ws : List ℕ) : Type 0 where
  -- where a chunk is listed the list has an entry, with the header word that stands there and the mark that the words from there on give
  pub entered : (p : ℕ) → listed_at sync ws p ≡ true → Among (entry p (get_or (drop p ws) 1 0) (at_end (drop p ws))) (reading sync ws)
  -- where the list has an entry a chunk is listed
  pub listed : (e : Entry) → Among e (reading sync ws) → listed_at sync ws e.position.0 ≡ true
  -- in a recording within the limit its kind, camera, size and mark are the entry's, and its payload are the words after the header
  pub answered : length ws ≤ recording_limit → (e : Entry) → Among e (reading sync ws)
      → (at_reply sync ws e.position.0 ≡ heading_of e.header e.end)
      × (payload_reply sync ws e.position.0 ≡ take (size e.header) (drop (e.position.0 + header_width) ws))

abbrev pub PlacesAreTheList : Type 0
PlacesAreTheList = (sync : ℕ) (ws : List ℕ) → Places sync ws
