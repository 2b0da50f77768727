-- FORMAT, "The tally": the numbers of one recording, each by the definition that the calls have of it.
use Rattle.std.specs.Prelude.{ℕ, Bool, true, false, cond, not, ◌&&◌, List, [], ◌∷◌, length, drop, replicate, eqb}
use Rattle.chunk.specs.declared.Entry.{Entry}
use Rattle.chunk.specs.Header.{kind, camera}
use Rattle.chunk.specs.Reading.{reading, skipped}
use Rattle.parity_units.specs.Replies.{how_many}
use Rattle.health_places.specs.Packets.{science_places, sound_of}
use Rattle.frame.specs.Shape.{starts, complete}
use Rattle.frame.specs.Picture.{units_of}
use Rattle.frame.specs.Pieces.{pieces_of}
use Rattle.tally_recording.specs.declared.Tally.{Tally}
use Rattle.tally_recording.specs.Numbers.{how_often, each}

-- where a chunk with this header word is counted: image by its camera, health after these
abbrev pub sort : ℕ → ℕ
sort h = cond (eqb (kind h) 0) (camera h) 4

-- these chunks: image of camera 0, 1, 2 and 3, then health
unfoldable pub chunk_numbers : List Entry → List ℕ
chunk_numbers es = each 0 5 (λ s. how_often (λ (e : Entry). eqb (sort e.header) s) es)

-- the packets at these places: sound ones of type 1 to 15
unfoldable pub packet_numbers : List ℕ → List ℕ → List ℕ
packet_numbers ws places = each 1 15 (λ t. how_often (sound_of ws t) places)

-- these units by what becomes of them: sound, a parity bit hit, repaired, not repairable
unfoldable pub unit_numbers : List (List ℕ) → List ℕ
unit_numbers us = each 0 4 (λ k. how_many k us)

-- the image chunks among these
unfoldable pub images : List Entry → List Entry
images [] = []
images (e ∷ es) = elim (eqb (kind e.header) 0) [ true ↦ e ∷ images es | false ↦ images es ]

-- a frame that starts with this chunk and is complete, or is cut; a stray
abbrev pub is_complete : ℕ → List ℕ → Entry → Bool
is_complete sync ws e = starts e.header && complete sync (drop e.position.0 ws)

abbrev pub is_cut : ℕ → List ℕ → Entry → Bool
is_cut sync ws e = starts e.header && not (complete sync (drop e.position.0 ws))

abbrev pub is_stray : Entry → Bool
is_stray e = not (starts e.header)

-- One recording. Packets and units are those of all its listed chunks, in a complete frame, a cut one or none.
unfoldable pub tally_of : ℕ → List ℕ → Tally
tally_of sync ws =
    record {
      recordings = 1;
      words = length ws;
      skipped = skipped sync ws;
      chunks = chunk_numbers (reading sync ws);
      complete = how_often (is_complete sync ws) (pieces_of sync ws);
      cut = how_often (is_cut sync ws) (pieces_of sync ws);
      strays = how_often is_stray (pieces_of sync ws);
      packets = packet_numbers ws (science_places sync ws);
      units = unit_numbers (units_of ws (images (reading sync ws)));
    }

-- no recording
abbrev pub empty_tally : Tally
empty_tally =
    record {
      recordings = 0;
      words = 0;
      skipped = 0;
      chunks = replicate 5 0;
      complete = 0;
      cut = 0;
      strays = 0;
      packets = replicate 15 0;
      units = replicate 4 0;
    }
