-- What the passes over a recording count: cited by functions that no other crate sees.
use Rattle.std.specs.Prelude.{ℕ, ◌≡◌, ◌≤◌, false, List, [], ◌∷◌, eqb}
use Rattle.chunk.specs.declared.Entry.{Entry}
use Rattle.health_places.specs.Packets.{sound_of}
use Rattle.frame.specs.Picture.{units_of}
use Rattle.tally_recording.specs.declared.Tally.{Tally}
use Rattle.tally_recording.specs.declared.chunks.Listed.{Listed}
use Rattle.tally_recording.specs.declared.pieces.Framed.{Framed}
use Rattle.tally_recording.specs.Tally.{unit_numbers, images, tally_of}

-- at the place p no sound packet of type 1 to 15 stands; one stands there, of the type t alone
abbrev pub SoundNone : List ℕ → ℕ → Type 0
SoundNone ws p = (k : ℕ) → 1 ≤ k → k ≤ 15 → sound_of ws k p ≡ false

pub record SoundOne (ws : List ℕ) (p t : ℕ) : Type 0 where
  pub least : 1 ≤ t
  pub most : t ≤ 15
  pub told : (k : ℕ) → 1 ≤ k → k ≤ 15 → sound_of ws k p ≡ eqb t k

-- the units of one chunk, if it is an image chunk
abbrev pub chunk_unit_numbers : List ℕ → Entry → List ℕ
chunk_unit_numbers ws e = unit_numbers (units_of ws (images (e ∷ [])))

-- what a tally has of the listed chunks, and of the frames and strays
abbrev pub listed_part : Tally → Listed
listed_part t = record { skipped = t.skipped; chunks = t.chunks; packets = t.packets; units = t.units }

abbrev pub listed_of : ℕ → List ℕ → Listed
listed_of sync ws = listed_part (tally_of sync ws)

abbrev pub framed_part : Tally → Framed
framed_part t = record { complete = t.complete; cut = t.cut; strays = t.strays }

abbrev pub framed_of : ℕ → List ℕ → Framed
framed_of sync ws = framed_part (tally_of sync ws)
