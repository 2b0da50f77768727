-- FORMAT, "Listing program": the recording of its listing; the definitions compute how it is read.
use Rattle.std.specs.Prelude.{◌≡◌, refl, true, false, List, [], ◌∷◌, ◌++◌, ℕ, replicate}
use Rattle.chunk.specs.Header.{legal_size, legal, headed, ends, confirmed, at_end}
use Rattle.chunk.specs.Reading.{entry, listed, reading, skipped_from, skipped}

-- the recording of the listing program: one word of noise, an image chunk of camera 1, a health chunk
abbrev pub listing : List ℕ
listing = 0x0007 ∷ 0x5AF3 ∷ 0x2009 ∷ replicate 9 0 ++ 0x5AF3 ∷ 0x8020 ∷ replicate 32 0

pub listing_read : (reading 0x5AF3 listing ≡ entry 1 0x2009 false ∷ entry 12 0x8020 true ∷ []) × (skipped 0x5AF3 listing ≡ 1)
unfolding listed skipped_from at_end confirmed ends headed legal legal_size
listing_read = (refl, refl)
