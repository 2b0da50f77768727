-- The recording of FORMAT, "Listing program", has one run of each kind; a skipped word cuts a run.
use Rattle.std.specs.Prelude.{ℕ, ◌≡◌, refl, List, ◌∷◌, ◌++◌, replicate}
use Rattle.base.specs.Refusal.{answer}
use Rattle.chunk.specs.Header.{legal_size, legal, headed, ends, confirmed}
use Rattle.chunk.specs.Reading.{listed}
use Rattle.chunk.specs.Examples.{listing}
use Rattle.chunk_outline.specs.Runs.{before, runs, count_kind}
use Rattle.chunk_outline.specs.Outline.{counted, outline_reply}

pub listing_runs : outline_reply 0x5AF3 listing ≡ counted 0 1 1
unfolding outline_reply answer listed confirmed ends headed legal legal_size runs before count_kind
listing_runs = refl

-- the shortest image chunk; the sync word 9 is a legal header word too
abbrev chunk : List ℕ
chunk = 9 ∷ 9 ∷ replicate 9 0

-- two adjacent chunks are one run; with a word between them, which looks like a header, they are two
pub gap_cuts : (outline_reply 9 (chunk ++ chunk) ≡ counted 0 1 0) × (outline_reply 9 (chunk ++ 9 ∷ chunk) ≡ counted 0 2 0)
unfolding outline_reply answer listed confirmed ends headed legal legal_size runs before count_kind
gap_cuts = (refl, refl)
