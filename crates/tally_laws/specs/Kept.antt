-- FORMAT, "The tally": a tally may be kept as its thirty numbers.
use Rattle.std.specs.Prelude.{ℕ, ◌≡◌, List, length}
use Rattle.tally_recording.specs.declared.Tally.{Tally}
use Rattle.tally_counts.specs.Numbers.{Rows, numbers_of, tally_from}

-- Its numbers give it back, and thirty numbers are those of the tally that they give.
pub record NumbersComeBack : Type 0 where
  pub tally : (t : Tally) → Rows t → tally_from (numbers_of t) ≡ t
  pub numbers : (ns : List ℕ) → length ns ≡ 30 → numbers_of (tally_from ns) ≡ ns
