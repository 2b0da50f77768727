-- What the search finds from `at` on is what it finds from the start.
use Rattle.std.proofs.Common.{◌≡◌, ◌≤◌, ◌-◌, length}
use Rattle.chunk.specs.Reading.{next_from}
use Rattle.chunk.proofs.search.next_sync.Given as goal

abbrev pub invariant-loop-at : goal.invariant-loop-at
invariant-loop-at l = (l.initial.at ≤ l.at) × (next_from l.sync l.words l.initial.at ≡ next_from l.sync l.words l.at)

abbrev pub decreases-loop-at : goal.decreases-loop-at
decreases-loop-at l = length l.words - l.at
