-- What the search finds from `place` on is what it finds from the start.
use Rattle.std.proofs.Common.{◌≡◌, ◌-◌, length}
use Rattle.chunk.specs.Reading.{next_from}
use Rattle.chunk.proofs.search.next.Given as goal

abbrev pub invariant-loop-at : goal.invariant-loop-at
invariant-loop-at l = next_from l.sync l.words l.place.0 ≡ next_from l.sync l.words l.fn.from.0

abbrev pub decreases-loop-at : goal.decreases-loop-at
decreases-loop-at l = length l.words - l.place.0
