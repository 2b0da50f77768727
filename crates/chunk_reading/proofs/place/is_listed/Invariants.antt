-- Where the walk stands no chunk is in hand, and the place is still to come.
use Rattle.std.proofs.Common.{◌≡◌, ◌≤◌}
use Rattle.chunk.specs.Reading.{left_at}
use Rattle.chunk.proofs.Walking.{Walks}
use Rattle.chunk_reading.proofs.place.is_listed.Given as goal

abbrev pub invariant-loop-entry : goal.invariant-loop-entry
invariant-loop-entry l =
    (goal.iterator-loop-entry).can_next l.entry-iterator ×
    (goal.iterator-loop-entry).is_finite l.entry-iterator ×
    Walks l.sync l.words l.entry-iterator ×
    (left_at l.sync 0 l.words l.entry-iterator.at.0 ≡ 0) ×
    (l.entry-iterator.at.0 ≤ l.asked)
