-- What is counted of the chunks so far, up to the place where the walk stands.
use Rattle.chunk.proofs.Walking.{Walks}
use Rattle.chunk_reading.proofs.counting.Counted.{Counted}
use Rattle.chunk_reading.proofs.counting.count.Given as goal

abbrev pub invariant-loop-entry : goal.invariant-loop-entry
invariant-loop-entry l =
    (goal.iterator-loop-entry).can_next l.entry-iterator ×
    (goal.iterator-loop-entry).is_finite l.entry-iterator ×
    Walks l.sync l.words l.entry-iterator ×
    Counted l.sync l.words l.chunks l.listed l.end l.entry-iterator.at.0
