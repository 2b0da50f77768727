-- The run goes on up to the place where the walk stands (`Going`).
use Rattle.std.proofs.Common.{◌≡◌}
use Rattle.chunk.proofs.Walking.{Walks}
use Rattle.chunk_outline.proofs.run.Going.{Going}
use Rattle.chunk_outline.proofs.run.next_run.Given as goal

abbrev pub invariant-loop-entry : goal.invariant-loop-entry
invariant-loop-entry l =
    (goal.iterator-loop-entry).can_next l.entry-iterator ×
    (goal.iterator-loop-entry).is_finite l.entry-iterator ×
    Walks l.sync l.words l.entry-iterator ×
    (l.entry-iterator.at.0 ≡ l.end) ×
    Going l.sync l.words l.kind l.from l.end
