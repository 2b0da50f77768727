-- From the place where the walk over the chunks stands on the next piece is the one that is asked for.
use Rattle.std.proofs.Common.{◌≡◌}
use Rattle.chunk.proofs.Walking.{Walks}
use Rattle.frame.specs.Pieces.{next_piece}
use Rattle.frame.proofs.pieces.next.Given as goal

abbrev pub invariant-loop-entry : goal.invariant-loop-entry
invariant-loop-entry l =
    (goal.iterator-loop-entry).can_next l.entry-iterator ×
    (goal.iterator-loop-entry).is_finite l.entry-iterator ×
    Walks l.sync l.words l.entry-iterator ×
    (next_piece l.sync l.words l.entry-iterator.at.0 ≡ next_piece l.sync l.words l.fn.from.0)
