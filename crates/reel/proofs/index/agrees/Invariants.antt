-- The rest of the words against the chunks from where the walk stands.
use Rattle.chunk.proofs.Walking.{Walks}
use Rattle.reel.proofs.index.Compared.{Compared}
use Rattle.reel.proofs.index.agrees.Given as goal

abbrev pub invariant-loop-entry : goal.invariant-loop-entry
invariant-loop-entry l =
    (goal.iterator-loop-entry).can_next l.entry-iterator ×
    (goal.iterator-loop-entry).is_finite l.entry-iterator ×
    Walks l.sync l.recording l.entry-iterator ×
    Compared l.sync l.recording l.index l.entry-iterator.at.0 l.rest
