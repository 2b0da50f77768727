-- The rest of the entries, put into the room as it is, give the whole index.
use Rattle.chunk.proofs.Walking.{Walks}
use Rattle.reel_writing.proofs.index.Indexed.{Indexed}
use Rattle.reel_writing.proofs.index.write.Given as goal

abbrev pub invariant-loop-entry : goal.invariant-loop-entry
invariant-loop-entry l =
    (goal.iterator-loop-entry).can_next l.entry-iterator ×
    (goal.iterator-loop-entry).is_finite l.entry-iterator ×
    Walks l.sync l.recording l.entry-iterator ×
    Indexed l.sync l.recording l.initial.room l.room l.entry-iterator.at.0 l.count
