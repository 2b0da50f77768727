-- What is counted up to the place where the walk stands and the frames and strays from there on are all.
use Rattle.frame.proofs.Turns.{Walks}
use Rattle.tally_recording.proofs.Framing.{Framing}
use Rattle.tally_recording.proofs.pieces.count.Given as goal

abbrev pub invariant-loop-piece : goal.invariant-loop-piece
invariant-loop-piece l =
    (goal.iterator-loop-piece).can_next l.piece-iterator ×
    (goal.iterator-loop-piece).is_finite l.piece-iterator ×
    Walks l.sync l.words l.piece-iterator ×
    Framing l.sync l.words l.complete l.cut l.strays l.piece-iterator.at.0
