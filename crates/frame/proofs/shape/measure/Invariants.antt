-- What was walked so far, with what joins from here on, is the whole frame (`Walked`).
use Rattle.std.proofs.Common.{◌-◌, length}
use Rattle.frame.proofs.Walking.{Walked}
use Rattle.frame.proofs.shape.measure.Given as goal

abbrev pub invariant-loop-size : goal.invariant-loop-size
invariant-loop-size l = Walked l.sync l.words l.size l.chunks l.end l.length

abbrev pub decreases-loop-size : goal.decreases-loop-size
decreases-loop-size l = length l.words - l.end
