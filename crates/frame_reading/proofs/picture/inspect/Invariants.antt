use Rattle.std.proofs.Common.{◌-◌}
use Rattle.frame_reading.specs.Along.{units_along}
use Rattle.frame_reading.proofs.picture.Along.{Inspected}
use Rattle.frame_reading.proofs.picture.inspect.Given as goal

abbrev pub invariant-loop : goal.invariant-loop
invariant-loop l = Inspected (units_along l.chunks l.words) (l.chunks - l.counter) l.rest l.damaged l.touched
