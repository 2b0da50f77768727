use Rattle.std.proofs.Common.{◌-◌}
use Rattle.frame_reading.specs.Along.{units_along}
use Rattle.frame_reading.proofs.picture.Along.{Given}
use Rattle.frame_reading.proofs.picture.data.Given as goal

abbrev pub invariant-loop : goal.invariant-loop
invariant-loop l = Given (units_along l.chunks l.words) l.touched l.fn.room l.room (l.chunks - l.counter) l.rest l.place
