-- What was found of the units so far.
use Rattle.std.proofs.Common.{◌≡◌}
use Rattle.std.specs.Slice.Iter.{chunks_rest, chunks_size}
use Rattle.parity_units.proofs.Judging.{Inspected}
use Rattle.parity_units.proofs.inspect.Given as goal

abbrev pub invariant-loop-unit : goal.invariant-loop-unit
invariant-loop-unit l = (chunks_size l.unit-iterator ≡ 264) × Inspected l.payload (chunks_rest l.unit-iterator) l.harm.damaged l.harm.touched
