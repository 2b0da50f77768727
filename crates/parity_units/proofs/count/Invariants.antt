-- For each outcome, the units so far are counted.
use Rattle.std.proofs.Common.{◌≡◌}
use Rattle.std.specs.Slice.Iter.{chunks_rest, chunks_size}
use Rattle.parity_units.proofs.Counting.{Tallied}
use Rattle.parity_units.proofs.count.Given as goal

abbrev pub invariant-loop-unit : goal.invariant-loop-unit
invariant-loop-unit l = (chunks_size l.unit-iterator ≡ 264) × Tallied l.payload (chunks_rest l.unit-iterator) l.counted
