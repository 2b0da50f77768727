-- `program_reading::take` ends, and counts within its room: each turn takes a byte at the least.
use Rattle.std.proofs.Common.{length, ◌-◌, ◌≤◌}
use Rattle.program_reading.proofs.take.Given as goal

abbrev pub invariant-loop-count : goal.invariant-loop-count
invariant-loop-count g l = l.count ≤ length l.room

abbrev pub decreases-loop-count : goal.decreases-loop-count
decreases-loop-count g l = length l.room - l.count
