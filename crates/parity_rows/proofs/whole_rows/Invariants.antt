-- With the columns turned round the sums are those of the first r rows.
use Rattle.std.proofs.Common.{◌≡◌}
use Rattle.parity_rows.specs.ByRows.{sums_of}
use Rattle.parity_rows.proofs.Loads.{turned}
use Rattle.parity_rows.proofs.whole_rows.Given as goal

abbrev pub invariant-loop-r : goal.invariant-loop-r
invariant-loop-r l = turned l.s ≡ sums_of l.«data» l.r
