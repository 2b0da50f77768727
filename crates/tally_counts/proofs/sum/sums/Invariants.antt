use Rattle.std.proofs.Common.{◌≡◌, length, drop}
use Rattle.tally_recording.specs.Numbers.{sums, any_past}
use Rattle.tally_counts.proofs.Summing.{from}
use Rattle.tally_counts.proofs.sum.sums.Given as goal

-- the sums of the places so far are taken, those of the others are left, and one that passes the largest number is among these
abbrev pub invariant-loop-place : goal.invariant-loop-place
invariant-loop-place l =
    record {
      size : length l.all ≡ 30;
      rest : sums l.all (from l.place l.fn.new) ≡ sums l.fn.old l.fn.new;
      later : any_past (sums (drop l.place l.fn.old) (drop l.place l.fn.new)) ≡ any_past (sums l.fn.old l.fn.new);
    }
