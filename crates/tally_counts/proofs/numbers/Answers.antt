-- `tally_counts::numbers` meets its contract: each row is its numbers, one after the other.
use Rattle.std.proofs.Common.{rules}
use Rattle.tally_recording.specs.Numbers.{each}
use Rattle.tally_counts.proofs.Thirty.{numbers-written}
use Rattle.tally_counts.proofs.numbers.Goals as goal

pub returns : goal.returns
unfolding each
returns c = numbers-written c.args.tally (record { five = search rules; fifteen = search rules; four = search rules })
