-- The functions of `tally_recording` and `tally_counts`: the contract, what the caller sees, and the definition that says it.
use Rattle.std.specs.Prelude.{ℕ}
use Rattle.std.proofs.Math.Option.{some}
use Rattle.base.specs.Refusal.{verdict}
use Rattle.tally_recording.specs.declared.Tally.{Tally}
use Rattle.tally_recording.specs.Tally.{empty_tally}
use Rattle.tally_recording.specs.Replies.{refused, of_causes, of_reply}
use Rattle.tally_counts.specs.Numbers.{numbers_of, tally_from}
use Rattle.tally_counts.specs.Adding.{add_causes, added_reply, added_tally}
use Rattle.tally_recording.specs.contracts.empty as empty_contract
use Rattle.tally_recording.proofs.empty.Reads as empty_reads
use Rattle.tally_recording.specs.contracts.of as of_contract
use Rattle.tally_recording.proofs.of.Reads as of_reads
use Rattle.tally_counts.specs.contracts.numbers as numbers_contract
use Rattle.tally_counts.proofs.numbers.Reads as numbers_reads
use Rattle.tally_counts.specs.contracts.from_numbers as from_numbers_contract
use Rattle.tally_counts.proofs.from_numbers.Reads as from_numbers_reads
use Rattle.tally_counts.specs.contracts.added as added_contract
use Rattle.tally_counts.proofs.added.Reads as added_reads
use Rattle.tally_counts.specs.contracts.add as add_contract
use Rattle.tally_counts.proofs.add.Reads as add_reads
use Rattle.promises.specs.Ties.{Function, replies, Call, replies_or_refuses, shows_or_refuses}

-- `tally_recording::empty`
abbrev pub empty : Function
empty =
    replies empty_contract.ended empty_reads.Asked empty_reads.Post
    λ κs _. empty_tally

-- `tally_recording::of`
abbrev pub of : Call
of =
    replies_or_refuses of_contract.ended of_reads.Asked of_reads.Post
    λ κs (recording, (sync, _)).
    record {
      defined = of_reply sync recording.now;
      causes = of_causes recording.now;
      refused = refused;
      number = some λ x. x.refusal;
    }

-- `tally_counts::numbers`
abbrev pub numbers : Function
numbers =
    replies numbers_contract.ended numbers_reads.Asked numbers_reads.Post
    λ κs (tally, _). numbers_of tally

-- `tally_counts::from_numbers`
abbrev pub from_numbers : Function
from_numbers =
    replies from_numbers_contract.ended from_numbers_reads.Asked from_numbers_reads.Post
    λ κs (numbers, _). tally_from numbers

-- `tally_counts::added`
abbrev pub added : Call
added =
    replies_or_refuses added_contract.ended added_reads.Asked added_reads.Post
    λ κs (tally, (recording, (sync, _))).
    record {
      defined = added_reply tally sync recording.now;
      causes = add_causes tally sync recording.now;
      refused = refused;
      number = some λ x. x.refusal;
    }

-- `tally_counts::add`
abbrev pub add : Call
add =
    shows_or_refuses add_contract.ended add_reads.Asked add_reads.Post
    (ℕ × Tally) (λ κs x (tally, _). (x, tally.now))
    λ κs (tally, (recording, (sync, _))).
    record {
      defined = (verdict (add_causes tally.now sync recording.now), added_tally tally.now sync recording.now);
      causes = add_causes tally.now sync recording.now;
      refused = λ v. (v, tally.now);
      number = some λ (x, _). x;
    }
