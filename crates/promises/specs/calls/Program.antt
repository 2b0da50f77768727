-- The functions of `program_input` and `program_output` but those that read or write a descriptor: the contract, what the caller sees, and the definition
-- that says it.
use Rattle.std.specs.Prelude.{ℕ, List, length}
use Rattle.std.proofs.Math.Option.{some}
use Rattle.base.specs.declared.Written.{Written}
use Rattle.base.specs.Refusal.{wrote}
use Rattle.program_input.specs.Input.{words_causes, words_reply, words_room}
use Rattle.program_output.specs.declared.Out.{Out}
use Rattle.program_output.specs.Output.{to_reply, append_reply, decimal}
use Rattle.program_input.specs.contracts.words as words_contract
use Rattle.program_input.proofs.words.Reads as words_reads
use Rattle.program_output.specs.contracts.Out.to as to_contract
use Rattle.program_output.proofs.Out.to.Reads as to_reads
use Rattle.program_output.specs.contracts.Out.append as append_contract
use Rattle.program_output.proofs.Out.append.Reads as append_reads
use Rattle.program_output.specs.contracts.Out.append_number as append_number_contract
use Rattle.program_output.proofs.Out.append_number.Reads as append_number_reads
use Rattle.promises.specs.Ties.{Function, replies, shows, Call, shows_or_refuses}

-- `program_input::words`
abbrev pub words : Call
words =
    shows_or_refuses words_contract.ended words_reads.Asked words_reads.Post
    (Written × List ℕ) (λ κs x (_, (_, (room, _))). (x, room.now))
    λ κs (bytes, (most, (room, _))).
    record {
      defined = (words_reply (length bytes.now) most.0 (length room.now), words_room bytes.now most.0 room.now);
      causes = words_causes (length bytes.now) most.0 (length room.now);
      refused = λ v. (wrote v 0, room.now);
      number = some λ (x, _). x.refusal;
    }

-- `program_output::Out::to`
abbrev pub to : Function
to =
    replies to_contract.ended to_reads.Asked to_reads.Post
    λ κs (descriptor, _). to_reply descriptor

-- `program_output::Out::append`
abbrev pub append : Function
append =
    shows append_contract.ended append_reads.Asked append_reads.Post
    Out (λ κs x (out, _). out.now)
    λ κs (out, (bytes, _)). append_reply out.now bytes.now

-- `program_output::Out::append_number`
abbrev pub append_number : Function
append_number =
    shows append_number_contract.ended append_number_reads.Asked append_number_reads.Post
    Out (λ κs x (out, _). out.now)
    λ κs (out, (n, _)). append_reply out.now (decimal n)
