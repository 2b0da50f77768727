-- The function of `chunk_register`: the contract, what the caller sees, and the definition that says it.
use Rattle.std.specs.Prelude.{false, List, length}
use Rattle.std.proofs.Math.Option.{some}
use Rattle.chunk.specs.declared.Entry.{Entry}
use Rattle.chunk_reading.specs.declared.Survey.{Survey}
use Rattle.chunk_reading.specs.Counting.{surveyed}
use Rattle.chunk_register.specs.Register.{list_causes, list_reply, list_room}
use Rattle.chunk_register.specs.contracts.list as list_contract
use Rattle.chunk_register.proofs.list.Reads as list_reads
use Rattle.promises.specs.Ties.{Call, shows_or_refuses}

-- `chunk_register::list`
abbrev pub list : Call
list =
    shows_or_refuses list_contract.ended list_reads.Asked list_reads.Post
    (Survey × List Entry) (λ κs x (_, (_, (register, _))). (x, register.now))
    λ κs (recording, (sync, (register, _))).
    record {
      defined = (list_reply sync recording.now (length register.now), list_room sync recording.now register.now);
      causes = list_causes sync recording.now (length register.now);
      refused = λ v. (surveyed v 0 0 false, register.now);
      number = some λ (x, _). x.refusal;
    }
