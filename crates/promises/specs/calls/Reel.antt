-- The functions of `reel` and `reel_writing`: the contract, what the caller sees, and the definition that says it.
use Rattle.std.specs.Prelude.{ℕ, List, length}
use Rattle.std.proofs.Math.Option.{some}
use Rattle.base.specs.declared.Written.{Written}
use Rattle.base.specs.Refusal.{wrote}
use Rattle.reel.specs.Reading.{read_causes, read_reply, told}
use Rattle.reel_writing.specs.Writing.{write_causes, write_reply, write_room}
use Rattle.reel.specs.contracts.read as read_contract
use Rattle.reel.proofs.read.Reads as read_reads
use Rattle.reel_writing.specs.contracts.write as write_contract
use Rattle.reel_writing.proofs.write.Reads as write_reads
use Rattle.promises.specs.Ties.{Call, replies_or_refuses, shows_or_refuses}

-- `reel::read`
abbrev pub read : Call
read =
    replies_or_refuses read_contract.ended read_reads.Asked read_reads.Post
    λ κs (words, (sync, _)).
    record {
      defined = read_reply sync words.now;
      causes = read_causes sync words.now;
      refused = λ v. told v 0 0;
      number = some λ x. x.refusal;
    }

-- `reel_writing::write`
abbrev pub write : Call
write =
    shows_or_refuses write_contract.ended write_reads.Asked write_reads.Post
    (Written × List ℕ) (λ κs x (_, (_, (room, _))). (x, room.now))
    λ κs (recording, (sync, (room, _))).
    record {
      defined = (write_reply sync recording.now (length room.now), write_room sync recording.now room.now);
      causes = write_causes sync recording.now (length room.now);
      refused = λ v. (wrote v 0, room.now);
      number = some λ (x, _). x.refusal;
    }
