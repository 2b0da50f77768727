-- The functions of `command_catalogue`, `command`, `command_reading` and `command_writing`: the contract, what the caller sees, and the definition that says
-- it.
use Rattle.std.specs.Prelude.{ℕ, List, [], length}
use Rattle.std.proofs.Math.Option.{none, some}
use Rattle.space_packet.specs.declared.Sent.{Sent}
use Rattle.space_packet.specs.Reply.{refused as write_refused}
use Rattle.command_catalogue.specs.Rules as rules
use Rattle.command.specs.Layout as layout
use Rattle.command.specs.Asking.{first_causes}
use Rattle.command_reading.specs.Reading.{read_causes, read_reply, further_reply, refused as read_refused}
use Rattle.command_writing.specs.Writing.{write_causes, write_reply, write_room}
use Rattle.command_catalogue.specs.contracts.asked_wrong as asked_wrong_contract
use Rattle.command_catalogue.proofs.asked_wrong.Reads as asked_wrong_reads
use Rattle.command_catalogue.specs.contracts.judge as judge_contract
use Rattle.command_catalogue.proofs.judge.Reads as judge_reads
use Rattle.command.specs.contracts.fields_in as fields_in_contract
use Rattle.command.proofs.fields_in.Reads as fields_in_reads
use Rattle.command.specs.contracts.first as first_contract
use Rattle.command.proofs.first.Reads as first_reads
use Rattle.command_reading.specs.contracts.read as read_contract
use Rattle.command_reading.proofs.read.Reads as read_reads
use Rattle.command_reading.specs.contracts.further as further_contract
use Rattle.command_reading.proofs.further.Reads as further_reads
use Rattle.command_writing.specs.contracts.write as write_contract
use Rattle.command_writing.proofs.write.Reads as write_reads
use Rattle.promises.specs.Ties.{Function, replies, Call, number_alone, replies_or_refuses, shows_or_refuses}

-- `command_catalogue::asked_wrong`
abbrev pub asked_wrong : Function
asked_wrong =
    replies asked_wrong_contract.ended asked_wrong_reads.Asked asked_wrong_reads.Post
    λ κs (catalogue, (mode, _)). rules.asked_wrong catalogue mode

-- `command_catalogue::judge`
abbrev pub judge : Call
judge =
    replies_or_refuses judge_contract.ended judge_reads.Asked judge_reads.Post
    λ κs (catalogue, (mode, (type, (qualifier, (address, (word, (bytes, _))))))).
    number_alone (rules.judge_causes catalogue mode type qualifier address word bytes.now)

-- `command::fields_in`
abbrev pub fields_in : Function
fields_in =
    replies fields_in_contract.ended fields_in_reads.Asked fields_in_reads.Post
    λ κs (bytes, _). layout.fields_in bytes.now

-- `command::first`
abbrev pub first : Call
first =
    replies_or_refuses first_contract.ended first_reads.Asked first_reads.Post
    λ κs (argument, (catalogue, (total, _))).
    number_alone (first_causes argument catalogue total.0)

-- `command_reading::read`
abbrev pub read : Call
read =
    replies_or_refuses read_contract.ended read_reads.Asked read_reads.Post
    λ κs (catalogue, (mode, (bytes, _))).
    record {
      defined = read_reply catalogue mode bytes.now;
      causes = read_causes catalogue mode bytes.now;
      refused = read_refused;
      number = some λ x. x.refusal;
    }

-- `command_reading::further`
abbrev pub further : Call
further =
    shows_or_refuses further_contract.ended further_reads.Asked further_reads.Post
    (List ℕ) (λ κs x e. x.now)
    λ κs (catalogue, (mode, (bytes, _))).
    record {
      defined = further_reply catalogue mode bytes.now;
      causes = read_causes catalogue mode bytes.now;
      refused = λ v. [];
      number = none;
    }

-- `command_writing::write`
abbrev pub write : Call
write =
    shows_or_refuses write_contract.ended write_reads.Asked write_reads.Post
    (Sent × List ℕ) (λ κs x (_, (_, (_, (_, (room, _))))). (x, room.now))
    λ κs (catalogue, (mode, (fields, (bytes, (room, _))))).
    record {
      defined = (write_reply catalogue mode fields bytes.now (length room.now), write_room catalogue mode fields bytes.now room.now);
      causes = write_causes catalogue mode fields bytes.now (length room.now);
      refused = λ v. (write_refused v, room.now);
      number = some λ (x, _). x.refusal;
    }
