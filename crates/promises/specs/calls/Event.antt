-- The functions of `event`, `event_reading` and `event_writing`: the contract, what the caller sees, and the definition that says it.
use Rattle.std.specs.Prelude.{ℕ, List, length}
use Rattle.std.proofs.Math.Option.{some}
use Rattle.space_packet.specs.declared.Sent.{Sent}
use Rattle.space_packet.specs.Reply.{refused}
use Rattle.event.specs.Layout as layout
use Rattle.event.specs.Time as time
use Rattle.event_reading.specs.Reading as reading
use Rattle.event_writing.specs.Writing.{write_causes, write_reply, write_room}
use Rattle.event.specs.contracts.head_in as head_in_contract
use Rattle.event.proofs.head_in.Reads as head_in_reads
use Rattle.event.specs.contracts.slot_in as slot_in_contract
use Rattle.event.proofs.slot_in.Reads as slot_in_reads
use Rattle.event.specs.contracts.event_in as event_in_contract
use Rattle.event.proofs.event_in.Reads as event_in_reads
use Rattle.event_reading.specs.contracts.read_head as read_head_contract
use Rattle.event_reading.proofs.read_head.Reads as read_head_reads
use Rattle.event_reading.specs.contracts.read_slot as read_slot_contract
use Rattle.event_reading.proofs.read_slot.Reads as read_slot_reads
use Rattle.event_reading.specs.contracts.read_event as read_event_contract
use Rattle.event_reading.proofs.read_event.Reads as read_event_reads
use Rattle.event_writing.specs.contracts.write_events as write_events_contract
use Rattle.event_writing.proofs.write_events.Reads as write_events_reads
use Rattle.promises.specs.Ties.{Function, replies, Call, replies_or_refuses, shows_or_refuses}

-- `event::head_in`
abbrev pub head_in : Function
head_in =
    replies head_in_contract.ended head_in_reads.Asked head_in_reads.Post
    λ κs (packet, _). layout.head_in packet.now

-- `event::slot_in`
abbrev pub slot_in : Function
slot_in =
    replies slot_in_contract.ended slot_in_reads.Asked slot_in_reads.Post
    λ κs (packet, (slot, _)). layout.slot_in packet.now slot

-- `event::event_in`
abbrev pub event_in : Function
event_in =
    replies event_in_contract.ended event_in_reads.Asked event_in_reads.Post
    λ κs (packet, (slot, _)). time.event_in packet.now slot

-- `event_reading::read_head`
abbrev pub read_head : Call
read_head =
    replies_or_refuses read_head_contract.ended read_head_reads.Asked read_head_reads.Post
    λ κs (packet, _).
    record {
      defined = reading.head_reply packet.now;
      causes = reading.head_causes packet.now;
      refused = reading.head_refused;
      number = some λ x. x.refusal;
    }

-- `event_reading::read_slot`
abbrev pub read_slot : Call
read_slot =
    replies_or_refuses read_slot_contract.ended read_slot_reads.Asked read_slot_reads.Post
    λ κs (packet, (slot, _)).
    record {
      defined = reading.slot_reply packet.now slot;
      causes = reading.slot_causes packet.now slot;
      refused = reading.slot_refused;
      number = some λ x. x.refusal;
    }

-- `event_reading::read_event`
abbrev pub read_event : Call
read_event =
    replies_or_refuses read_event_contract.ended read_event_reads.Asked read_event_reads.Post
    λ κs (packet, (slot, _)).
    record {
      defined = reading.event_reply packet.now slot;
      causes = reading.slot_causes packet.now slot;
      refused = reading.event_refused;
      number = some λ x. x.refusal;
    }

-- `event_writing::write_events`
abbrev pub write_events : Call
write_events =
    shows_or_refuses write_events_contract.ended write_events_reads.Asked write_events_reads.Post
    (Sent × List ℕ) (λ κs x (_, (_, (room, _))). (x, room.now))
    λ κs (head, (slots, (room, _))).
    record {
      defined = (write_reply head slots (length room.now), write_room head slots room.now);
      causes = write_causes head slots (length room.now);
      refused = λ v. (refused v, room.now);
      number = some λ (x, _). x.refusal;
    }
