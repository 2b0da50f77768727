-- Each contract is the tie itself; each refusal is the first arm of `answer`, and the number stands in both arms.
use mathlib.Core.Path.{refl}
use Rattle.base.proofs.Refused.{answer-no, answer-number}
use Rattle.space_packet.specs.declared.Sent.{Sent}
use Rattle.space_packet.specs.Reply.{settled}
use Rattle.event_reading.specs.declared.HeadReply.{HeadReply}
use Rattle.event_reading.specs.declared.SlotReply.{SlotReply}
use Rattle.event_reading.specs.declared.EventReply.{EventReply}
use Rattle.event_reading.specs.Reading as reading
use Rattle.event_writing.specs.Writing.{write_reply, write_room}
use Rattle.promises.specs.Ties.{Determined, Answers}
use Rattle.promises.specs.calls.Event as calls
use Rattle.promises.proofs.Ties.{determined, answers, both}

pub head_in : Determined calls.head_in
head_in = determined calls.head_in (λ κs a. tt) λ κs a x e p. p

pub slot-in : Determined calls.slot_in
slot-in = determined calls.slot_in (λ κs a. tt) λ κs a x e p. p

pub event-in : Determined calls.event_in
event-in = determined calls.event_in (λ κs a. tt) λ κs a x e p. p

pub read-head : Answers calls.read_head
unfolding reading.head_reply
read-head =
    answers calls.read_head (λ κs a. tt) (λ κs a x e p. p) (λ κs a. refl) (λ κs a h. answer-no _ _ _ h)
    λ κs a. answer-number (λ (x : HeadReply). x.refusal) _ _ _ refl (λ z. refl)

pub read-slot : Answers calls.read_slot
unfolding reading.slot_reply
read-slot =
    answers calls.read_slot (λ κs a. tt) (λ κs a x e p. p) (λ κs a. refl) (λ κs a h. answer-no _ _ _ h)
    λ κs a. answer-number (λ (x : SlotReply). x.refusal) _ _ _ refl (λ z. refl)

pub read-event : Answers calls.read_event
unfolding reading.event_reply
read-event =
    answers calls.read_event (λ κs a. tt) (λ κs a x e p. p) (λ κs a. refl) (λ κs a h. answer-no _ _ _ h)
    λ κs a. answer-number (λ (x : EventReply). x.refusal) _ _ _ refl (λ z. refl)

pub write-events : Answers calls.write_events
unfolding settled write_reply write_room
write-events =
    answers calls.write_events (λ κs a. tt) (λ κs a x e p. both p) (λ κs a. refl) (λ κs a h. both (answer-no _ _ _ h, answer-no _ _ _ h))
    λ κs a. answer-number (λ (x : Sent). x.refusal) _ _ _ refl (λ z. refl)
