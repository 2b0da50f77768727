-- Each contract is the tie itself; each refusal is the first arm of `answer`, and the number stands in both arms.
use mathlib.Core.Path.{refl}
use Rattle.base.proofs.Refused.{answer-no, answer-number}
use Rattle.space_packet.specs.declared.Sent.{Sent}
use Rattle.space_packet.specs.Reply.{settled}
use Rattle.command_reading.specs.declared.Command.{Command}
use Rattle.command_reading.specs.Reading as reading
use Rattle.command_writing.specs.Writing as writing
use Rattle.promises.specs.Ties.{Determined, Answers}
use Rattle.promises.specs.calls.Command as calls
use Rattle.promises.proofs.Ties.{determined, answers, both}

pub judge : Answers calls.judge
judge = answers calls.judge (λ κs a. tt) (λ κs a x e p. p) (λ κs a. refl) (λ κs a h. refl) λ κs a. refl

pub fields_in : Determined calls.fields_in
fields_in = determined calls.fields_in (λ κs a. tt) λ κs a x e p. p

pub asked-wrong : Determined calls.asked_wrong
asked-wrong = determined calls.asked_wrong (λ κs a. tt) λ κs a x e p. p

pub first : Answers calls.first
first = answers calls.first (λ κs a. tt) (λ κs a x e p. p) (λ κs a. refl) (λ κs a h. refl) λ κs a. refl

pub read : Answers calls.read
unfolding reading.read_reply reading.given
read =
    answers calls.read (λ κs a. tt) (λ κs a x e p. p) (λ κs a. refl) (λ κs a h. answer-no _ _ _ h)
    λ κs a. answer-number (λ (x : Command). x.refusal) _ _ _ refl (λ z. refl)

pub further : Answers calls.further
unfolding reading.further_reply
further = answers calls.further (λ κs a. tt) (λ κs a x e p. p) (λ κs a. refl) (λ κs a h. answer-no _ _ _ h) λ κs a. tt

pub write : Answers calls.write
unfolding settled writing.write_reply writing.write_room
write =
    answers calls.write (λ κs a. tt) (λ κs a x e p. both p) (λ κs a. refl) (λ κs a h. both (answer-no _ _ _ h, answer-no _ _ _ h))
    λ κs a. answer-number (λ (x : Sent). x.refusal) _ _ _ refl (λ z. refl)
