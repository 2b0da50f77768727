-- Each contract is the tie itself; each refusal is the first arm of `answer`, and the number stands in both arms.
use mathlib.Core.Path.{refl}
use Rattle.base.specs.Refusal.{settled}
use Rattle.base.proofs.Refused.{answer-no, settled-refusal, answer-number}
use Rattle.reel.specs.declared.Reel.{Reel}
use Rattle.reel.specs.Reading.{read_reply}
use Rattle.reel_writing.specs.Writing as writing
use Rattle.promises.specs.Ties.{Answers}
use Rattle.promises.specs.calls.Reel as calls
use Rattle.promises.proofs.Ties.{answers, both}

pub read : Answers calls.read
unfolding read_reply
read =
    answers calls.read (λ κs a. tt) (λ κs a x e p. p) (λ κs a. refl) (λ κs a h. answer-no _ _ _ h)
    λ κs a. answer-number (λ (x : Reel). x.refusal) _ _ _ refl (λ z. refl)

pub write : Answers calls.write
unfolding settled writing.write_reply writing.write_room
write =
    answers calls.write (λ κs a. tt) (λ κs a x e p. both p) (λ κs a. refl) (λ κs a h. both (answer-no _ _ _ h, answer-no _ _ _ h))
    λ κs a. settled-refusal _ _
