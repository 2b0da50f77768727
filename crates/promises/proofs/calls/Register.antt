-- The contract is the tie itself; the refusal is the first arm of `answer`, and the number stands in both arms.
use mathlib.Core.Path.{refl}
use Rattle.base.proofs.Refused.{answer-no, answer-number}
use Rattle.chunk_reading.specs.declared.Survey.{Survey}
use Rattle.chunk_register.specs.Register.{list_reply, list_room}
use Rattle.promises.specs.Ties.{Answers}
use Rattle.promises.specs.calls.Register as calls
use Rattle.promises.proofs.Ties.{answers, both}

pub list : Answers calls.list
unfolding list_reply list_room
list =
    answers calls.list (λ κs a. tt) (λ κs a x e p. both p) (λ κs a. refl) (λ κs a h. both (answer-no _ _ _ h, answer-no _ _ _ h))
    λ κs a. answer-number (λ (x : Survey). x.refusal) _ _ _ refl (λ z. refl)
