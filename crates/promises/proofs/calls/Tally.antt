-- Each contract is the tie itself; a refusal is the first arm of `answer`, in the reply and in the caller's tally, and the number stands in both arms.
use mathlib.Core.Path.{refl}
use Rattle.base.proofs.Refused.{answer-no, answer-number}
use Rattle.tally_recording.specs.declared.Counted.{Counted}
use Rattle.tally_recording.specs.Replies.{of_reply}
use Rattle.tally_counts.specs.Adding.{added_reply, added_tally}
use Rattle.promises.specs.Ties.{Determined, Answers}
use Rattle.promises.specs.calls.Tally as calls
use Rattle.promises.proofs.Ties.{determined, answers, both}

pub empty : Determined calls.empty
empty = determined calls.empty (λ κs a. tt) λ κs a x e p. p

pub of : Answers calls.of
unfolding of_reply
of =
    answers calls.of (λ κs a. tt) (λ κs a x e p. p) (λ κs a. refl) (λ κs a h. answer-no _ _ _ h)
    λ κs a. answer-number (λ (x : Counted). x.refusal) _ _ _ refl (λ z. refl)

pub numbers : Determined calls.numbers
numbers = determined calls.numbers (λ κs a. tt) λ κs a x e p. p

pub from_numbers : Determined calls.from_numbers
from_numbers = determined calls.from_numbers (λ κs a. tt) λ κs a x e p. p

pub added : Answers calls.added
unfolding added_reply
added =
    answers calls.added (λ κs a. tt) (λ κs a x e p. p) (λ κs a. refl) (λ κs a h. answer-no _ _ _ h)
    λ κs a. answer-number (λ (x : Counted). x.refusal) _ _ _ refl (λ z. refl)

pub add : Answers calls.add
unfolding added_tally
add =
    answers calls.add (λ κs a. tt) (λ κs a x e p. both p) (λ κs a. refl) (λ κs a h. both (refl, answer-no _ _ _ h))
    λ κs a. refl
