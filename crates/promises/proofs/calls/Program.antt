-- Each contract is the tie itself; each refusal is the first arm of `answer`, and the number stands in both arms.
use mathlib.Core.Path.{refl}
use Rattle.base.specs.Refusal.{settled}
use Rattle.base.proofs.Refused.{answer-no, settled-refusal}
use Rattle.program_input.specs.Input.{words_reply, words_room}
use Rattle.promises.specs.Ties.{Determined, Answers}
use Rattle.promises.specs.calls.Program as calls
use Rattle.promises.proofs.Ties.{determined, answers, both}

pub words : Answers calls.words
unfolding settled words_reply words_room
words =
    answers calls.words (λ κs a. tt) (λ κs a x e p. both p) (λ κs a. refl) (λ κs a h. both (answer-no _ _ _ h, answer-no _ _ _ h))
    λ κs a. settled-refusal _ _

pub to : Determined calls.to
to = determined calls.to (λ κs a. tt) λ κs a x e p. p

pub append : Determined calls.append
append = determined calls.append (λ κs a. tt) λ κs a x e p. p

pub append-number : Determined calls.append_number
append-number = determined calls.append_number (λ κs a. tt) λ κs a x e p. p
