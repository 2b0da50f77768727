-- Each contract is the tie itself; a refusal is the first arm of `answer`, in the reply and in the list, and the number stands in both arms.
use mathlib.Core.Path.{refl}
use Rattle.base.proofs.Refused.{answer-no, answer-number}
use Rattle.chunk_compare.specs.declared.Compared.{Compared}
use Rattle.chunk_compare.specs.Compare.{compare_reply, compare_room}
use Rattle.promises.specs.Ties.{Determined, Answers}
use Rattle.promises.specs.calls.Compare as calls
use Rattle.promises.proofs.Ties.{determined, answers, both}

pub chunks : Determined calls.chunks
chunks = determined calls.chunks (λ κs a. tt) λ κs a x e p. p

pub said : Determined calls.said
said = determined calls.said (λ κs a. tt) λ κs a x e p. p

pub recordings : Answers calls.recordings
unfolding compare_reply compare_room
recordings =
    answers calls.recordings (λ κs a. tt) (λ κs a x e p. both p) (λ κs a. refl) (λ κs a h. both (answer-no _ _ _ h, answer-no _ _ _ h))
    λ κs a. answer-number (λ (x : Compared). x.refusal) _ _ _ refl (λ z. refl)
