-- Each contract is the tie itself; each refusal is the first arm of `answer`, and the number stands in both arms.
use mathlib.Core.Path.{refl}
use lib.ListN.{length}
use Rattle.base.specs.Refusal.{settled}
use Rattle.base.proofs.Refused.{answer-no, settled-refusal}
use Rattle.parity.specs.Unit as unit
use Rattle.parity.proofs.Judging.{judged-refusal, checked-refusal}
use Rattle.promises.specs.Ties.{Determined, Answers}
use Rattle.promises.specs.calls.Parity as calls
use Rattle.promises.proofs.Ties.{determined, answers, both}

pub rows-parity : Determined calls.rows_parity
rows-parity = determined calls.rows_parity (λ κs a. tt) λ κs a x e p. p

pub stated : Determined calls.stated
stated = determined calls.stated (λ κs a. tt) λ κs a x e p. p

pub parity-words : Determined calls.parity_words
parity-words = determined calls.parity_words (λ κs a. tt) λ κs a x e p. p

pub write-unit : Answers calls.write_unit
unfolding settled unit.write_reply unit.write_room unit.write_verdict
write-unit =
    answers calls.write_unit (λ κs a. tt) (λ κs a x e p. both p) (λ κs a. refl) (λ κs a h. both (answer-no _ _ _ h, answer-no _ _ _ h))
    λ κs a. settled-refusal _ _

pub judge-unit : Answers calls.judge_unit
unfolding unit.judge_reply unit.judge_verdict
judge-unit =
    answers calls.judge_unit (λ κs a. tt) (λ κs a x e p. p) (λ κs a. refl) (λ κs a h. answer-no _ _ _ h)
    λ κs (unit, _). judged-refusal unit.now

pub check-unit : Answers calls.check_unit
unfolding unit.check_reply unit.check_room unit.check_verdict
check-unit =
    answers calls.check_unit (λ κs a. tt) (λ κs a x e p. both p) (λ κs a. refl) (λ κs a h. both (answer-no _ _ _ h, answer-no _ _ _ h))
    λ κs (unit, (room, _)). checked-refusal unit.now (length room.now)

pub data-words : Determined calls.data_words
data-words = determined calls.data_words (λ κs a. tt) λ κs a x e p. p

pub damaged : Determined calls.damaged
damaged = determined calls.damaged (λ κs a. tt) λ κs a x e p. p

pub inspect : Determined calls.inspect
inspect = determined calls.inspect (λ κs a. tt) λ κs a x e p. p

pub join : Determined calls.join
join = determined calls.join (λ κs a. tt) λ κs a x e p. both p

pub copy : Determined calls.copy
copy = determined calls.copy (λ κs a. tt) λ κs a x e p. both p

pub count : Determined calls.count
count = determined calls.count (λ κs a. tt) λ κs a x e p. p
