-- Each contract is the tie itself; each refusal is the first arm of `answer`, and the number stands in both arms.
use mathlib.Core.Path.{refl, ap₂}
use mathlib.Core.List.{List}
use Prim.Native.Nat.{ℕ}
use Rattle.base.proofs.Refused.{answer-no, answer-number}
use Rattle.frame_reading.specs.declared.Frame.{Frame}
use Rattle.frame.specs.Described.{described}
use Rattle.frame_reading.specs.Replies as replies
use Rattle.promises.specs.Ties.{Determined, Answers, Turned}
use Rattle.promises.specs.calls.Frame as calls
use Rattle.promises.proofs.Ties.{determined, answers, both, goes-on}

pub starts : Determined calls.starts
starts = determined calls.starts (λ κs a. tt) λ κs a x e p. p

pub next : Determined calls.next
next = determined calls.next (λ κs a. tt) λ κs a x e p. p

-- of three clauses, one for each part of the walk
pub pieces : Determined calls.pieces
pieces = determined calls.pieces (λ κs a. tt) λ κs a x e p. ap₂ (λ (ws : List ℕ) (r : ℕ × ℕ). (ws, r)) p.0 (ap₂ (λ (s at : ℕ). (s, at)) p.1.0 p.1.1)

pub pieces-next : Turned calls.pieces_next
pieces-next s r t p =
    record { found = p.next; words = p.words; sync = p.sync; at = goes-on calls.pieces_next s t r p.next p.past }

pub at : Answers calls.at
unfolding replies.at_reply described
at =
    answers calls.at (λ κs a. tt) (λ κs a x e p. p) (λ κs a. refl) (λ κs a h. answer-no _ _ _ h)
    λ κs a. answer-number (λ (x : Frame). x.refusal) _ _ _ refl (λ z. refl)

pub judge : Answers calls.judge
unfolding replies.judge_reply described
judge =
    answers calls.judge (λ κs a. tt) (λ κs a x e p. p) (λ κs a. refl) (λ κs a h. answer-no _ _ _ h)
    λ κs a. answer-number (λ (x : Frame). x.refusal) _ _ _ refl (λ z. refl)

pub read : Answers calls.read
unfolding replies.read_reply replies.read_room described
read =
    answers calls.read (λ κs a. tt) (λ κs a x e p. both p) (λ κs a. refl) (λ κs a h. both (answer-no _ _ _ h, answer-no _ _ _ h))
    λ κs a. answer-number (λ (x : Frame). x.refusal) _ _ _ refl (λ z. refl)
