-- Each contract is the tie itself; each refusal is the first arm of `answer`, and the number stands in both arms.
use mathlib.Core.Path.{refl, ap₂}
use mathlib.Core.List.{List}
use Prim.Native.Nat.{ℕ}
use Rattle.base.specs.Refusal.{settled}
use Rattle.base.proofs.Refused.{answer-no, settled-refusal, answer-number}
use Rattle.chunk_reading.specs.declared.Survey.{Survey}
use Rattle.chunk_reading.specs.declared.Heading.{Heading}
use Rattle.chunk_writing.specs.Writing.{write_room}
use Rattle.chunk_outline.specs.declared.Runs.{Runs}
use Rattle.chunk_outline.specs.Outline.{outline_reply}
use Rattle.promises.specs.Ties.{Determined, Answers, Turned}
use Rattle.promises.specs.calls.Chunk as calls
use Rattle.promises.proofs.Ties.{determined, answers, both, goes-on}

pub size-of : Determined calls.size_of
size-of = determined calls.size_of (λ κs a. tt) λ κs a x e p. p

pub camera-of : Determined calls.camera_of
camera-of = determined calls.camera_of (λ κs a. tt) λ κs a x e p. p

pub kind-of : Determined calls.kind_of
kind-of = determined calls.kind_of (λ κs a. tt) λ κs a x e p. p

pub legal-size : Determined calls.legal_size
legal-size = determined calls.legal_size (λ κs a. tt) λ κs a x e p. p

pub check : Determined calls.check
check = determined calls.check (λ κs a. tt) λ κs a x e p. p

pub is-chunk : Determined calls.is_chunk
is-chunk = determined calls.is_chunk (λ κs a. tt) λ κs a x e p. p

pub is-at-end : Determined calls.is_at_end
is-at-end = determined calls.is_at_end (λ κs a. tt) λ κs a x e p. p

pub next : Determined calls.next
next = determined calls.next (λ κs a. tt) λ κs a x e p. p

-- of three clauses, one for each part of the walk
pub chunks : Determined calls.chunks
chunks = determined calls.chunks (λ κs a. tt) λ κs a x e p. ap₂ (λ (ws : List ℕ) (r : ℕ × ℕ). (ws, r)) p.0 (ap₂ (λ (s at : ℕ). (s, at)) p.1.0 p.1.1)

pub chunks-next : Turned calls.chunks_next
chunks-next s r t p =
    record { found = p.found; words = p.words; sync = p.sync; at = goes-on calls.chunks_next s t r p.found p.past }

pub refused : Determined calls.refused
refused = determined calls.refused (λ κs a. tt) λ κs a x e p. p

pub count : Determined calls.count
count = determined calls.count (λ κs a. tt) λ κs a x e p. p

pub survey : Answers calls.survey
survey =
    answers calls.survey (λ κs a. tt) (λ κs a x e p. p) (λ κs a. refl) (λ κs a h. answer-no _ _ _ h)
    λ κs a. answer-number (λ (x : Survey). x.refusal) _ _ _ refl (λ z. refl)

pub is-listed : Determined calls.is_listed
is-listed = determined calls.is_listed (λ κs a. tt) λ κs a x e p. p

pub at : Answers calls.at
at =
    answers calls.at (λ κs a. tt) (λ κs a x e p. p) (λ κs a. refl) (λ κs a h. answer-no _ _ _ h)
    λ κs a. answer-number (λ (x : Heading). x.refusal) _ _ _ refl (λ z. refl)

pub payload : Answers calls.payload
payload = answers calls.payload (λ κs a. tt) (λ κs a x e p. p) (λ κs a. refl) (λ κs a h. answer-no _ _ _ h) λ κs a. tt

pub write-chunk : Answers calls.write_chunk
unfolding settled write_room
write-chunk =
    answers calls.write_chunk (λ κs a. tt) (λ κs a x e p. both p) (λ κs a. refl) (λ κs a h. both (answer-no _ _ _ h, answer-no _ _ _ h))
    λ κs a. settled-refusal _ _

pub outline : Answers calls.outline
unfolding outline_reply
outline =
    answers calls.outline (λ κs a. tt) (λ κs a x e p. p) (λ κs a. refl) (λ κs a h. answer-no _ _ _ h)
    λ κs a. answer-number (λ (x : Runs). x.refusal) _ _ _ refl (λ z. refl)
