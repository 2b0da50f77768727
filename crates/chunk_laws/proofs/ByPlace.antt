-- The reading by place. At the place p the reading of `ws` goes on as a reading of `drop p ws` with what is left there of a chunk (`left_at`): so goes
-- the list (`reading-from`), and a chunk is listed at p exactly if its entry stands in the list (`listed-place`, `place-listed`).
use mathlib.Core.Path.{◌≡◌, refl, ap, ◌∙◌}
use mathlib.Core.Bool.{Bool, true, false, cond, false≢true}
use mathlib.Core.List.{List, [], ◌∷◌}
use mathlib.Core.Logic.{inl, inr}
use Prim.Native.Nat.{ℕ, zero, suc, ◌+◌, ◌≤◌, ◌<◌}
use native.Mathlib.Omega.{arith}
use native.Mathlib.Nat.{add-zero, zero-add, suc-add, add-suc}
use lib.ListN.{get_or, drop}
use lib.Dec.{leb, eqb}
use borrow.Author.Tests.{eqb-true, le-leb, lt-leb}
use Rattle.base.proofs.Booleans.{and_left, and_right, by-test}
use Rattle.chunk.specs.declared.Entry.{Entry}
use Rattle.chunk.specs.Header.{size, headed, confirmed, at_end}
use Rattle.chunk.specs.Reading.{entry, listed, reading, left_at, listed_at}
use Rattle.chunk.proofs.Steps.{listed-one, left_one, listed-at-yes}
use Rattle.chunk_laws.specs.Listed.{Among}
use Rattle.chunk_laws.specs.Resync.{from}

-- where the chunk in hand ends none is left
pub left_end : (sync left : ℕ) (ws : List ℕ) → left_at sync left ws left ≡ 0
unfolding left_at
left_end sync zero ws = refl
left_end sync (suc left) [] = refl
left_end sync (suc left) (w ∷ ws) = left_end sync left ws

-- ---- the reading at the place p is the reading of the words from there on

-- one entry of a list, before the place or not
from-before : (p : ℕ) (e : Entry) (es : List Entry) → e.position.0 < p → from p (e ∷ es) ≡ from p es
unfolding from
from-before p e es h = rw (lt-leb p e.position.0 h, from)

from_past : (p : ℕ) (e : Entry) (es : List Entry) → p ≤ e.position.0 → from p (e ∷ es) ≡ e ∷ es
unfolding from
from_past p e es h = rw (le-leb p e.position.0 h, from)

-- no entry stands before the first word
from_start : (sync p at left : ℕ) (ws : List ℕ) → p ≤ at → from p (listed sync at left ws) ≡ listed sync at left ws
unfolding from listed
from_start sync p at left [] h = refl
from_start sync p at (suc left) (w ∷ ws) h = from_start sync p (suc at) left ws (omega arith)
from_start sync p at zero (w ∷ ws) h =
    by-test (confirmed sync (w ∷ ws))
    (λ e. rw (listed-one sync at w ws true e) (from_past p (entry at (get_or ws 0 0) (at_end (w ∷ ws))) (listed sync (suc at) (suc (size (get_or ws 0 0))) ws) h))
    (λ e. rw (listed-one sync at w ws false e) (from_start sync p (suc at) 0 ws (omega arith)))

from_at : (sync at left p : ℕ) (ws : List ℕ) → from (at + p) (listed sync at left ws) ≡ listed sync (at + p) (left_at sync left ws p) (drop p ws)
unfolding from listed left_at
from_at sync at left zero ws = rw (add-zero at) (from_start sync at at left ws (omega arith))
from_at sync at left (suc p) [] = refl
from_at sync at (suc left) (suc p) (w ∷ ws) = rw (add-suc at p, ← suc-add at p) (from_at sync (suc at) left p ws)
from_at sync at zero (suc p) (w ∷ ws) =
    rw (add-suc at p, ← suc-add at p) (by-test (confirmed sync (w ∷ ws))
    (λ e. rw (listed-one sync at w ws true e, left_one sync p w ws true e)
    (from-before (suc at + p) (entry at (get_or ws 0 0) (at_end (w ∷ ws))) (listed sync (suc at) (suc (size (get_or ws 0 0))) ws) (omega arith)
    ∙ from_at sync (suc at) (suc (size (get_or ws 0 0))) p ws))
    (λ e. rw (listed-one sync at w ws false e, left_one sync p w ws false e) (from_at sync (suc at) 0 p ws)))

pub reading-from : (sync p : ℕ) (ws : List ℕ) → from p (reading sync ws) ≡ listed sync p (left_at sync 0 ws p) (drop p ws)
reading-from sync p ws = rw (zero-add p) at (from_at sync 0 0 p ws)

-- ---- a chunk is listed at a place exactly if its entry is in the list

from-part : (p : ℕ) (e : Entry) (es : List Entry) → Among e (from p es) → Among e es
unfolding from
from-part p e [] h = h
from-part p e (f ∷ es) h =
    by-test (leb p f.position.0) (λ t. rw (t, from) at h) (λ t. inr (from-part p e es (rw (t, from) at h)))

not-empty : (sync : ℕ) → confirmed sync [] ≡ true → ⊥
unfolding confirmed headed
not-empty sync e = false≢true e

pub place-listed : (sync p : ℕ) (ws : List ℕ) → listed_at sync ws p ≡ true
    → Among (entry p (get_or (drop p ws) 1 0) (at_end (drop p ws))) (reading sync ws)
unfolding listed_at
place-listed sync p ws h =
    let z : left_at sync 0 ws p ≡ 0 = eqb-true (left_at sync 0 ws p) 0 (and_left (eqb (left_at sync 0 ws p) 0) _ h) in
    let c : confirmed sync (drop p ws) ≡ true = and_right (eqb (left_at sync 0 ws p) 0) _ h in
    let f : from p (reading sync ws) ≡ listed sync p 0 (drop p ws) = rw z at (reading-from sync p ws) in
    from-part p (entry p (get_or (drop p ws) 1 0) (at_end (drop p ws))) (reading sync ws) (rw f (front p (drop p ws) c))
  where
    front : (at : ℕ) (vs : List ℕ) → confirmed sync vs ≡ true → Among (entry at (get_or vs 1 0) (at_end vs)) (listed sync at 0 vs)
    front at [] e = absurd (not-empty sync e)
    front at (v ∷ vs) e = rw (listed-one sync at v vs true e) (inl refl)

-- what an entry of the list is: at its place no words of another chunk are left, and a chunk is confirmed
record Placed (sync at left : ℕ) (ws : List ℕ) (e : Entry) : Type 0 where
  place : ℕ
  named : e ≡ entry (at + place) (get_or (drop place ws) 1 0) (at_end (drop place ws))
  free : left_at sync left ws place ≡ 0
  there : confirmed sync (drop place ws) ≡ true

placed : (sync at left : ℕ) (ws : List ℕ) (e : Entry) → Among e (listed sync at left ws) → Placed sync at left ws e
unfolding listed left_at
placed sync at left [] e h = absurd h
placed sync at (suc left) (w ∷ ws) e h =
    let t : Placed sync (suc at) left ws e = placed sync (suc at) left ws e h in
    record {
      place = suc t.place;
      named = t.named ∙ ap (λ (n : ℕ). entry n (get_or (drop t.place ws) 1 0) (at_end (drop t.place ws))) (omega arith);
      free = t.free;
      there = t.there;
    }
placed sync at zero (w ∷ ws) e h =
    by-test (confirmed sync (w ∷ ws))
    (λ c. elim (rw (listed-one sync at w ws true c) at h) as (λ x. Placed sync at 0 (w ∷ ws) e) [
      | inl z ↦ record { place = 0; named = z ∙ ap (λ (n : ℕ). entry n (get_or ws 0 0) (at_end (w ∷ ws))) (omega arith); free = refl; there = c }
      | inr z ↦ next true c (placed sync (suc at) _ ws e z)
    ])
    (λ c. next false c (placed sync (suc at) 0 ws e (rw (listed-one sync at w ws false c) at h)))
  where
    next : (b : Bool) → confirmed sync (w ∷ ws) ≡ b → Placed sync (suc at) (cond b (suc (size (get_or ws 0 0))) 0) ws e → Placed sync at 0 (w ∷ ws) e
    next b c t =
        record {
          place = suc t.place;
          named = t.named ∙ ap (λ (n : ℕ). entry n (get_or (drop t.place ws) 1 0) (at_end (drop t.place ws))) (omega arith);
          free = left_one sync t.place w ws b c ∙ t.free;
          there = t.there;
        }

pub listed-place : (sync : ℕ) (ws : List ℕ) (e : Entry) → Among e (reading sync ws)
    → (listed_at sync ws e.position.0 ≡ true) × (e.header ≡ get_or (drop e.position.0 ws) 1 0) × (e.end ≡ at_end (drop e.position.0 ws))
listed-place sync ws e h =
    let t : Placed sync 0 0 ws e = placed sync 0 0 ws e h in
    let n : e.position.0 ≡ t.place = ap (λ (x : Entry). x.position.0) t.named ∙ zero-add t.place in
    rw n (
      listed-at-yes sync t.place ws t.free t.there,
      ap (λ (x : Entry). x.header) t.named,
      ap (λ (x : Entry). x.end) t.named,
    )
