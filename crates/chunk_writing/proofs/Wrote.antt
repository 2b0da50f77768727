-- The room on the writer's two ways out, and what an accepted call was given.
use mathlib.Core.Path.{◌≡◌, refl, sym, ap, ◌∙◌}
use mathlib.Core.Bool.{true, ◌&&◌, ◌||◌, or-true}
use mathlib.Core.List.{List, ◌∷◌}
use mathlib.Core.Logic.{inl, inr}
use Prim.Native.Nat.{ℕ, ◌+◌, ◌≤◌}
use native.Mathlib.Omega.{arith}
use lib.ListN.{length}
use lib.Dec.{leb, eqb}
use borrow.Author.Tests.{eqb-true, leb-true, not-false}
use Rattle.base.proofs.Booleans.{and_left, and_right, or_cases}
use Rattle.base.specs.declared.Written.{Written}
use Rattle.base.specs.Refusal.{verdict}
use Rattle.base_room.specs.Room.{put}
use Rattle.base.proofs.Refused.{spared, answer-no, answer-yes, settled-refusal}
use Rattle.chunk.specs.Header.{legal_size}
use Rattle.chunk.proofs.Headers.{legal-size}
use Rattle.chunk_writing.specs.Writing.{writable, write_causes, header_word, write_reply, write_room}

-- a kind and a camera that a chunk may have: one of them is 0
pub writable-bounds : (k c : ℕ) → writable k c ≡ true → (k ≤ 1) × (c ≤ 3) × (eqb k 0 || eqb c 0 ≡ true)
writable-bounds k c e =
    elim (or_cases (eqb k 0 && leb c 3) (eqb k 1 && eqb c 0) e) as (λ x. (k ≤ 1) × (c ≤ 3) × (eqb k 0 || eqb c 0 ≡ true)) [
      | inl t ↦ let z : eqb k 0 ≡ true = and_left (eqb k 0) _ t in (omega (arith, eqb-true k 0 z), leb-true c 3 (and_right (eqb k 0) _ t), rw z)
      | inr t ↦
          let z : eqb c 0 ≡ true = and_right (eqb k 1) _ t in
          (omega (arith, eqb-true k 1 (and_left (eqb k 1) _ t)), omega (arith, eqb-true c 0 z), rw (z, or-true))
    ]

module _ (sync k c : ℕ) (p d : List ℕ) (r : Written) (e : r ≡ write_reply k c (length p) (length d)) where
  number : r.refusal ≡ verdict (write_causes k c (length p) (length d))
  number = ap (λ (x : Written). x.refusal) e ∙ settled-refusal (verdict (write_causes k c (length p) (length d))) (length p + 2)

  pub refused_untouched : (r.refusal ≡ 0 → ⊥) → d ≡ write_room sync k c p d
  unfolding write_room
  refused_untouched h = sym (answer-no _ _ _ (λ z. h (number ∙ z)))

  module _ (z : r.refusal ≡ 0) where
    pub accepted_bounds : (k ≤ 1) × (c ≤ 3) × (length p ≤ 8190)
    accepted_bounds =
        let s = spared (write_causes k c (length p) (length d)) refl (sym number ∙ z) in
        let b = writable-bounds k c (not-false (writable k c) s.0) in
        let l = legal-size k (length p) (not-false (legal_size k (length p)) s.1.0) in
        (b.0, b.1, omega (arith, l.1))

    pub accepted_stored : (h : ℕ) → h ≡ header_word k c (length p) → (b : List ℕ) → b ≡ put (sync ∷ h ∷ p) 0 d → b ≡ write_room sync k c p d
    unfolding write_room
    accepted_stored h eh b eb = eb ∙ ap (λ (w : ℕ). put (sync ∷ w ∷ p) 0 d) eh ∙ sym (answer-yes _ _ _ (sym number ∙ z))
