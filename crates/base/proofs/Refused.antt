-- Laws of verdicts and answers.
use mathlib.Core.Path.{◌≡◌, refl, sym, subst, ◌∙◌}
use mathlib.Core.Bool.{Bool, true, false, cond, ◌&&◌}
use mathlib.Core.List.{List, [], ◌∷◌, ◌++◌}
use Prim.Native.Nat.{ℕ}
use native.Mathlib.Omega.{arith}
use lib.Dec.{ltb, eqb}
use borrow.Author.Tests.{eq-eqb, ne_eqb, ltb-true, eqb-true, eqb-false}
use Rattle.base.proofs.Booleans.{and_left, and_right, by-test}
use Rattle.base.specs.declared.Written.{Written}
use Rattle.base.specs.Refusal.{Causes, verdict, answer, settled}

-- no cause's number is 0; `refl` shows it of a list that is written out
abbrev pub numbered : List (ℕ × Bool) → Bool
numbered [] = true
numbered (c ∷ cs) = ltb 0 c.0 && numbered cs

-- no cause of the list holds
abbrev pub Spared : List (ℕ × Bool) → Type 0
Spared [] = Unit {0}
Spared (c ∷ cs) = (c.1 ≡ false) × Spared cs

-- where nothing is refused, no cause holds
pub spared : (cs : List (ℕ × Bool)) → numbered cs ≡ true → verdict cs ≡ 0 → Spared cs
spared [] k e = tt
spared ((n, false) ∷ cs) k e = (refl, spared cs (and_right (ltb 0 n) _ k) e)
spared ((n, true) ∷ cs) k e = absurd (omega (arith, e, ltb-true 0 n (and_left (ltb 0 n) _ k)))

-- causes and further causes: a refusal is kept
pub verdict-kept : (cs ds : Causes) → (verdict cs ≡ 0 → ⊥) → verdict (cs ++ ds) ≡ verdict cs
verdict-kept [] ds h = absurd (h refl)
verdict-kept ((n, true) ∷ cs) ds h = refl
verdict-kept ((n, false) ∷ cs) ds h = verdict-kept cs ds h

-- and where nothing is refused, the further causes decide
pub verdict-further : (cs ds : Causes) → numbered cs ≡ true → verdict cs ≡ 0 → verdict (cs ++ ds) ≡ verdict ds
verdict-further [] ds k h = refl
verdict-further ((n, true) ∷ cs) ds k h = absurd (omega (arith, h, ltb-true 0 n (and_left (ltb 0 n) (numbered cs) k)))
verdict-further ((n, false) ∷ cs) ds k h = verdict-further cs ds (and_right (ltb 0 n) (numbered cs) k) h

-- where nothing is refused with them, nothing is without them
pub verdict-front : (cs ds : Causes) → verdict (cs ++ ds) ≡ 0 → verdict cs ≡ 0
verdict-front [] ds e = refl
verdict-front ((n, true) ∷ cs) ds e = e
verdict-front ((n, false) ∷ cs) ds e = verdict-front cs ds e

-- one cause before others, by its parts
pub cause-by-parts : {a b : Bool} {v w : ℕ} (n : ℕ) → a ≡ b → v ≡ w → cond a n v ≡ cond b n w
cause-by-parts n p q = cc

pub answer-no : {A : Type 0} (v : ℕ) (f : ℕ → A) (a : A) → (v ≡ 0 → ⊥) → answer v f a ≡ f v
unfolding answer
answer-no v f a h = simp (ne_eqb v 0 h)

pub answer-yes : {A : Type 0} (v : ℕ) (f : ℕ → A) (a : A) → v ≡ 0 → answer v f a ≡ a
unfolding answer
answer-yes v f a h = simp (eq-eqb v 0 h)

-- causes and one more: its number is given where they have none
pub verdict-then : (cs : Causes) (n : ℕ) (b : Bool) → numbered cs ≡ true → verdict (cs ++ (n, b) ∷ []) ≡ answer (verdict cs) (λ v. v) (cond b n 0)
unfolding answer
verdict-then [] n b k = refl
verdict-then ((m, true) ∷ cs) n b k = sym (answer-no m (λ v. v) _ (λ z. omega (arith, z, ltb-true 0 m (and_left (ltb 0 m) _ k))))
verdict-then ((m, false) ∷ cs) n b k = verdict-then cs n b (and_right (ltb 0 m) _ k)

-- what holds of the refusal, and of what is given where nothing is refused, holds of the answer
pub answer-either : {A : Type 0} (P : A → Type 0) (v : ℕ) (f : ℕ → A) (a : A) → P (f v) → (v ≡ 0 → P a) → P (answer v f a)
answer-either P v f a p q =
    by-test (eqb v 0) (λ t. let z = eqb-true v 0 t in subst P (sym (answer-yes v f a z)) (q z))
    (λ t. subst P (sym (answer-no v f a (eqb-false v 0 t))) p)

-- the number in an answer is the verdict, where each refusal has its own and what is given has 0
pub answer-number : {A : Type 0} (number : A → ℕ) (v : ℕ) (f : ℕ → A) (a : A) → number (f v) ≡ v → (v ≡ 0 → number a ≡ 0) → number (answer v f a) ≡ v
answer-number number v f a p q = answer-either (λ x. number x ≡ v) v f a p (λ z. q z ∙ sym z)

-- the number in a writer's reply, and the length where nothing is refused
pub settled-refusal : (v n : ℕ) → (settled v n).refusal ≡ v
unfolding settled
settled-refusal v n = answer-number (λ (w : Written). w.refusal) v _ _ refl (λ z. refl)

pub settled-length : (v n : ℕ) → v ≡ 0 → (settled v n).length.0 ≡ n
unfolding settled answer
settled-length v n e = rw (eq-eqb v 0 e)
