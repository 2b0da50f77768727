-- A reader's two ways out: what it returns is its answer, once the verdict that it looked up is the answer's.
use mathlib.Core.Path.{◌≡◌, sym, ap, ◌∙◌}
use Prim.Native.Nat.{ℕ}
use Rattle.base.specs.Refusal.{answer}
use Rattle.base.proofs.Refused.{answer-no, answer-yes}

module _ {A : Type 0} (f : ℕ → A) (a : A) {v w : ℕ} (e : v ≡ w) where
  pub refused : (v ≡ 0 → ⊥) → f v ≡ answer w f a
  refused h = ap f e ∙ sym (answer-no w f a (λ z. h (e ∙ z)))

  pub given : v ≡ 0 → {b : A} → b ≡ a → b ≡ answer w f a
  given z q = q ∙ sym (answer-yes w f a (sym e ∙ z))
