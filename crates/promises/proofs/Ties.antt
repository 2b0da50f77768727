-- Two answers that are the definition's are one another's: this one law gives `Agree` of every function. And where the definition gives the refusal, so does
-- whatever is tied to it; and the same of the number. A walk goes on past what it found.
use Prim.Native.Nat.{ℕ}
use mathlib.Core.Path.{◌≡◌, sym, ap, ◌∙◌}
use mathlib.Core.Option.{Option, none, some}
use Rattle.std.specs.Prelude as std
use Rattle.base.specs.Refusal.{verdict}
use Rattle.promises.specs.Ties.{
  Lifetimes,
  Arguments,
  Function,
  Accepting,
  Tied,
  Agree,
  Determined,
  Call,
  Ordered,
  Refusing,
  HasNumber,
  Numbered,
  Answers,
  Walk,
  ahead,
  goes_on,
}

agrees : (f : Function) → Tied f → Agree f
agrees f t κs a x y e d p q = t κs a x e p ∙ sym (t κs a y d q)

pub determined : (f : Function) → Accepting f → Tied f → Determined f
determined f all t = record { accepting = all; tied = t; agree = agrees f t }

-- the definition gives the refusal
abbrev pub DefinedSo : Call → Type 0
DefinedSo c = (κs : Lifetimes c.function.type) (a : Arguments c.function.type κs) → (verdict (c.causes κs a) ≡ 0 → ⊥)
    → c.function.defined κs a ≡ c.refused κs a (verdict (c.causes κs a))

refuses : (c : Call) → Tied c.function → DefinedSo c → Refusing c
refuses c t r κs a x e p h = t κs a x e p ∙ r κs a h

-- the definition has the number
abbrev pub NumberedSo : Call → Type 0
NumberedSo c = (κs : Lifetimes c.function.type) (a : Arguments c.function.type κs)
    → HasNumber (c.number κs a) (c.function.defined κs a) (verdict (c.causes κs a))

-- equal answers have one number
alike : {A : Type 0} (number : Option (A → ℕ)) {x y : A} (v : ℕ) → x ≡ y → HasNumber number y v → HasNumber number x v
alike none v p h = tt
alike (some number) v p h = ap number p ∙ h

numbers : (c : Call) → Tied c.function → NumberedSo c → Numbered c
numbers c t n κs a x e p = alike (c.number κs a) (verdict (c.causes κs a)) (t κs a x e p) (n κs a)

pub answers : (c : Call) → Accepting c.function → Tied c.function → Ordered c → DefinedSo c → NumberedSo c → Answers c
answers c all t o r n =
    record { determined = determined c.function all t; ordered = o; refusing = refuses c t r; numbered = numbers c t n }

-- an equation for the reply and one for the room are one for the two together
pub both : {A B : Type 0} {a b : A} {x y : B} → (a ≡ b) × (x ≡ y) → ◌≡◌ {A = A × B} (a, x) (b, y)
both p = λ i. (p.0 i, p.1 i)

-- the place afterwards, by what was found
pub goes-on : (w : Walk) (s t : w.State) (r : std.Option w.Item) → r ≡ ahead w s → std.MatchOption r (w.at t ≡ w.at s) (λ x. w.at t ≡ w.past x)
    → w.at t ≡ goes_on w.past (w.at s) (ahead w s)
goes-on w s t r e p = by-found r p ∙ ap (goes_on w.past (w.at s)) e
  where
    by-found : (r : std.Option w.Item) → std.MatchOption r (w.at t ≡ w.at s) (λ x. w.at t ≡ w.past x) → w.at t ≡ goes_on w.past (w.at s) r
    by-found std.None p = p
    by-found (std.Some x) p = p
