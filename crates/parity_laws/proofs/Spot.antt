-- What is 1 at one place p and 0 elsewhere: its sum and its exclusive or are 1, and p is the first place where it is not 0.
use mathlib.Core.Path.{◌≡◌, refl, sym, ap, ap₂, ◌∙◌}
use mathlib.Core.Bool.{Bool, true, false, cond, ◌&&◌}
use Prim.Native.Nat.{ℕ, zero, suc, ◌+◌, ◌%◌, ◌<◌}
use mathlib.Core.Logic.{◌⊎◌, inl, inr}
use native.Mathlib.Nat.{le_refl, lt_trans, eq-or-lt_of_le, le_of_suc-le-suc}
use native.Mathlib.Omega.{arith}
use lib.Dec.{eqb, lit<, eqb-suc-zero, eqb-suc-suc}
use borrow.Author.Tests.{eq-eqb, ne_eqb}
use Rattle.parity_rows.specs.Parity.{xor_all}
use Rattle.parity.specs.Unit.{sum_all, first_of}
use Rattle.parity_rows.proofs.Folds.{xor-none}
use Rattle.parity_rows.proofs.Ones.{odd-ones}
use Rattle.parity.proofs.Counted.{ones-sum}

-- 1 where a test holds
abbrev pub one : Bool → ℕ
one t = cond t 1 0

abbrev pub spot : ℕ → ℕ → ℕ
spot p i = one (eqb p i)

spot-lt : (p i : ℕ) → spot p i < 2
spot-lt p i = by-test (eqb p i)
  where
    by-test : (t : Bool) → one t < 2
    by-test true = lit< tt
    by-test false = lit< tt

-- ---- equal functions

pub sum-cong : (n : ℕ) {f g : ℕ → ℕ} → ((i : ℕ) → i < n → f i ≡ g i) → sum_all n f ≡ sum_all n g
unfolding sum_all
sum-cong zero h = refl
sum-cong (suc n) h = ap₂ (λ (x y : ℕ). x + y) (sum-cong n (λ i p. h i (lt_trans p (le_refl (suc n))))) (h n (le_refl (suc n)))

pub first_cong : (n : ℕ) {f g : ℕ → ℕ} → ((i : ℕ) → i < n → f i ≡ g i) → first_of n f ≡ first_of n g
unfolding first_of
first_cong zero h = refl
first_cong (suc n) {f} {g} h =
    ap₂ (λ (x y : ℕ). elim (eqb x 0) [ true ↦ suc y | false ↦ 0 ]) (h 0 (omega arith)) (first_cong n {f = λ i. f (suc i)} {g = λ i. g (suc i)} (λ i p. h (suc i) (omega arith)))

-- ---- sums

pub sum-none : (n : ℕ) (f : ℕ → ℕ) → ((i : ℕ) → i < n → f i ≡ 0) → sum_all n f ≡ 0
unfolding sum_all
sum-none zero f h = refl
sum-none (suc n) f h = ap₂ (λ (x y : ℕ). x + y) (sum-none n f (λ i p. h i (lt_trans p (le_refl (suc n))))) (h n (le_refl (suc n)))

pub sum-spot : (n p : ℕ) → p < n → sum_all n (spot p) ≡ 1
unfolding sum_all
sum-spot zero p h = absurd (omega arith)
sum-spot (suc n) p h = by_place (eq-or-lt_of_le (le_of_suc-le-suc h)) (sum-spot n p)
  where
    by_place : (p ≡ n) ⊎ (p < n) → (p < n → sum_all n (spot p) ≡ 1) → sum_all n (spot p) + spot p n ≡ 1
    by_place (inl e) rest = ap₂ (λ (x y : ℕ). x + y) (sum-none n (spot p) (λ i q. ap one (ne_eqb p i (λ z. omega arith)))) (ap one (eq-eqb p n e))
    by_place (inr q) rest = ap₂ (λ (x y : ℕ). x + y) (rest q) (ap one (ne_eqb p n (λ z. omega arith)))

pub xor-spot : (n p : ℕ) → p < n → xor_all n (spot p) ≡ 1
xor-spot n p h = sym (odd-ones (spot p) (spot-lt p) n) ∙ ap (λ (x : ℕ). x % 2) (ones-sum (spot p) (spot-lt p) n ∙ sum-spot n p h)

pub first-spot : (n p : ℕ) → p < n → first_of n (spot p) ≡ p
unfolding first_of
first-spot zero p h = absurd (omega arith)
first-spot (suc n) zero h = refl
first-spot (suc n) (suc p) h =
    ap₂ (λ (x y : ℕ). elim (eqb x 0) [ true ↦ suc y | false ↦ 0 ]) (ap one (eqb-suc-zero p))
    (first_cong n {f = λ i. spot (suc p) (suc i)} {g = spot p} (λ i q. ap one (eqb-suc-suc p i)) ∙ first-spot n p (omega arith))

-- ---- two tests that hold together

pub same_test : (s t : Bool) → (s ≡ true → t ≡ true) → (t ≡ true → s ≡ true) → s ≡ t
same_test true t f g = sym (f refl)
same_test false true f g = g refl
same_test false false f g = refl

-- with a test that does not depend on the place
pub xor-when : (n p : ℕ) (t : Bool) → p < n → xor_all n (λ i. one (t && eqb p i)) ≡ one t
xor-when n p true h = xor-spot n p h
xor-when n p false h = xor-none n (λ i. 0) (λ i. refl)
