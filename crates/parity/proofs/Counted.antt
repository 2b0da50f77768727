-- Digits counted and found: of the number whose digits are f 0, f 1, .., the ones are the sum of f, and the leading zeros lead to the
-- first place where f is not 0.
use mathlib.Core.Path.{◌≡◌, refl, sym, ap, ap₂, ◌∙◌}
use mathlib.Core.Bool.{true, false}
use Prim.Native.Nat.{ℕ, zero, suc, ◌+◌, ◌*◌, ◌^◌, ◌<◌}
use native.Mathlib.Nat.{zero-add, zero-mul, pow-suc}
use native.Mathlib.Numerals.{one-add}
use native.Mathlib.Omega.{arith}
use lib.Dec.{eqb}
use lib.Count.{ones, count_leading_zeros, leading_unique, leading_length}
use Rattle.parity_rows.specs.Parity.{number}
use Rattle.parity_rows.proofs.Folds.{number-cong, number-parts, number_lt}
use Rattle.parity_rows.proofs.Ones.{by_bit, no_ones, ones-more}
use Rattle.parity.specs.Unit.{sum_all, first_of}

pub ones-sum : (f : ℕ → ℕ) → ((i : ℕ) → f i < 2) → (n : ℕ) → ones (number n f) ≡ sum_all n f
unfolding sum_all
ones-sum f bits zero = no_ones f bits
ones-sum f bits (suc n) = ones-more f bits n ∙ ap (λ (x : ℕ). x + f n) (ones-sum f bits n)

-- one digit more at the top
leading-zero : (n a : ℕ) → a < 2 ^ n → count_leading_zeros (suc n) a ≡ suc (count_leading_zeros n a)
leading-zero n a h =
    let t = leading_length n a h in
    sym (leading_unique (suc n) a (suc (count_leading_zeros n a)) t.0 (omega (arith, t.1)) t.2 t.3)

leading-one : (n a : ℕ) → a < 2 ^ n → count_leading_zeros (suc n) (1 * 2 ^ n + a) ≡ 0
leading-one n a h =
    let p : 2 ^ suc n ≡ 2 ^ n * 2 = pow-suc 2 n in
    sym (leading_unique (suc n) (1 * 2 ^ n + a) 0 (suc n) (zero-add (suc n)) (omega arith) (omega arith))

top_digit : (n : ℕ) (f : ℕ → ℕ) → number (suc n) f ≡ f 0 * 2 ^ n + number n (λ i. f (suc i))
unfolding number
top_digit n f =
    ap (λ (m : ℕ). number m f) (sym (one-add n)) ∙ number-parts 1 n f
    ∙ ap₂ (λ (x y : ℕ). x * 2 ^ n + y) (zero-add (f 0)) (number-cong n (λ i _. ap f (one-add i)))

by-top : (n a m : ℕ) → a < 2 ^ n → count_leading_zeros n a ≡ m → (x : ℕ) → x < 2 → count_leading_zeros (suc n) (x * 2 ^ n + a) ≡ elim (eqb x 0) [ true ↦ suc m | false ↦ 0 ]
by-top n a m small e =
    by_bit (λ x. count_leading_zeros (suc n) (x * 2 ^ n + a) ≡ elim (eqb x 0) [ true ↦ suc m | false ↦ 0 ])
    (ap (count_leading_zeros (suc n)) (rw zero-mul (zero-add a)) ∙ leading-zero n a small ∙ ap suc e) (leading-one n a small)

pub leading-first : (n : ℕ) (f : ℕ → ℕ) → ((i : ℕ) → f i < 2) → count_leading_zeros n (number n f) ≡ first_of n f
unfolding count_leading_zeros first_of
leading-first zero f bits = refl
leading-first (suc n) f bits =
    let g : ℕ → ℕ = λ i. f (suc i) in
    ap (count_leading_zeros (suc n)) (top_digit n f)
    ∙ by-top n (number n g) (first_of n g) (number_lt n g (λ i. bits (suc i))) (leading-first n g (λ i. bits (suc i))) (f 0) (bits 0)
