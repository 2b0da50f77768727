-- The ones of a number whose digits are f 0, f 1, ..: one digit more adds itself to their count, so their oddness is the exclusive or of f.
use mathlib.Core.Path.{◌≡◌, refl, sym, ap, ◌∙◌}
use Prim.Native.Nat.{ℕ, zero, suc, ◌+◌, ◌%◌, ◌<◌}
use native.Mathlib.Nat.{not-suc-le-zero, le_of_suc-le-suc}
use native.Mathlib.Omega.{arith}
use lib.Count.{ones, ones_in, ones_cat}
use Rattle.base.specs.Xor.{◌xor◌}
use Rattle.parity_rows.specs.Parity.{xor_all, number}

-- of a bit there are two cases
abbrev pub by_bit {ℓ} : (P : ℕ → Type ℓ) → P 0 → P 1 → (x : ℕ) → x < 2 → P x
by_bit P p q zero h = p
by_bit P p q (suc zero) h = q
by_bit P p q (suc (suc x)) h = absurd (not-suc-le-zero (le_of_suc-le-suc (le_of_suc-le-suc h)))

ones_bit : (x : ℕ) → x < 2 → ones x ≡ x
unfolding ones ones_in
ones_bit = by_bit (λ x. ones x ≡ x) refl refl

-- a bit more makes a sum odd or even
more-odd : (m x : ℕ) → x < 2 → m % 2 xor x ≡ (m + x) % 2
more-odd m x h =
    let e : (m % 2 + x) % 2 ≡ (m + x) % 2 = omega arith in
    by_bit (λ n. n xor x ≡ (n + x) % 2) (by_bit (λ y. 0 xor y ≡ (0 + y) % 2) refl refl x h) (by_bit (λ y. 1 xor y ≡ (1 + y) % 2) refl refl x h) (m % 2) (omega arith) ∙ e

module _ (f : ℕ → ℕ) (bits : (i : ℕ) → f i < 2) where
  pub no_ones : ones (number 0 f) ≡ 0
  unfolding number
  no_ones = ones_bit 0 (omega arith)

  pub ones-more : (n : ℕ) → ones (number (suc n) f) ≡ ones (number n f) + f n
  unfolding number
  ones-more n = ones_cat 1 (number n f) (f n) (bits n) ∙ ap (λ (x : ℕ). ones (number n f) + x) (ones_bit (f n) (bits n))

  pub odd-ones : (n : ℕ) → ones (number n f) % 2 ≡ xor_all n f
  unfolding xor_all
  odd-ones zero = ap (λ (x : ℕ). x % 2) no_ones
  odd-ones (suc n) =
      ap (λ (x : ℕ). x % 2) (ones-more n) ∙ sym (more-odd (ones (number n f)) (f n) (bits n)) ∙ ap (λ (x : ℕ). x xor f n) (odd-ones n)
