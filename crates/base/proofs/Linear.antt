-- Functions that go through exclusive-or: two of them that agree on the powers of two below 2 ^ k agree on all numbers below 2 ^ k.
use mathlib.Core.Path.{◌≡◌, refl, sym, ap, ap₂, ◌∙◌, subst}
use Prim.Native.Nat.{ℕ, zero, suc, ◌*◌, ◌/◌, ◌%◌, ◌^◌, ◌<◌}
use native.Mathlib.Nat.{add-zero, zero-mul, one-mul, mod-lt, le_refl, not-suc-le-zero, le_of_suc-le-suc, lt_trans}
use native.Mathlib.Numerals.{one-add}
use lib.Arith.{lt-one}
use lib.Pow.{pow_pos, split, shr_lt}
use lib.Bits.{xor_self, xor_shifted, xor_block, xor_shr, xor_mod}
use Rattle.base.specs.Xor.{◌xor◌}
use Rattle.base.proofs.XorLaws.{xor-swap}

abbrev pub Linear : (ℕ → ℕ) → Type 0
Linear f = (a b : ℕ) → f (a xor b) ≡ f a xor f b

-- ---- what is linear

pub shr : (k : ℕ) → Linear (λ n. n / 2 ^ k)
shr k a b = xor_shr a b k

shl : (k : ℕ) → Linear (λ n. n * 2 ^ k)
shl k a b =
    sym (ap₂ ◌xor◌ (sym (add-zero (a * 2 ^ k))) (sym (add-zero (b * 2 ^ k)))
    ∙ xor_block k a b 0 0 (pow_pos k) (pow_pos k) ∙ add-zero ((a xor b) * 2 ^ k))

-- to the left by k in a word of w bits
pub shl-in : (w k : ℕ) → Linear (λ n. n * 2 ^ k % 2 ^ w)
shl-in w k a b = ap (λ (n : ℕ). n % 2 ^ w) (shl k a b) ∙ xor_mod (a * 2 ^ k) (b * 2 ^ k) w

-- the low k digits
pub low : (k : ℕ) → Linear (λ n. n % 2 ^ k)
low k a b = xor_mod a b k

pub same : Linear (λ n. n)
same a b = refl

pub plus : (f g : ℕ → ℕ) → Linear f → Linear g → Linear (λ n. f n xor g n)
plus f g hf hg a b = ap₂ ◌xor◌ (hf a b) (hg a b) ∙ xor-swap (f a) (f b) (g a) (g b)

pub after : (f g : ℕ → ℕ) → Linear f → Linear g → Linear (λ n. g (f n))
after f g hf hg a b = ap g (hf a b) ∙ hg (f a) (f b)

-- ---- they are known by what they do to the powers of two

pub at_zero : (f : ℕ → ℕ) → Linear f → f 0 ≡ 0
at_zero f hf = hf 0 0 ∙ xor_self (f 0)

module _ (f g : ℕ → ℕ) (hf : Linear f) (hg : Linear g) where
  top : (k q : ℕ) → q < 2 → f (2 ^ k) ≡ g (2 ^ k) → f (q * 2 ^ k) ≡ g (q * 2 ^ k)
  top k zero h e = rw (zero-mul) (at_zero f hf ∙ sym (at_zero g hg))
  top k (suc zero) h e = rw (one-mul) e
  top k (suc (suc q)) h e = absurd (not-suc-le-zero (le_of_suc-le-suc (le_of_suc-le-suc h)))

  pub agree : (k : ℕ) → ((i : ℕ) → i < k → f (2 ^ i) ≡ g (2 ^ i)) → (n : ℕ) → n < 2 ^ k → f n ≡ g n
  agree zero e n h = ap f (lt-one h) ∙ at_zero f hf ∙ sym (at_zero g hg) ∙ ap g (sym (lt-one h))
  agree (suc k) e n h =
      let low : n % 2 ^ k < 2 ^ k = mod-lt n (pow_pos k) in
      let q : n / 2 ^ k < 2 = shr_lt 1 k (subst (λ (x : ℕ). n < 2 ^ x) (sym (one-add k)) h) in
      let s : n / 2 ^ k * 2 ^ k xor n % 2 ^ k ≡ n = xor_shifted (n / 2 ^ k) k (n % 2 ^ k) low ∙ split n k in
      ap f (sym s) ∙ hf (n / 2 ^ k * 2 ^ k) (n % 2 ^ k)
      ∙ ap₂ ◌xor◌ (top k (n / 2 ^ k) q (e k (le_refl (suc k)))) (agree k (λ i p. e i (lt_trans p (le_refl (suc k)))) (n % 2 ^ k) low)
      ∙ sym (hg (n / 2 ^ k * 2 ^ k) (n % 2 ^ k)) ∙ ap g s
