-- Laws of `xorAll` and `number`.
use mathlib.Core.Path.{◌≡◌, refl, sym, ap, ap₂, ◌∙◌}
use Prim.Native.Nat.{ℕ, zero, suc, ◌+◌, ◌*◌, ◌^◌, ◌<◌}
use native.Mathlib.Nat.{add-zero, add-suc, add_assoc, mul_assoc, mul-one, add-mul, pow-suc, le_refl, lt_trans}
use lib.Dec.{lit<}
use lib.Arith.{digits_lt}
use lib.Bits.{xor_block, xor_lt, xor_zero_r}
use Rattle.base.specs.Xor.{◌xor◌}
use Rattle.base.proofs.XorLaws.{xor_assoc, xor-swap}
use Rattle.base.proofs.Linear.{Linear}
use Rattle.parity_rows.specs.Parity.{xor_all, number}

-- ---- one more

pub xor-more : (n : ℕ) (f : ℕ → ℕ) → xor_all (suc n) f ≡ xor_all n f xor f n
unfolding xor_all
xor-more n f = refl

pub number_more : (n : ℕ) (f : ℕ → ℕ) → number (suc n) f ≡ number n f * 2 + f n
unfolding number
number_more n f = refl

-- ---- equal functions

pub xor-cong : (n : ℕ) {f g : ℕ → ℕ} → ((i : ℕ) → i < n → f i ≡ g i) → xor_all n f ≡ xor_all n g
unfolding xor_all
xor-cong zero h = refl
xor-cong (suc n) h = ap₂ ◌xor◌ (xor-cong n (λ i p. h i (lt_trans p (le_refl (suc n))))) (h n (le_refl (suc n)))

pub number-cong : (n : ℕ) {f g : ℕ → ℕ} → ((i : ℕ) → i < n → f i ≡ g i) → number n f ≡ number n g
unfolding number
number-cong zero h = refl
number-cong (suc n) h = ap₂ (λ (x y : ℕ). x * 2 + y) (number-cong n (λ i p. h i (lt_trans p (le_refl (suc n))))) (h n (le_refl (suc n)))

-- ---- in two parts

pub xor-parts : (n m : ℕ) (f : ℕ → ℕ) → xor_all (n + m) f ≡ xor_all n f xor xor_all m (λ i. f (n + i))
unfolding xor_all
xor-parts n zero f = rw add-zero (sym (xor_zero_r (xor_all n f)))
xor-parts n (suc m) f =
    rw add-suc (ap (λ (x : ℕ). x xor f (n + m)) (xor-parts n m f) ∙ xor_assoc (xor_all n f) (xor_all m (λ i. f (n + i))) (f (n + m)))

pub number-parts : (n m : ℕ) (f : ℕ → ℕ) → number (n + m) f ≡ number n f * 2 ^ m + number m (λ i. f (n + i))
unfolding number
number-parts n zero f = rw (add-zero n) (sym (add-zero (number n f * 1) ∙ mul-one (number n f)))
number-parts n (suc m) f =
    rw add-suc
    (ap (λ (x : ℕ). x * 2 + f (n + m)) (number-parts n m f)
    ∙ ap (λ (x : ℕ). x + f (n + m)) (add-mul (number n f * 2 ^ m) (number m (λ i. f (n + i))) 2 ∙ ap (λ (x : ℕ). x + number m (λ i. f (n + i)) * 2) (mul_assoc (number n f) (2 ^ m) 2 ∙ ap (λ (x : ℕ). number n f * x) (sym (pow-suc 2 m))))
    ∙ add_assoc (number n f * 2 ^ suc m) (number m (λ i. f (n + i)) * 2) (f (n + m)))

-- ---- zeros

pub xor-none : (n : ℕ) (f : ℕ → ℕ) → ((i : ℕ) → f i ≡ 0) → xor_all n f ≡ 0
unfolding xor_all
xor-none zero f h = refl
xor-none (suc n) f h = ap₂ ◌xor◌ (xor-none n f h) (h n)

pub number-none : (n : ℕ) (f : ℕ → ℕ) → ((i : ℕ) → f i ≡ 0) → number n f ≡ 0
unfolding number
number-none zero f h = refl
number-none (suc n) f h = ap₂ (λ (x y : ℕ). x * 2 + y) (number-none n f h) (h n)

-- ---- a number of n digits

pub number_lt : (n : ℕ) (f : ℕ → ℕ) → ((i : ℕ) → f i < 2) → number n f < 2 ^ n
unfolding number
number_lt zero f h = lit< tt
number_lt (suc n) f h = rw (pow-suc 2 n) (digits_lt (number_lt n f h) (h n))

-- ---- exclusive-or goes through

pub number-xor : (n : ℕ) (f g : ℕ → ℕ) → ((i : ℕ) → f i < 2) → ((i : ℕ) → g i < 2) → number n (λ i. f i xor g i) ≡ number n f xor number n g
unfolding number
number-xor zero f g hf hg = refl
number-xor (suc n) f g hf hg =
    ap (λ (x : ℕ). x * 2 + (f n xor g n)) (number-xor n f g hf hg) ∙ sym (xor_block 1 (number n f) (number n g) (f n) (g n) (hf n) (hg n))

pub xor_all-lt : (n : ℕ) (f : ℕ → ℕ) → ((i : ℕ) → f i < 2) → xor_all n f < 2
unfolding xor_all
xor_all-lt zero f h = lit< tt
xor_all-lt (suc n) f h = xor_lt 1 (xor_all n f) (f n) (xor_all-lt n f h) (h n)

-- digit by digit, or number by number
pub number-xor_all : (n m : ℕ) (g : ℕ → ℕ → ℕ) → ((r i : ℕ) → g r i < 2) → number n (λ i. xor_all m (λ r. g r i)) ≡ xor_all m (λ r. number n (g r))
unfolding xor_all
number-xor_all n zero g h = number-none n (λ i. 0) (λ i. refl)
number-xor_all n (suc m) g h =
    number-xor n (λ i. xor_all m (λ r. g r i)) (g m) (λ i. xor_all-lt m (λ r. g r i) (λ r. h r i)) (h m)
    ∙ ap (λ (x : ℕ). x xor number n (g m)) (number-xor_all n m g h)

pub number-linear : (n : ℕ) (g : ℕ → ℕ → ℕ) → ((i w : ℕ) → g i w < 2) → ((i : ℕ) → Linear (g i)) → Linear (λ w. number n (λ i. g i w))
number-linear n g lt h a b =
    number-cong n (λ i p. h i a b) ∙ number-xor n (λ i. g i a) (λ i. g i b) (λ i. lt i a) (λ i. lt i b)

pub xor-add : (n : ℕ) (f g : ℕ → ℕ) → xor_all n (λ i. f i xor g i) ≡ xor_all n f xor xor_all n g
unfolding xor_all
xor-add zero f g = refl
xor-add (suc n) f g = ap (λ (x : ℕ). x xor (f n xor g n)) (xor-add n f g) ∙ xor-swap (xor_all n f) (xor_all n g) (f n) (g n)
