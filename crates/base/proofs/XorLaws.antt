-- Laws of the exclusive-or that the toolchain's library lacks: it is associative, and it goes bit by bit.
use mathlib.Core.Path.{◌≡◌, refl, sym, ap, ap₂, ◌∙◌}
use Prim.Native.Nat.{ℕ, zero, suc, ◌+◌, ◌*◌, ◌/◌, ◌%◌, ◌^◌, ◌<◌}
use native.Mathlib.Nat.{mod-lt, not-suc-le-zero, le_of_suc-le-suc}
use lib.Dec.{lit<}
use lib.Arith.{bin_ind, digits_div, digits_mod}
use lib.Bits.{differ, xor_step, xor_comm, xor_shr, xor_mod}
use Rattle.base.specs.Number.{bit_of}
use Rattle.base.specs.Xor.{◌xor◌}

differ-lt : (x y : ℕ) → x < 2 → y < 2 → differ x y < 2
differ-lt zero y p q = q
differ-lt (suc zero) zero p q = p
differ-lt (suc zero) (suc zero) p q = lit< tt
differ-lt (suc zero) (suc (suc y)) p q = absurd (not-suc-le-zero (le_of_suc-le-suc (le_of_suc-le-suc q)))
differ-lt (suc (suc x)) y p q = absurd (not-suc-le-zero (le_of_suc-le-suc (le_of_suc-le-suc p)))

differ-assoc : (x y z : ℕ) → x < 2 → y < 2 → z < 2 → differ (differ x y) z ≡ differ x (differ y z)
differ-assoc zero y z p q r = refl
differ-assoc (suc zero) zero z p q r = refl
differ-assoc (suc zero) (suc zero) zero p q r = refl
differ-assoc (suc zero) (suc zero) (suc zero) p q r = refl
differ-assoc (suc zero) (suc zero) (suc (suc z)) p q r = absurd (not-suc-le-zero (le_of_suc-le-suc (le_of_suc-le-suc r)))
differ-assoc (suc zero) (suc (suc y)) z p q r = absurd (not-suc-le-zero (le_of_suc-le-suc (le_of_suc-le-suc q)))
differ-assoc (suc (suc x)) y z p q r = absurd (not-suc-le-zero (le_of_suc-le-suc (le_of_suc-le-suc p)))

digit : (a b : ℕ) → differ (a % 2) (b % 2) < 2
digit a b = differ-lt (a % 2) (b % 2) (mod-lt a (lit< tt)) (mod-lt b (lit< tt))

half : (a b : ℕ) → (a xor b) / 2 ≡ a / 2 xor b / 2
half a b = ap (λ (n : ℕ). n / 2) (xor_step a b) ∙ digits_div (a / 2 xor b / 2) (digit a b)

odd : (a b : ℕ) → (a xor b) % 2 ≡ differ (a % 2) (b % 2)
odd a b = ap (λ (n : ℕ). n % 2) (xor_step a b) ∙ digits_mod (a / 2 xor b / 2) (digit a b)

pub xor_assoc : (a b c : ℕ) → a xor b xor c ≡ a xor (b xor c)
xor_assoc =
    bin_ind (λ (a : ℕ). (b c : ℕ) → a xor b xor c ≡ a xor (b xor c)) (λ b c. refl)
    (λ a ih b c.
    xor_step (a xor b) c
    ∙ ap₂ (λ (x y : ℕ). x * 2 + y)
    (ap (λ (n : ℕ). n xor c / 2) (half a b) ∙ ih (b / 2) (c / 2) ∙ ap (λ (n : ℕ). a / 2 xor n) (sym (half b c)))
    (ap (λ (n : ℕ). differ n (c % 2)) (odd a b)
    ∙ differ-assoc (a % 2) (b % 2) (c % 2) (mod-lt a (lit< tt)) (mod-lt b (lit< tt)) (mod-lt c (lit< tt))
    ∙ ap (λ (n : ℕ). differ (a % 2) n) (sym (odd b c)))
    ∙ sym (xor_step a (b xor c)))

-- the two in the middle change places
pub xor-swap : (a b c d : ℕ) → (a xor b) xor (c xor d) ≡ (a xor c) xor (b xor d)
xor-swap a b c d =
    xor_assoc a b (c xor d)
    ∙ ap (λ (n : ℕ). a xor n) (sym (xor_assoc b c d) ∙ ap (λ (n : ℕ). n xor d) (xor_comm b c) ∙ xor_assoc c b d)
    ∙ sym (xor_assoc a c (b xor d))

-- bit k of an exclusive-or is that of the two bits
pub xor-bit : (k a b : ℕ) → bit_of (a xor b) k ≡ bit_of a k xor bit_of b k
xor-bit k a b = ap (λ (n : ℕ). n % 2) (xor_shr a b k) ∙ xor_mod (a / 2 ^ k) (b / 2 ^ k) 1
