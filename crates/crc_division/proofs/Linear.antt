-- The CRC is linear: bit by bit, word by word and over whole messages it goes through exclusive-or.
use mathlib.Core.Path.{◌≡◌, refl, sym, ap, ap₂, ◌∙◌}
use mathlib.Core.List.{List, [], ◌∷◌, foldl}
use Prim.Native.Nat.{ℕ, zero, suc, ◌*◌, ◌/◌, ◌%◌, ◌<◌}
use native.Mathlib.Nat.{mod-lt, not-suc-le-zero, le_of_suc-le-suc, mul-one}
use native.Mathlib.Omega.{arith}
use lib.Dec.{lit<}
use lib.ListN.{length}
use Rattle.base.specs.Xor.{◌xor◌}
use Rattle.base.proofs.XorLaws.{xor-swap, xor-bit}
use Rattle.base.proofs.Linear.{Linear, shl-in}
use Rattle.crc_division.specs.Crc.{crc_polynomial, crc_bit, crc_bits, crc_step, crc_words}

bit-times : (x y : ℕ) → x < 2 → y < 2 → (x xor y) * crc_polynomial ≡ x * crc_polynomial xor y * crc_polynomial
bit-times zero y p q = refl
bit-times (suc zero) zero p q = refl
bit-times (suc zero) (suc zero) p q = refl
bit-times (suc zero) (suc (suc y)) p q = absurd (not-suc-le-zero (le_of_suc-le-suc (le_of_suc-le-suc q)))
bit-times (suc (suc x)) y p q = absurd (not-suc-le-zero (le_of_suc-le-suc (le_of_suc-le-suc p)))

bit-linear : Linear crc_bit
unfolding crc_bit
bit-linear r s =
    ap₂ ◌xor◌
    (ap (λ (n : ℕ). n * crc_polynomial) (xor-bit 15 r s)
    ∙ bit-times (r / 32768 % 2) (s / 32768 % 2) (mod-lt (r / 32768) (lit< tt)) (mod-lt (s / 32768) (lit< tt)))
    (shl-in 16 1 r s)
    ∙ xor-swap (r / 32768 % 2 * crc_polynomial) (s / 32768 % 2 * crc_polynomial) (r * 2 % 65536) (s * 2 % 65536)

pub bits-linear : (n : ℕ) → Linear (crc_bits n)
bits-linear zero r s = refl
bits-linear (suc n) r s = ap crc_bit (bits-linear n r s) ∙ bit-linear (crc_bits n r) (crc_bits n s)

-- ---- exclusive-or of messages

-- a word fills the whole register
pub word-step : (r w : ℕ) → crc_step 16 r w ≡ crc_bits 16 (r xor w)
unfolding crc_step
word-step r w = ap (λ (n : ℕ). crc_bits 16 (r xor n)) (mul-one w)

pub word-linear : (r s v w : ℕ) → crc_step 16 (r xor s) (v xor w) ≡ crc_step 16 r v xor crc_step 16 s w
word-linear r s v w =
    word-step (r xor s) (v xor w) ∙ ap (crc_bits 16) (xor-swap r s v w) ∙ bits-linear 16 (r xor v) (s xor w)
    ∙ sym (ap₂ ◌xor◌ (word-step r v) (word-step s w))

-- of two messages, element by element
abbrev pub xor_lists : List ℕ → List ℕ → List ℕ
xor_lists (x ∷ m) (y ∷ n) = (x xor y) ∷ xor_lists m n
xor_lists (x ∷ m) [] = []
xor_lists [] n = []

-- what goes through exclusive-or at each element does so over a message
pub fold-linear : (f : ℕ → ℕ → ℕ) → ((r s x y : ℕ) → f (r xor s) (x xor y) ≡ f r x xor f s y) → (r s : ℕ) (m n : List ℕ)
    → length m ≡ length n → foldl f (r xor s) (xor_lists m n) ≡ foldl f r m xor foldl f s n
fold-linear f h r s [] [] e = refl
fold-linear f h r s [] (y ∷ n) e = absurd (omega arith)
fold-linear f h r s (x ∷ m) [] e = absurd (omega arith)
fold-linear f h r s (x ∷ m) (y ∷ n) e =
    ap (λ (k : ℕ). foldl f k (xor_lists m n)) (h r s x y) ∙ fold-linear f h (f r x) (f s y) m n (omega arith)

pub words-linear : (r s : ℕ) (m n : List ℕ) → length m ≡ length n → crc_words (r xor s) (xor_lists m n) ≡ crc_words r m xor crc_words s n
words-linear = fold-linear (crc_step 16) word-linear
