-- A word and its bits. What is made of bits by exclusive or is linear, so it is known by its values at the powers of two.
use mathlib.Core.Path.{◌≡◌, sym, ap, ap₂, ◌∙◌}
use mathlib.Core.Bool.{Bool}
use mathlib.Core.List.{List}
use Prim.Native.Nat.{ℕ, ◌+◌, ◌-◌, ◌*◌, ◌/◌, ◌%◌, ◌^◌, ◌<◌, ◌≤◌}
use native.Mathlib.Nat.{mod-lt, zero-add, add-zero, zero-div}
use native.Mathlib.Omega.{arith}
use lib.Dec.{eqb, eqb→eq, lit<}
use lib.ListN.{length, replicate, get_or, get_or-eq_default}
use Rattle.base.specs.Number.{bit_of}
use Rattle.base.proofs.XorLaws.{xor-bit}
use Rattle.base.proofs.Linear.{agree, same}
use Rattle.base.proofs.Every.{at}
use Rattle.parity_rows.specs.Parity.{number, bit_from}
use Rattle.parity_rows.specs.ByRows.{pack}
use Rattle.parity_rows.proofs.Folds.{number-linear, number-cong, number-parts}

pub bit-lt : (w b : ℕ) → bit_of w b < 2
bit-lt w b = mod-lt (w / 2 ^ b) (lit< tt)

zero_bit : (w b : ℕ) → w ≡ 0 → bit_of w b ≡ 0
zero_bit w b e = ap (λ (x : ℕ). x / 2 ^ b % 2) e ∙ ap (λ (x : ℕ). x % 2) (zero-div (2 ^ b))

-- digit i of a word, the top one first
abbrev pub digit : ℕ → ℕ → ℕ
digit w i = bit_of w (15 - i)

-- a word is the number of its digits
right : ℕ → ℕ → Bool
right i x = eqb (number 16 (digit (2 ^ i))) (2 ^ i)

word-bits : (w : ℕ) → w < 65536 → number 16 (digit w) ≡ w
unfolding right number
word-bits w h =
    agree (λ w. number 16 (digit w)) (λ w. w) (number-linear 16 (λ i w. digit w i) (λ i w. bit-lt w (15 - i)) (λ i. xor-bit (15 - i))) same 16
    (λ i p. eqb→eq (number 16 (digit (2 ^ i))) (2 ^ i) (at right (replicate 16 0) tt i p)) w h

-- ---- the bits of words one after the other

pub from-lt : (ws : List ℕ) (w i : ℕ) → bit_from ws w i < 2
unfolding bit_from
from-lt ws w i = bit-lt _ _

-- past the end all is 0
pub from_past : (ws : List ℕ) (w i : ℕ) → length ws ≤ w → bit_from ws w i ≡ 0
unfolding bit_from
from_past ws w i h = zero_bit _ _ (get_or-eq_default ws 0 {n = w + i / 16} (omega arith))

-- bit 16 j + i from a word on is digit i of the j-th word after it
pub from-digit : (ws : List ℕ) (w j i : ℕ) → i < 16 → bit_from ws w (16 * j + i) ≡ digit (get_or ws (w + j) 0) i
unfolding bit_from
from-digit ws w j i p =
    let q : (16 * j + i) / 16 ≡ j = omega arith in
    let m : (16 * j + i) % 16 ≡ i = omega arith in
    ap₂ (λ (x y : ℕ). digit (get_or ws (w + x) 0) y) q m

-- 64 digits are four words of 16
four-words : (f : ℕ → ℕ)
    → number 64 f ≡ pack (number 16 (λ i. f (16 * 0 + i))) (number 16 (λ i. f (16 * 1 + i))) (number 16 (λ i. f (16 * 2 + i))) (number 16 (λ i. f (16 * 3 + i)))
unfolding pack
four-words f =
    number-parts 48 16 f
    ∙ ap (λ (x : ℕ). x * 2 ^ 16 + number 16 (λ i. f (48 + i)))
    (number-parts 32 16 f
    ∙ ap (λ (x : ℕ). x * 2 ^ 16 + number 16 (λ i. f (32 + i)))
    (number-parts 16 16 f
    ∙ ap (λ (x : ℕ). x * 2 ^ 16 + number 16 (λ i. f (16 + i))) (number-cong 16 (λ i p. ap f (sym (zero-add i))))))

-- and four words are the 64 bits from the first on
pub packed : (ws : List ℕ) (w : ℕ) (a b c d : ℕ) → ((i : ℕ) → get_or ws i 0 < 65536)
    → a ≡ get_or ws w 0 → b ≡ get_or ws (w + 1) 0 → c ≡ get_or ws (w + 2) 0 → d ≡ get_or ws (w + 3) 0 → pack a b c d ≡ number 64 (bit_from ws w)
packed ws w a b c d fits ea eb ec ed =
    packs (ea ∙ ap (λ (i : ℕ). get_or ws i 0) (sym (add-zero w)) ∙ word 0) (eb ∙ word 1) (ec ∙ word 2) (ed ∙ word 3) ∙ sym (four-words (bit_from ws w))
  where
    packs : {a b c d a' b' c' d' : ℕ} → a ≡ a' → b ≡ b' → c ≡ c' → d ≡ d' → pack a b c d ≡ pack a' b' c' d'
    packs p q r s = cc

    word : (j : ℕ) → get_or ws (w + j) 0 ≡ number 16 (λ i. bit_from ws w (16 * j + i))
    word j = sym (number-cong 16 (λ i h. from-digit ws w j i h) ∙ word-bits (get_or ws (w + j) 0) (fits (w + j)))
