-- The parity of rows and columns of bits, from the rows as numbers: a row's is the oddness of its ones, and the columns' are the
-- digits of the rows' exclusive or.
use mathlib.Core.Path.{◌≡◌, refl, sym, ap, ap₂, ◌∙◌, subst}
use mathlib.Core.List.{List, [], ◌∷◌}
use Prim.Native.Nat.{ℕ, suc, ◌+◌, ◌-◌, ◌*◌, ◌/◌, ◌%◌, ◌^◌, ◌<◌, ◌≤◌}
use native.Mathlib.Nat.{add-zero, add-mul, mul_assoc, mul_comm, mul-one, div-one, add-sub_of_le, pow-suc}
use native.Mathlib.Numerals.{add-one, one-add}
use native.Mathlib.Omega.{arith}
use lib.Pow.{high, low, shl_lt}
use lib.Bits.{xor_zero_r, xor_shifted}
use lib.Count.{ones}
use lib.ListN.{length, get_or}
use Rattle.base.specs.Xor.{◌xor◌}
use Rattle.parity_rows.specs.declared.Sums.{Sums}
use Rattle.parity_rows.specs.Parity.{xor_all, number, bit_from, row_parity, column_parity, row_word, column_word, parity_words, sums, parities}
use Rattle.parity_rows.specs.ByRows.{words_of, one_more, row_of, sums_of}
use Rattle.parity_rows.proofs.Folds.{xor-more, number_more, xor-parts, number-parts, xor-none, number-none, number_lt, number-xor_all, xor_all-lt}
use Rattle.parity_rows.proofs.Words.{from-lt, from_past}
use Rattle.parity_rows.proofs.Ones.{odd-ones}

pub row_lt : (d : List ℕ) (r : ℕ) → row_parity d r < 2
unfolding row_parity
row_lt d r = xor_all-lt 64 (bit_from d (4 * r)) (from-lt d (4 * r))

pub column-lt : (d : List ℕ) (c : ℕ) → column_parity d c < 2
unfolding column_parity
column-lt d c = xor_all-lt 64 (λ r. bit_from d (4 * r) c) (λ r. from-lt d (4 * r) c)

-- ---- row by row

row-odd : (d : List ℕ) (r : ℕ) → ones (row_of d r) % 2 ≡ row_parity d r
unfolding row_parity
row-odd d r = odd-ones (bit_from d (4 * r)) (from-lt d (4 * r)) 64

-- one digit more below n digits
next-digit : (m a b : ℕ) → b < 2 → a * 2 ^ suc m xor b * 2 ^ m ≡ (a * 2 + b) * 2 ^ m
next-digit m a b h =
    xor_shifted a (suc m) (b * 2 ^ m) (subst (λ (k : ℕ). b * 2 ^ m < 2 ^ k) (one-add m) (shl_lt 1 m h))
    ∙ ap (λ (x : ℕ). a * x + b * 2 ^ m) (pow-suc 2 m ∙ mul_comm (2 ^ m) 2)
    ∙ ap (λ (x : ℕ). x + b * 2 ^ m) (sym (mul_assoc a 2 (2 ^ m)))
    ∙ sym (add-mul (a * 2) b (2 ^ m))

next_place : (n a b : ℕ) → n < 64 → b < 2 → a * 2 ^ (64 - n) xor b * 2 ^ (63 - n) ≡ (a * 2 + b) * 2 ^ (64 - suc n)
next_place n a b h bit =
    let p : 64 - n ≡ suc (63 - n) = omega arith in
    let q : 63 - n ≡ 64 - suc n = omega arith in
    ap (λ (k : ℕ). a * 2 ^ k xor b * 2 ^ (63 - n)) p ∙ next-digit (63 - n) a b bit ∙ ap (λ (k : ℕ). (a * 2 + b) * 2 ^ k) q

pub next-sums : (d : List ℕ) (n : ℕ) {s t : Sums} {w : ℕ} → n < 64 → s ≡ sums_of d n → w ≡ row_of d n → t ≡ one_more s w n → t ≡ sums_of d (n + 1)
next-sums d n h p q r =
    r ∙ ap₂ (λ (s : Sums) (w : ℕ). one_more s w n) p q
    ∙ ap₂ sums
    (ap (λ (x : ℕ). number n (row_parity d) * 2 ^ (64 - n) xor x * 2 ^ (63 - n)) (row-odd d n)
    ∙ next_place n (number n (row_parity d)) (row_parity d n) h (row_lt d n)
    ∙ ap (λ (x : ℕ). x * 2 ^ (64 - suc n)) (sym (number_more n (row_parity d))))
    (sym (xor-more n (row_of d)))
    ∙ ap (sums_of d) (sym (add-one n))

-- ---- rows past the data are 0

module _ (d : List ℕ) (r : ℕ) (h : length d ≤ 4 * r) where
  past_row : row_of d r ≡ 0
  past_row = number-none 64 (bit_from d (4 * r)) (λ c. from_past d (4 * r) c h)

  past-odd : row_parity d r ≡ 0
  unfolding row_parity
  past-odd = xor-none 64 (bit_from d (4 * r)) (λ c. from_past d (4 * r) c h)

-- so the sums of n rows that hold all the data are those of all 64
pub enough-rows : (d : List ℕ) (n : ℕ) → n ≤ 64 → length d ≤ 4 * n → sums_of d n ≡ sums_of d 64
enough-rows d n all enough =
    let m : n + (64 - n) ≡ 64 = add-sub_of_le all in
    ap₂ sums
    (sym (mul-one (number 64 (row_parity d)) ∙ ap (λ (x : ℕ). number x (row_parity d)) (sym m) ∙ number-parts n (64 - n) (row_parity d)
    ∙ ap (λ (x : ℕ). number n (row_parity d) * 2 ^ (64 - n) + x) (number-none (64 - n) (λ i. row_parity d (n + i)) (λ i. past-odd d (n + i) (omega arith)))
    ∙ add-zero (number n (row_parity d) * 2 ^ (64 - n))))
    (sym (ap (λ (x : ℕ). xor_all x (row_of d)) (sym m) ∙ xor-parts n (64 - n) (row_of d)
    ∙ ap (λ (x : ℕ). xor_all n (row_of d) xor x) (xor-none (64 - n) (λ i. row_of d (n + i)) (λ i. past_row d (n + i) (omega arith)))
    ∙ xor_zero_r (xor_all n (row_of d))))

-- of all 64 rows
pub all-rows : (d : List ℕ) → sums_of d 64 ≡ parities d
unfolding column_parity
all-rows d = ap₂ sums (mul-one (number 64 (row_parity d))) (sym (number-xor_all 64 64 (λ r. bit_from d (4 * r)) (λ r. from-lt d (4 * r))))

-- ---- the parity words

-- 16 digits in the middle of a number
middle : (n m : ℕ) (f : ℕ → ℕ) → ((i : ℕ) → f i < 2) → number (n + 16 + m) f / 2 ^ m % 2 ^ 16 ≡ number 16 (λ i. f (n + i))
middle n m f h =
    ap (λ (x : ℕ). x / 2 ^ m % 2 ^ 16) (number-parts (n + 16) m f)
    ∙ ap (λ (x : ℕ). x % 2 ^ 16) (high (number (n + 16) f) m (number_lt m (λ i. f (n + 16 + i)) (λ i. h (n + 16 + i))) ∙ number-parts n 16 f)
    ∙ low (number n f) 16 (number_lt 16 (λ i. f (n + i)) (λ i. h (n + i)))

last_digits : (f : ℕ → ℕ) → ((i : ℕ) → f i < 2) → number 64 f % 2 ^ 16 ≡ number 16 (λ i. f (48 + i))
last_digits f h = ap (λ (x : ℕ). x % 2 ^ 16) (sym (div-one (number 64 f))) ∙ middle 48 0 f h

-- the first four words of two lists, end to end
abbrev four-and-four : List ℕ → List ℕ → List ℕ
four-and-four xs ys =
    get_or xs 0 0 ∷ get_or xs 1 0 ∷ get_or xs 2 0 ∷ get_or xs 3 0 ∷ get_or ys 0 0 ∷ get_or ys 1 0 ∷ get_or ys 2 0 ∷ get_or ys 3 0 ∷ []

-- the words of the sums are the parity words
pub words-of-sums : (d : List ℕ) {s : Sums} {xs ys : List ℕ} → s ≡ parities d → xs ≡ words_of s.rows → ys ≡ words_of s.columns
    → four-and-four xs ys ≡ parity_words d
unfolding parity_words row_word column_word
words-of-sums d e p q =
    let r = row_parity d in
    let c = column_parity d in
    ap₂ four-and-four (p ∙ ap (λ (s : Sums). words_of s.rows) e) (q ∙ ap (λ (s : Sums). words_of s.columns) e) ∙
    ap₂ ◌∷◌ (middle 0 48 r (row_lt d)) (ap₂ ◌∷◌ (middle 16 32 r (row_lt d)) (ap₂ ◌∷◌ (middle 32 16 r (row_lt d)) (ap₂ ◌∷◌ (last_digits r (row_lt d))
    (ap₂ ◌∷◌ (middle 0 48 c (column-lt d)) (ap₂ ◌∷◌ (middle 16 32 c (column-lt d)) (ap₂ ◌∷◌ (middle 32 16 c (column-lt d)) (ap₂ ◌∷◌ (last_digits c (column-lt d)) refl)))))))
