-- One flipped bit: which row and which column it makes differ, in any words, and that none differs in a unit as it is written.
use mathlib.Core.Path.{◌≡◌, refl, sym, ap, ap₂, ◌∙◌}
use mathlib.Core.Bool.{Bool, true, false, cond, ◌&&◌}
use mathlib.Core.List.{List, ◌++◌}
use Prim.Native.Nat.{ℕ, zero, suc, ◌+◌, ◌-◌, ◌*◌, ◌/◌, ◌%◌, ◌^◌, ◌<◌, ◌≤◌}
use native.Mathlib.Nat.{add_assoc, mul_comm, zero-div, div-eq_of_lt, mul-mod_left, pow-suc}
use native.Mathlib.Omega.{arith}
use lib.Dec.{eqb, ltb}
use lib.Arith.{digits_mod}
use lib.Pow.{pow-add, pow-lt, shl-shr, high}
use lib.Bits.{xor_zero_r, xor_self}
use lib.ListN.{length, get_or, drop}
use lib.Seq.{get_or-set_same, get_or-set_other, get_or-drop}
use borrow.Author.Tests.{eq-eqb, ne_eqb, eqb-true, eqb-false, ltb-true, ltb-false}
use Rattle.base.specs.Xor.{◌xor◌}
use Rattle.base.proofs.XorLaws.{xor-swap, xor-bit}
use Rattle.base.specs.Number.{bit_of}
use Rattle.parity_rows.specs.Parity.{xor_all, number, bit_from, row_parity, column_parity, row_word, column_word, parity_words}
use Rattle.parity.specs.Unit.{unit_of, flipped, row_differs, column_differs}
use Rattle.parity_rows.proofs.Folds.{xor-cong, xor-add, number-parts, number_lt, number_more}
use Rattle.parity_rows.proofs.Words.{digit, from-digit}
use Rattle.parity_rows.proofs.ByRows.{row_lt, column-lt}
use Rattle.parity_laws.proofs.Spot.{one, spot, same_test}

-- ---- a bit of a power of two

high_bit : (q m : ℕ) → 2 ^ (q + m) / 2 ^ q % 2 ≡ one (eqb m 0)
high_bit q m = ap (λ (x : ℕ). x / 2 ^ q % 2) (pow-add 2 q m ∙ mul_comm (2 ^ q) (2 ^ m)) ∙ ap (λ (x : ℕ). x % 2) (shl-shr (2 ^ m) q) ∙ by_size m
  where
    by_size : (n : ℕ) → 2 ^ n % 2 ≡ one (eqb n 0)
    by_size zero = refl
    by_size (suc n) = ap (λ (x : ℕ). x % 2) (pow-suc 2 n) ∙ mul-mod_left (2 ^ n) 2 ∙ sym (ap one (ne_eqb (suc n) 0 (λ e. omega arith)))

power-bit : (b q : ℕ) → bit_of (2 ^ b) q ≡ spot b q
power-bit b q = by-test (ltb b q) refl
  where
    by-test : (t : Bool) → ltb b q ≡ t → 2 ^ b / 2 ^ q % 2 ≡ spot b q
    by-test true e =
        let h : b < q = ltb-true b q e in
        ap (λ (x : ℕ). x % 2) (div-eq_of_lt (pow-lt h)) ∙ sym (ap one (ne_eqb b q (λ z. omega arith)))
    by-test false e =
        let h : q ≤ b = ltb-false b q e in
        let n : b ≡ q + (b - q) = omega arith in
        ap (λ (x : ℕ). 2 ^ x / 2 ^ q % 2) n ∙ high_bit q (b - q)
        ∙ ap one (same_test (eqb (b - q) 0) (eqb b q) (λ z. eq-eqb b q (omega (arith, eqb-true (b - q) 0 z))) (λ z. eq-eqb (b - q) 0 (omega (arith, eqb-true b q z))))

-- ---- one bit flipped, read bit by bit

-- whether bit b of word i is bit n of the words from word w on
abbrev pub same_bit : ℕ → ℕ → ℕ → ℕ → Bool
same_bit i b w n = eqb i (w + n / 16) && eqb b (15 - n % 16)

module _ (u : List ℕ) (i b : ℕ) (h : i < length u) where
  flip-word : (j : ℕ) → get_or (flipped u i b) j 0 ≡ get_or u j 0 xor cond (eqb i j) (2 ^ b) 0
  unfolding flipped
  flip-word j = by-test (eqb i j) refl
    where
      by-test : (t : Bool) → eqb i j ≡ t → get_or (flipped u i b) j 0 ≡ get_or u j 0 xor cond t (2 ^ b) 0
      by-test true e =
          ap (λ (n : ℕ). get_or (flipped u i b) n 0) (sym (eqb-true i j e)) ∙ get_or-set_same u i (get_or u i 0 xor 2 ^ b) 0 h
          ∙ ap (λ (n : ℕ). get_or u n 0 xor 2 ^ b) (eqb-true i j e)
      by-test false e = get_or-set_other u i j (get_or u i 0 xor 2 ^ b) 0 (λ z. eqb-false i j e (sym z)) ∙ sym (xor_zero_r (get_or u j 0))

  flip-bit : (j q : ℕ) → bit_of (get_or (flipped u i b) j 0) q ≡ bit_of (get_or u j 0) q xor one (eqb i j && eqb b q)
  flip-bit j q =
      ap (λ (x : ℕ). bit_of x q) (flip-word j) ∙ xor-bit q (get_or u j 0) (cond (eqb i j) (2 ^ b) 0) ∙ ap (λ (x : ℕ). bit_of (get_or u j 0) q xor x) (there (eqb i j))
    where
      there : (t : Bool) → bit_of (cond t (2 ^ b) 0) q ≡ one (t && eqb b q)
      there true = power-bit b q
      there false = ap (λ (x : ℕ). x % 2) (zero-div (2 ^ q))

  flip-from : (w n : ℕ) → bit_from (flipped u i b) w n ≡ bit_from u w n xor one (same_bit i b w n)
  unfolding bit_from
  flip-from w n = flip-bit (w + n / 16) (15 - n % 16)

from-drop : (m : ℕ) (u : List ℕ) (w n : ℕ) → bit_from (drop m u) w n ≡ bit_from u (m + w) n
unfolding bit_from
from-drop m u w n =
    ap (λ (x : ℕ). bit_of x (15 - n % 16)) (get_or-drop m u (w + n / 16) 0 ∙ ap (λ (j : ℕ). get_or u j 0) (sym (add_assoc m w (n / 16))))

-- ---- what the flip does to rows and columns

abbrev pub row_flip : ℕ → ℕ → ℕ → ℕ
row_flip i b r = one (same_bit i b 0 r) xor xor_all 64 (λ c. one (same_bit i b (8 + 4 * r) c))

abbrev pub column_flip : ℕ → ℕ → ℕ → ℕ
column_flip i b c = one (same_bit i b 4 c) xor xor_all 64 (λ r. one (same_bit i b (8 + 4 * r) c))

module _ (u : List ℕ) (i b : ℕ) (h : i < length u) where
  flip-data : (w n : ℕ) → bit_from (drop 8 (flipped u i b)) w n ≡ bit_from (drop 8 u) w n xor one (same_bit i b (8 + w) n)
  flip-data w n =
      from-drop 8 (flipped u i b) w n ∙ flip-from u i b h (8 + w) n ∙ ap (λ (x : ℕ). x xor one (same_bit i b (8 + w) n)) (sym (from-drop 8 u w n))

  pub flip-row : (r : ℕ) → row_differs (flipped u i b) r ≡ row_differs u r xor row_flip i b r
  unfolding row_differs row_parity
  flip-row r =
      let f : ℕ → ℕ = bit_from (drop 8 u) (4 * r) in
      let g : ℕ → ℕ = λ c. one (same_bit i b (8 + 4 * r) c) in
      ap₂ ◌xor◌ (flip-from u i b h 0 r) (xor-cong 64 (λ c _. flip-data (4 * r) c) ∙ xor-add 64 f g)
      ∙ xor-swap (bit_from u 0 r) (one (same_bit i b 0 r)) (xor_all 64 f) (xor_all 64 g)

  pub flip-column : (c : ℕ) → column_differs (flipped u i b) c ≡ column_differs u c xor column_flip i b c
  unfolding column_differs column_parity
  flip-column c =
      let f : ℕ → ℕ = λ r. bit_from (drop 8 u) (4 * r) c in
      let g : ℕ → ℕ = λ r. one (same_bit i b (8 + 4 * r) c) in
      ap₂ ◌xor◌ (flip-from u i b h 4 c) (xor-cong 64 (λ r _. flip-data (4 * r) c) ∙ xor-add 64 f g)
      ∙ xor-swap (bit_from u 4 c) (one (same_bit i b 4 c)) (xor_all 64 f) (xor_all 64 g)

-- ---- the parity words hold the parity: in a unit as it is written nothing differs

-- digit i of a number is what it was made of
number-digit : (f : ℕ → ℕ) → ((i : ℕ) → f i < 2) → (i : ℕ) → i < 16 → digit (number 16 f) i ≡ f i
number-digit f bits i h =
    let n : suc i + (15 - i) ≡ 16 = omega arith in
    ap (λ (m : ℕ). number m f / 2 ^ (15 - i) % 2) (sym n)
    ∙ ap (λ (x : ℕ). x / 2 ^ (15 - i) % 2) (number-parts (suc i) (15 - i) f)
    ∙ ap (λ (x : ℕ). x % 2) (high (number (suc i) f) (15 - i) (number_lt (15 - i) (λ j. f (suc i + j)) (λ j. bits (suc i + j))) ∙ number_more i f)
    ∙ digits_mod (number i f) (bits i)

module _ (d x : List ℕ) where
  row_at : (j : ℕ) → j < 4 → get_or (parity_words d ++ x) (0 + j) 0 ≡ row_word d j
  unfolding parity_words
  row_at zero h = refl
  row_at (suc zero) h = refl
  row_at (suc (suc zero)) h = refl
  row_at (suc (suc (suc zero))) h = refl
  row_at (suc (suc (suc (suc j)))) h = absurd (omega arith)

  column-at : (j : ℕ) → j < 4 → get_or (parity_words d ++ x) (4 + j) 0 ≡ column_word d j
  unfolding parity_words
  column-at zero h = refl
  column-at (suc zero) h = refl
  column-at (suc (suc zero)) h = refl
  column-at (suc (suc (suc zero))) h = refl
  column-at (suc (suc (suc (suc j)))) h = absurd (omega arith)

  -- where word w + j has the digits p (16 j), p (16 j + 1), .. for each j below 4, bit i from w on is p i
  held : (w : ℕ) (p : ℕ → ℕ) → ((i : ℕ) → p i < 2) → ((j : ℕ) → j < 4 → get_or (parity_words d ++ x) (w + j) 0 ≡ number 16 (λ i. p (16 * j + i)))
      → (i : ℕ) → i < 64 → bit_from (parity_words d ++ x) w i ≡ p i
  held w p bits at i h =
      let e : 16 * (i / 16) + i % 16 ≡ i = omega arith in
      ap (bit_from (parity_words d ++ x) w) (sym e)
      ∙ from-digit (parity_words d ++ x) w (i / 16) (i % 16) (omega arith)
      ∙ ap (λ (v : ℕ). digit v (i % 16)) (at (i / 16) (omega arith))
      ∙ number-digit (λ n. p (16 * (i / 16) + n)) (λ n. bits (16 * (i / 16) + n)) (i % 16) (omega arith)
      ∙ ap p e

  row-held : (r : ℕ) → r < 64 → bit_from (parity_words d ++ x) 0 r ≡ row_parity d r
  unfolding row_word
  row-held = held 0 (row_parity d) (row_lt d) row_at

  column-held : (c : ℕ) → c < 64 → bit_from (parity_words d ++ x) 4 c ≡ column_parity d c
  unfolding column_word
  column-held = held 4 (column_parity d) (column-lt d) column-at

pub unit-data : (d : List ℕ) → drop 8 (unit_of d) ≡ d
unfolding unit_of parity_words
unit-data d = refl

pub unit-length : (d : List ℕ) → length (unit_of d) ≡ 8 + length d
unfolding unit_of parity_words
unit-length d = omega arith

pub no_row : (d : List ℕ) (r : ℕ) → r < 64 → row_differs (unit_of d) r ≡ 0
unfolding row_differs unit_of
no_row d r h = ap₂ ◌xor◌ (row-held d d r h) (ap (λ (s : List ℕ). row_parity s r) (unit-data d)) ∙ xor_self (row_parity d r)

pub no-column : (d : List ℕ) (c : ℕ) → c < 64 → column_differs (unit_of d) c ≡ 0
unfolding column_differs unit_of
no-column d c h = ap₂ ◌xor◌ (column-held d d c h) (ap (λ (s : List ℕ). column_parity s c) (unit-data d)) ∙ xor_self (column_parity d c)
