-- The five cases: what they find of the rows and columns that differ is what is found of the unit; and a data bit that is found is one of the data.
use mathlib.Core.Path.{◌≡◌, refl, sym, ap₂, ◌∙◌}
use mathlib.Core.Bool.{Bool, true, false, cond, ◌&&◌}
use mathlib.Core.List.{List}
use Prim.Native.Nat.{ℕ, ◌+◌, ◌-◌, ◌*◌, ◌/◌, ◌%◌, ◌<◌}
use native.Mathlib.Omega.{arith}
use lib.Dec.{ltb, eqb}
use lib.Count.{ones, count_leading_zeros}
use lib.Bits.{xor_lt}
use lib.ListN.{length, drop}
use borrow.Author.Tests.{ltb-true}
use Rattle.base.specs.Xor.{◌xor◌}
use Rattle.base.proofs.Booleans.{and_right}
use Rattle.parity_rows.specs.declared.Sums.{Sums}
use Rattle.parity_rows.specs.Parity.{number, bit_from, row_parity, column_parity, parities, stated_parity}
use Rattle.parity_rows.proofs.Folds.{number-xor}
use Rattle.parity_rows.proofs.Words.{from-lt}
use Rattle.parity_rows.proofs.ByRows.{row_lt, column-lt}
use Rattle.parity.specs.Unit.{Finding, sound, parity_bit, data_bit, neither, sum_all, first_of, row_differs, column_differs, five_cases, finding}
use Rattle.parity.proofs.Counted.{ones-sum, leading-first}

-- ---- the rows and the columns that differ, digit by digit

module _ (u : List ℕ) where
  row-bits : (r : ℕ) → row_differs u r < 2
  unfolding row_differs
  row-bits r = xor_lt 1 (bit_from u 0 r) (row_parity (drop 8 u) r) (from-lt u 0 r) (row_lt (drop 8 u) r)

  column-bits : (c : ℕ) → column_differs u c < 2
  unfolding column_differs
  column-bits c = xor_lt 1 (bit_from u 4 c) (column_parity (drop 8 u) c) (from-lt u 4 c) (column-lt (drop 8 u) c)

  rows-differ : (stated_parity u).rows xor (parities (drop 8 u)).rows ≡ number 64 (row_differs u)
  unfolding row_differs
  rows-differ = sym (number-xor 64 (bit_from u 0) (row_parity (drop 8 u)) (from-lt u 0) (row_lt (drop 8 u)))

  columns-differ : (stated_parity u).columns xor (parities (drop 8 u)).columns ≡ number 64 (column_differs u)
  unfolding column_differs
  columns-differ = sym (number-xor 64 (bit_from u 4) (column_parity (drop 8 u)) (from-lt u 4) (column-lt (drop 8 u)))

  -- what the five cases find of them is what is found of the unit
  pub cases-find : (s p : Sums) → s ≡ stated_parity u → p ≡ parities (drop 8 u)
      → five_cases (ones (s.rows xor p.rows)) (ones (s.columns xor p.columns)) (count_leading_zeros 64 (s.rows xor p.rows)) (count_leading_zeros 64 (s.columns xor p.columns))
      (length u - 8) ≡ finding u
  unfolding finding
  cases-find s p e f =
      let r : s.rows xor p.rows ≡ number 64 (row_differs u) = ap₂ (λ (x y : Sums). x.rows xor y.rows) e f ∙ rows-differ in
      let c : s.columns xor p.columns ≡ number 64 (column_differs u) = ap₂ (λ (x y : Sums). x.columns xor y.columns) e f ∙ columns-differ in
      ap₂ (λ (x y : ℕ). five_cases (ones x) (ones y) (count_leading_zeros 64 x) (count_leading_zeros 64 y) (length u - 8)) r c
      ∙ same (ones-sum (row_differs u) row-bits 64) (ones-sum (column_differs u) column-bits 64) (leading-first 64 (row_differs u) row-bits)
      (leading-first 64 (column_differs u) column-bits)
    where
      same : {a b c d a' b' c' d' : ℕ} → a ≡ a' → b ≡ b' → c ≡ c' → d ≡ d' → five_cases a b c d (length u - 8) ≡ five_cases a' b' c' d' (length u - 8)
      same p q r s = cc

-- ---- a data bit that is found is one of the data

abbrev pub Within : ℕ → Finding → Type 0
Within k sound = Unit {0}
Within k (parity_bit w b) = Unit {0}
Within k (data_bit w b) = (w < k) × (b < 16)
Within k neither = Unit {0}

either : (k : ℕ) (t : Bool) (f g : Finding) → (t ≡ true → Within k f) → Within k g → Within k (cond t f g)
either k true f g p q = p refl
either k false f g p q = q

within : (R C row column k : ℕ) → Within k (five_cases R C row column k)
unfolding five_cases
within R C row column k =
    let word = 4 * row + column / 16 in
    either k (eqb R 0 && eqb C 0) sound _ (λ _. tt)
    (either k (eqb R 1 && eqb C 0) (parity_bit (row / 16) (15 - row % 16)) _ (λ _. tt)
    (either k (eqb R 0 && eqb C 1) (parity_bit (4 + column / 16) (15 - column % 16)) _ (λ _. tt)
    (either k (eqb R 1 && eqb C 1 && ltb word k) (data_bit word (15 - column % 16)) neither
    (λ e. (ltb-true word k (and_right (eqb R 1 && eqb C 1) (ltb word k) e), omega arith)) tt)))

pub data-within : (u : List ℕ) → Within (length u - 8) (finding u)
unfolding finding
data-within u = within (sum_all 64 (row_differs u)) (sum_all 64 (column_differs u)) (first_of 64 (row_differs u)) (first_of 64 (column_differs u)) (length u - 8)
