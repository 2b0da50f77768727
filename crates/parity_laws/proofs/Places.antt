-- The row and the column that a flipped bit of a unit makes differ: of a parity word one of the two, of a data word both.
use mathlib.Core.Path.{◌≡◌, ap, ap₂, ◌∙◌}
use mathlib.Core.Bool.{Bool, ◌&&◌, and_comm}
use Prim.Native.Nat.{ℕ, ◌+◌, ◌-◌, ◌*◌, ◌/◌, ◌%◌, ◌<◌, ◌≤◌}
use native.Mathlib.Omega.{arith}
use lib.Dec.{eqb}
use lib.Bits.{xor_zero_l, xor_zero_r}
use borrow.Author.Tests.{eq-eqb, ne_eqb, eqb-true}
use Rattle.base.specs.Xor.{◌xor◌}
use Rattle.base.proofs.Booleans.{and_parts, and_both}
use Rattle.parity_rows.specs.Parity.{xor_all}
use Rattle.parity_rows.proofs.Folds.{xor-cong, xor-none}
use Rattle.parity_laws.proofs.Spot.{one, spot, xor-when, same_test}
use Rattle.parity_laws.proofs.Flips.{same_bit, row_flip, column_flip}

-- a bit of another word
elsewhere-zero : (i b w n : ℕ) → (i ≡ w + n / 16 → ⊥) → one (same_bit i b w n) ≡ 0
elsewhere-zero i b w n h = ap (λ (t : Bool). one (t && eqb b (15 - n % 16))) (ne_eqb i (w + n / 16) h)

-- in parity words that begin at word w
parity-place : (i b w n : ℕ) → w ≤ i → b < 16 → one (same_bit i b w n) ≡ spot (16 * (i - w) + (15 - b)) n
parity-place i b w n h hb =
    let p = 16 * (i - w) + (15 - b) in
    ap one
    (same_test (same_bit i b w n) (eqb p n)
    (λ z.
    let s = and_parts (eqb i (w + n / 16)) (eqb b (15 - n % 16)) z in
    eq-eqb p n (omega (arith, eqb-true i (w + n / 16) s.0, eqb-true b (15 - n % 16) s.1)))
    (λ z.
    let e : p ≡ n = eqb-true p n z in
    and_both (eqb i (w + n / 16)) (eqb b (15 - n % 16)) (eq-eqb i (w + n / 16) (omega arith)) (eq-eqb b (15 - n % 16) (omega arith))))

-- in the data: word 8 + w is in row w / 4
module _ (w b : ℕ) (hb : b < 16) where
  abbrev column : ℕ
  column = 16 * (w % 4) + (15 - b)

  data-place : (r c : ℕ) → c < 64 → same_bit (8 + w) b (8 + 4 * r) c ≡ eqb (w / 4) r && eqb column c
  data-place r c h =
      same_test (same_bit (8 + w) b (8 + 4 * r) c) (eqb (w / 4) r && eqb column c)
      (λ z.
      let s = and_parts (eqb (8 + w) (8 + 4 * r + c / 16)) (eqb b (15 - c % 16)) z in
      let x = eqb-true (8 + w) (8 + 4 * r + c / 16) s.0 in
      let y = eqb-true b (15 - c % 16) s.1 in
      and_both (eqb (w / 4) r) (eqb column c) (eq-eqb (w / 4) r (omega (arith, x))) (eq-eqb column c (omega (arith, x, y))))
      (λ z.
      let s = and_parts (eqb (w / 4) r) (eqb column c) z in
      let x = eqb-true (w / 4) r s.0 in
      let y = eqb-true column c s.1 in
      and_both (eqb (8 + w) (8 + 4 * r + c / 16)) (eqb b (15 - c % 16)) (eq-eqb (8 + w) (8 + 4 * r + c / 16) (omega (arith, x, y))) (eq-eqb b (15 - c % 16) (omega (arith, x, y))))

  pub data-flip-row : (r : ℕ) → r < 64 → row_flip (8 + w) b r ≡ spot (w / 4) r
  data-flip-row r h =
      ap₂ ◌xor◌ (elsewhere-zero (8 + w) b 0 r (λ e. omega arith))
      (xor-cong 64 (λ c p. ap one (data-place r c p)) ∙ xor-when 64 column (eqb (w / 4) r) (omega arith))
      ∙ xor_zero_l (spot (w / 4) r)

  pub data-flip-column : w / 4 < 64 → (c : ℕ) → c < 64 → column_flip (8 + w) b c ≡ spot column c
  data-flip-column q c h =
      ap₂ ◌xor◌ (elsewhere-zero (8 + w) b 4 c (λ e. omega arith))
      (xor-cong 64 (λ r p. ap one (data-place r c h ∙ and_comm (eqb (w / 4) r) (eqb column c))) ∙ xor-when 64 (w / 4) (eqb column c) q)
      ∙ xor_zero_l (spot column c)

module _ (i b : ℕ) (hi : i < 8) (hb : b < 16) where
  -- a flip in the parity words does nothing to the data
  parity-flip-leaves-data : (f : ℕ → ℕ) (n : ℕ → ℕ) → xor_all 64 (λ j. one (same_bit i b (8 + f j) (n j))) ≡ 0
  parity-flip-leaves-data f n = xor-none 64 (λ j. one (same_bit i b (8 + f j) (n j))) (λ j. elsewhere-zero i b (8 + f j) (n j) (λ e. omega arith))

  pub row-parity-flip-row : i < 4 → (r : ℕ) → r < 64 → row_flip i b r ≡ spot (16 * (i - 0) + (15 - b)) r
  row-parity-flip-row h r p = ap₂ ◌xor◌ (parity-place i b 0 r (omega arith) hb) (parity-flip-leaves-data (λ c. 4 * r) (λ c. c)) ∙ xor_zero_r (spot (16 * (i - 0) + (15 - b)) r)

  pub row-parity-flip-column : i < 4 → (c : ℕ) → c < 64 → column_flip i b c ≡ 0
  row-parity-flip-column h c p = ap₂ ◌xor◌ (elsewhere-zero i b 4 c (λ e. omega arith)) (parity-flip-leaves-data (λ r. 4 * r) (λ r. c))

  pub column-parity-flip-column : 4 ≤ i → (c : ℕ) → c < 64 → column_flip i b c ≡ spot (16 * (i - 4) + (15 - b)) c
  column-parity-flip-column h c p = ap₂ ◌xor◌ (parity-place i b 4 c h hb) (parity-flip-leaves-data (λ r. 4 * r) (λ r. c)) ∙ xor_zero_r (spot (16 * (i - 4) + (15 - b)) c)

  pub column-parity-flip-row : 4 ≤ i → (r : ℕ) → r < 64 → row_flip i b r ≡ 0
  column-parity-flip-row h r p = ap₂ ◌xor◌ (elsewhere-zero i b 0 r (λ e. omega arith)) (parity-flip-leaves-data (λ c. 4 * r) (λ c. c))
