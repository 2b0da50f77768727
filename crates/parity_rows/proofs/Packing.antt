-- Words shifted and joined are one number, and a bit shifted by less than 64 stays whole.
use mathlib.Core.Path.{◌≡◌, ap, ap₂, ◌∙◌}
use Prim.Native.Nat.{ℕ, ◌+◌, ◌-◌, ◌*◌, ◌%◌, ◌^◌, ◌<◌}
use native.Mathlib.Nat.{mod-lt}
use native.Mathlib.Omega.{arith}
use lib.Dec.{lit<}
use lib.Bits.{bit_or, bit_and, or_shifted, and_mask}
use lib.Pow.{shl_exact}
use Rattle.parity_rows.specs.ByRows.{pack}

module _ (a b c d : ℕ) (ha : a < 65536) (hb : b < 65536) (hc : c < 65536) (hd : d < 65536) where
  pub joined : bit_or (bit_or (bit_or (a * 2 ^ 48 % 2 ^ 64) (b * 2 ^ 32 % 2 ^ 64)) (c * 2 ^ 16 % 2 ^ 64)) d ≡ pack a b c d
  unfolding pack
  joined =
      let ea : a * 2 ^ 48 % 2 ^ 64 ≡ a * 2 ^ 48 = omega arith in
      let eb : b * 2 ^ 32 % 2 ^ 64 ≡ b * 2 ^ 32 = omega arith in
      let ec : c * 2 ^ 16 % 2 ^ 64 ≡ c * 2 ^ 16 = omega arith in
      let two : a * 2 ^ 48 + b * 2 ^ 32 ≡ (a * 2 ^ 16 + b) * 2 ^ 32 = omega arith in
      let three : (a * 2 ^ 16 + b) * 2 ^ 32 + c * 2 ^ 16 ≡ ((a * 2 ^ 16 + b) * 2 ^ 16 + c) * 2 ^ 16 = omega arith in
      ap (λ (x : ℕ). bit_or x d)
      (ap₂ bit_or (ap₂ bit_or ea eb ∙ or_shifted a 48 (b * 2 ^ 32) (omega arith) ∙ two) ec ∙ or_shifted (a * 2 ^ 16 + b) 32 (c * 2 ^ 16) (omega arith) ∙ three)
      ∙ or_shifted ((a * 2 ^ 16 + b) * 2 ^ 16 + c) 16 d hd

-- the oddness of a number, shifted to its place
pub placed : (n r : ℕ) {x : ℕ} → r < 64 → x ≡ bit_and n 1 → x * 2 ^ (63 - r) % 2 ^ 64 ≡ n % 2 * 2 ^ (63 - r)
placed n r h e =
    ap (λ (x : ℕ). x * 2 ^ (63 - r) % 2 ^ 64) (e ∙ and_mask n 1) ∙ shl_exact 1 (63 - r) 64 (mod-lt n (lit< tt)) (omega arith)
