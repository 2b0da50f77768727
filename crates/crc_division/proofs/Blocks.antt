-- The register after a block is linear in the register before it and in the block, and the register can go into the block's first word.
use mathlib.Core.Path.{◌≡◌, refl, sym, ap, ◌∙◌}
use mathlib.Core.List.{[], ◌∷◌}
use Prim.Native.Nat.{ℕ, ◌*◌, ◌/◌, ◌%◌, ◌^◌, ◌<◌}
use native.Mathlib.Omega.{arith}
use lib.Bits.{xor_zero_r}
use Rattle.base.specs.Xor.{◌xor◌}
use Rattle.base.proofs.Linear.{Linear, shr, low, after}
use Rattle.crc_division.specs.Crc.{crc_bit, crc_step, crc_words}
use Rattle.crc_division.specs.Blocks.{lanes, after_block}
use Rattle.crc_division.specs.Folding.{high_lanes, after_high}
use Rattle.crc_division.proofs.Linear.{xor_lists, words-linear}
use Rattle.crc_division.proofs.Powers.{by-powers}

lane : (k : ℕ) → Linear (λ x. x / 2 ^ k % 2 ^ 16)
lane k = after (λ x. x / 2 ^ k) (λ x. x % 2 ^ 16) (shr k) (low 16)

lanes-linear : (x y : ℕ) → lanes (x xor y) ≡ xor_lists (lanes x) (lanes y)
lanes-linear x y = cc (low 16 x y, lane 16 x y, lane 32 x y, lane 48 x y)

pub after-block-linear : (r s x y : ℕ) → after_block (r xor s) (x xor y) ≡ after_block r x xor after_block s y
unfolding after_block
after-block-linear r s x y = ap (crc_words (r xor s)) (lanes-linear x y) ∙ words-linear r s (lanes x) (lanes y) refl

-- the register goes into the first word, the lowest
pub into_block : (r x : ℕ) → r < 2 ^ 16 → after_block r x ≡ after_block 0 (x xor r)
unfolding crc_bit crc_step after_block
into_block r x h =
    ap (after_block r) (sym (xor_zero_r x)) ∙ after-block-linear 0 r x 0
    ∙ ap (λ (n : ℕ). after_block 0 x xor n) (by-powers (λ n. after_block n 0) (after_block 0) (λ m n. after-block-linear m n 0 0) (λ m n. after-block-linear 0 0 m n) 16 tt r h)
    ∙ sym (after-block-linear 0 0 x r)

-- ---- the first word highest

pub high-lanes-linear : (x y : ℕ) → high_lanes (x xor y) ≡ xor_lists (high_lanes x) (high_lanes y)
high-lanes-linear x y = cc (low 16 x y, lane 16 x y, lane 32 x y, lane 48 x y)

pub after-high-linear : (r s x y : ℕ) → after_high (r xor s) (x xor y) ≡ after_high r x xor after_high s y
unfolding after_high
after-high-linear r s x y = ap (crc_words (r xor s)) (high-lanes-linear x y) ∙ words-linear r s (high_lanes x) (high_lanes y) refl

-- ---- a word at the top of a block

abbrev pub top : ℕ → ℕ
top r = r * 2 ^ 48 % 2 ^ 64

pub top-lanes : (r : ℕ) → r < 2 ^ 16 → high_lanes (top r) ≡ r ∷ 0 ∷ 0 ∷ 0 ∷ []
top-lanes r h =
    let a : top r / 2 ^ 48 % 2 ^ 16 ≡ r = omega arith in
    let b : top r / 2 ^ 32 % 2 ^ 16 ≡ 0 = omega arith in
    let c : top r / 2 ^ 16 % 2 ^ 16 ≡ 0 = omega arith in
    let d : top r % 2 ^ 16 ≡ 0 = omega arith in
    cc
