-- A message that is held as some blocks, and the first of them put down again further on. All is linear in what is held and in what
-- comes; so it is enough that a block alone has the register of what is put down for it: a test at the powers of two, computed.
use mathlib.Core.Path.{◌≡◌, refl, sym, ap, ap₂, ◌∙◌}
use mathlib.Core.List.{List, [], ◌∷◌, foldl}
use Prim.Native.Nat.{ℕ, zero, suc, ◌*◌, ◌/◌, ◌%◌, ◌^◌, ◌<◌}
use native.Mathlib.Omega.{arith}
use lib.Bits.{xor_zero_r, xor_lt}
use lib.ListN.{length}
use Rattle.base.specs.Xor.{◌xor◌}
use Rattle.base.proofs.Linear.{Linear, shl-in, low, same, plus, after, at_zero}
use Rattle.crc_division.specs.Crc.{crc_polynomial, crc_bit, crc_step}
use Rattle.crc_division.specs.Blocks.{after_block}
use Rattle.crc_division.specs.Folding.{high_lanes, after_high}
use Rattle.crc_division.proofs.Powers.{by-powers, and_shr, and-shl}
use Rattle.crc_division.proofs.Linear.{xor_lists, word-linear, fold-linear}
use Rattle.crc_division.proofs.Blocks.{after-block-linear, after-high-linear, top, top-lanes}

-- each block takes the register by f
module _ (f : ℕ → ℕ → ℕ) (f-linear : (r s x y : ℕ) → f (r xor s) (x xor y) ≡ f r x xor f s y) where
  pub nothing : f 0 0 ≡ 0
  nothing = at_zero (λ n. f n n) (λ m n. f-linear m n m n)

  over-linear : (m n : List ℕ) → length m ≡ length n → foldl f 0 (xor_lists m n) ≡ foldl f 0 m xor foldl f 0 n
  over-linear = fold-linear f f-linear 0 0

  -- the blocks n have the register of d with blocks 0 after it: they can be put down for d in the blocks m after it
  put-down : (d : ℕ) (zeros n m : List ℕ) → foldl f 0 (d ∷ zeros) ≡ foldl f 0 n → length n ≡ length m → length zeros ≡ length m → xor_lists zeros m ≡ m
      → foldl f 0 (xor_lists n m) ≡ foldl f 0 (d ∷ m)
  put-down d zeros n m same-register e q quiet =
      over-linear n m e
      ∙ ap (λ (r : ℕ). r xor foldl f 0 m) (sym same-register)
      ∙ ap (λ (r : ℕ). foldl f 0 (d ∷ zeros) xor foldl f r m) (sym nothing)
      ∙ sym (over-linear (d ∷ zeros) (0 ∷ m) (cc))
      ∙ ap (λ (r : ℕ). foldl f (f 0 r) (xor_lists zeros m)) (xor_zero_r d)
      ∙ ap (λ (l : List ℕ). foldl f 0 (d ∷ l)) quiet

-- ---- eight words held, the first word of a block highest: it is put down again 4, 11 and 16 bytes later

abbrev pub blocks : List ℕ → ℕ
blocks = foldl after_high 0

blocks-linear : (m n : List ℕ) → length m ≡ length n → blocks (xor_lists m n) ≡ blocks m xor blocks n
blocks-linear = over-linear after_high after-high-linear

abbrev twice : ℕ → ℕ
twice d = d xor d / 2 ^ 32

abbrev near : ℕ → ℕ
near t = t * 2 ^ 32 % 2 ^ 64 xor t / 2 ^ 24

abbrev far : ℕ → ℕ
far t = t xor t * 2 ^ 40 % 2 ^ 64

abbrev comes : ℕ → List ℕ
comes d = near (twice d) ∷ far (twice d) ∷ []

comes-linear : (d e : ℕ) → comes (d xor e) ≡ xor_lists (comes d) (comes e)
comes-linear d e =
    let t = and_shr (λ n. n) same 32 in
    cc (after twice near t (and_shr (λ n. n * 2 ^ 32 % 2 ^ 64) (shl-in 64 32) 24) d e, after twice far t (and-shl (λ n. n) same 64 40) d e)

goes-comes : (d : ℕ) → d < 2 ^ 64 → blocks (d ∷ 0 ∷ 0 ∷ []) ≡ blocks (comes d)
unfolding crc_bit crc_step after_high
goes-comes =
    by-powers (λ d. blocks (d ∷ 0 ∷ 0 ∷ [])) (λ d. blocks (comes d)) (λ d e. blocks-linear (d ∷ 0 ∷ 0 ∷ []) (e ∷ 0 ∷ 0 ∷ []) refl)
    (λ d e. ap blocks (comes-linear d e) ∙ blocks-linear (comes d) (comes e) refl) 64 tt

pub join : (d b x : ℕ) → d < 2 ^ 64 → blocks (xor_lists (comes d) (b ∷ x ∷ [])) ≡ blocks (d ∷ b ∷ x ∷ [])
join d b x h = put-down after_high after-high-linear d (0 ∷ 0 ∷ []) (comes d) (b ∷ x ∷ []) (goes-comes d h) refl refl refl

-- ---- the end: the first block's quotient is put down in the second

abbrev quotient : ℕ → ℕ
quotient g = g xor g / 2 ^ 32

abbrev product : ℕ → ℕ
product q = q xor q * 2 ^ 20 % 2 ^ 64 xor q * 2 ^ 48 % 2 ^ 64

abbrev folded : ℕ → ℕ
folded d = product (quotient (d xor d / 2 ^ 16 xor d / 2 ^ 44))

folded-linear : Linear folded
folded-linear =
    after (λ d. quotient (d xor d / 2 ^ 16 xor d / 2 ^ 44)) product
    (after (λ d. d xor d / 2 ^ 16 xor d / 2 ^ 44) quotient (and_shr (λ d. d xor d / 2 ^ 16) (and_shr (λ d. d) same 16) 44) (and_shr (λ g. g) same 32))
    (and-shl (λ q. q xor q * 2 ^ 20 % 2 ^ 64) (and-shl (λ q. q) same 64 20) 64 48)

goes-folded : (d : ℕ) → d < 2 ^ 64 → blocks (d ∷ 0 ∷ []) ≡ blocks (folded d ∷ [])
unfolding crc_bit crc_step after_high
goes-folded =
    by-powers (λ d. blocks (d ∷ 0 ∷ [])) (λ d. blocks (folded d ∷ [])) (λ d e. blocks-linear (d ∷ 0 ∷ []) (e ∷ 0 ∷ []) refl)
    (λ d e. ap (after_high 0) (folded-linear d e) ∙ blocks-linear (folded d ∷ []) (folded e ∷ []) refl) 64 tt

pub fold : (d b : ℕ) → d < 2 ^ 64 → after_high 0 (folded d xor b) ≡ blocks (d ∷ b ∷ [])
fold d b h = put-down after_high after-high-linear d (0 ∷ []) (folded d ∷ []) (b ∷ []) (goes-folded d h) refl refl refl

-- ---- sixteen words held, the first word of a block lowest: it is put down again 4, 11 and 16 words later

abbrev wide : List ℕ → ℕ
wide = foldl after_block 0

wide-linear : (m n : List ℕ) → length m ≡ length n → wide (xor_lists m n) ≡ wide m xor wide n
wide-linear = over-linear after_block after-block-linear

-- a word 0 changes nothing while the register is 0
pub still : crc_step 16 0 0 ≡ 0
unfolding crc_bit crc_step
still = refl

-- a register k words 0 later
abbrev later : ℕ → ℕ → ℕ
later zero s = s
later (suc k) s = crc_step 16 (later k s) 0

later-linear : (k : ℕ) → Linear (later k)
later-linear zero r s = refl
later-linear (suc k) r s = ap (λ (n : ℕ). crc_step 16 n 0) (later-linear k r s) ∙ word-linear (later k r) (later k s) 0 0

-- the law itself, of a register: 16 powers of two
again : (u : ℕ) → u < 2 ^ 16 → later 16 u ≡ later 12 u xor (later 5 u xor u)
unfolding crc_bit crc_step
again =
    by-powers (later 16) (λ u. later 12 u xor (later 5 u xor u)) (later-linear 16)
    (plus (later 12) (λ u. later 5 u xor u) (later-linear 12) (plus (later 5) (λ u. u) (later-linear 5) same)) 16 tt

bit-lt : (r : ℕ) → crc_bit r < 2 ^ 16
unfolding crc_bit
bit-lt r = xor_lt 16 (r / 32768 % 2 * crc_polynomial) (r * 2 % 65536) (omega arith) (omega arith)

block-lt : (d : ℕ) → after_block 0 d < 2 ^ 16
unfolding after_block crc_step
block-lt d = bit-lt _

-- across the blocks: its first word ends one, and the others begin the next
across : (d : ℕ) → d < 2 ^ 64 → wide (0 ∷ d * 2 ^ 48 % 2 ^ 64 ∷ d / 2 ^ 16 ∷ 0 ∷ []) ≡ later 5 (after_block 0 d)
unfolding after_block
across d h =
    let e = d * 2 ^ 48 % 2 ^ 64 in
    let g = d / 2 ^ 16 in
    let first : high_lanes e ≡ d % 2 ^ 16 ∷ 0 ∷ 0 ∷ 0 ∷ []
    = ap high_lanes (by-powers top (λ n. top (n % 2 ^ 16)) (shl-in 64 48) (after (λ n. n % 2 ^ 16) top (low 16) (shl-in 64 48)) 64 tt d h)
    ∙ top-lanes (d % 2 ^ 16) (omega arith) in
    let g₁ : g / 2 ^ 16 % 2 ^ 16 ≡ d / 2 ^ 32 % 2 ^ 16 = omega arith in
    let g₂ : g / 2 ^ 32 % 2 ^ 16 ≡ d / 2 ^ 48 % 2 ^ 16 = omega arith in
    let g₃ : g / 2 ^ 48 % 2 ^ 16 ≡ 0 = omega arith in
    cc still

abbrev comes_wide : ℕ → List ℕ
comes_wide d = d ∷ d * 2 ^ 48 % 2 ^ 64 ∷ d / 2 ^ 16 ∷ d ∷ []

goes-wide : (d : ℕ) → d < 2 ^ 64 → wide (d ∷ 0 ∷ 0 ∷ 0 ∷ 0 ∷ []) ≡ wide (comes_wide d)
unfolding after_block
goes-wide d h =
    let e = d * 2 ^ 48 % 2 ^ 64 in
    let g = d / 2 ^ 16 in
    let ends : wide (0 ∷ 0 ∷ 0 ∷ d ∷ []) ≡ after_block 0 d = cc (nothing after_block after-block-linear) in
    let parts : xor_lists (d ∷ 0 ∷ 0 ∷ 0 ∷ []) (xor_lists (0 ∷ e ∷ g ∷ 0 ∷ []) (0 ∷ 0 ∷ 0 ∷ d ∷ [])) ≡ comes_wide d = cc (xor_zero_r d, xor_zero_r e, xor_zero_r g) in
    again (after_block 0 d) (block-lt d)
    ∙ ap (λ (n : ℕ). later 12 (after_block 0 d) xor n)
    (ap₂ ◌xor◌ (sym (across d h)) (sym ends) ∙ sym (wide-linear (0 ∷ e ∷ g ∷ 0 ∷ []) (0 ∷ 0 ∷ 0 ∷ d ∷ []) refl))
    ∙ sym (wide-linear (d ∷ 0 ∷ 0 ∷ 0 ∷ []) (xor_lists (0 ∷ e ∷ g ∷ 0 ∷ []) (0 ∷ 0 ∷ 0 ∷ d ∷ [])) refl)
    ∙ ap wide parts

pub join-wide : (d c b a x : ℕ) → d < 2 ^ 64 → wide (xor_lists (comes_wide d) (c ∷ b ∷ a ∷ x ∷ [])) ≡ wide (d ∷ c ∷ b ∷ a ∷ x ∷ [])
join-wide d c b a x h =
    put-down after_block after-block-linear d (0 ∷ 0 ∷ 0 ∷ 0 ∷ []) (comes_wide d) (c ∷ b ∷ a ∷ x ∷ []) (goes-wide d h) refl refl refl
