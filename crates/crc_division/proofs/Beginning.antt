-- The register and the first k words of a message, k below 4, held as two blocks: the words end the first block, with zeros before
-- them, which change nothing while the register is 0. The message's register goes into the first word, wherever that stands.
use mathlib.Core.Path.{◌≡◌, refl, sym, ap, ap₂, ◌∙◌}
use mathlib.Core.List.{List, [], ◌∷◌}
use Prim.Native.Nat.{ℕ, zero, suc, ◌*◌, ◌/◌, ◌%◌, ◌^◌, ◌<◌, ◌-◌}
use native.Mathlib.Omega.{arith}
use lib.Bits.{xor_zero_r, xor_lt}
use lib.ListN.{take, length-take}
use Rattle.base.specs.Xor.{◌xor◌}
use Rattle.crc_division.specs.Crc.{crc_bits, crc_step, crc_words}
use Rattle.crc_division.specs.Folding.{high_lanes, after_high}
use Rattle.crc_division.proofs.Linear.{xor_lists, word-step, words-linear}
use Rattle.crc_division.proofs.Blocks.{top, top-lanes, high-lanes-linear, after-high-linear}
use Rattle.crc_division.proofs.Joining.{blocks, nothing, still}

-- the code's lines: the first k words of a block, and the register at its top without its first k words
abbrev head : ℕ → ℕ → ℕ
head k x = x / 2 ^ (48 - 16 * k) / 2 ^ 16

abbrev rest : ℕ → ℕ → ℕ
rest k x = x * 2 ^ (16 * k) % 2 ^ 64

-- ---- the register of the first k words of a block

abbrev some : ℕ → ℕ → ℕ → ℕ
some k r x = crc_words r (take k (high_lanes x))

take-xor : (k : ℕ) (m n : List ℕ) → take k (xor_lists m n) ≡ xor_lists (take k m) (take k n)
take-xor zero m n = refl
take-xor (suc k) [] n = refl
take-xor (suc k) (x ∷ m) [] = refl
take-xor (suc k) (x ∷ m) (y ∷ n) = ap (λ (l : List ℕ). (x xor y) ∷ l) (take-xor k m n)

some-linear : (k r s x y : ℕ) → some k (r xor s) (x xor y) ≡ some k r x xor some k s y
some-linear k r s x y =
    ap (λ (l : List ℕ). crc_words (r xor s) (take k l)) (high-lanes-linear x y)
    ∙ ap (crc_words (r xor s)) (take-xor k (high_lanes x) (high_lanes y))
    ∙ words-linear r s (take k (high_lanes x)) (take k (high_lanes y)) (simp length-take)

-- ---- the register in the first word

either : (r : ℕ) → crc_step 16 0 r ≡ crc_step 16 r 0
either r = word-step 0 r ∙ sym (word-step r 0 ∙ ap (crc_bits 16) (xor_zero_r r))

in-first : (k r x : ℕ) → r < 2 ^ 16 → some (suc k) 0 (x xor top r) ≡ some (suc k) r x
in-first k r x h =
    some-linear (suc k) 0 0 x (top r)
    ∙ ap (λ (n : ℕ). some (suc k) 0 x xor n)
    (ap (λ (l : List ℕ). crc_words 0 (take (suc k) l)) (top-lanes r h) ∙ ap (λ (n : ℕ). crc_words n (take k (0 ∷ 0 ∷ 0 ∷ []))) (either r))
    ∙ sym (some-linear (suc k) 0 r x 0)
    ∙ ap (some (suc k) r) (xor_zero_r x)

-- ---- zeros before the words

module _ (x : ℕ) (h : x < 2 ^ 64) where
  none : head 0 x ≡ 0
  none = omega arith

  one : after_high 0 (head 1 x) ≡ some 1 0 x
  unfolding after_high
  one =
      let a : head 1 x / 2 ^ 48 % 2 ^ 16 ≡ 0 = omega arith in
      let b : head 1 x / 2 ^ 32 % 2 ^ 16 ≡ 0 = omega arith in
      let c : head 1 x / 2 ^ 16 % 2 ^ 16 ≡ 0 = omega arith in
      let d : head 1 x % 2 ^ 16 ≡ x / 2 ^ 48 % 2 ^ 16 = omega arith in
      cc still

  two : after_high 0 (head 2 x) ≡ some 2 0 x
  unfolding after_high
  two =
      let a : head 2 x / 2 ^ 48 % 2 ^ 16 ≡ 0 = omega arith in
      let b : head 2 x / 2 ^ 32 % 2 ^ 16 ≡ 0 = omega arith in
      let c : head 2 x / 2 ^ 16 % 2 ^ 16 ≡ x / 2 ^ 48 % 2 ^ 16 = omega arith in
      let d : head 2 x % 2 ^ 16 ≡ x / 2 ^ 32 % 2 ^ 16 = omega arith in
      cc still

  three : after_high 0 (head 3 x) ≡ some 3 0 x
  unfolding after_high
  three =
      let a : head 3 x / 2 ^ 48 % 2 ^ 16 ≡ 0 = omega arith in
      let b : head 3 x / 2 ^ 32 % 2 ^ 16 ≡ x / 2 ^ 48 % 2 ^ 16 = omega arith in
      let c : head 3 x / 2 ^ 16 % 2 ^ 16 ≡ x / 2 ^ 32 % 2 ^ 16 = omega arith in
      let d : head 3 x % 2 ^ 16 ≡ x / 2 ^ 16 % 2 ^ 16 = omega arith in
      cc still

-- ---- both blocks

module _ (r x y : ℕ) (hr : r < 2 ^ 16) (hx : x < 2 ^ 64) where
  abbrev first : ℕ
  first = x xor top r

  fits : first < 2 ^ 64
  fits = xor_lt 64 x (top r) hx (omega arith)

  abbrev Begun : ℕ → Type 0
  Begun k = blocks (head k first ∷ (y xor rest k (top r)) ∷ []) ≡ after_high (crc_words r (take k (high_lanes x))) y

  no_words : Begun 0
  unfolding after_high
  no_words =
      let e : rest 0 (top r) ≡ top r = omega arith in
      ap₂ (λ (a b : ℕ). after_high (after_high 0 a) (y xor b)) (none first fits) e
      ∙ ap (λ (n : ℕ). after_high n (y xor top r)) (nothing after_high after-high-linear) ∙ in-first 3 r y hr

  words : (k : ℕ) → after_high 0 (head (suc k) first) ≡ some (suc k) 0 first → rest (suc k) (top r) ≡ 0 → Begun (suc k)
  words k e f =
      ap₂ (λ (a b : ℕ). after_high a (y xor b)) (e ∙ in-first k r x hr) f ∙ ap (after_high (some (suc k) r x)) (xor_zero_r y)

  pub begin : (k : ℕ) → k < 4 → Begun k
  begin zero h = no_words
  begin (suc zero) h = words 0 (one first fits) (omega arith)
  begin (suc (suc zero)) h = words 1 (two first fits) (omega arith)
  begin (suc (suc (suc zero))) h = words 2 (three first fits) (omega arith)
  begin (suc (suc (suc (suc k)))) h = absurd (omega arith)
