-- `crc_division::sixty_four` meets its contract: the code and the four words are linear in the block with the register in it, and
-- they agree on the powers of two.
use mathlib.Core.Path.{◌≡◌, sym, ap, ◌∙◌}
use Prim.Native.Nat.{ℕ, ◌*◌, ◌/◌, ◌%◌, ◌^◌, ◌<◌}
use lib.Bits.{xor_lt}
use native.Mathlib.Omega.{arith}
use Rattle.base.specs.Xor.{◌xor◌}
use Rattle.base.proofs.Linear.{Linear, shr, shl-in, low, same, plus, after}
use Rattle.crc_division.specs.Crc.{crc_bit, crc_step}
use Rattle.crc_division.specs.Blocks.{after_block}
use Rattle.crc_division.proofs.Blocks.{after-block-linear, into_block}
use Rattle.crc_division.proofs.Powers.{by-powers, and_shr, rest, rest-linear}
use Rattle.crc_division.proofs.sixty_four.Goals as goal

abbrev left : ℕ → ℕ → ℕ
left k x = x * 2 ^ k % 2 ^ 64

abbrev right : ℕ → ℕ → ℕ
right k x = x / 2 ^ k

-- the code's lines
abbrev y : ℕ → ℕ
y x = left 48 x xor right 16 (left 48 (right 16 x)) xor left 16 (right 48 (left 16 x)) xor right 48 x

abbrev e : ℕ → ℕ
e x = x xor right 4 x xor right 11 x xor right 16 x

abbrev f : ℕ → ℕ
f x = x xor right 8 x xor right 22 x xor right 32 x

abbrev g : ℕ → ℕ
g x = x xor right 16 x xor right 44 x

abbrev q : ℕ → ℕ
q x = x xor right 32 x

abbrev product : ℕ → ℕ
product x = rest 64 (q (g (f (e (y x)))))

unfoldable code : ℕ → ℕ
code x = product x % 2 ^ 16

y-linear : Linear y
y-linear =
    and_shr (λ x. left 48 x xor right 16 (left 48 (right 16 x)) xor left 16 (right 48 (left 16 x)))
    (plus (λ x. left 48 x xor right 16 (left 48 (right 16 x))) (λ x. left 16 (right 48 (left 16 x)))
    (plus (left 48) (λ x. right 16 (left 48 (right 16 x))) (shl-in 64 48)
    (after (λ x. left 48 (right 16 x)) (right 16) (after (right 16) (left 48) (shr 16) (shl-in 64 48)) (shr 16)))
    (after (λ x. right 48 (left 16 x)) (left 16) (after (left 16) (right 48) (shl-in 64 16) (shr 48)) (shl-in 64 16))) 48

two : (i j : ℕ) → Linear (λ x. x xor right i x xor right j x)
two i j = and_shr (λ x. x xor right i x) (and_shr (λ x. x) same i) j

three : (i j k : ℕ) → Linear (λ x. x xor right i x xor right j x xor right k x)
three i j k = and_shr (λ x. x xor right i x xor right j x) (two i j) k

code-linear : Linear code
unfolding code
code-linear =
    after product (λ x. x % 2 ^ 16)
    (after (λ x. q (g (f (e (y x))))) (rest 64)
    (after (λ x. g (f (e (y x)))) q
    (after (λ x. f (e (y x))) g (after (λ x. e (y x)) f (after y e y-linear (three 4 11 16)) (three 8 22 32)) (two 16 44))
    (and_shr (λ x. x) same 32))
    (rest-linear 64))
    (low 16)

code-after-block : (x : ℕ) → x < 2 ^ 64 → code x ≡ after_block 0 x
unfolding code crc_bit crc_step after_block
code-after-block = by-powers code (after_block 0) code-linear (λ x y. after-block-linear 0 0 x y) 64 tt

pub returns : goal.returns
unfolding code
returns c =
    let r = c.args.r in
    let b = c.args.block in
    let wide = c.from.result in
    let small : wide < 2 ^ 64 = omega (arith, c.from.ensures) in
    c.low_word.ensures ∙ code-after-block (b xor wide) (xor_lt 64 b wide c.ranges.block.fits small)
    ∙ ap (λ (n : ℕ). after_block 0 (b xor n)) c.from.ensures ∙ sym (into_block r b c.ranges.r.fits)
