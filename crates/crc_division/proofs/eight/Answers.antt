-- `crc_division::eight` meets its contract: the code and the eight bits are linear, and they agree on the powers of two.
use Prim.Native.Nat.{ℕ, ◌*◌, ◌/◌, ◌%◌, ◌^◌}
use Rattle.base.specs.Xor.{◌xor◌}
use Rattle.base.proofs.Linear.{Linear, shr, same, after}
use Rattle.crc_division.specs.Crc.{crc_bit, crc_bits}
use Rattle.crc_division.proofs.Linear.{bits-linear}
use Rattle.crc_division.proofs.Powers.{by-powers, and_shr, and-shl, rest, rest-linear}
use Rattle.crc_division.proofs.eight.Goals as goal

abbrev q : ℕ → ℕ
q r = r / 2 ^ 8 xor r / 2 ^ 8 / 2 ^ 4

q-linear : Linear q
q-linear = after (λ r. r / 2 ^ 8) (λ t. t xor t / 2 ^ 4) (shr 8) (and_shr (λ t. t) same 4)

pub returns : goal.returns
unfolding crc_bit
returns c =
    by-powers (λ r. rest 16 (q r) xor r * 2 ^ 8 % 2 ^ 16) (crc_bits 8)
    (and-shl (λ r. rest 16 (q r)) (after q (rest 16) q-linear (rest-linear 16)) 16 8) (bits-linear 8) 16 tt
    c.args.r c.ranges.r.fits
