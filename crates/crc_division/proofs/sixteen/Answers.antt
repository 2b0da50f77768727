-- `crc_division::sixteen` meets its contract: the code and the sixteen bits are linear, and they agree on the powers of two.
use Prim.Native.Nat.{ℕ, ◌/◌, ◌^◌}
use Rattle.base.specs.Xor.{◌xor◌}
use Rattle.base.proofs.Linear.{Linear, same, after}
use Rattle.crc_division.specs.Crc.{crc_bit, crc_bits}
use Rattle.crc_division.proofs.Linear.{bits-linear}
use Rattle.crc_division.proofs.Powers.{by-powers, and_shr, rest, rest-linear}
use Rattle.crc_division.proofs.sixteen.Goals as goal

abbrev a : ℕ → ℕ
a r = r xor r / 2 ^ 4

abbrev q : ℕ → ℕ
q r = a r xor a r / 2 ^ 8 xor r / 2 ^ 11

q-linear : Linear q
q-linear = and_shr (λ r. a r xor a r / 2 ^ 8) (after a (λ n. n xor n / 2 ^ 8) (and_shr (λ r. r) same 4) (and_shr (λ n. n) same 8)) 11

pub returns : goal.returns
unfolding crc_bit
returns c =
    by-powers (λ r. rest 16 (q r)) (crc_bits 16) (after q (rest 16) q-linear (rest-linear 16)) (bits-linear 16) 16 tt
    c.args.r c.ranges.r.fits
