-- A byte goes into the top of the register, and the shift loses nothing of it.
use Rattle.std.proofs.Common.{◌≡◌, ℕ, ◌*◌, ◌%◌, ap, ◌∙◌, arith}
use Rattle.base.specs.Xor.{◌xor◌}
use Rattle.crc.specs.Crc.{crc_bits, crc_step}
use Rattle.crc.proofs.next_byte.Goals as goal

pub returns : goal.returns
unfolding crc_step
returns c =
    let b : c.from.result * 256 % 65536 ≡ c.args.byte * 256 = omega (arith, c.ranges.byte.fits, c.from.ensures) in
    c.eight.ensures ∙ ap (λ (n : ℕ). crc_bits 8 (c.args.r xor n)) b
