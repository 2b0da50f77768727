-- Exclusive-or of numbers, bit by bit, as the code's `^` has it.
use Rattle.std.specs.Prelude.{ℕ}
use Rattle.std.specs.Int.Bits.{bit_xor}

abbrev pub ◌xor◌ : ℕ → ℕ → ℕ
◌xor◌ = bit_xor

infixl 60 ◌xor◌
