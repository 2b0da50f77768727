-- FORMAT, "CRC": polynomial 1021h, most significant bit first, register start FFFFh, no final change.
use mathlib.Core.List.{List, [], ◌∷◌, foldl}
use Rattle.std.specs.Prelude.{ℕ, zero, suc, ◌*◌, ◌-◌, ◌^◌}
use Rattle.base.specs.Number.{high_byte, low_byte, bit_of, low_word}
use Rattle.base.specs.Xor.{◌xor◌}

-- the register at the start
abbrev pub crc_start : ℕ
crc_start = 0xFFFF

-- x^16 + x^12 + x^5 + 1, without its top bit
abbrev pub crc_polynomial : ℕ
crc_polynomial = 0x1021

-- one bit: the register moves left by one, and where bit 15 was set the polynomial is exclusive-ored in
unfoldable pub crc_bit : ℕ → ℕ
crc_bit r = (bit_of r 15 * crc_polynomial) xor low_word (r * 2)

-- n bits
abbrev pub crc_bits : ℕ → ℕ → ℕ
crc_bits zero r = r
crc_bits (suc n) r = crc_bit (crc_bits n r)

-- one element of `width` bits, 16 for a word and 8 for a byte: it is exclusive-ored into the top of the register, and its bits go by
unfoldable pub crc_step : ℕ → ℕ → ℕ → ℕ
crc_step width r x = crc_bits width (r xor x * 2 ^ (16 - width))

-- a message: one element after the other, from the register r
abbrev pub crc_over : ℕ → ℕ → List ℕ → ℕ
crc_over width r m = foldl (crc_step width) r m

abbrev pub crc_words : ℕ → List ℕ → ℕ
crc_words = crc_over 16

abbrev pub crc_bytes : ℕ → List ℕ → ℕ
crc_bytes = crc_over 8

-- the bytes of a message of words, the high byte of each first
abbrev pub bytes_of : List ℕ → List ℕ
bytes_of [] = []
bytes_of (w ∷ m) = high_byte w ∷ low_byte w ∷ bytes_of m
