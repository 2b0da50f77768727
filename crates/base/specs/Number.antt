-- FORMAT, "Words, bytes and bits": the bytes and the bits of a word, each said once for all crates.
use Rattle.std.specs.Prelude.{ℕ, ◌+◌, ◌*◌, ◌/◌, ◌%◌, ◌^◌, Bool, eqb}

-- a word has its high byte first
abbrev pub word : ℕ → ℕ → ℕ
word high low = high * 256 + low

abbrev pub high_byte : ℕ → ℕ
high_byte w = w / 256

abbrev pub low_byte : ℕ → ℕ
low_byte w = w % 256

-- bit b of a word, where bit 15 is the most significant
abbrev pub bit_of : ℕ → ℕ → ℕ
bit_of w b = w / 2 ^ b % 2

-- it is 1
abbrev pub bit_set : ℕ → ℕ → Bool
bit_set w b = eqb (bit_of w b) 1

-- the low sixteen bits of a number
abbrev pub low_word : ℕ → ℕ
low_word n = n % 2 ^ 16
