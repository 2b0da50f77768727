-- For the private functions of `crc`, which hold a message as blocks: a block with its first word highest, as a number has its digits.
use Rattle.std.specs.Prelude.{List, [], ◌∷◌, ℕ, ◌/◌, ◌^◌}
use Rattle.base.specs.Number.{low_word}
use Rattle.crc_division.specs.Crc.{crc_words}

-- the four words of such a block
abbrev pub high_lanes : ℕ → List ℕ
high_lanes x = low_word (x / 2 ^ 48) ∷ low_word (x / 2 ^ 32) ∷ low_word (x / 2 ^ 16) ∷ low_word x ∷ []

-- the register after them
unfoldable pub after_high : ℕ → ℕ → ℕ
after_high r x = crc_words r (high_lanes x)
