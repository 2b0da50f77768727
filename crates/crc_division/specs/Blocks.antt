-- Four words at once: a block, as the code takes them.
use Rattle.std.specs.Prelude.{List, [], ◌∷◌, ℕ, ◌/◌, ◌^◌}
use Rattle.base.specs.Number.{low_word}
use Rattle.crc_division.specs.Crc.{crc_words}

-- the four words of a block, the first lowest
abbrev pub lanes : ℕ → List ℕ
lanes x = low_word x ∷ low_word (x / 2 ^ 16) ∷ low_word (x / 2 ^ 32) ∷ low_word (x / 2 ^ 48) ∷ []

-- the register after them
unfoldable pub after_block : ℕ → ℕ → ℕ
after_block r x = crc_words r (lanes x)
