-- The steps of the code, which goes row by row and not bit by bit: cited by the contracts of private functions alone. `proofs/ByRows.antt` shows that
-- they find the parity of `Parity`.
use Rattle.std.specs.Prelude.{List, [], ◌∷◌, ℕ, ◌+◌, ◌-◌, ◌*◌, ◌/◌, ◌%◌, ◌^◌, get_or}
use Rattle.std.specs.Int.Count.{ones}
use Rattle.base.specs.Xor.{◌xor◌}
use Rattle.base.specs.Number.{low_word}
use Rattle.parity_rows.specs.declared.Sums.{Sums}
use Rattle.parity_rows.specs.Parity.{xor_all, number, bit_from, row_parity, sums}

-- four words as one number, the first highest
unfoldable pub pack : ℕ → ℕ → ℕ → ℕ → ℕ
pack a b c d = ((a * 2 ^ 16 + b) * 2 ^ 16 + c) * 2 ^ 16 + d

-- the four words at a place, the first lowest, as they are loaded
abbrev pub loaded : List ℕ → ℕ → ℕ
loaded ws i = pack (get_or ws (i + 3) 0) (get_or ws (i + 2) 0) (get_or ws (i + 1) 0) (get_or ws i 0)

-- the four words of a number, the first highest
abbrev pub words_of : ℕ → List ℕ
words_of x = low_word (x / 2 ^ 48) ∷ low_word (x / 2 ^ 32) ∷ low_word (x / 2 ^ 16) ∷ low_word x ∷ []

-- four words the other way round
abbrev pub exchanged : ℕ → ℕ
exchanged x = pack (low_word x) (low_word (x / 2 ^ 16)) (low_word (x / 2 ^ 32)) (low_word (x / 2 ^ 48))

-- row r as one number
abbrev pub row_of : List ℕ → ℕ → ℕ
row_of d r = number 64 (bit_from d (4 * r))

-- the sums of the first n rows
abbrev pub sums_of : List ℕ → ℕ → Sums
sums_of d n = sums (number n (row_parity d) * 2 ^ (64 - n)) (xor_all n (row_of d))

-- the sums with row r, which is w as one number
abbrev pub one_more : Sums → ℕ → ℕ → Sums
one_more s w r = sums (s.rows xor ones w % 2 * 2 ^ (63 - r)) (s.columns xor w)
