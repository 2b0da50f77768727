-- FORMAT, "Parity units": the parity words of the data, taken as 64 rows of 64 bits.
use Rattle.std.specs.Prelude.{List, [], ◌∷◌, ℕ, zero, suc, ◌+◌, ◌-◌, ◌*◌, ◌/◌, ◌%◌, get_or}
use Rattle.base.specs.Xor.{◌xor◌}
use Rattle.base.specs.Number.{bit_of}
use Rattle.parity_rows.specs.declared.Sums.{Sums}

-- f 0 xor f 1 xor .. xor f (n - 1): of bits, 1 where an odd number of them are 1
unfoldable pub xor_all : ℕ → (ℕ → ℕ) → ℕ
xor_all zero f = 0
xor_all (suc n) f = xor_all n f xor f n

-- the number whose n binary digits are f 0, which is the top one, f 1, .., f (n - 1)
unfoldable pub number : ℕ → (ℕ → ℕ) → ℕ
number zero f = 0
number (suc n) f = number n f * 2 + f n

-- bit i of the words from word w on: it is in word w + i div 16, bit 15 minus (i mod 16); past the last word all is 0
unfoldable pub bit_from : List ℕ → ℕ → ℕ → ℕ
bit_from ws w i = bit_of (get_or ws (w + i / 16) 0) (15 - i % 16)

-- data words 4r to 4r+3 are row r, 64 bits, first bit the top bit of the first word; even parity
unfoldable pub row_parity : List ℕ → ℕ → ℕ
row_parity d r = xor_all 64 (λ c. bit_from d (4 * r) c)

-- column c has bit c of each of the 64 rows
unfoldable pub column_parity : List ℕ → ℕ → ℕ
column_parity d c = xor_all 64 (λ r. bit_from d (4 * r) c)

-- row r's parity is in parity word r div 16, bit 15 minus (r mod 16): so word j has rows 16j to 16j+15, the first in the top bit
unfoldable pub row_word : List ℕ → ℕ → ℕ
row_word d j = number 16 (λ i. row_parity d (16 * j + i))

-- column c's is in parity word 4 + c div 16, bit 15 minus (c mod 16)
unfoldable pub column_word : List ℕ → ℕ → ℕ
column_word d j = number 16 (λ i. column_parity d (16 * j + i))

unfoldable pub parity_words : List ℕ → List ℕ
parity_words d =
    row_word d 0 ∷ row_word d 1 ∷ row_word d 2 ∷ row_word d 3 ∷ column_word d 0 ∷ column_word d 1 ∷ column_word d 2 ∷ column_word d 3 ∷ []

-- ---- rows and columns at once: a number with a digit for each row and one with a digit for each column, the first highest

abbrev pub sums : ℕ → ℕ → Sums
sums x y = record { rows = x; columns = y }

-- the parity of the data's rows and columns
abbrev pub parities : List ℕ → Sums
parities d = sums (number 64 (row_parity d)) (number 64 (column_parity d))

-- the parity that a unit states: of the rows in the words from word 0 on, of the columns in those from word 4 on
abbrev pub stated_parity : List ℕ → Sums
stated_parity u = sums (number 64 (bit_from u 0)) (number 64 (bit_from u 4))
