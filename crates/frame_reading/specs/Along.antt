-- Chunks that stand end to end at the front of words, told by their header words alone: cited by functions that no other crate sees.
use Rattle.std.specs.Prelude.{ℕ, zero, suc, ◌+◌, List, [], ◌++◌, get_or, take, drop}
use Rattle.chunk.specs.Header.{header_width, size, span}
use Rattle.parity_units.specs.Split.{units_in}

-- the words of the first n chunks
unfoldable pub words_along : ℕ → List ℕ → ℕ
words_along zero ws = 0
words_along (suc n) ws = span (get_or ws 1 0) + words_along n (drop (span (get_or ws 1 0)) ws)

-- the units of the first n chunks
unfoldable pub units_along : ℕ → List ℕ → List (List ℕ)
units_along zero ws = []
units_along (suc n) ws = units_in (take (size (get_or ws 1 0)) (drop header_width ws)) ++ units_along n (drop (span (get_or ws 1 0)) ws)
