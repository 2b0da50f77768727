-- FORMAT, "Comparing recordings": the chunks of two recordings in pairs, and what is told of each pair.
use Rattle.std.specs.Prelude.{ℕ, zero, suc, ◌+◌, true, false, Option, None, Some, List, [], ◌∷◌, map, take, drop, eqb}
use Rattle.base.specs.declared.Words.{Words}
use Rattle.chunk.specs.declared.Entry.{Entry}
use Rattle.chunk.specs.Header.{span}
use Rattle.chunk.specs.Reading.{reading}

-- a chunk's words in its recording: the sync word, the header word, the payload
abbrev pub chunk_words : List ℕ → Entry → List ℕ
chunk_words ws e = take (span e.header) (drop e.position.0 ws)

-- what is told of two rows of words: none where they are the same, else the first word that differs; here it is word n
abbrev pub differs : ℕ → Option Words
differs n = Some (record { 0 = n })

-- what is told of the words behind the first k, told of the whole: a word of theirs stands k words further
abbrev pub further : ℕ → Option Words → Option Words
further k None = None
further k (Some n) = differs (k + n.0)

-- The first word that differs, counted from 0; where one row is a prefix of the other, the shorter length.
unfoldable pub first_difference : List ℕ → List ℕ → Option Words
first_difference [] [] = None
first_difference [] (y ∷ ys) = differs 0
first_difference (x ∷ xs) [] = differs 0
first_difference (x ∷ xs) (y ∷ ys) = elim (eqb x y) [ true ↦ further 1 (first_difference xs ys) | false ↦ differs 0 ]

-- the number of each answer
abbrev pub pair_case : Option Words → ℕ
pair_case None = 0
pair_case (Some n) = 1

-- and its values: the word
abbrev pub pair_values : Option Words → List ℕ
pair_values None = []
pair_values (Some n) = n.0 ∷ []

-- The number that stands for an answer in the list: 0 for the same, else the word. Two listed chunks never differ at word 0, which has no number of its own.
abbrev pub pair_number : Option Words → ℕ
pair_number None = 0
pair_number (Some n) = n.0

-- The chunks of two lists in pairs, in order, until one list ends; what is told of each pair.
unfoldable pub paired : List ℕ → List ℕ → List Entry → List Entry → List (Option Words)
paired a b [] fs = []
paired a b (e ∷ es) [] = []
paired a b (e ∷ es) (f ∷ fs) = first_difference (chunk_words a e) (chunk_words b f) ∷ paired a b es fs

-- the pairs of two recordings with one sync word
abbrev pub pairs_of : ℕ → List ℕ → List ℕ → List (Option Words)
pairs_of sync a b = paired a b (reading sync a) (reading sync b)

-- what a number of the list says
abbrev pub pair_said : ℕ → Option Words
pair_said zero = None
pair_said (suc n) = differs (suc n)

-- the numbers of a row of answers
abbrev pub pair_numbers : List (Option Words) → List ℕ
pair_numbers = map pair_number
