-- FORMAT, "Comparing recordings": the first word that differs, of any two rows of words.
use Rattle.std.specs.Prelude.{ℕ, ◌<◌, ◌≡◌, true, List, [], ◌∷◌, ◌⊎◌, length, get_or, take, Option, None}
use Rattle.chunk_laws.specs.Ends.{Exactly}
use Rattle.reel.specs.Reading.{same_words}
use Rattle.base.specs.declared.Words.{Words}
use Rattle.chunk_compare.specs.Pairs.{differs, first_difference, pair_case, pair_values}

-- both rows have a word n, and the two words differ
abbrev pub DifferAt : ℕ → List ℕ → List ℕ → Type 0
DifferAt n xs ys = (n < length xs) × (n < length ys) × (get_or xs n 0 ≡ get_or ys n 0 → ⊥)

-- the first row ends before its word n, and the second has one
abbrev pub EndsAt : ℕ → List ℕ → List ℕ → Type 0
EndsAt n xs ys = (length xs ≡ n) × (n < length ys)

-- Two rows part at word n: the first n words agree, and then two words differ or exactly one row ends.
abbrev pub PartAt : ℕ → List ℕ → List ℕ → Type 0
PartAt n xs ys = (take n xs ≡ take n ys) × (DifferAt n xs ys ⊎ (EndsAt n xs ys ⊎ EndsAt n ys xs))

-- what an answer is, by its number and values: the same has 0 and none, a word has 1 and the word
abbrev pub IsSame : Option Words → Type 0
IsSame p = (pair_case p ≡ 0) × (pair_values p ≡ [])

abbrev pub IsWord : ℕ → Option Words → Type 0
IsWord n p = (pair_case p ≡ 1) × (pair_values p ≡ n ∷ [])

-- The answer is the truth: the same exactly where the rows are equal, and word n exactly where they part there, word 0 too. Said of the answer, and of its
-- number and values.
pub record TrueOf (xs ys : List ℕ) : Type 0 where
  pub same : Exactly (first_difference xs ys ≡ None) (xs ≡ ys)
  pub parts : (n : ℕ) → Exactly (first_difference xs ys ≡ differs n) (PartAt n xs ys)
  pub same_by_number : Exactly (IsSame (first_difference xs ys)) (xs ≡ ys)
  pub parts_by_number : (n : ℕ) → Exactly (IsWord n (first_difference xs ys)) (PartAt n xs ys)

abbrev pub WordsAreTrue : Type 0
WordsAreTrue = (xs ys : List ℕ) → TrueOf xs ys

-- Which row comes first does not matter.
abbrev pub WordsExchanged : Type 0
WordsExchanged = (xs ys : List ℕ) → first_difference ys xs ≡ first_difference xs ys

-- The reel's comparison, which only tells whether two rows have the same words, says yes exactly where this one answers that they are the same.
abbrev pub SameWordsAreSame : Type 0
SameWordsAreSame = (xs ys : List ℕ) → Exactly (same_words xs ys ≡ true) (first_difference xs ys ≡ None)
