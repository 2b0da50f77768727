-- FORMAT, "The tally": rows of numbers.
use Rattle.std.specs.Prelude.{ℕ, zero, suc, ◌+◌, Bool, false, cond, ◌||◌, List, [], ◌∷◌, ltb}

-- how many of these pass the test
unfoldable pub how_often : {A : Type 0} → (A → Bool) → List A → ℕ
how_often test [] = 0
how_often test (x ∷ xs) = cond (test x) 1 0 + how_often test xs

-- a number for each of `from`, the one after it, and so on, n in all
unfoldable pub each : ℕ → ℕ → (ℕ → ℕ) → List ℕ
each from zero number = []
each from (suc n) number = number from ∷ each (suc from) n number

-- the sums, place by place
unfoldable pub sums : List ℕ → List ℕ → List ℕ
sums [] ns = []
sums (m ∷ ms) [] = []
sums (m ∷ ms) (n ∷ ns) = (m + n) ∷ sums ms ns

-- the largest number that a tally holds
abbrev pub largest : ℕ
largest = 4294967295

-- one of these passes it
unfoldable pub any_past : List ℕ → Bool
any_past [] = false
any_past (n ∷ ns) = ltb largest n || any_past ns
