-- FORMAT, "Frames": a payload splits into units of 264 words, the last one possibly shorter. Any list of words is split so: a last part of fewer than 9
-- words is no unit, and the unit judge refuses it with 1.
use Rattle.std.specs.Prelude.{ℕ, zero, suc, ◌+◌, ◌-◌, ◌*◌, ◌/◌, ◌%◌, Bool, false, ◌||◌, List, [], ◌∷◌, ◌++◌, length, take, drop, eqb}
use Rattle.base.specs.Size.{parity_width, data_width, unit_width}
use Rattle.base.specs.Refusal.{answer, wrong_parity}
use Rattle.parity.specs.Unit.{judge_verdict, unit_data}

-- these words in n parts of a whole unit's length, the last one possibly shorter
unfoldable pub parts : ℕ → List ℕ → List (List ℕ)
parts zero ws = []
parts (suc n) ws = take unit_width ws ∷ parts n (drop unit_width ws)

-- the units of a payload
abbrev pub units_in : List ℕ → List (List ℕ)
units_in p = parts ((length p + (unit_width - 1)) / unit_width) p

-- a unit among these that is refused with 6
unfoldable pub any_damaged : List (List ℕ) → Bool
any_damaged [] = false
any_damaged (u ∷ us) = eqb (judge_verdict u) wrong_parity || any_damaged us

-- the data of these units joined
unfoldable pub joined_data : List (List ℕ) → List ℕ
joined_data [] = []
joined_data (u ∷ us) = unit_data u ++ joined_data us

-- the data of a unit where it is accepted, else none; and those of these units joined
abbrev pub given : List ℕ → List ℕ
given u = answer (judge_verdict u) (λ v. []) (unit_data u)

unfoldable pub given_data : List (List ℕ) → List ℕ
given_data [] = []
given_data (u ∷ us) = given u ++ given_data us

-- how many data words these units have: a unit has its parity words, and data words else
unfoldable pub data_words : List (List ℕ) → ℕ
data_words [] = 0
data_words (u ∷ us) = (length u - parity_width) + data_words us

-- the data words of a payload of n words, by its length alone: those of each whole unit, and those of the last one
abbrev pub data_words_in : ℕ → ℕ
data_words_in n = n / unit_width * data_width + (n % unit_width - parity_width)
