-- FORMAT, "Parity units": what is answered of all units of a payload.
use Rattle.std.specs.Prelude.{ℕ, ◌+◌, Bool, false, cond, ◌||◌, List, [], ◌∷◌, ◌++◌, length, drop, leb, ltb, eqb}
use Rattle.base.specs.Size.{parity_width}
use Rattle.base_room.specs.Room.{put}
use Rattle.parity.specs.declared.Judged.{Judged}
use Rattle.parity.specs.Unit.{case_number, judge_reply}
use Rattle.parity_units.specs.declared.Outcomes.{Outcomes}
use Rattle.parity_units.specs.declared.Harm.{Harm}
use Rattle.parity_units.specs.Split.{units_in, any_damaged, given_data, data_words}

-- ---- the data of a payload at the place `at` of a room, as `taken` joins them

-- the words written, or none where the room has too few words for the data of all its units
abbrev pub taken_reply : (List (List ℕ) → List ℕ) → List ℕ → ℕ → ℕ → ℕ
taken_reply taken p at m = cond (leb (at + data_words (units_in p)) m) (length (taken (units_in p))) 0

-- the room after them: every other word as it was
abbrev pub taken_room : (List (List ℕ) → List ℕ) → List ℕ → ℕ → List ℕ → List ℕ
taken_room taken p at room = cond (leb (at + data_words (units_in p)) (length room)) (put (taken (units_in p)) at room) room

-- the data of the accepted units
unfoldable pub join_reply : List ℕ → ℕ → ℕ → ℕ
join_reply = taken_reply given_data

unfoldable pub join_room : List ℕ → ℕ → List ℕ → List ℕ
join_room = taken_room given_data

-- the words after the parity words of each unit, as they stand
unfoldable pub standing_data : List (List ℕ) → List ℕ
standing_data [] = []
standing_data (u ∷ us) = drop parity_width u ++ standing_data us

unfoldable pub copy_reply : List ℕ → ℕ → ℕ → ℕ
copy_reply = taken_reply standing_data

unfoldable pub copy_room : List ℕ → ℕ → List ℕ → List ℕ
copy_room = taken_room standing_data

-- ---- units by outcome

-- what becomes of a unit, by what the unit judge says of it: the number of its case, 0 sound, 1 a parity bit was hit, 2 a data bit was hit and is
-- repaired, or 3 where it is refused
abbrev pub outcome_of : Judged → ℕ
outcome_of r = cond (eqb r.refusal 0) (case_number r.case) 3

-- how many of these units have the outcome k
unfoldable pub how_many : ℕ → List (List ℕ) → ℕ
how_many k [] = 0
how_many k (u ∷ us) = cond (eqb (outcome_of (judge_reply u)) k) 1 0 + how_many k us

abbrev pub outcomes : List (List ℕ) → Outcomes
outcomes us = record { sound = how_many 0 us; hit = how_many 1 us; repaired = how_many 2 us; refused = how_many 3 us }

-- a unit among these whose data are not given as they stand: it is repaired or refused
unfoldable pub any_touched : List (List ℕ) → Bool
any_touched [] = false
any_touched (u ∷ us) = ltb 1 (outcome_of (judge_reply u)) || any_touched us

abbrev pub harm_to : List (List ℕ) → Harm
harm_to us = record { damaged = any_damaged us; touched = any_touched us }
