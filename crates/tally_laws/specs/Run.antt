-- FORMAT, "The tally": many recordings, one after the other.
use Rattle.std.specs.Prelude.{ℕ, ◌≡◌, true, false, List, [], ◌∷◌, eqb}
use Rattle.base.specs.Refusal.{verdict}
use Rattle.tally_recording.specs.declared.Tally.{Tally}
use Rattle.tally_recording.specs.Tally.{tally_of, empty_tally}
use Rattle.tally_counts.specs.Numbers.{Rows, plus}
use Rattle.tally_counts.specs.Adding.{add_causes, added_tally}

-- a recording: its own sync word, and its words
abbrev pub Recording : Type 0
Recording = ℕ × List ℕ

-- ---- one after the other

-- what the tally's `add` answers of one recording more
abbrev pub answered : Tally → Recording → ℕ
answered t r = verdict (add_causes t r.0 r.1)

-- the tally after it
abbrev pub after : Tally → Recording → Tally
after t r = added_tally t r.0 r.1

-- the tally after each of these recordings in turn
unfoldable pub run : Tally → List Recording → Tally
run t [] = t
run t (r ∷ rs) = run (after t r) rs

-- those of them that were not refused, as they come
unfoldable pub taken : Tally → List Recording → List Recording
taken t [] = []
taken t (r ∷ rs) = elim (eqb (answered t r) 0) [ true ↦ r ∷ taken (after t r) rs | false ↦ taken (after t r) rs ]

-- the tallies of these recordings, each by itself, added up
unfoldable pub sum_of : List Recording → Tally
sum_of [] = empty_tally
sum_of (r ∷ rs) = plus (tally_of r.0 r.1) (sum_of rs)

-- ---- the laws

-- A running tally is a sum: what it was, and the tally of each recording that was not refused.
pub record SumOfTaken (t : Tally) (rs : List Recording) : Type 0 where
  pub sum : run t rs ≡ plus t (sum_of (taken t rs))
  -- the refused ones change nothing: without them the tally is the same
  pub without : run t rs ≡ run t (taken t rs)

abbrev pub RunsAreSums : Type 0
RunsAreSums = (t : Tally) (rs : List Recording) → Rows t → SumOfTaken t rs

-- the same recordings in another order
pub data Shuffled : List Recording → List Recording → Type 0 where
  none : Shuffled [] []
  first : {rs rs' : List Recording} (r : Recording) → Shuffled rs rs' → Shuffled (r ∷ rs) (r ∷ rs')
  exchanged : (r s : Recording) (rs : List Recording) → Shuffled (r ∷ s ∷ rs) (s ∷ r ∷ rs)
  then : {rs rs' rs'' : List Recording} → Shuffled rs rs' → Shuffled rs' rs'' → Shuffled rs rs''

-- Where none is refused in one order, none is in another, and the tally afterwards is the same.
abbrev pub OrderDoesNotMatter : Type 0
OrderDoesNotMatter =
    (t : Tally) (rs rs' : List Recording) → Rows t → taken t rs ≡ rs → Shuffled rs rs' → (taken t rs' ≡ rs') × (run t rs ≡ run t rs')
