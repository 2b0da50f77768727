-- FORMAT, "Chunks": what the header check and the search answer, by the numbers and values of their answers.
use Rattle.std.specs.Prelude.{ℕ, suc, ◌+◌, ◌<◌, ◌≡◌, true, cond, List, [], ◌∷◌, length, get_or, drop}
use Rattle.chunk.specs.declared.Entry.{Entry}
use Rattle.chunk.specs.Header.{span, legal}
use Rattle.chunk.specs.Reading.{listed, next_from, found_number, found_values}
use Rattle.chunk_laws.specs.Ends.{answered}

-- ---- the header check

-- a legal header stands at the place p: the sync word, and a legal header word after it
abbrev pub HeaderAt : ℕ → List ℕ → ℕ → Type 0
HeaderAt sync ws p = (suc p < length ws) × (get_or ws p 0 ≡ sync) × (legal (get_or ws (suc p) 0) ≡ true)

-- and where the chunk that it heads ends, another legal header stands
abbrev pub FollowedAt : ℕ → List ℕ → ℕ → Type 0
FollowedAt sync ws p = HeaderAt sync ws p × HeaderAt sync ws (p + span (get_or ws (suc p) 0))

-- or the recording ends
abbrev pub EndingAt : ℕ → List ℕ → ℕ → Type 0
EndingAt sync ws p = HeaderAt sync ws p × (p + span (get_or ws (suc p) 0) ≡ length ws)

-- the number of the header check's answer at the place p
abbrev pub checked : ℕ → List ℕ → ℕ → ℕ
checked sync ws p = answered sync (drop p ws)

-- The header check answers 1 exactly where the words are the one, 2 exactly where they are the other, and 0 elsewhere.
pub record ChecksWords (sync : ℕ) (ws : List ℕ) (p : ℕ) : Type 0 where
  pub followed : FollowedAt sync ws p → checked sync ws p ≡ 1
  pub only_followed : checked sync ws p ≡ 1 → FollowedAt sync ws p
  pub ending : EndingAt sync ws p → checked sync ws p ≡ 2
  pub only_ending : checked sync ws p ≡ 2 → EndingAt sync ws p
  pub elsewhere : (FollowedAt sync ws p → ⊥) → (EndingAt sync ws p → ⊥) → checked sync ws p ≡ 0

abbrev pub CheckTells : Type 0
CheckTells = (sync : ℕ) (ws : List ℕ) (p : ℕ) → ChecksWords sync ws p

-- ---- the search

-- 1 for a list that has a first entry, and 0 for an empty one
abbrev pub first_number : List Entry → ℕ
first_number [] = 0
first_number (e ∷ es) = 1

-- the first entry's position, its header word, its mark as 1 or 0, and the place past its chunk
abbrev pub first_values : List Entry → List ℕ
first_values [] = []
first_values (e ∷ es) = e.position.0 ∷ e.header ∷ cond e.end 1 0 ∷ (e.position.0 + span e.header) ∷ []

-- The search from a place finds the first chunk that is listed when reading starts there.
pub record FindsFirst (sync : ℕ) (ws : List ℕ) (p : ℕ) : Type 0 where
  pub number : found_number (next_from sync ws p) ≡ first_number (listed sync p 0 (drop p ws))
  pub values : found_values (next_from sync ws p) ≡ first_values (listed sync p 0 (drop p ws))

abbrev pub SearchTells : Type 0
SearchTells = (sync : ℕ) (ws : List ℕ) (p : ℕ) → FindsFirst sync ws p
