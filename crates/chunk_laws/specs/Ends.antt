-- FORMAT, "Chunks": the three answers of the header check, and the mark of a chunk that ends with the recording.
use Rattle.std.specs.Prelude.{ℕ, ◌+◌, ◌≤◌, ◌≡◌, true, false, List, [], ◌∷◌, ◌++◌, length, get_or, drop, eqb}
use Rattle.chunk.specs.declared.Entry.{Entry}
use Rattle.chunk.specs.Header.{span, headed, confirmed, check_at, check_number}
use Rattle.chunk.specs.Reading.{reading}
use Rattle.chunk_laws.specs.Listed.{Among}

-- ---- three ways

-- one holds exactly where the other does
abbrev pub Exactly : Type 0 → Type 0 → Type 0
Exactly A B = (A → B) × (B → A)

-- the number of the header check's answer for a chunk at the front of these words
abbrev pub answered : ℕ → List ℕ → ℕ
answered sync ws = check_number (check_at sync ws)

pub record ThreeWays (sync : ℕ) (ws : List ℕ) : Type 0 where
  -- 0: no chunk is confirmed
  pub none : Exactly (answered sync ws ≡ 0) (confirmed sync ws ≡ false)
  -- 1: one is, and a legal header stands at its end
  pub followed : Exactly (answered sync ws ≡ 1) ((confirmed sync ws ≡ true) × (headed sync (drop (span (get_or ws 1 0)) ws) ≡ true))
  -- 2: one is, and it ends where the words end
  pub ending : Exactly (answered sync ws ≡ 2) ((confirmed sync ws ≡ true) × (span (get_or ws 1 0) ≡ length ws))
  -- there is no fourth
  pub most : answered sync ws ≤ 2

abbrev pub CheckedThreeWays : Type 0
CheckedThreeWays = (sync : ℕ) (ws : List ℕ) → ThreeWays sync ws

-- ---- the mark

pub record Marks (sync : ℕ) (ws : List ℕ) : Type 0 where
  -- it follows from the position, the header word and the recording's length
  pub follows : (e : Entry) → Among e (reading sync ws) → e.end ≡ eqb (e.position.0 + span e.header) (length ws)
  -- a chunk that has it is the last of the list, so at most one has it
  pub last : (before : List Entry) (e : Entry) (after : List Entry) → reading sync ws ≡ before ++ e ∷ after → e.end ≡ true → after ≡ []
  -- and no word stands after it, so none is skipped there
  pub nothing_after : (e : Entry) → Among e (reading sync ws) → e.end ≡ true → drop (e.position.0 + span e.header) ws ≡ []

abbrev pub MarkFollowsFromPlace : Type 0
MarkFollowsFromPlace = (sync : ℕ) (ws : List ℕ) → Marks sync ws
