-- FORMAT, "The tally" and "Refusal numbers": when one recording more is refused, and what is answered.
use Rattle.std.specs.Prelude.{ℕ, ◌+◌, ◌≤◌, ◌<◌, ◌≡◌, true, false, List, get_or}
use Rattle.base.specs.Limit.{too_long}
use Rattle.base.specs.Refusal.{verdict}
use Rattle.chunk_laws.specs.Ends.{Exactly}
use Rattle.tally_recording.specs.declared.Tally.{Tally}
use Rattle.tally_recording.specs.Numbers.{largest}
use Rattle.tally_recording.specs.Tally.{tally_of, empty_tally}
use Rattle.tally_recording.specs.Replies.{of_reply}
use Rattle.tally_counts.specs.Numbers.{Rows, numbers_of}
use Rattle.tally_counts.specs.Adding.{add_causes, added_reply, added_tally}

-- number i of a tally, counted from 0
abbrev pub number_at : Tally → ℕ → ℕ
number_at t i = get_or (numbers_of t) i 0

-- at one of the thirty places the sum of two tallies' numbers passes the largest number that a tally holds
pub record Passes (t u : Tally) : Type 0 where
  pub place : ℕ
  pub there : place < 30
  pub past : largest < number_at t place + number_at u place

-- at none of them it does
abbrev pub Fits : Tally → Tally → Type 0
Fits t u = (i : ℕ) → i < 30 → number_at t i + number_at u i ≤ largest

-- The answer to one recording more, in each case.
pub record Answers (t : Tally) (sync : ℕ) (ws : List ℕ) : Type 0 where
  -- 1 exactly where the recording is too long
  pub one : Exactly (verdict (add_causes t sync ws) ≡ 1) (too_long ws ≡ true)
  -- 7 exactly where it is not, and some sum is too large; then the tally is as it was
  pub seven : Exactly (verdict (add_causes t sync ws) ≡ 7) ((too_long ws ≡ false) × Passes t (tally_of sync ws))
  pub kept : verdict (add_causes t sync ws) ≡ 7 → added_tally t sync ws ≡ t
  -- 0 exactly else; then each of the thirty numbers is the sum of the two
  pub zero : Exactly (verdict (add_causes t sync ws) ≡ 0) ((too_long ws ≡ false) × Fits t (tally_of sync ws))
  pub sums : verdict (add_causes t sync ws) ≡ 0 → (i : ℕ) → i < 30 → number_at (added_tally t sync ws) i ≡ number_at t i + number_at (tally_of sync ws) i

abbrev pub SevenExactly : Type 0
SevenExactly = (t : Tally) (sync : ℕ) (ws : List ℕ) → Rows t → Answers t sync ws

-- The two ways to add a recording agree: `added`, which answers with a new tally, and `add`, which changes the caller's.
pub record Agree (t : Tally) (sync : ℕ) (ws : List ℕ) : Type 0 where
  pub number : verdict (add_causes t sync ws) ≡ (added_reply t sync ws).refusal
  pub accepted : (added_reply t sync ws).refusal ≡ 0 → added_tally t sync ws ≡ (added_reply t sync ws).tally
  -- where it is refused `add` leaves the tally as it is, and `added` answers with zeros
  pub kept : ((added_reply t sync ws).refusal ≡ 0 → ⊥) → added_tally t sync ws ≡ t
  pub zeros : ((added_reply t sync ws).refusal ≡ 0 → ⊥) → (added_reply t sync ws).tally ≡ empty_tally

abbrev pub AddGivesAdded : Type 0
AddGivesAdded = (t : Tally) (sync : ℕ) (ws : List ℕ) → Agree t sync ws

-- A recording added to the tally of no recording gives its own tally.
abbrev pub FirstIsItself : Type 0
FirstIsItself = (sync : ℕ) (ws : List ℕ) → added_reply empty_tally sync ws ≡ of_reply sync ws
