-- FORMAT, "Health packets", types 4, 5 and 6: the mode of an observation is the one that its mode byte means.
use Rattle.std.specs.Prelude.{ℕ, ◌≤◌, ◌≡◌, true, List, get_or}
use Rattle.base.specs.Number.{high_byte}
use Rattle.health_observation.specs.declared.Mode.{Mode}
use Rattle.health_observation.specs.Observation.{mode_number, mode_has, mode_of, observation_reply}

pub record Modes : Type 0 where
  -- every value of the byte means a mode, and no value means two
  pub some : (b : ℕ) → mode_has (mode_of b) b ≡ true
  pub one : (m n : Mode) (b : ℕ) → mode_has m b ≡ true → mode_has n b ≡ true → m ≡ n
  -- a mode's number is the least value that means it
  pub number : (m : Mode) → mode_has m (mode_number m) ≡ true
  pub least : (m : Mode) (b : ℕ) → mode_has m b ≡ true → mode_number m ≤ b
  -- an observation that is accepted has the mode that the high byte of word 5 means
  pub accepted : (p : List ℕ) → (observation_reply p).refusal ≡ 0 → mode_has (observation_reply p).mode (high_byte (get_or p 5 0)) ≡ true
  -- one that is refused has the mode of number 0
  pub refused : (p : List ℕ) → ((observation_reply p).refusal ≡ 0 → ⊥) → mode_number (observation_reply p).mode ≡ 0
