-- FORMAT, "Chunks": words inside no listed chunk are skipped. The same count, read off the list.
use Rattle.std.specs.Prelude.{ℕ, zero, suc, ◌+◌, ◌≤◌, ◌≡◌, Bool, false, cond, ◌||◌, List, [], ◌∷◌, length}
use Rattle.base.specs.Limit.{recording_limit}
use Rattle.chunk.specs.declared.Entry.{Entry}
use Rattle.chunk.specs.Reading.{reading, skipped, listed_words, within}
use Rattle.chunk_reading.specs.Counting.{survey_reply}

-- the place p lies inside a chunk of the list
unfoldable pub covered : List Entry → ℕ → Bool
covered [] p = false
covered (e ∷ es) p = within p e || covered es p

-- of the n places from `at` on, those that fail the test
abbrev pub failing : (ℕ → Bool) → ℕ → ℕ → ℕ
failing f at zero = 0
failing f at (suc n) = cond (f at) 0 1 + failing f (suc at) n

-- how many of the first n places lie inside no chunk of the list
abbrev pub outside : List Entry → ℕ → ℕ
outside es n = failing (covered es) 0 n

-- The skipped words are those in no listed chunk, by place.
pub record Skipped (sync : ℕ) (ws : List ℕ) : Type 0 where
  pub by_place : skipped sync ws ≡ outside (reading sync ws) (length ws)
  -- with the words of the listed chunks they are all
  pub accounts : listed_words (reading sync ws) + skipped sync ws ≡ length ws
  -- and the survey of a recording within the limit answers their number
  pub surveyed : length ws ≤ recording_limit → (survey_reply sync ws).skipped.0 ≡ outside (reading sync ws) (length ws)

abbrev pub SkippedByPlace : Type 0
SkippedByPlace = (sync : ℕ) (ws : List ℕ) → Skipped sync ws
