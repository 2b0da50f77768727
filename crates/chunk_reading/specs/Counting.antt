-- FORMAT, "Chunks" and "Refusal numbers": what is counted of any words, and what is answered of a whole recording.
use Rattle.std.specs.Prelude.{ℕ, Bool, false, List, [], ◌∷◌, length}
use Rattle.base.specs.Limit.{too_long}
use Rattle.base.specs.Refusal.{Causes, wrong_length, verdict, answer}
use Rattle.chunk.specs.Reading.{reading, any_end, skipped}
use Rattle.chunk_reading.specs.declared.Counts.{Counts}
use Rattle.chunk_reading.specs.declared.Survey.{Survey}

abbrev pub counts : ℕ → ℕ → Bool → Counts
counts chunks words end = record { chunks = chunks; skipped = record { 0 = words }; end = end }

-- the chunks and the skipped words of any words, marked where a chunk ends with them
abbrev pub count_reply : ℕ → List ℕ → Counts
count_reply sync ws = counts (length (reading sync ws)) (skipped sync ws) (any_end (reading sync ws))

-- a recording has at most 32,768 words: a longer one is 1
abbrev pub survey_causes : List ℕ → Causes
survey_causes ws = (wrong_length, too_long ws) ∷ []

abbrev pub surveyed : ℕ → ℕ → ℕ → Bool → Survey
surveyed v chunks words end = record { refusal = v; chunks = chunks; skipped = record { 0 = words }; end = end }

-- a refusal has zeros and no mark
abbrev pub refused : ℕ → Survey
refused v = surveyed v 0 0 false

-- the number of chunks and of skipped words, marked where a chunk ends with the recording
abbrev pub survey_of : ℕ → List ℕ → Survey
survey_of sync ws = surveyed 0 (length (reading sync ws)) (skipped sync ws) (any_end (reading sync ws))

-- the survey of a recording
abbrev pub survey_reply : ℕ → List ℕ → Survey
survey_reply sync ws = answer (verdict (survey_causes ws)) refused (survey_of sync ws)
