-- FORMAT, "Chunks": the outline is the number of runs of each kind.
use Rattle.std.specs.Prelude.{ℕ, List, [], ◌∷◌}
use Rattle.base.specs.Limit.{too_long}
use Rattle.base.specs.Refusal.{Causes, wrong_length, verdict, answer}
use Rattle.chunk.specs.Reading.{reading}
use Rattle.chunk_outline.specs.declared.Runs.{Runs}
use Rattle.chunk_outline.specs.Runs.{runs, count_kind}

-- a recording above the limit is 1
abbrev pub outline_causes : List ℕ → Causes
outline_causes ws = (wrong_length, too_long ws) ∷ []

abbrev pub counted : ℕ → ℕ → ℕ → Runs
counted v image health = record { refusal = v; image = image; health = health }

-- a refusal has zeros
abbrev pub refused : ℕ → Runs
refused v = counted v 0 0

-- the image runs (kind 0) and the health runs (kind 1) of the listed chunks
unfoldable pub outline_reply : ℕ → List ℕ → Runs
outline_reply sync ws =
    answer (verdict (outline_causes ws)) refused (counted 0 (count_kind 0 (runs (reading sync ws))) (count_kind 1 (runs (reading sync ws))))
