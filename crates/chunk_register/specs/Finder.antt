-- For the contract of the finder, which is not public: one step of the reading.
use Rattle.std.specs.Prelude.{ℕ, false, List, Option, None, Some}
use Rattle.base.specs.declared.Words.{Words}
use Rattle.chunk.specs.declared.Entry.{Entry}
use Rattle.chunk.specs.Reading.{entry, next_from}
use Rattle.chunk_register.specs.declared.finder.Step.{Step}

-- the entry that was found and the place past its chunk; zeros and no mark where none was
unfoldable pub step_to : Option (Entry × Words) → Step
step_to (Some (e, next)) = record { entry = e; end = next }
step_to None = record { entry = entry 0 0 false; end = record { 0 = 0 } }

-- the next chunk at or after a place
unfoldable pub step_from : ℕ → List ℕ → ℕ → Step
step_from sync ws at = step_to (next_from sync ws at)
