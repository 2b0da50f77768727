-- FORMAT, "Chunks": the caller lends a register with one entry for each chunk.
use Rattle.std.specs.Prelude.{ℕ, List, [], ◌∷◌, ◌++◌, length, drop, ltb}
use Rattle.base.specs.Refusal.{Causes, no_room, verdict, answer}
use Rattle.chunk.specs.declared.Entry.{Entry}
use Rattle.chunk.specs.Reading.{reading}
use Rattle.chunk_reading.specs.declared.Survey.{Survey}
use Rattle.chunk_reading.specs.Counting.{survey_causes, refused, survey_of}

-- a register with fewer entries than there are chunks is 3, of a recording that can be read
abbrev pub list_causes : ℕ → List ℕ → ℕ → Causes
list_causes sync ws entries = survey_causes ws ++ (no_room, ltb entries (length (reading sync ws))) ∷ []

-- the reply for a register of so many entries: the number of chunks and of skipped words, marked where a chunk ends with the recording; a refusal has
-- zeros and no mark
unfoldable pub list_reply : ℕ → List ℕ → ℕ → Survey
list_reply sync ws entries = answer (verdict (list_causes sync ws entries)) refused (survey_of sync ws)

-- the entries in order at the front of the register; unused entries keep their contents
abbrev pub entered : List Entry → List Entry → List Entry
entered entries register = entries ++ drop (length entries) register

-- the register afterwards: an entry for each chunk; a refusal alters nothing
unfoldable pub list_room : ℕ → List ℕ → List Entry → List Entry
list_room sync ws register = answer (verdict (list_causes sync ws (length register))) (λ v. register) (entered (reading sync ws) register)
