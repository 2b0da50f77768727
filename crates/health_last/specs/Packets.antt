-- FORMAT, "Health packets": the last of some places where a test holds, and the mark of a packet that is found in a science recording.
use Rattle.std.specs.Prelude.{ℕ, Bool, false, cond, ◌&&◌, ◌||◌, Option, Some, None, List, [], ◌∷◌}
use Rattle.base.specs.declared.Words.{Words}
use Rattle.chunk.specs.declared.Entry.{Entry}
use Rattle.chunk.specs.Reading.{reading, within}

-- the place p lies in one of these chunks, and that chunk ends with the recording
unfoldable pub in_end : ℕ → List Entry → Bool
in_end p [] = false
in_end p (e ∷ es) = (e.end && within p e) || in_end p es

-- the mark of a packet of a science recording: the listed chunk in which it stands ends with the recording
unfoldable pub science_end : ℕ → List ℕ → Option Words → Bool
science_end sync ws (Some p) = in_end p.0 (reading sync ws)
science_end sync ws None = false

-- the place p was found; none was
abbrev pub found_at : ℕ → Option Words
found_at p = Some (record { 0 = p })

abbrev pub nowhere : Option Words
nowhere = None

-- the later of two, where it is there
abbrev pub later : {A : Type 0} → Option A → Option A → Option A
later (Some p) s = Some p
later None s = s

-- the last of these places where the test holds
unfoldable pub last_where : (ℕ → Bool) → List ℕ → Option Words
last_where holds [] = nowhere
last_where holds (p ∷ ps) = later (last_where holds ps) (cond (holds p) (found_at p) nowhere)
