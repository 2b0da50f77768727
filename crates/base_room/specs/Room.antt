-- FORMAT, "Refusal numbers": accepted writes touch only the words of the result. One rule for words and for bytes.
use Rattle.std.specs.Prelude.{ℕ, ◌+◌, cond, List, ◌++◌, length, take, drop, leb}

-- the room with `s` at the place `at` and every other element as it was; the room as it was where `s` does not fit
unfoldable pub put : {A : Type 0} → List A → ℕ → List A → List A
put s at d = cond (leb (at + length s) (length d)) (take at d ++ s ++ drop (at + length s) d) d
