-- FORMAT, "The tally" and "Refusal numbers": what is answered of one recording.
use Rattle.std.specs.Prelude.{ℕ, List, [], ◌∷◌}
use Rattle.base.specs.Limit.{too_long}
use Rattle.base.specs.Refusal.{Causes, wrong_length, verdict, answer}
use Rattle.tally_recording.specs.declared.Tally.{Tally}
use Rattle.tally_recording.specs.declared.Counted.{Counted}
use Rattle.tally_recording.specs.Tally.{tally_of, empty_tally}

abbrev pub counted : ℕ → Tally → Counted
counted v t = record { refusal = v; tally = t }

-- a refusal has zeros
abbrev pub refused : ℕ → Counted
refused v = counted v empty_tally

-- a recording above the limit is 1
abbrev pub of_causes : List ℕ → Causes
of_causes ws = (wrong_length, too_long ws) ∷ []

unfoldable pub of_reply : ℕ → List ℕ → Counted
of_reply sync ws = answer (verdict (of_causes ws)) refused (counted 0 (tally_of sync ws))
