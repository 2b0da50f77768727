-- FORMAT, "The tally" and "Refusal numbers": what is answered of a tally with one recording more.
use Rattle.std.specs.Prelude.{ℕ, List, [], ◌∷◌, ◌++◌}
use Rattle.base.specs.Refusal.{Causes, unspecified, verdict, answer}
use Rattle.tally_recording.specs.declared.Tally.{Tally}
use Rattle.tally_recording.specs.declared.Counted.{Counted}
use Rattle.tally_recording.specs.Numbers.{any_past}
use Rattle.tally_recording.specs.Tally.{tally_of}
use Rattle.tally_recording.specs.Replies.{counted, refused, of_causes}
use Rattle.tally_counts.specs.Numbers.{numbers_of, plus}

-- what the recording alone is refused for; then 7 where one of the thirty sums passes the largest number
abbrev pub add_causes : Tally → ℕ → List ℕ → Causes
add_causes t sync ws = of_causes ws ++ (unspecified, any_past (numbers_of (plus t (tally_of sync ws)))) ∷ []

unfoldable pub added_reply : Tally → ℕ → List ℕ → Counted
added_reply t sync ws = answer (verdict (add_causes t sync ws)) refused (counted 0 (plus t (tally_of sync ws)))

-- the caller's tally afterwards: a refusal leaves it as it is
unfoldable pub added_tally : Tally → ℕ → List ℕ → Tally
added_tally t sync ws = answer (verdict (add_causes t sync ws)) (λ v. t) (plus t (tally_of sync ws))
