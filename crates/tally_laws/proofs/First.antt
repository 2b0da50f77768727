-- The first recording of a tally. Its sum with no recording is its own tally, of which no number passes the largest: so the second cause never holds.
use mathlib.Core.Path.{◌≡◌, refl, ap, ap₂, ◌∙◌}
use mathlib.Core.Bool.{Bool, true, false, cond}
use mathlib.Core.List.{List}
use Prim.Native.Nat.{ℕ}
use Rattle.base.specs.Limit.{too_long}
use Rattle.base.specs.Refusal.{wrong_length, unspecified, verdict, answer}
use Rattle.tally_recording.specs.declared.Tally.{Tally}
use Rattle.tally_recording.specs.Numbers.{any_past}
use Rattle.tally_recording.specs.Tally.{tally_of, empty_tally}
use Rattle.tally_recording.specs.Replies.{counted, refused, of_causes, of_reply}
use Rattle.tally_counts.specs.Numbers.{numbers_of, plus}
use Rattle.tally_counts.specs.Adding.{add_causes, added_reply}
use Rattle.tally_counts.proofs.Answers.{rows_of}
use Rattle.tally_laws.specs.Refusals.{FirstIsItself}
use Rattle.tally_laws.proofs.Rows.{plus_comm, plus-empty}
use Rattle.tally_laws.proofs.Bound.{fits}

module _ (sync : ℕ) (ws : List ℕ) where
  own-sum : plus empty_tally (tally_of sync ws) ≡ tally_of sync ws
  own-sum = plus_comm empty_tally (tally_of sync ws) ∙ plus-empty (tally_of sync ws) (rows_of sync ws)

  same-verdict : verdict (add_causes empty_tally sync ws) ≡ verdict (of_causes ws)
  same-verdict = ap (λ (t : Tally). cond (too_long ws) wrong_length (cond (any_past (numbers_of t)) unspecified 0)) own-sum ∙ by_length (too_long ws) (fits sync ws)
    where
      by_length : (b : Bool) → (b ≡ false → any_past (numbers_of (tally_of sync ws)) ≡ false)
          → cond b wrong_length (cond (any_past (numbers_of (tally_of sync ws))) unspecified 0) ≡ cond b wrong_length 0
      by_length true f = refl
      by_length false f = rw (f refl)

pub first-is-itself : FirstIsItself
unfolding added_reply of_reply
first-is-itself sync ws = ap₂ (λ (v : ℕ) (t : Tally). answer v refused (counted 0 t)) (same-verdict sync ws) (own-sum sync ws)
