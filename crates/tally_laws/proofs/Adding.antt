-- One recording more: it is accepted exactly where it is not too long and the sum fits, and then the tally afterwards is the sum; else the tally is as it was.
use mathlib.Core.Path.{◌≡◌, refl}
use mathlib.Core.Bool.{false}
use mathlib.Core.List.{List}
use Prim.Native.Nat.{ℕ}
use Rattle.base.specs.Limit.{too_long}
use Rattle.base.specs.Refusal.{verdict}
use Rattle.base.proofs.Refused.{spared, answer-yes, answer-no, answer-either}
use Rattle.tally_recording.specs.declared.Tally.{Tally}
use Rattle.tally_recording.specs.Numbers.{any_past}
use Rattle.tally_recording.specs.Tally.{tally_of}
use Rattle.tally_counts.specs.Numbers.{Rows, numbers_of, plus}
use Rattle.tally_counts.specs.Adding.{add_causes, added_tally}
use Rattle.tally_counts.proofs.Answers.{rows_of}
use Rattle.tally_laws.proofs.Rows.{rows-plus}

module _ (t : Tally) (sync : ℕ) (ws : List ℕ) where
  pub accepted : verdict (add_causes t sync ws) ≡ 0 → (too_long ws ≡ false) × (any_past (numbers_of (plus t (tally_of sync ws))) ≡ false)
  accepted z = let s = spared (add_causes t sync ws) refl z in (s.0, s.1.0)

  pub accepts : too_long ws ≡ false → any_past (numbers_of (plus t (tally_of sync ws))) ≡ false → verdict (add_causes t sync ws) ≡ 0
  accepts l p = rw (l, p)

  pub added-sum : verdict (add_causes t sync ws) ≡ 0 → added_tally t sync ws ≡ plus t (tally_of sync ws)
  unfolding added_tally
  added-sum z = answer-yes (verdict (add_causes t sync ws)) (λ v. t) (plus t (tally_of sync ws)) z

  pub added-kept : (verdict (add_causes t sync ws) ≡ 0 → ⊥) → added_tally t sync ws ≡ t
  unfolding added_tally
  added-kept n = answer-no (verdict (add_causes t sync ws)) (λ v. t) (plus t (tally_of sync ws)) n

  pub added-rows : Rows t → Rows (added_tally t sync ws)
  unfolding added_tally
  added-rows r = answer-either Rows (verdict (add_causes t sync ws)) (λ v. t) (plus t (tally_of sync ws)) r (λ z. rows-plus t (tally_of sync ws) r (rows_of sync ws))
