-- The call on the caller's tally, by the call on a value: its number is the reply's, and the tally afterwards is the reply's where that is 0, else the old.
use Prim.Native.Nat.{ℕ}
use mathlib.Core.Path.{◌≡◌, refl, sym, ap, ◌∙◌}
use mathlib.Core.Bool.{cond}
use mathlib.Core.List.{List}
use lib.Dec.{eqb}
use borrow.Author.Tests.{eq-eqb, ne_eqb}
use Rattle.base.specs.Refusal.{verdict, answer}
use Rattle.base.proofs.Booleans.{by-test}
use Rattle.base.proofs.Refused.{answer-number}
use Rattle.tally_recording.specs.declared.Tally.{Tally}
use Rattle.tally_recording.specs.declared.Counted.{Counted}
use Rattle.tally_recording.specs.Replies.{counted, refused}
use Rattle.tally_counts.specs.Adding.{add_causes, added_reply, added_tally}

module _ (t : Tally) (sync : ℕ) (ws : List ℕ) (next : Counted) (e : next ≡ added_reply t sync ws) where
  pub added_number : next.refusal ≡ verdict (add_causes t sync ws)
  unfolding added_reply
  added_number =
      ap (λ (c : Counted). c.refusal) e
      ∙ answer-number (λ (c : Counted). c.refusal) (verdict (add_causes t sync ws)) _ _ refl (λ z. refl)

  pub taken : next.refusal ≡ 0 → next.tally ≡ added_tally t sync ws
  unfolding added_reply added_tally answer
  taken z = ap (λ (c : Counted). c.tally) e ∙ rw (eq-eqb (verdict (add_causes t sync ws)) 0 (sym added_number ∙ z))

  pub left : (next.refusal ≡ 0 → ⊥) → t ≡ added_tally t sync ws
  unfolding added_tally answer
  left n = rw (ne_eqb (verdict (add_causes t sync ws)) 0 (λ z. n (added_number ∙ z)))

-- the tally that is kept: the new one where nothing was refused
abbrev pub kept : Tally → Counted → Tally
kept old next = cond (eqb next.refusal 0) next.tally old

kept-answer : (old new : Tally) (v : ℕ) → kept old (answer v refused (counted 0 new)) ≡ answer v (λ _. old) new
unfolding answer
kept-answer old new v = by-test (eqb v 0) (λ e. simp e) (λ e. simp e)

-- what is kept of the reply is the tally afterwards
pub kept-added : (t : Tally) (sync : ℕ) (ws : List ℕ) → kept t (added_reply t sync ws) ≡ added_tally t sync ws
unfolding added_reply added_tally
kept-added t sync ws = kept-answer t _ (verdict (add_causes t sync ws))
