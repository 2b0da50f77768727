-- The reply and the register afterwards, in their two cases: refused, or one entry for each chunk.
use mathlib.Core.Path.{◌≡◌, refl}
use mathlib.Core.Bool.{Bool, true, false, cond}
use mathlib.Core.List.{List}
use Prim.Native.Nat.{ℕ, ◌≤◌, ◌<◌}
use native.Mathlib.Omega.{arith}
use lib.ListN.{length}
use lib.Dec.{eqb}
use borrow.Author.Tests.{eqb-true, ltb-false, lt-ltb, le-ltb}
use Rattle.base.specs.Limit.{too_long}
use Rattle.base.specs.Refusal.{no_room, verdict, answer}
use Rattle.base.proofs.Refused.{spared}
use Rattle.chunk.specs.declared.Entry.{Entry}
use Rattle.chunk.specs.Reading.{reading}
use Rattle.chunk_reading.specs.declared.Survey.{Survey}
use Rattle.chunk_reading.specs.Counting.{refused, survey_of, survey_reply}
use Rattle.chunk_register.specs.Register.{list_causes, list_reply, entered, list_room}

module _ (sync : ℕ) (ws : List ℕ) where
  -- what holds of a refusal, whatever its number, and of the full list holds
  pub refused-or-listed : (register : List Entry) (P : Survey → List Entry → Type 0)
      → ((v : ℕ) → P (refused v) register)
      → (length (reading sync ws) ≤ length register → P (survey_of sync ws) (entered (reading sync ws) register))
      → P (list_reply sync ws (length register)) (list_room sync ws register)
  unfolding list_reply list_room answer
  refused-or-listed register P none all = by-verdict (eqb number 0) refl
    where
      number : ℕ
      number = verdict (list_causes sync ws (length register))

      by-verdict : (b : Bool) → eqb number 0 ≡ b
          → P (cond b (survey_of sync ws) (refused number)) (cond b (entered (reading sync ws) register) register)
      by-verdict true e = all (ltb-false _ _ (spared (list_causes sync ws (length register)) refl (eqb-true number 0 e)).1.0)
      by-verdict false e = none number

  module _ (entries : ℕ) where
    -- the survey of a recording that is too long counts no chunks
    pub too_few_refused : entries < (survey_reply sync ws).chunks → refused no_room ≡ list_reply sync ws entries
    unfolding list_reply answer
    too_few_refused h = by_length (too_long ws) refl
      where
        by_length : (b : Bool) → too_long ws ≡ b → refused no_room ≡ list_reply sync ws entries
        by_length true e = let z : entries < 0 = rw e at h in absurd (omega arith)
        by_length false e = rw (e, lt-ltb entries (length (reading sync ws)) (rw e at h))

    pub enough_surveyed : (survey_reply sync ws).chunks ≤ entries → survey_reply sync ws ≡ list_reply sync ws entries
    unfolding list_reply answer
    enough_surveyed h = by_length (too_long ws) refl
      where
        by_length : (b : Bool) → too_long ws ≡ b → survey_reply sync ws ≡ list_reply sync ws entries
        by_length true e = rw e
        by_length false e = rw (e, le-ltb entries (length (reading sync ws)) (rw e at h))
