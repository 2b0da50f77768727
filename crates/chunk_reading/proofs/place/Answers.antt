-- The answers for a place of a recording: what its verdict is, and where the chunk lies if nothing is refused.
use mathlib.Core.Path.{◌≡◌, refl, sym, ap, ap₂, ◌∙◌}
use mathlib.Core.Bool.{Bool, true, false, cond}
use mathlib.Core.List.{List, []}
use Prim.Native.Nat.{ℕ, ◌+◌, ◌-◌, ◌≤◌}
use native.Mathlib.Omega.{arith}
use lib.ListN.{length, get_or, take, drop, length-drop}
use lib.Seq.{get_or-drop, drop-drop}
use lib.Dec.{eqb}
use borrow.Author.Tests.{eqb-true, not-false}
use Rattle.base.proofs.Booleans.{and_right}
use Rattle.base.specs.Refusal.{verdict, answer}
use Rattle.base.proofs.Refused.{spared, answer-no, answer-yes}
use Rattle.chunk_reading.specs.declared.Heading.{Heading}
use Rattle.chunk.specs.Header.{size, confirmed, at_end}
use Rattle.chunk.specs.Reading.{left_at, listed_at}
use Rattle.chunk_reading.specs.Place.{at_causes, refused, heading_of, at_reply, payload_reply}
use Rattle.chunk.proofs.Headers.{confirmed-within, at-end}

module _ (sync : ℕ) (ws : List ℕ) (place : ℕ) where
  abbrev number : ℕ
  number = verdict (at_causes sync ws place)

  abbrev header : ℕ
  header = get_or ws (place + 1) 0

  header_at : get_or (drop place ws) 1 0 ≡ header
  header_at = get_or-drop place ws 1 0

  -- what is told where nothing is refused
  abbrev told : Heading
  told = heading_of (get_or (drop place ws) 1 0) (at_end (drop place ws))

  -- the number in the answer
  pub at_number : (at_reply sync ws place).refusal ≡ number
  unfolding answer
  at_number = by_cases (eqb number 0) refl
    where
      by_cases : (b : Bool) → eqb number 0 ≡ b → (cond b told (refused number)).refusal ≡ number
      by_cases true e = sym (eqb-true number 0 e)
      by_cases false e = refl

  -- a refused place: zeros, and no words
  pub refused_at : (number ≡ 0 → ⊥) → refused number ≡ at_reply sync ws place
  refused_at h = sym (answer-no number refused told h)

  pub refused_payload : (number ≡ 0 → ⊥) → [] ≡ payload_reply sync ws place
  refused_payload h = sym (answer-no number (λ v. []) (take (size (get_or (drop place ws) 1 0)) (drop 2 (drop place ws))) h)

  module _ (z : number ≡ 0) where
    -- a chunk stands there, within the recording
    pub accepted_within : place + 2 + size header ≤ length ws
    unfolding listed_at
    accepted_within =
        let l : listed_at sync ws place ≡ true = not-false _ (spared (at_causes sync ws place) refl z).1.0 in
        let b = confirmed-within sync (drop place ws) (and_right (eqb (left_at sync 0 ws place) 0) (confirmed sync (drop place ws)) l) in
        omega (arith, simp length-drop at b.0, ap size header_at)

    -- and it ends with the recording where the place past it is the recording's length
    pub accepted_at : (past : ℕ) → past ≡ place + 2 + size header → heading_of header (eqb past (length ws)) ≡ at_reply sync ws place
    accepted_at past e =
        sym (answer-yes number refused told z ∙ ap₂ heading_of header_at (at-end sync ws place past (omega (arith, accepted_within)) e))

    pub accepted_size : (at_reply sync ws place).size.0 ≡ size header
    accepted_size = sym (ap (λ (a : Heading). a.size.0) (accepted_at (place + 2 + size header) refl))

    pub accepted_payload : (from to : ℕ) → from ≡ place + 2 → to ≡ from + size header → take (to - from) (drop from ws) ≡ payload_reply sync ws place
    accepted_payload from to ef et =
        let n : to - from ≡ size header = omega arith in
        ap (λ (m : ℕ). take m (drop from ws)) n
        ∙ ap (take (size header)) (ap (λ (m : ℕ). drop m ws) ef ∙ sym (drop-drop 2 place ws))
        ∙ ap (λ (x : ℕ). take (size x) (drop 2 (drop place ws))) (sym header_at)
        ∙ sym (answer-yes number (λ v. []) (take (size (get_or (drop place ws) 1 0)) (drop 2 (drop place ws))) z)
