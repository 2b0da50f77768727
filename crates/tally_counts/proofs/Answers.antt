-- The reply by its causes: the recording's own reply, then whether one of the thirty sums passes.
use mathlib.Core.Path.{◌≡◌, sym, ap, ap₂, ◌∙◌}
use mathlib.Core.Bool.{true, false}
use mathlib.Core.List.{List}
use Prim.Native.Nat.{ℕ}
use native.Mathlib.Omega.{arith}
use Rattle.base.proofs.Booleans.{by-test}
use Rattle.base.specs.Limit.{too_long}
use Rattle.base.specs.Refusal.{wrong_length, unspecified, answer}
use Rattle.tally_recording.specs.declared.Tally.{Tally}
use Rattle.tally_recording.specs.declared.Counted.{Counted}
use Rattle.tally_recording.specs.Numbers.{sums, any_past}
use Rattle.tally_recording.specs.Tally.{chunk_numbers, packet_numbers, unit_numbers, tally_of}
use Rattle.tally_recording.specs.Replies.{counted, refused, of_reply}
use Rattle.tally_recording.proofs.Rows.{each-length}
use Rattle.tally_recording.proofs.Answers.{of_refused, taken}
use Rattle.tally_counts.specs.Numbers.{Rows, numbers_of, plus, tally_from}
use Rattle.tally_counts.specs.Adding.{added_reply}
use Rattle.tally_counts.proofs.Thirty.{sums-numbers, tally-sums}

module _ (sync : ℕ) (ws : List ℕ) where
  pub rows_of : Rows (tally_of sync ws)
  unfolding tally_of chunk_numbers packet_numbers unit_numbers
  rows_of = record { five = each-length 0 5 _; fifteen = each-length 1 15 _; four = each-length 0 4 _ }

  module _ (t : Tally) (one : Counted) (e : one ≡ of_reply sync ws) where
    pub added-length : (one.refusal ≡ 0 → ⊥) → one ≡ added_reply t sync ws
    unfolding added_reply answer
    added-length h =
        by-test (too_long ws) (λ l. e ∙ sym (of_refused sync ws l) ∙ rw l)
        (λ l. absurd (h (ap (λ (x : Counted). x.refusal) (e ∙ sym (taken sync ws l)))))

    module _ (z : one.refusal ≡ 0) where
      short : too_long ws ≡ false
      short =
          by-test (too_long ws)
          (λ l. let x : one.refusal ≡ wrong_length = ap (λ (x : Counted). x.refusal) (e ∙ sym (of_refused sync ws l)) in absurd (omega (arith, x, z)))
          (λ l. l)

      counts : one.tally ≡ tally_of sync ws
      counts = ap (λ (x : Counted). x.tally) (e ∙ sym (taken sync ws short))

      module _ (r : Rows t) (old new : List ℕ) (f : old ≡ numbers_of t) (g : new ≡ numbers_of one.tally) where
        both : sums old new ≡ sums (numbers_of t) (numbers_of (tally_of sync ws))
        both = ap₂ sums f (g ∙ ap numbers_of counts)

        judged : any_past (sums old new) ≡ any_past (numbers_of (plus t (tally_of sync ws)))
        judged = ap any_past (both ∙ sums-numbers t (tally_of sync ws) r rows_of)

        pub added-past : any_past (sums old new) ≡ true → refused unspecified ≡ added_reply t sync ws
        unfolding added_reply answer
        added-past p = rw (short, sym judged ∙ p)

        pub added-sums : any_past (sums old new) ≡ false → (all : List ℕ) → all ≡ sums old new → (u : Tally) → u ≡ tally_from all → counted 0 u ≡ added_reply t sync ws
        unfolding added_reply answer
        added-sums p all k u j = rw (short, sym judged ∙ p) (ap (counted 0) (j ∙ ap tally_from (k ∙ both) ∙ tally-sums t (tally_of sync ws) r rows_of))
