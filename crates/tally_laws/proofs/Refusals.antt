-- What is answered of one recording more: the two causes in order, the second of them place by place.
use mathlib.Core.Path.{◌≡◌, refl, sym, ap, ◌∙◌}
use mathlib.Core.Bool.{Bool, true, false, cond}
use mathlib.Core.List.{List}
use Prim.Native.Nat.{ℕ}
use native.Mathlib.Omega.{arith}
use Rattle.base.specs.Limit.{too_long}
use Rattle.base.specs.Refusal.{wrong_length, unspecified, verdict}
use Rattle.base.proofs.Booleans.{by-test}
use Rattle.base.proofs.Refused.{answer-yes, answer-no}
use Rattle.tally_recording.specs.declared.Tally.{Tally}
use Rattle.tally_recording.specs.declared.Counted.{Counted}
use Rattle.tally_recording.specs.Numbers.{any_past}
use Rattle.tally_recording.specs.Tally.{tally_of}
use Rattle.tally_recording.specs.Replies.{counted, refused}
use Rattle.tally_counts.specs.Numbers.{Rows, numbers_of, plus}
use Rattle.tally_counts.specs.Adding.{add_causes, added_reply}
use Rattle.tally_recording.proofs.Rows.{none-past}
use Rattle.tally_counts.proofs.Answers.{rows_of}
use Rattle.tally_counts.proofs.Keeping.{added_number}
use Rattle.tally_laws.specs.Refusals.{number_at, Passes, Fits, SevenExactly, Agree, AddGivesAdded}
use Rattle.tally_laws.proofs.Rows.{past-place, places-fit, rows-plus, thirty, plus-at}
use Rattle.tally_laws.proofs.Adding.{accepted, accepts, added-sum, added-kept}

-- ---- a sum that is too large, by place

module _ (t u : Tally) (r : Rows t) (s : Rows u) where
  passes : any_past (numbers_of (plus t u)) ≡ true → Passes t u
  passes e =
      let p = past-place (numbers_of (plus t u)) e in
      record {
        place = p.place;
        there = omega (arith, p.there, thirty (plus t u) (rows-plus t u r s));
        past = omega (arith, p.past, plus-at t u p.place r s);
      }

  each_fits : any_past (numbers_of (plus t u)) ≡ false → Fits t u
  each_fits e i h = omega (arith, none-past (numbers_of (plus t u)) e i, plus-at t u i r s)

  all_fit : Fits t u → any_past (numbers_of (plus t u)) ≡ false
  all_fit f =
      places-fit (numbers_of (plus t u))
      (λ i l. omega (arith, f i (omega (arith, l, thirty (plus t u) (rows-plus t u r s))), plus-at t u i r s))

  some-past : Passes t u → any_past (numbers_of (plus t u)) ≡ true
  some-past p =
      by-test (any_past (numbers_of (plus t u)))
      (λ e. e)
      (λ e. absurd (omega (arith, p.past, each_fits e p.place p.there)))

-- ---- the answers

-- which of two causes gave the number
first_holds : (a b : Bool) → cond a wrong_length (cond b unspecified 0) ≡ wrong_length → a ≡ true
first_holds true b z = refl
first_holds false true z = absurd (omega arith)
first_holds false false z = absurd (omega arith)

second_holds : (a b : Bool) → cond a wrong_length (cond b unspecified 0) ≡ unspecified → (a ≡ false) × (b ≡ true)
second_holds true b z = absurd (omega arith)
second_holds false true z = (refl, refl)
second_holds false false z = absurd (omega arith)

pub seven-exactly : SevenExactly
seven-exactly t sync ws r =
    let u : Tally = tally_of sync ws in
    let past : Bool = any_past (numbers_of (plus t u)) in
    let s : Rows u = rows_of sync ws in
    record {
      one = (λ z. first_holds (too_long ws) past z, λ e. rw e);
      seven = (λ z. let b = second_holds (too_long ws) past z in (b.0, passes t u r s b.1), λ b. rw (b.0, some-past t u r s b.1));
      kept = λ z. added-kept t sync ws (λ n. omega arith);
      zero = (λ z. let b = accepted t sync ws z in (b.0, each_fits t u r s b.1), λ b. accepts t sync ws b.0 (all_fit t u r s b.1));
      sums = λ z i h. ap (λ (x : Tally). number_at x i) (added-sum t sync ws z) ∙ plus-at t u i r s;
    }

-- ---- the two calls

module _ (t : Tally) (sync : ℕ) (ws : List ℕ) where
  abbrev v : ℕ
  v = verdict (add_causes t sync ws)

  abbrev given : Counted
  given = counted 0 (plus t (tally_of sync ws))

  abbrev number : (added_reply t sync ws).refusal ≡ v
  number = added_number t sync ws (added_reply t sync ws) refl

  agree : Agree t sync ws
  unfolding added_reply
  agree = record {
    number = sym number;
    accepted = λ z. added-sum t sync ws (sym number ∙ z) ∙ sym (ap (λ (c : Counted). c.tally) (answer-yes v refused given (sym number ∙ z)));
    kept = λ n. added-kept t sync ws (λ z. n (number ∙ z));
    zeros = λ n. ap (λ (c : Counted). c.tally) (answer-no v refused given (λ z. n (number ∙ z)));
  }

pub add-gives-added : AddGivesAdded
add-gives-added = agree
