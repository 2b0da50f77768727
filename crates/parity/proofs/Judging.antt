-- The judge's reply, from what is found of the unit; and from that the checker's.
use mathlib.Core.Path.{◌≡◌, refl, sym, ap, ◌∙◌}
use mathlib.Core.Bool.{Bool, true, false, cond, not, ◌&&◌, false≢true}
use mathlib.Core.List.{List, [], ◌∷◌}
use mathlib.Core.Logic.{◌⊎◌, inl, inr}
use Prim.Native.Nat.{ℕ, ◌-◌, ◌<◌, ◌≤◌}
use native.Mathlib.Omega.{arith}
use lib.Dec.{leb, ltb}
use lib.Count.{ones, count_leading_zeros}
use lib.ListN.{length, drop}
use borrow.Author.Tests.{leb-true, le-leb, lt-leb, le-ltb, lt-ltb}
use Rattle.base.specs.Xor.{◌xor◌}
use Rattle.base.proofs.Refused.{spared, verdict-kept, verdict-further, answer-no, answer-yes, answer-number}
use Rattle.base.specs.Refusal.{Causes, answer, wrong_length, wrong_parity, no_room}
use Rattle.parity_rows.specs.declared.Sums.{Sums}
use Rattle.parity_rows.specs.Parity.{parities, stated_parity}
use Rattle.parity.specs.declared.Judged.{Judged}
use Rattle.parity.specs.Unit.{Finding, sound, parity_bit, data_bit, neither, five_cases, finding, is_neither, named, refused, not_unit, judge_causes, judge_verdict, judge_reply, check_causes, check_verdict, check_reply}
use Rattle.parity.proofs.Cases.{cases-find}

-- a length between two limits
pub between : (a b n : ℕ) → not (leb a n && leb n b) ≡ false → (a ≤ n) × (n ≤ b)
between a b n e = by_tests (leb a n) (leb n b) refl refl e
  where
    by_tests : (s t : Bool) → leb a n ≡ s → leb n b ≡ t → not (s && t) ≡ false → (a ≤ n) × (n ≤ b)
    by_tests true true p q h = (leb-true a n p, leb-true n b q)
    by_tests true false p q h = absurd (false≢true (sym h))
    by_tests false t p q h = absurd (false≢true (sym h))

-- ---- the judge

not-unit : (n : ℕ) → (n < 9) ⊎ (264 < n) → not_unit n ≡ true
not-unit n (inl h) = rw (lt-leb 9 n h)
not-unit n (inr h) = by-start (leb 9 n)
  where
    by-start : (s : Bool) → not (s && leb n 264) ≡ true
    by-start true = rw (lt-leb n 264 h)
    by-start false = refl

pub wrong-length : (u : List ℕ) → (length u < 9) ⊎ (264 < length u) → refused wrong_length ≡ judge_reply u
unfolding judge_reply judge_verdict answer
wrong-length u h = simp (not-unit (length u) h)

pub judgement : (u : List ℕ) → not_unit (length u) ≡ false → named (finding u) (length u - 8) ≡ judge_reply u
unfolding judge_reply judge_verdict answer
judgement u h = simp h (by-finding (finding u))
  where
    by-finding : (f : Finding) → named f (length u - 8) ≡ answer (cond (is_neither f) wrong_parity 0) refused (named f (length u - 8))
    by-finding sound = refl
    by-finding (parity_bit w b) = refl
    by-finding (data_bit w b) = refl
    by-finding neither = refl

-- from the parity that the unit states and that of its data
pub judged-by : (u : List ℕ) (s p : Sums) (r : Judged) → 9 ≤ length u → length u ≤ 264 → s ≡ stated_parity u → p ≡ parities (drop 8 u)
    → r ≡ named (five_cases (ones (s.rows xor p.rows)) (ones (s.columns xor p.columns)) (count_leading_zeros 64 (s.rows xor p.rows)) (count_leading_zeros 64 (s.columns xor p.columns)) (length u - 8)) (length u - 8)
    → r ≡ judge_reply u
judged-by u s p r least most e f q =
    q ∙ ap (λ (x : Finding). named x (length u - 8)) (cases-find u s p e f) ∙ judgement u (rw (le-leb 9 (length u) least, le-leb (length u) 264 most))

-- ---- the number in a reply

-- of a finding that is not refused
module _ (k : ℕ) where
  named-refusal : (f : Finding) → is_neither f ≡ false → (named f k).refusal ≡ 0
  named-refusal sound e = refl
  named-refusal (parity_bit w b) e = refl
  named-refusal (data_bit w b) e = refl
  named-refusal neither e = absurd (false≢true (sym e))

  pub named-length : (f : Finding) → is_neither f ≡ false → (named f k).length.0 ≡ k
  named-length sound e = refl
  named-length (parity_bit w b) e = refl
  named-length (data_bit w b) e = refl
  named-length neither e = absurd (false≢true (sym e))

number_in : (v : ℕ) (f : Finding) (k : ℕ) → (v ≡ 0 → is_neither f ≡ false) → (answer v refused (named f k)).refusal ≡ v
number_in v f k h = answer-number (λ (j : Judged). j.refusal) v refused (named f k) refl (λ z. named-refusal k f (h z))

pub judge-finds : (u : List ℕ) → judge_verdict u ≡ 0 → is_neither (finding u) ≡ false
unfolding judge_verdict
judge-finds u z = (spared (judge_causes u) refl z).1.0

check-finds : (u : List ℕ) (m : ℕ) → check_verdict u m ≡ 0 → is_neither (finding u) ≡ false
unfolding check_verdict
check-finds u m z = (spared (check_causes u m) refl z).1.0

pub judged-refusal : (u : List ℕ) → (judge_reply u).refusal ≡ judge_verdict u
unfolding judge_reply
judged-refusal u = number_in (judge_verdict u) (finding u) (length u - 8) (judge-finds u)

pub checked-refusal : (u : List ℕ) (m : ℕ) → (check_reply u m).refusal ≡ check_verdict u m
unfolding check_reply
checked-refusal u m = number_in (check_verdict u m) (finding u) (length u - 8) (check-finds u m)

-- ---- the checker's reply, from the judge's: the room is looked at last

module _ (u : List ℕ) (m : ℕ) (r : Judged) (e : r ≡ judge_reply u) where
  abbrev room_cause : Causes
  room_cause = (no_room, ltb m (length u - 8)) ∷ []

  abbrev replied : ℕ → Judged
  replied v = answer v refused (named (finding u) (length u - 8))

  reply-number : r.refusal ≡ judge_verdict u
  reply-number = ap (λ (s : Judged). s.refusal) e ∙ judged-refusal u

  pub refused-as-judged : (r.refusal ≡ 0 → ⊥) → r ≡ check_reply u m
  unfolding judge_reply check_reply judge_verdict check_verdict
  refused-as-judged h = e ∙ ap replied (sym (verdict-kept (judge_causes u) room_cause (λ z. h (reply-number ∙ z))))

  module _ (z : r.refusal ≡ 0) where
    judge-accepts : judge_verdict u ≡ 0
    judge-accepts = sym reply-number ∙ z

    room-decides : check_verdict u m ≡ cond (ltb m (length u - 8)) no_room 0
    unfolding judge_verdict check_verdict
    room-decides = verdict-further (judge_causes u) room_cause refl judge-accepts

    reply-length : r.length.0 ≡ length u - 8
    unfolding judge_reply
    reply-length =
        ap (λ (s : Judged). s.length.0) (e ∙ answer-yes (judge_verdict u) refused (named (finding u) (length u - 8)) judge-accepts)
        ∙ named-length (length u - 8) (finding u) (judge-finds u judge-accepts)

    pub refused-for-room : m < r.length.0 → refused no_room ≡ check_reply u m
    unfolding check_reply
    refused-for-room h =
        let few : ltb m (length u - 8) ≡ true = lt-ltb m (length u - 8) (omega (arith, reply-length)) in
        sym (ap replied (room-decides ∙ ap (λ (b : Bool). cond b no_room 0) few) ∙ answer-no no_room refused _ (λ y. omega (arith, y)))

    pub accepted-as-judged : r.length.0 ≤ m → r ≡ check_reply u m
    unfolding judge_reply check_reply
    accepted-as-judged h =
        let enough : ltb m (length u - 8) ≡ false = le-ltb m (length u - 8) (omega (arith, reply-length)) in
        e ∙ ap replied (judge-accepts ∙ sym (room-decides ∙ ap (λ (b : Bool). cond b no_room 0) enough))
