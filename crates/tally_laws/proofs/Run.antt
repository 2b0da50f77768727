-- A run of recordings, one at a time: each one that is not refused adds its own tally. Two that are taken in one order are taken in the other, since the
-- sum of both fits and so does each part of it; any other order comes of such exchanges.
use mathlib.Core.Path.{◌≡◌, refl, sym, ap, ◌∙◌}
use mathlib.Core.Bool.{Bool, true, false, cond}
use mathlib.Core.List.{List, [], ◌∷◌}
use Prim.Native.Nat.{◌≤◌}
use native.Mathlib.Omega.{arith}
use lib.ListN.{length}
use lib.Dec.{eqb}
use borrow.Author.Tests.{eq-eqb, eqb-true, eqb-false}
use Rattle.base.proofs.Booleans.{by-test}
use Rattle.tally_recording.specs.declared.Tally.{Tally}
use Rattle.tally_recording.specs.Numbers.{any_past}
use Rattle.tally_recording.specs.Tally.{tally_of}
use Rattle.tally_counts.specs.Numbers.{Rows, numbers_of, plus}
use Rattle.tally_counts.proofs.Answers.{rows_of}
use Rattle.tally_laws.specs.Run.{Recording, answered, after, run, taken, sum_of, RunsAreSums, Shuffled, none, first, exchanged, then, OrderDoesNotMatter}
use Rattle.tally_laws.proofs.Rows.{plus_assoc, plus-exchanged, plus-empty, plus-fits, rows-plus}
use Rattle.tally_laws.proofs.Adding.{accepted, accepts, added-sum, added-kept, added-rows}

-- the tally of one recording
abbrev own : Recording → Tally
own r = tally_of r.0 r.1

-- one recording of a run, by whether it is taken
taken-one : (t : Tally) (r : Recording) (rs : List Recording) (b : Bool) → eqb (answered t r) 0 ≡ b
    → taken t (r ∷ rs) ≡ cond b (r ∷ taken (after t r) rs) (taken (after t r) rs)
unfolding taken
taken-one t r rs true e =
    ap (λ (b : Bool). elim b as (λ x. List Recording) [ true ↦ r ∷ taken (after t r) rs | false ↦ taken (after t r) rs ]) e
taken-one t r rs false e =
    ap (λ (b : Bool). elim b as (λ x. List Recording) [ true ↦ r ∷ taken (after t r) rs | false ↦ taken (after t r) rs ]) e

-- ---- a run is a sum

run-sum : (t : Tally) (rs : List Recording) → Rows t → run t rs ≡ plus t (sum_of (taken t rs))
unfolding run taken sum_of
run-sum t [] h = sym (plus-empty t h)
run-sum t (r ∷ rs) h =
    let more : run (after t r) rs ≡ plus (after t r) (sum_of (taken (after t r) rs)) = run-sum (after t r) rs (added-rows t r.0 r.1 h) in
    by-test (eqb (answered t r) 0)
    (λ e. more ∙ ap (λ (u : Tally). plus u (sum_of (taken (after t r) rs))) (added-sum t r.0 r.1 (eqb-true (answered t r) 0 e))
    ∙ plus_assoc t (own r) (sum_of (taken (after t r) rs)) ∙ ap (λ (l : List Recording). plus t (sum_of l)) (sym (taken-one t r rs true e)))
    (λ e. more ∙ ap (λ (u : Tally). plus u (sum_of (taken (after t r) rs))) (added-kept t r.0 r.1 (eqb-false (answered t r) 0 e))
    ∙ ap (λ (l : List Recording). plus t (sum_of l)) (sym (taken-one t r rs false e)))

run-without : (t : Tally) (rs : List Recording) → run t rs ≡ run t (taken t rs)
unfolding run taken
run-without t [] = refl
run-without t (r ∷ rs) =
    let more : run (after t r) rs ≡ run (after t r) (taken (after t r) rs) = run-without (after t r) rs in
    by-test (eqb (answered t r) 0)
    (λ e. more ∙ ap (run t) (sym (taken-one t r rs true e)))
    (λ e. more ∙ ap (λ (u : Tally). run u (taken (after t r) rs)) (added-kept t r.0 r.1 (eqb-false (answered t r) 0 e))
    ∙ ap (run t) (sym (taken-one t r rs false e)))

pub runs-are-sums : RunsAreSums
runs-are-sums t rs h = record { sum = run-sum t rs h; without = run-without t rs }

-- ---- the order

taken-few : (t : Tally) (rs : List Recording) → length (taken t rs) ≤ length rs
unfolding taken
taken-few t [] = omega arith
taken-few t (r ∷ rs) =
    let more : length (taken (after t r) rs) ≤ length rs = taken-few (after t r) rs in
    by-test (eqb (answered t r) 0)
    (λ e. omega (arith, ap length (taken-one t r rs true e)))
    (λ e. omega (arith, ap length (taken-one t r rs false e)))

-- where all are taken the first is, and the others are
all-taken : (t : Tally) (r : Recording) (rs : List Recording) → taken t (r ∷ rs) ≡ r ∷ rs → (answered t r ≡ 0) × (taken (after t r) rs ≡ rs)
all-taken t r rs h =
    by-test (eqb (answered t r) 0)
    (λ e. let z : r ∷ taken (after t r) rs ≡ r ∷ rs = sym (taken-one t r rs true e) ∙ h in (eqb-true (answered t r) 0 e, cc))
    (λ e. absurd (omega (arith, ap length (sym (taken-one t r rs false e) ∙ h), taken-few (after t r) rs)))

take_all : (t : Tally) (r : Recording) (rs : List Recording) → answered t r ≡ 0 → taken (after t r) rs ≡ rs → taken t (r ∷ rs) ≡ r ∷ rs
take_all t r rs z h = taken-one t r rs true (eq-eqb (answered t r) 0 z) ∙ ap (λ (l : List Recording). r ∷ l) h

-- two that are taken are taken in the other order
module _ (t : Tally) (r s : Recording) (h : Rows t) (a : answered t r ≡ 0) (b : answered (after t r) s ≡ 0) where
  both : any_past (numbers_of (plus (plus t (own s)) (own r))) ≡ false
  both =
      sym (ap (λ (u : Tally). any_past (numbers_of (plus u (own s)))) (added-sum t r.0 r.1 a)
      ∙ ap (λ (u : Tally). any_past (numbers_of u)) (plus-exchanged t (own r) (own s)))
      ∙ (accepted (after t r) s.0 s.1 b).1

  second-first : answered t s ≡ 0
  second-first =
      accepts t s.0 s.1 (accepted (after t r) s.0 s.1 b).0
      (plus-fits (plus t (own s)) (own r) (rows-plus t (own s) h (rows_of s.0 s.1)) (rows_of r.0 r.1) both)

  first-second : answered (after t s) r ≡ 0
  first-second =
      accepts (after t s) r.0 r.1 (accepted t r.0 r.1 a).0
      (ap (λ (u : Tally). any_past (numbers_of (plus u (own r)))) (added-sum t s.0 s.1 second-first) ∙ both)

  either_order : after (after t r) s ≡ after (after t s) r
  either_order =
      added-sum (after t r) s.0 s.1 b ∙ ap (λ (u : Tally). plus u (own s)) (added-sum t r.0 r.1 a)
      ∙ plus-exchanged t (own r) (own s)
      ∙ sym (added-sum (after t s) r.0 r.1 first-second ∙ ap (λ (u : Tally). plus u (own r)) (added-sum t s.0 s.1 second-first))

shuffle : {rs rs' : List Recording} → Shuffled rs rs' → (t : Tally) → Rows t → taken t rs ≡ rs → (taken t rs' ≡ rs') × (run t rs ≡ run t rs')
unfolding run
shuffle none t h e = (e, refl)
shuffle (first {rs} {rs'} r p) t h e =
    let a = all-taken t r rs e in
    let m = shuffle p (after t r) (added-rows t r.0 r.1 h) a.1 in
    (take_all t r rs' a.0 m.0, m.1)
shuffle (exchanged r s rs) t h e =
    let a = all-taken t r (s ∷ rs) e in
    let b = all-taken (after t r) s rs a.1 in
    let same = either_order t r s h a.0 b.0 in
    let last : taken (after (after t s) r) rs ≡ rs = sym (ap (λ (u : Tally). taken u rs) same) ∙ b.1 in (
      take_all t s (r ∷ rs) (second-first t r s h a.0 b.0) (take_all (after t s) r rs (first-second t r s h a.0 b.0) last),
      ap (λ (u : Tally). run u rs) same,
    )
shuffle (then p q) t h e =
    let m = shuffle p t h e in
    let n = shuffle q t h m.0 in
    (n.0, m.1 ∙ n.1)

pub order-does-not-matter : OrderDoesNotMatter
order-does-not-matter t rs rs' h e p = shuffle p t h e
