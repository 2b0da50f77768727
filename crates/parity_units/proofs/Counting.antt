-- A payload's units counted: those counted so far and those that are left are all.
use mathlib.Core.Path.{◌≡◌, sym, ap, subst, ◌∙◌}
use mathlib.Core.Bool.{cond}
use mathlib.Core.List.{List, ◌++◌}
use Prim.Native.Nat.{ℕ, ◌+◌, ◌≤◌, ◌<◌, min}
use native.Mathlib.Omega.{arith}
use lib.ListN.{length, length-append}
use lib.Dec.{eqb}
use native.Mathlib.Nat.{add-zero}
use borrow.Author.Tests.{eq-eqb, ne_eqb}
use Rattle.parity.specs.declared.Judged.{Judged}
use Rattle.parity_units.specs.declared.Outcomes.{Outcomes}
use Rattle.parity.specs.declared.Case.TheVariants.{Sound, ParityBit, DataBit}
use Rattle.parity.specs.Unit.{case_number, judge_reply}
use Rattle.parity_units.specs.Split.{units_in}
use Rattle.parity_units.specs.Replies.{outcome_of, how_many, outcomes}
use Rattle.parity_units.proofs.Split.{units-end, units-next}

-- n units so far have the outcome k, and `rest` is what is left
pub record Counted (p rest : List ℕ) (k n : ℕ) : Type 0 where
  pub few : n + length rest ≤ length p
  pub all : n + how_many k (units_in rest) ≡ how_many k (units_in p)

module _ (p rest : List ℕ) (k n : ℕ) (c : Counted p rest k n) where
  module _ (unit more : List ℕ) (e : rest ≡ unit ++ more) (l : length unit ≡ min 264 (length rest)) (some : 0 < length rest) (r : Judged) (j : r ≡ judge_reply unit) where
    unit-counted : (i : ℕ) → i ≤ 1 → cond (eqb (outcome_of r) k) 1 0 ≡ i → Counted p more k (n + i)
    unfolding how_many
    unit-counted i few is =
        let rest-by-unit : how_many k (units_in rest) ≡ i + how_many k (units_in more) =
        ap (how_many k) (units-next rest unit more e l some)
        ∙ ap (λ (x : ℕ). x + how_many k (units_in more)) (ap (λ (x : Judged). cond (eqb (outcome_of x) k) 1 0) (sym j) ∙ is) in
        let both : length rest ≡ length unit + length more = ap length e ∙ length-append unit more in
        record { few = omega (arith, c.few); all = omega (arith, c.all) }

    -- a unit of this outcome is counted, and another is not
    pub counted-here : outcome_of r ≡ k → Counted p more k (n + 1)
    counted-here o = unit-counted 1 (omega arith) (rw (eq-eqb (outcome_of r) k o))

    pub counted-before : (outcome_of r ≡ k → ⊥) → Counted p more k n
    counted-before o = subst (Counted p more k) (add-zero n) (unit-counted 0 (omega arith) (rw (ne_eqb (outcome_of r) k o)))

  pub all-counted : length rest ≡ 0 → n ≡ how_many k (units_in p)
  unfolding how_many
  all-counted h = omega (arith, c.all, ap (how_many k) (units-end rest h))

-- all four outcomes
pub record Tallied (p rest : List ℕ) (n : Outcomes) : Type 0 where
  pub sound : Counted p rest 0 n.sound
  pub hit : Counted p rest 1 n.hit
  pub repaired : Counted p rest 2 n.repaired
  pub refused : Counted p rest 3 n.refused

pub all-tallied : (p rest : List ℕ) (n : Outcomes) → Tallied p rest n → length rest ≡ 0 → n ≡ outcomes (units_in p)
all-tallied p rest n t h =
    same (all-counted p rest 0 n.sound t.sound h) (all-counted p rest 1 n.hit t.hit h) (all-counted p rest 2 n.repaired t.repaired h)
    (all-counted p rest 3 n.refused t.refused h)
  where
    four : ℕ → ℕ → ℕ → ℕ → Outcomes
    four a b c d = record { sound = a; hit = b; repaired = c; refused = d }

    same : {a b c d a' b' c' d' : ℕ} → a ≡ a' → b ≡ b' → c ≡ c' → d ≡ d' → four a b c d ≡ four a' b' c' d'
    same p q r s = cc

-- a unit more, by what the judge says of it
module _ (p rest : List ℕ) (n : Outcomes) (t : Tallied p rest n) where
  module _ (unit more : List ℕ) (e : rest ≡ unit ++ more) (l : length unit ≡ min 264 (length rest)) (some : 0 < length rest) (r : Judged) (j : r ≡ judge_reply unit) where
    here : {k m : ℕ} → Counted p rest k m → outcome_of r ≡ k → Counted p more k (m + 1)
    here c o = counted-here p rest _ _ c unit more e l some r j o

    before : {k m : ℕ} → Counted p rest k m → (outcome_of r ≡ k → ⊥) → Counted p more k m
    before c o = counted-before p rest _ _ c unit more e l some r j o

    accepted : r.refusal ≡ 0 → outcome_of r ≡ case_number r.case
    accepted z = rw (eq-eqb r.refusal 0 z)

    pub sound-tallied : r.refusal ≡ 0 → r.case ≡ Sound → Tallied p more (record n { sound = n.sound + 1 })
    sound-tallied z c =
        let o : outcome_of r ≡ 0 = accepted z ∙ ap case_number c in
        record {
          sound = here t.sound o;
          hit = before t.hit (λ q. omega (arith, o, q));
          repaired = before t.repaired (λ q. omega (arith, o, q));
          refused = before t.refused (λ q. omega (arith, o, q));
        }

    pub hit-tallied : r.refusal ≡ 0 → r.case ≡ ParityBit → Tallied p more (record n { hit = n.hit + 1 })
    hit-tallied z c =
        let o : outcome_of r ≡ 1 = accepted z ∙ ap case_number c in
        record {
          sound = before t.sound (λ q. omega (arith, o, q));
          hit = here t.hit o;
          repaired = before t.repaired (λ q. omega (arith, o, q));
          refused = before t.refused (λ q. omega (arith, o, q));
        }

    pub repaired-tallied : r.refusal ≡ 0 → r.case ≡ DataBit → Tallied p more (record n { repaired = n.repaired + 1 })
    repaired-tallied z c =
        let o : outcome_of r ≡ 2 = accepted z ∙ ap case_number c in
        record {
          sound = before t.sound (λ q. omega (arith, o, q));
          hit = before t.hit (λ q. omega (arith, o, q));
          repaired = here t.repaired o;
          refused = before t.refused (λ q. omega (arith, o, q));
        }

    pub refused-tallied : (r.refusal ≡ 0 → ⊥) → Tallied p more (record n { refused = n.refused + 1 })
    refused-tallied z =
        let o : outcome_of r ≡ 3 = rw (ne_eqb r.refusal 0 z) in
        record {
          sound = before t.sound (λ q. omega (arith, o, q));
          hit = before t.hit (λ q. omega (arith, o, q));
          repaired = before t.repaired (λ q. omega (arith, o, q));
          refused = here t.refused o;
        }
