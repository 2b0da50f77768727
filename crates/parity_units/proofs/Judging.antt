-- A payload's units judged one after another: what was found of those so far, or is found of those that are left.
use mathlib.Core.Path.{◌≡◌, sym, ap, ◌∙◌}
use mathlib.Core.Bool.{Bool, ◌||◌, or_assoc, or-false}
use mathlib.Core.List.{List, ◌++◌}
use Prim.Native.Nat.{ℕ, ◌<◌, min}
use lib.ListN.{length}
use lib.Dec.{eqb, ltb}
use Rattle.base.specs.Refusal.{wrong_parity}
use Rattle.parity.specs.declared.Judged.{Judged}
use Rattle.parity.specs.Unit.{judge_verdict, judge_reply}
use Rattle.parity.proofs.Judging.{judged-refusal}
use Rattle.parity_units.specs.Split.{units_in, any_damaged}
use Rattle.parity_units.specs.Replies.{outcome_of, any_touched}
use Rattle.parity_units.proofs.Split.{units-end, units-next}

-- d and t say what was found of the units so far, and `rest` is what is left
pub record Inspected (p rest : List ℕ) (d t : Bool) : Type 0 where
  pub damage : d || any_damaged (units_in rest) ≡ any_damaged (units_in p)
  pub touch : t || any_touched (units_in rest) ≡ any_touched (units_in p)

module _ (p rest : List ℕ) (d t : Bool) (k : Inspected p rest d t) where
  module _ (unit more : List ℕ) (e : rest ≡ unit ++ more) (l : length unit ≡ min 264 (length rest)) (some : 0 < length rest) (r : Judged) (j : r ≡ judge_reply unit) where
    unit-damage : eqb (judge_verdict unit) wrong_parity ≡ eqb r.refusal wrong_parity
    unit-damage = ap (λ (v : ℕ). eqb v wrong_parity) (sym (ap (λ (x : Judged). x.refusal) j ∙ judged-refusal unit))

    unit-touch : (b : Bool) → b ≡ ltb 1 (outcome_of r) → ltb 1 (outcome_of (judge_reply unit)) ≡ b
    unit-touch b q = ap (λ (x : Judged). ltb 1 (outcome_of x)) (sym j) ∙ sym q

    pub unit-inspected : (b : Bool) → b ≡ ltb 1 (outcome_of r) → Inspected p more (d || eqb r.refusal wrong_parity) (t || b)
    unfolding any_damaged any_touched
    unit-inspected b q =
        record {
          damage =
              or_assoc d (eqb r.refusal wrong_parity) (any_damaged (units_in more))
              ∙ ap (λ (x : Bool). d || x) (ap (λ (x : Bool). x || any_damaged (units_in more)) (sym unit-damage) ∙ ap any_damaged (sym (units-next rest unit more e l some)))
              ∙ k.damage;
          touch =
              or_assoc t b (any_touched (units_in more))
              ∙ ap (λ (x : Bool). t || x) (ap (λ (x : Bool). x || any_touched (units_in more)) (sym (unit-touch b q)) ∙ ap any_touched (sym (units-next rest unit more e l some)))
              ∙ k.touch;
        }

  pub all-inspected : length rest ≡ 0 → (d ≡ any_damaged (units_in p)) × (t ≡ any_touched (units_in p))
  unfolding any_damaged any_touched
  all-inspected h =
      let n = units-end rest h in (
        sym (or-false d) ∙ ap (λ (us : List (List ℕ)). d || any_damaged us) (sym n) ∙ k.damage,
        sym (or-false t) ∙ ap (λ (us : List (List ℕ)). t || any_touched us) (sym n) ∙ k.touch,
      )
