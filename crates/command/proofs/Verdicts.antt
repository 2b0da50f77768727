-- What a verdict of 0 on the causes that stand first says of the total; and the judgement on the causes that stand last.
use mathlib.Core.Path.{◌≡◌, refl, ap}
use mathlib.Core.Bool.{Bool, true, false, cond, ◌&&◌, and-eq-true_iff}
use mathlib.Core.List.{List}
use Prim.Native.Nat.{ℕ, ◌≤◌}
use native.Mathlib.Omega.{arith}
use lib.Dec.{leb, eqb}
use borrow.Author.Tests.{leb-true, not-false}
use Rattle.base.specs.Refusal.{verdict, wrong_argument}
use Rattle.base.proofs.Refused.{spared}
use Rattle.command_catalogue.specs.Rules.{asked_wrong, judge_causes}
use Rattle.command.specs.declared.Fields.{Fields}
use Rattle.command.specs.Asking.{most_bytes, first_causes, last_causes}

-- ---- what the first causes leave

-- what is not refused at first: the argument is right, and the total is within its bounds
module _ (a : Bool) (c n : ℕ) (h : verdict (first_causes a c n) ≡ 0) where
  pub argument-right : a ≡ false
  argument-right = (spared (first_causes a c n) refl h).0

  total-between : leb 14 n && leb n (most_bytes c) ≡ true
  total-between = not-false _ (spared (first_causes a c n) refl h).1.0

  pub total-within : (14 ≤ n) × (n ≤ 227)
  total-within =
      let both = (and-eq-true_iff (leb 14 n) (leb n (most_bytes c))).0 total-between in
      (leb-true 14 n both.0, omega (arith, leb-true n (most_bytes c) both.1, most (eqb c 1)))
    where
      most : (b : Bool) → cond b 227 62 ≤ 227
      most true = omega arith
      most false = omega arith

-- ---- the causes that stand last

-- where catalogue and mode are right, the judgement is on the fields and the further bytes
pub judged-last : (c m : ℕ) (f : Fields) (xs : List ℕ) → asked_wrong c m ≡ false
    → verdict (judge_causes c m f.command_type f.qualifier f.address f.«data» xs) ≡ verdict (last_causes c m f xs)
judged-last c m f xs h = ap (λ (b : Bool). cond b wrong_argument (verdict (last_causes c m f xs))) h
