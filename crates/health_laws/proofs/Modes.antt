-- Every value of the mode byte means one mode, and the answer is that one.
use mathlib.Core.Path.{◌≡◌, refl, sym, ap, ◌∙◌}
use mathlib.Core.Bool.{Bool, true, false, cond}
use mathlib.Core.List.{List}
use Prim.Native.Nat.{ℕ, ◌≤◌}
use native.Mathlib.Omega.{arith}
use lib.ListN.{get_or}
use lib.Dec.{eqb}
use borrow.Author.Tests.{eqb-true, eqb-false, ne_eqb, leb-true, le-leb}
use Rattle.base.specs.Number.{high_byte}
use Rattle.base.specs.Refusal.{verdict, answer}
use Rattle.health_observation.specs.declared.Mode.{Mode}
use Rattle.health_observation.specs.declared.Mode.TheVariants.{Engineering, HighResolution, Normal, NoAcquisition, Disabled}
use Rattle.health_observation.specs.declared.Observed.{Observed}
use Rattle.health_observation.specs.Observation.{mode_number, mode_has, mode_of, observation_causes, refused, observation_of, observation_reply}
use Rattle.health_laws.specs.Modes.{Modes}

mode-has : (b : ℕ) → mode_has (mode_of b) b ≡ true
mode-has b = go (eqb b 0) (eqb b 1) (eqb b 2) (eqb b 3) refl refl refl refl
  where
    go : (x y z w : Bool) → eqb b 0 ≡ x → eqb b 1 ≡ y → eqb b 2 ≡ z → eqb b 3 ≡ w
        → mode_has (cond x Engineering (cond y HighResolution (cond z Normal (cond w NoAcquisition Disabled)))) b ≡ true
    go true y z w p q r s = p
    go false true z w p q r s = q
    go false false true w p q r s = r
    go false false false true p q r s = s
    go false false false false p q r s = le-leb 4 b (omega (arith, eqb-false b 0 p, eqb-false b 1 q, eqb-false b 2 r, eqb-false b 3 s))

pub mode-only : (m : Mode) (b : ℕ) → mode_has m b ≡ true → mode_of b ≡ m
mode-only Engineering b e = ap mode_of (eqb-true b 0 e)
mode-only HighResolution b e = ap mode_of (eqb-true b 1 e)
mode-only Normal b e = ap mode_of (eqb-true b 2 e)
mode-only NoAcquisition b e = ap mode_of (eqb-true b 3 e)
mode-only Disabled b e =
    let h : 4 ≤ b = leb-true 4 b e in
    simp (ne_eqb b 0 (λ z. omega (arith, z)), ne_eqb b 1 (λ z. omega (arith, z)), ne_eqb b 2 (λ z. omega (arith, z)), ne_eqb b 3 (λ z. omega (arith, z)))

own-number : (m : Mode) → mode_has m (mode_number m) ≡ true
own-number Engineering = refl
own-number HighResolution = refl
own-number Normal = refl
own-number NoAcquisition = refl
own-number Disabled = refl

least-number : (m : Mode) (b : ℕ) → mode_has m b ≡ true → mode_number m ≤ b
least-number Engineering b e = omega arith
least-number HighResolution b e = omega (arith, eqb-true b 1 e)
least-number Normal b e = omega (arith, eqb-true b 2 e)
least-number NoAcquisition b e = omega (arith, eqb-true b 3 e)
least-number Disabled b e = leb-true 4 b e

-- a reply is the observation or, with its number, the refusal
module _ (p : List ℕ) where
  by-verdict : (P : Observed → Type 0) → P (observation_of p) → ((v : ℕ) → (v ≡ 0 → ⊥) → P (refused v)) → P (observation_reply p)
  unfolding observation_reply answer
  by-verdict P accepted other = by_cases (eqb (verdict (observation_causes p)) 0) refl
    where
      by_cases : (b : Bool) → eqb (verdict (observation_causes p)) 0 ≡ b → P (cond b (observation_of p) (refused (verdict (observation_causes p))))
      by_cases true e = accepted
      by_cases false e = other (verdict (observation_causes p)) (eqb-false (verdict (observation_causes p)) 0 e)

  of-accepted : (observation_reply p).refusal ≡ 0 → mode_has (observation_reply p).mode (high_byte (get_or p 5 0)) ≡ true
  of-accepted =
      by-verdict (λ o. o.refusal ≡ 0 → mode_has o.mode (high_byte (get_or p 5 0)) ≡ true)
      (λ z. mode-has (high_byte (get_or p 5 0))) (λ v h z. absurd (h z))

  of-refused : ((observation_reply p).refusal ≡ 0 → ⊥) → mode_number (observation_reply p).mode ≡ 0
  of-refused = by-verdict (λ o. (o.refusal ≡ 0 → ⊥) → mode_number o.mode ≡ 0) (λ h. absurd (h refl)) (λ v h k. refl)

pub modes : Modes
modes =
    record {
      some = mode-has;
      one = λ m n b h k. sym (mode-only m b h) ∙ mode-only n b k;
      number = own-number;
      least = least-number;
      accepted = of-accepted;
      refused = of-refused;
    }
