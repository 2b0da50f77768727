-- The packet that is shown: by what was found in each recording and, where that is a packet in both, by the number of the newer.
use Rattle.std.proofs.Common.{◌≡◌, ℕ, Bool, true, false, cond, eqb, ◌⊎◌, Option, Some, None, refl, inl, inr, arith}
use Rattle.base.specs.declared.Words.{Words}
use Rattle.health_last.specs.declared.Place.{Place}
use Rattle.health_last.specs.Last.{place, place_in, shown}

-- what is shown is one of the two places, or none
shown-cases : (P : Place → Type 0) (a : Option Words) (end : Bool) (b : Option Words) (n : ℕ)
    → P (place_in 1 a end) → P (place_in 2 b false) → P (place 0 0 0 false) → P (shown a end b n)
unfolding place_in shown
shown-cases P (Some p) end (Some q) n x y z = by_tests (eqb n 1) (eqb n 2)
  where
    by_tests : (c d : Bool) → P (cond c (place_in 1 (Some p) end) (cond d (place_in 2 (Some q) false) (place 0 0 0 false)))
    by_tests true d = x
    by_tests false true = y
    by_tests false false = z
shown-cases P (Some p) end None n x y z = x
shown-cases P None end b n x y z = y

place-accepted : (recording : ℕ) (a : Option Words) (end : Bool) → (place_in recording a end).refusal ≡ 0
unfolding place_in
place-accepted recording (Some p) end = refl
place-accepted recording None end = refl

-- it is no refusal
pub shown-accepted : (a : Option Words) (end : Bool) (b : Option Words) (n : ℕ) → (shown a end b n).refusal ≡ 0
shown-accepted a end b n = shown-cases (λ s. s.refusal ≡ 0) a end b n (place-accepted 1 a end) (place-accepted 2 b false) refl

place-recording : (r : ℕ) (a : Option Words) (end : Bool) {C : Type 0} → ((place_in r a end).recording ≡ 0 → C) → ((place_in r a end).recording ≡ r → C) → C
unfolding place_in
place-recording r (Some p) end none own = own refl
place-recording r None end none own = none refl

-- it is in one of the two recordings, or in none
pub shown-recordings : (a : Option Words) (end : Bool) (b : Option Words) (n : ℕ)
    → ((shown a end b n).recording ≡ 0) ⊎ (((shown a end b n).recording ≡ 1) ⊎ ((shown a end b n).recording ≡ 2))
shown-recordings a end b n =
    shown-cases (λ s. (s.recording ≡ 0) ⊎ ((s.recording ≡ 1) ⊎ (s.recording ≡ 2))) a end b n
    (place-recording 1 a end (λ z. inl z) (λ z. inr (inl z)))
    (place-recording 2 b false (λ z. inl z) (λ z. inr (inr z)))
    (inl refl)

-- a packet that is shown of a recording was found in it
place_found : (r : ℕ) (a : Option Words) (end : Bool) → ((place_in r a end).recording ≡ 0 → ⊥) → a ≡ Some (place_in r a end).at
unfolding place_in
place_found r (Some p) end h = refl
place_found r None end h = absurd (h refl)

pub pick-science : (a : Option Words) (end : Bool) (b : Option Words) (n : ℕ) → (shown a end b n).recording ≡ 1 → a ≡ Some (shown a end b n).at
pick-science a end b n =
    shown-cases (λ s. s.recording ≡ 1 → a ≡ Some s.at) a end b n
    (λ e. place_found 1 a end (λ z. omega (arith, e, z)))
    (λ e. absurd (place-recording 2 b false (λ z. omega (arith, e, z)) (λ z. omega (arith, e, z))))
    (λ e. absurd (omega (arith, e)))

pub pick-health : (a : Option Words) (end : Bool) (b : Option Words) (n : ℕ) → (shown a end b n).recording ≡ 2 → b ≡ Some (shown a end b n).at
pick-health a end b n =
    shown-cases (λ s. s.recording ≡ 2 → b ≡ Some s.at) a end b n
    (λ e. absurd (place-recording 1 a end (λ z. omega (arith, e, z)) (λ z. omega (arith, e, z))))
    (λ e. place_found 2 b false (λ z. omega (arith, e, z)))
    (λ e. absurd (omega (arith, e)))
