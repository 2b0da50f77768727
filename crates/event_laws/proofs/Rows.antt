-- Lists of slots, slot by slot: n slots by a rule, and a test that none of them passes.
use mathlib.Core.Path.{◌≡◌, refl, ap, ap₂, ◌∙◌}
use mathlib.Core.Bool.{Bool, false, ◌||◌}
use mathlib.Core.List.{List, [], ◌∷◌}
use Prim.Native.Nat.{ℕ, zero, suc, ◌+◌, ◌≤◌, ◌<◌}
use native.Mathlib.Omega.{arith}
use lib.ListN.{length, get_or}
use Rattle.event.specs.declared.Slot.{Slot}
use Rattle.event.specs.Layout.{empty_slot, slots_by, some_slot}

-- where each slot fails the test, none passes it
pub all_right : (test : Slot → Bool) (ss : List Slot) → ((i : ℕ) → i < length ss → test (get_or ss i empty_slot) ≡ false) → some_slot test ss ≡ false
all_right test [] each = refl
all_right test (s ∷ ss) each = ap₂ ◌||◌ (each 0 (omega arith)) (all_right test ss (λ i h. each (suc i) (omega (arith, h))))

module _ (rule : ℕ → Slot) where
  pub by_length : (i n : ℕ) → length (slots_by rule i n) ≡ n
  by_length i zero = refl
  by_length i (suc n) = ap suc (by_length (suc i) n)

  by-at : (i n k : ℕ) → k < n → get_or (slots_by rule i n) k empty_slot ≡ rule (i + k)
  by-at i zero k h = absurd (omega arith)
  by-at i (suc n) zero h = ap rule (omega arith)
  by-at i (suc n) (suc k) h =
      let e : suc i + k ≡ i + suc k = omega arith in
      by-at (suc i) n k (omega (arith, h)) ∙ ap rule e

  pub from_start : (n i : ℕ) → i < n → get_or (slots_by rule 0 n) i empty_slot ≡ rule i
  from_start n i h =
      let e : 0 + i ≡ i = omega arith in
      by-at 0 n i h ∙ ap rule e

-- two rules that agree at each of these slots give the same ones
pub by-same : (f g : ℕ → Slot) (i n : ℕ) → ((k : ℕ) → i ≤ k → k < i + n → f k ≡ g k) → slots_by f i n ≡ slots_by g i n
by-same f g i zero same = refl
by-same f g i (suc n) same =
    ap₂ ◌∷◌ (same i (omega arith) (omega arith)) (by-same f g (suc i) n (λ k from below. same k (omega arith) (omega arith)))
