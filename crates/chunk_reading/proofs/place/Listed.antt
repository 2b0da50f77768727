-- Whether a chunk is listed at a place, told by the search from a place before it where no chunk is in hand.
use mathlib.Core.Path.{◌≡◌, refl, sym, ap, ◌∙◌}
use mathlib.Core.Bool.{Bool, true, false}
use mathlib.Core.List.{List}
use Prim.Native.Nat.{ℕ, ◌≤◌, ◌<◌}
use native.Mathlib.Omega.{arith}
use lib.ListN.{drop}
use lib.Dec.{eqb, ltb}
use borrow.Author.Tests.{eqb-true, eqb-false, ltb-true, ltb-false}
use Rattle.chunk.specs.declared.Entry.{Entry}
use Rattle.chunk.specs.Header.{confirmed}
use Rattle.chunk.specs.Reading.{left_at, listed_at}
use Rattle.chunk.proofs.Steps.{Next, listed-at-yes, listed-at-no, listed-at-covered}

module _ (sync : ℕ) (ws : List ℕ) (p : ℕ) (e : Entry) (n : ℕ) (s : Next sync ws p e n) (i : ℕ) (z : left_at sync 0 ws p ≡ 0) where
  -- up to the next chunk, its own place alone
  pub listed-up-to : p ≤ i → i ≤ e.position.0 → eqb i e.position.0 ≡ listed_at sync ws i
  listed-up-to a b = by_place (eqb i e.position.0) refl
    where
      by_place : (t : Bool) → eqb i e.position.0 ≡ t → t ≡ listed_at sync ws i
      by_place true q =
          let here : i ≡ e.position.0 = eqb-true i e.position.0 q in
          sym (listed-at-yes sync i ws (s.free z i a b) (ap (λ (m : ℕ). confirmed sync (drop m ws)) here ∙ s.confirms))
      by_place false q = sym (listed-at-no sync i ws (s.noise i a (less (ltb i e.position.0) refl)))
        where
          less : (t : Bool) → ltb i e.position.0 ≡ t → i < e.position.0
          less true l = ltb-true i e.position.0 l
          less false l = absurd (eqb-false i e.position.0 q (omega (arith, ltb-false i e.position.0 l)))

  -- inside the chunk, nowhere
  pub listed-inside : e.position.0 < i → i < n → listed_at sync ws i ≡ false
  listed-inside a b = listed-at-covered sync i ws (omega (arith, s.inside z i a (omega arith)))

-- at its end no chunk is in hand
pub left-past : (sync : ℕ) (ws : List ℕ) (p : ℕ) (e : Entry) (n : ℕ) → Next sync ws p e n → left_at sync 0 ws p ≡ 0 → left_at sync 0 ws n ≡ 0
left-past sync ws p e n s z = s.inside z n (omega (arith, s.end)) (omega arith) ∙ omega arith
