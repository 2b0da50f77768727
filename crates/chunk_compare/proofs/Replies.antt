-- The reply of a comparison, case by case: either recording too long, too few entries for the pairs, and neither.
use mathlib.Core.Path.{◌≡◌, sym, ap, ◌∙◌}
use mathlib.Core.Bool.{true, false, ◌||◌}
use mathlib.Core.List.{List}
use Prim.Native.Nat.{ℕ, ◌-◌, ◌≤◌, ◌<◌, min}
use native.Mathlib.Omega.{arith}
use lib.ListN.{length}
use borrow.Author.Tests.{lt-ltb, le-ltb}
use Rattle.base.specs.Limit.{too_long}
use Rattle.base.specs.Refusal.{wrong_length, no_room, answer}
use Rattle.chunk.specs.Reading.{reading}
use Rattle.chunk_compare.specs.Compare.{pair_count, compared, refused, compare_reply}
use Rattle.chunk_compare.proofs.Lengths.{paired-length}

module _ (sync : ℕ) (a b : List ℕ) (entries : ℕ) where
  pub too_long_refused : too_long a || too_long b ≡ true → refused wrong_length ≡ compare_reply sync a b entries
  unfolding compare_reply answer
  too_long_refused h = sym (simp h)

  module _ (h : too_long a || too_long b ≡ false) (pairs : ℕ) (e : pairs ≡ min (length (reading sync a)) (length (reading sync b))) where
    counted : pairs ≡ pair_count sync a b
    counted = e ∙ sym (paired-length a b (reading sync a) (reading sync b))

    pub too_few_refused : entries < pairs → refused no_room ≡ compare_reply sync a b entries
    unfolding compare_reply answer
    too_few_refused l = sym (simp (h, lt-ltb entries (pair_count sync a b) (omega (arith, counted))))

    pub enough_compared : pairs ≤ entries → (n m : ℕ) → n ≡ length (reading sync a) → m ≡ length (reading sync b)
        → compared 0 pairs (n - pairs) (m - pairs) ≡ compare_reply sync a b entries
    unfolding compare_reply answer
    enough_compared l n m p q =
        rw (p, q) (ap (λ (k : ℕ). compared 0 k (length (reading sync a) - k) (length (reading sync b) - k)) counted
        ∙ sym (simp (h, le-ltb entries (pair_count sync a b) (omega (arith, counted)))))
