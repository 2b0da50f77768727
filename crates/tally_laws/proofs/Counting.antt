-- Counting by number: where each thing of a list has one of the numbers that are counted, the counts add up to the length of the list; and where a thing is
-- counted under its number or not at all, they add up to no more.
use mathlib.Core.Path.{◌≡◌, refl, ap, ap₂}
use mathlib.Core.Bool.{Bool, true, false, cond, ◌&&◌}
use mathlib.Core.List.{List, [], ◌∷◌}
use Prim.Native.Nat.{ℕ, zero, suc, ◌+◌, ◌≤◌, ◌<◌}
use native.Mathlib.Omega.{arith}
use lib.ListN.{length}
use lib.Dec.{eqb}
use borrow.Author.Tests.{ne_eqb, eqb-true, eqb-false}
use Rattle.base.proofs.Booleans.{by-test}
use Rattle.tally_recording.specs.Numbers.{how_often, each}
use Rattle.tally_laws.specs.Accounts.{total}

-- a test as a number
abbrev pub one : Bool → ℕ
one b = cond b 1 0

-- ---- sums over a range of numbers

total-plus : (from n : ℕ) (f g : ℕ → ℕ) → total (each from n (λ k. f k + g k)) ≡ total (each from n f) + total (each from n g)
unfolding each total
total-plus from zero f g = refl
total-plus from (suc n) f g = omega (arith, total-plus (suc from) n f g)

total-zeros : (from n : ℕ) → total (each from n (λ k. 0)) ≡ 0
unfolding each total
total-zeros from zero = refl
total-zeros from (suc n) = omega (arith, total-zeros (suc from) n)

total-fewer : (from n : ℕ) (f g : ℕ → ℕ) → ((k : ℕ) → f k ≤ g k) → total (each from n f) ≤ total (each from n g)
unfolding each total
total-fewer from zero f g h = omega arith
total-fewer from (suc n) f g h = omega (arith, h from, total-fewer (suc from) n f g h)

-- ---- one thing with the number v

none_below : (v from n : ℕ) → v < from → total (each from n (λ k. one (eqb v k))) ≡ 0
unfolding each total
none_below v from zero h = refl
none_below v from (suc n) h = rw (ne_eqb v from (λ z. omega arith)) (omega (arith, none_below v (suc from) n (omega arith)))

at_most_one : (v from n : ℕ) → total (each from n (λ k. one (eqb v k))) ≤ 1
unfolding each total
at_most_one v from zero = omega arith
at_most_one v from (suc n) =
    by-test (eqb v from)
    (λ e. rw e (omega (arith, none_below v (suc from) n (omega (arith, eqb-true v from e)))))
    (λ e. rw e (omega (arith, at_most_one v (suc from) n)))

exactly-one : (v from n : ℕ) → from ≤ v → v < from + n → total (each from n (λ k. one (eqb v k))) ≡ 1
unfolding each total
exactly-one v from zero h l = absurd (omega arith)
exactly-one v from (suc n) h l =
    by-test (eqb v from)
    (λ e. rw e (omega (arith, none_below v (suc from) n (omega (arith, eqb-true v from e)))))
    (λ e. let d = eqb-false v from e in rw e (omega (arith, exactly-one v (suc from) n (past d) (omega arith))))
  where
    past : (v ≡ from → ⊥) → suc from ≤ v
    past d = omega arith

-- ---- a list of things

module _ {A : Type 0} where
  one_more : (from n : ℕ) (test : ℕ → A → Bool) (x : A) (xs : List A)
      → total (each from n (λ k. how_often (test k) (x ∷ xs))) ≡ total (each from n (λ k. one (test k x))) + total (each from n (λ k. how_often (test k) xs))
  unfolding how_often
  one_more from n test x xs = total-plus from n (λ k. one (test k x)) (λ k. how_often (test k) xs)

  -- each is counted once
  pub all-counted : (from n : ℕ) (number : A → ℕ) → ((x : A) → (from ≤ number x) × (number x < from + n)) → (xs : List A)
      → total (each from n (λ k. how_often (λ (x : A). eqb (number x) k) xs)) ≡ length xs
  unfolding how_often
  all-counted from n number h [] = total-zeros from n
  all-counted from n number h (x ∷ xs) =
      omega (arith, one_more from n (λ (k : ℕ) (y : A). eqb (number y) k) x xs, exactly-one (number x) from n (h x).0 (h x).1, all-counted from n number h xs)

  -- each is counted once or not at all
  pub none-twice : (from n : ℕ) (number : A → ℕ) (counts : A → Bool) (xs : List A)
      → total (each from n (λ k. how_often (λ (x : A). eqb (number x) k && counts x) xs)) ≤ length xs
  unfolding how_often
  none-twice from n number counts [] = omega (arith, total-zeros from n)
  none-twice from n number counts (x ∷ xs) =
      omega (
        arith,
        one_more from n (λ (k : ℕ) (y : A). eqb (number y) k && counts y) x xs,
        total-fewer from n (λ k. one (eqb (number x) k && counts x)) (λ k. one (eqb (number x) k)) (λ k. weaker (eqb (number x) k) (counts x)),
        at_most_one (number x) from n,
        none-twice from n number counts xs,
      )
    where
      weaker : (a b : Bool) → one (a && b) ≤ one a
      weaker true true = omega arith
      weaker true false = omega arith
      weaker false b = omega arith

  -- ---- two counts of one list

  pub often-same : (f g : A → Bool) → ((x : A) → f x ≡ g x) → (xs : List A) → how_often f xs ≡ how_often g xs
  unfolding how_often
  often-same f g h [] = refl
  often-same f g h (x ∷ xs) = ap₂ ◌+◌ (ap one (h x)) (often-same f g h xs)

  -- what the two count apart a third counts together
  pub often-either : (f g h : A → Bool) → ((x : A) → one (f x) + one (g x) ≡ one (h x)) → (xs : List A) → how_often f xs + how_often g xs ≡ how_often h xs
  unfolding how_often
  often-either f g h e [] = refl
  often-either f g h e (x ∷ xs) = omega (arith, e x, often-either f g h e xs)
