-- The loop over thirty places. Whether a sum passes the largest number is told by the places from `i` on; and the row with the first `i` numbers of the
-- other added, and that other with zeros in their stead, have the sums that they had.
use mathlib.Core.Path.{◌≡◌, refl, sym, ap, ap₂, ◌∙◌}
use mathlib.Core.Bool.{false, true, ◌||◌}
use mathlib.Core.List.{List, [], ◌∷◌, ◌++◌}
use Prim.Native.Nat.{ℕ, zero, suc, ◌+◌, ◌≤◌, ◌<◌}
use native.Mathlib.Omega.{arith}
use native.Mathlib.Nat.{add-zero}
use native.Mathlib.Numerals.{add-one}
use lib.ListN.{length, get_or, set, drop, replicate, drop_of_length-le}
use lib.Seq.{drop-cons}
use lib.Dec.{ltb}
use borrow.Author.Tests.{lt-ltb, le-ltb}
use Rattle.tally_recording.specs.Numbers.{sums, largest, any_past}
use Rattle.tally_recording.proofs.Rows.{sums-place}

-- ---- whether a sum passes

module _ (a b : List ℕ) (i : ℕ) where
  past-step : i < length a → i < length b
      → any_past (sums (drop i a) (drop i b)) ≡ ltb largest (get_or a i 0 + get_or b i 0) || any_past (sums (drop (suc i) a) (drop (suc i) b))
  unfolding sums any_past
  past-step h k = ap₂ (λ (x y : List ℕ). any_past (sums x y)) (drop-cons a i 0 h) (drop-cons b i 0 k)

  passes-here : i < length a → i < length b → largest < get_or a i 0 + get_or b i 0 → any_past (sums (drop i a) (drop i b)) ≡ true
  passes-here h k l = past-step h k ∙ rw (lt-ltb largest (get_or a i 0 + get_or b i 0) l)

  passes-later : i < length a → i < length b → get_or a i 0 + get_or b i 0 ≤ largest
      → any_past (sums (drop (suc i) a) (drop (suc i) b)) ≡ any_past (sums (drop i a) (drop i b))
  passes-later h k l = rw (past-step h k, le-ltb largest (get_or a i 0 + get_or b i 0) l)

  pub passes-nowhere : length a ≤ i → any_past (sums (drop i a) (drop i b)) ≡ false
  unfolding sums any_past
  passes-nowhere h = ap (λ (x : List ℕ). any_past (sums x (drop i b))) (drop_of_length-le a h)

-- ---- the sums

-- the row with zeros in its first i places
abbrev pub from : ℕ → List ℕ → List ℕ
from i b = replicate i 0 ++ drop i b

from_place : (b : List ℕ) (i : ℕ) → get_or (from i b) i 0 ≡ get_or b i 0
from_place b zero = refl
from_place [] (suc i) = ap (λ (x : List ℕ). get_or (replicate i 0 ++ x) i 0) (sym (drop_of_length-le [] {i = i} (omega arith))) ∙ from_place [] i
from_place (n ∷ b) (suc i) = from_place b i

from-length : (b : List ℕ) (i : ℕ) → i ≤ length b → length (from i b) ≡ length b
from-length b zero h = refl
from-length [] (suc i) h = absurd (omega arith)
from-length (n ∷ b) (suc i) h = ap suc (from-length b i (omega arith))

place-added : (a b : List ℕ) (i : ℕ) → i < length a → i < length b → sums (set a i (get_or a i 0 + get_or b i 0)) (from (suc i) b) ≡ sums a (from i b)
unfolding sums
place-added [] b i h k = absurd (omega arith)
place-added (m ∷ a) [] i h k = absurd (omega arith)
place-added (m ∷ a) (n ∷ b) zero h k = ap (λ (x : ℕ). x ∷ sums a b) (add-zero (m + n))
place-added (m ∷ a) (n ∷ b) (suc i) h k = ap (λ (x : List ℕ). (m + 0) ∷ x) (place-added a b i (omega arith) (omega arith))

none_left : (a : List ℕ) → sums a (replicate (length a) 0 ++ []) ≡ a
unfolding sums
none_left [] = refl
none_left (n ∷ a) = ap₂ (λ (x : ℕ) (xs : List ℕ). x ∷ xs) (add-zero n) (none_left a)

pub all-added : (a b : List ℕ) → length b ≡ length a → sums a (from (length a) b) ≡ a
all-added a b h =
    let none : length b ≤ length a = omega arith in
    ap (λ (x : List ℕ). sums a (replicate (length a) 0 ++ x)) (drop_of_length-le b none) ∙ none_left a

-- ---- one place more

module _ (old new all : List ℕ) (i : ℕ) (a : length all ≡ length new) (o : length old ≡ length new) (h : i < length new) where
  -- the place in hand is as it was
  untouched : sums all (from i new) ≡ sums old new → get_or all i 0 ≡ get_or old i 0
  untouched rest =
      omega (
        arith,
        sums-place all (from i new) (a ∙ sym (from-length new i (omega arith))) i,
        from_place new i,
        ap (λ (x : List ℕ). get_or x i 0) rest,
        sums-place old new o i,
      )

  pub rest-more : sums all (from i new) ≡ sums old new → sums (set all i (get_or all i 0 + get_or new i 0)) (from (i + 1) new) ≡ sums old new
  rest-more rest = rw (add-one i) (place-added all new i (omega arith) h ∙ rest)

  module _ (rest : sums all (from i new) ≡ sums old new) (later : any_past (sums (drop i old) (drop i new)) ≡ any_past (sums old new)) where
    pub passes : largest < get_or all i 0 + get_or new i 0 → any_past (sums old new) ≡ true
    passes l = sym later ∙ passes-here old new i (omega arith) h (omega (arith, l, untouched rest))

    pub later-more : get_or all i 0 + get_or new i 0 ≤ largest → any_past (sums (drop (i + 1) old) (drop (i + 1) new)) ≡ any_past (sums old new)
    later-more l = rw (add-one i) (passes-later old new i (omega arith) h (omega (arith, l, untouched rest)) ∙ later)
