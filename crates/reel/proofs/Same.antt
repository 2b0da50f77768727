-- Laws of the comparison of words: it is equality, and it goes part by part.
use mathlib.Core.Path.{◌≡◌, refl, sym, ap, ap₂, ◌∙◌}
use mathlib.Core.Bool.{Bool, true, ◌&&◌, and_assoc, false≢true}
use mathlib.Core.List.{List, [], ◌∷◌, ◌++◌}
use Prim.Native.Nat.{ℕ, suc}
use native.Mathlib.Omega.{arith}
use lib.ListN.{length, take, drop}
use lib.Dec.{eqb}
use borrow.Author.Tests.{eqb-true, eq-eqb, ne_eqb}
use Rattle.base.proofs.Booleans.{and_left, and_right}
use Rattle.reel.specs.Reading.{same_words}

pub same_true : (xs ys : List ℕ) → same_words xs ys ≡ true → xs ≡ ys
unfolding same_words
same_true [] [] e = refl
same_true [] (y ∷ ys) e = absurd (false≢true e)
same_true (x ∷ xs) [] e = absurd (false≢true e)
same_true (x ∷ xs) (y ∷ ys) e =
    ap₂ (λ (a : ℕ) (l : List ℕ). a ∷ l) (eqb-true x y (and_left (eqb x y) (same_words xs ys) e)) (same_true xs ys (and_right (eqb x y) (same_words xs ys) e))

pub same_refl : (xs : List ℕ) → same_words xs xs ≡ true
unfolding same_words
same_refl [] = refl
same_refl (x ∷ xs) = ap₂ ◌&&◌ (eq-eqb x x refl) (same_refl xs)

-- nothing is left to compare with
pub same_none : (xs : List ℕ) → same_words xs [] ≡ eqb (length xs) 0
unfolding same_words
same_none [] = refl
same_none (x ∷ xs) = sym (ne_eqb (suc (length xs)) 0 (λ z. omega arith))

-- the first part, then the rest
pub same-append : (xs ys zs : List ℕ) → same_words xs (ys ++ zs) ≡ same_words (take (length ys) xs) ys && same_words (drop (length ys) xs) zs
unfolding same_words
same-append xs [] zs = refl
same-append [] (y ∷ ys) zs = refl
same-append (x ∷ xs) (y ∷ ys) zs =
    ap (λ (b : Bool). eqb x y && b) (same-append xs ys zs) ∙ sym (and_assoc (eqb x y) (same_words (take (length ys) xs) ys) (same_words (drop (length ys) xs) zs))
