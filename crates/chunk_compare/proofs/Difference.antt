-- The first word that differs, by the number of words up to it, in which the two rows agree.
use Rattle.std.proofs.Common.{◌≡◌, refl, ap, ◌∙◌, ℕ, zero, suc, ◌+◌, ◌≤◌, Bool, true, false, cond, ◌&&◌, eqb, Option, None, Some, List, [], ◌∷◌, length, one-add, arith}
use Rattle.std.proofs.Math.Dec.{eqb-suc-suc, eqb-zero-suc}
use Rattle.std.specs.List.{zip, prefix_len}
use Rattle.base.specs.declared.Words.{Words}
use Rattle.base.proofs.Booleans.{by-test}
use Rattle.chunk_compare.specs.Pairs.{differs, further, first_difference, pair_number, pair_said}

-- ---- a number of the list

pub said-word : (n : ℕ) → (n ≡ 0 → ⊥) → pair_said n ≡ differs n
said-word zero h = absurd (h refl)
said-word (suc n) h = refl

-- ---- the first words

pub first-words : (x y : ℕ) (xs ys : List ℕ) (b : Bool) → eqb x y ≡ b
    → first_difference (x ∷ xs) (y ∷ ys) ≡ cond b (further 1 (first_difference xs ys)) (differs 0)
unfolding first_difference
first-words x y xs ys true e = ap (λ (b : Bool). elim b as (λ t. Option Words) [ true ↦ further 1 (first_difference xs ys) | false ↦ differs 0 ]) e
first-words x y xs ys false e = ap (λ (b : Bool). elim b as (λ t. Option Words) [ true ↦ further 1 (first_difference xs ys) | false ↦ differs 0 ]) e

-- ---- how far two rows agree

-- what is told of two rows of words of these lengths, which agree in the first n words
abbrev pub told : ℕ → ℕ → ℕ → Option Words
told n l m = cond (eqb n l && eqb n m) None (differs n)

told-further : (n l m : ℕ) → further 1 (told n l m) ≡ told (1 + n) (suc l) (suc m)
told-further n l m = rw one-add (rw (eqb-suc-suc, eqb-suc-suc) (by-both (eqb n l && eqb n m)))
  where
    by-both : (b : Bool) → further 1 (cond b None (differs n)) ≡ cond b None (differs (suc n))
    by-both true = refl
    by-both false = ap differs (one-add n)

pub agreed_told : (xs ys : List ℕ) → first_difference xs ys ≡ told (prefix_len (λ (p : ℕ × ℕ). eqb p.0 p.1) (zip xs ys)) (length xs) (length ys)
unfolding first_difference
agreed_told [] [] = refl
agreed_told [] (y ∷ ys) = rw eqb-zero-suc
agreed_told (x ∷ xs) [] = rw eqb-zero-suc
agreed_told (x ∷ xs) (y ∷ ys) =
    by-test (eqb x y)
    (λ e. rw (first-words x y xs ys true e, e) (ap (further 1) (agreed_told xs ys) ∙ told-further (prefix_len (λ (p : ℕ × ℕ). eqb p.0 p.1) (zip xs ys)) (length xs) (length ys)))
    (λ e. rw (first-words x y xs ys false e, e) (rw eqb-zero-suc))

-- the word lies within the rows, or at their end
one_more : (n : ℕ) (p : Option Words) → pair_number p ≤ n → pair_number (further 1 p) ≤ suc n
one_more n None h = omega arith
one_more n (Some m) h = omega arith

pub difference-within : (xs ys : List ℕ) → pair_number (first_difference xs ys) ≤ length xs
unfolding first_difference
difference-within [] [] = omega arith
difference-within [] (y ∷ ys) = omega arith
difference-within (x ∷ xs) [] = omega arith
difference-within (x ∷ xs) (y ∷ ys) =
    by-test (eqb x y) (λ e. rw (first-words x y xs ys true e) (one_more (length xs) (first_difference xs ys) (difference-within xs ys)))
    (λ e. rw (first-words x y xs ys false e) (omega arith))
