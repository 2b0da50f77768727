-- What is answered of two rows of words is true of them (`answer-true`), and of two rows only one answer is true (`one_answer`): the laws of words follow.
use Rattle.std.proofs.Common.{Option, None, Some}
use mathlib.Core.Path.{◌≡◌, refl, sym, ap, subst, ◌∙◌}
use mathlib.Core.Bool.{true, false}
use mathlib.Core.List.{List, [], ◌∷◌}
use mathlib.Core.Logic.{inl, inr}
use Prim.Native.Nat.{ℕ, suc, ◌<◌}
use native.Mathlib.Omega.{arith}
use native.Mathlib.Numerals.{one-add}
use native.Mathlib.Decide.{dec_lt}
use lib.ListN.{length, get_or, take, length-take}
use lib.Seq.{get_or-take}
use lib.Dec.{eqb}
use borrow.Author.Tests.{eqb-true, eqb-false}
use Rattle.base.proofs.Booleans.{by-test}
use Rattle.chunk_laws.specs.Ends.{Exactly}
use Rattle.base.specs.declared.Words.{Words}
use Rattle.chunk_compare.specs.Pairs.{differs, further, first_difference, pair_case, pair_values}
use Rattle.chunk_compare.proofs.Difference.{first-words}
use Rattle.reel.proofs.Same.{same_true, same_refl}
use Rattle.chunk_compare_laws.specs.Words.{PartAt, IsSame, IsWord, WordsAreTrue, WordsExchanged, SameWordsAreSame}

-- ---- what an answer says of two rows

-- the same: they are equal; word n: they part there
abbrev pub Says : Option Words → List ℕ → List ℕ → Type 0
Says None xs ys = xs ≡ ys
Says (Some n) xs ys = PartAt n.0 xs ys

-- of two rows that begin with the same word, what is said of the rest
part-later : (n x : ℕ) (xs ys : List ℕ) → PartAt n xs ys → PartAt (suc n) (x ∷ xs) (x ∷ ys)
part-later n x xs ys (agree, inl (a, b, d)) = (ap (λ (l : List ℕ). x ∷ l) agree, inl (omega arith, omega arith, d))
part-later n x xs ys (agree, inr (inl (e, l))) = (ap (λ (l : List ℕ). x ∷ l) agree, inr (inl (ap suc e, omega arith)))
part-later n x xs ys (agree, inr (inr (e, l))) = (ap (λ (l : List ℕ). x ∷ l) agree, inr (inr (ap suc e, omega arith)))

says-later : (p : Option Words) (x : ℕ) (xs ys : List ℕ) → Says p xs ys → Says (further 1 p) (x ∷ xs) (x ∷ ys)
says-later None x xs ys s = ap (λ (l : List ℕ). x ∷ l) s
says-later (Some n) x xs ys s = rw one-add (part-later n.0 x xs ys s)

-- the answer is true
pub answer-true : (xs ys : List ℕ) → Says (first_difference xs ys) xs ys
unfolding first_difference
answer-true [] [] = refl
answer-true [] (y ∷ ys) = (refl, inr (inl (refl, omega arith)))
answer-true (x ∷ xs) [] = (refl, inr (inr (refl, omega arith)))
answer-true (x ∷ xs) (y ∷ ys) =
    by-test (eqb x y)
    (λ e. rw (first-words x y xs ys true e, ← eqb-true x y e) (says-later (first_difference xs ys) x xs ys (answer-true xs ys)))
    (λ e. rw (first-words x y xs ys false e) (refl, inl (omega arith, omega arith, eqb-false x y e)))

-- ---- only one answer is true

-- rows that agree beyond word n do not part there
beyond : (n m : ℕ) (xs ys : List ℕ) → n < m → take m xs ≡ take m ys → PartAt n xs ys → ⊥
beyond n m xs ys h agree (_, inl (a, b, d)) = d (sym (get_or-take m xs n 0 h) ∙ ap (λ (l : List ℕ). get_or l n 0) agree ∙ get_or-take m ys n 0 h)
beyond n m xs ys h agree (_, inr (inl (e, l))) = omega (arith, ap length agree, length-take m xs, length-take m ys)
beyond n m xs ys h agree (_, inr (inr (e, l))) = omega (arith, ap length agree, length-take m xs, length-take m ys)

one_place : (n m : ℕ) (xs ys : List ℕ) → PartAt n xs ys → PartAt m xs ys → n ≡ m
one_place n m xs ys p q =
    let below : n < m → ⊥ = λ h. beyond n m xs ys h q.0 p in
    let above : m < n → ⊥ = λ h. beyond m n xs ys h p.0 q in
    elim (dec_lt n m) as (λ x. n ≡ m) [
      | yes h ↦ absurd (below h)
      | no h ↦ elim (dec_lt m n) as (λ x. n ≡ m) [ yes k ↦ absurd (above k) | no k ↦ omega arith ]
    ]

-- equal rows part nowhere
equal-whole : (n : ℕ) (xs ys : List ℕ) → xs ≡ ys → PartAt n xs ys → ⊥
equal-whole n xs ys e p = beyond n (suc n) xs ys (omega arith) (ap (take (suc n)) e) p

pub one_answer : (p q : Option Words) (xs ys : List ℕ) → Says p xs ys → Says q xs ys → p ≡ q
one_answer None None xs ys s t = refl
one_answer None (Some n) xs ys s t = absurd (equal-whole n.0 xs ys s t)
one_answer (Some n) None xs ys s t = absurd (equal-whole n.0 xs ys t s)
one_answer (Some n) (Some m) xs ys s t = ap differs (one_place n.0 m.0 xs ys s t)

-- so an answer is given exactly where it is true
pub answered : (p : Option Words) (xs ys : List ℕ) → Exactly (first_difference xs ys ≡ p) (Says p xs ys)
answered p xs ys = (λ e. subst (λ (q : Option Words). Says q xs ys) e (answer-true xs ys), λ s. one_answer (first_difference xs ys) p xs ys (answer-true xs ys) s)

-- ---- an answer by its number and values

case_same : (p : Option Words) → Exactly (IsSame p) (p ≡ None)
case_same None = (λ s. refl, λ e. (refl, refl))
case_same (Some n) = (λ s. absurd (omega (arith, s.0)), λ e. (ap pair_case e, ap pair_values e))

case-word : (n : ℕ) (p : Option Words) → Exactly (IsWord n p) (p ≡ differs n)
case-word n None = (λ s. absurd (omega (arith, s.0)), λ e. (ap pair_case e, ap pair_values e))
case-word n (Some m) = (λ s. ap differs (ap (λ (l : List ℕ). get_or l 0 0) s.1), λ e. (ap pair_case e, ap pair_values e))

pub words-are-true : WordsAreTrue
words-are-true xs ys =
    let p : Option Words = first_difference xs ys in
    record {
      same = answered None xs ys;
      parts = λ n. answered (differs n) xs ys;
      same_by_number = (λ s. (answered None xs ys).0 ((case_same p).0 s), λ e. (case_same p).1 ((answered None xs ys).1 e));
      parts_by_number = λ n. (λ s. (answered (differs n) xs ys).0 ((case-word n p).0 s), λ e. (case-word n p).1 ((answered (differs n) xs ys).1 e));
    }

-- ---- the other order

part-exchanged : (n : ℕ) (xs ys : List ℕ) → PartAt n xs ys → PartAt n ys xs
part-exchanged n xs ys (agree, inl (a, b, d)) = (sym agree, inl (b, a, λ e. d (sym e)))
part-exchanged n xs ys (agree, inr (inl e)) = (sym agree, inr (inr e))
part-exchanged n xs ys (agree, inr (inr e)) = (sym agree, inr (inl e))

says-exchanged : (p : Option Words) (xs ys : List ℕ) → Says p xs ys → Says p ys xs
says-exchanged None xs ys s = sym s
says-exchanged (Some n) xs ys s = part-exchanged n.0 xs ys s

pub words-exchanged : WordsExchanged
words-exchanged xs ys = (answered (first_difference xs ys) ys xs).1 (says-exchanged (first_difference xs ys) xs ys (answer-true xs ys))

-- ---- the reel's comparison

pub same-words-are-same : SameWordsAreSame
same-words-are-same xs ys = (
  λ e. (answered None xs ys).1 (same_true xs ys e),
  λ e. rw (← (answered None xs ys).0 e) (same_refl xs),
)
