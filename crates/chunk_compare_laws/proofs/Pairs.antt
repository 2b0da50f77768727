-- The rows of pairs, by their chunks: which chunks are in them, and which number stands for each. The number 0 stands for the same,
-- and word 0 is no answer of two listed chunks, so a number says its answer again (`coded`).
use Rattle.std.proofs.Common.{Option, None, Some}
use mathlib.Core.Path.{◌≡◌, refl, sym, ap, ap₂, ◌∙◌}
use mathlib.Core.List.{List, [], ◌∷◌, map}
use mathlib.Core.Logic.{inl, inr}
use Prim.Native.Nat.{ℕ, zero, suc, ◌<◌}
use native.Mathlib.Omega.{arith}
use lib.ListN.{length, get_or, replicate}
use Rattle.chunk.specs.declared.Entry.{Entry}
use Rattle.chunk.specs.Reading.{reading}
use Rattle.chunk_laws.specs.Listed.{Among}
use Rattle.base.specs.declared.Words.{Words}
use Rattle.chunk_compare.specs.Pairs.{chunk_words, first_difference, paired, pairs_of, pair_number, pair_said, pair_numbers}
use Rattle.chunk_compare.proofs.Difference.{said-word}
use Rattle.chunk_compare_laws.specs.Words.{PartAt}
use Rattle.chunk_compare_laws.specs.Entries.{PairAt, Paired, APair, AmongAnswers}
use Rattle.chunk_compare_laws.proofs.Words.{Says, answer-true, answered, words-exchanged}
use Rattle.chunk_compare_laws.proofs.Chunks.{Chunk, listed-chunk, not-at-first}

-- what is told of a pair
abbrev pub answer_of : List ℕ → List ℕ → Entry → Entry → Option Words
answer_of a b e f = first_difference (chunk_words a e) (chunk_words b f)

-- ---- which chunks

module _ (a b : List ℕ) where
  -- a pair i: i is below their number, and its answer's number is number i
  pub pair-below : (i : ℕ) (e f : Entry) (es fs : List Entry) → PairAt i e f es fs → i < length (paired a b es fs)
  unfolding paired
  pair-below i e f [] fs p = absurd p
  pair-below i e f (x ∷ es) [] p = absurd p
  pair-below zero e f (x ∷ es) (y ∷ fs) p = omega arith
  pair-below (suc i) e f (x ∷ es) (y ∷ fs) p = omega (arith, pair-below i e f es fs p)

  pub pair-number : (i : ℕ) (e f : Entry) (es fs : List Entry) → PairAt i e f es fs → get_or (pair_numbers (paired a b es fs)) i 0 ≡ pair_number (answer_of a b e f)
  unfolding paired
  pair-number i e f [] fs p = absurd p
  pair-number i e f (x ∷ es) [] p = absurd p
  pair-number zero e f (x ∷ es) (y ∷ fs) p = ap₂ (λ (d g : Entry). pair_number (answer_of a b d g)) (sym p.0) (sym p.1)
  pair-number (suc i) e f (x ∷ es) (y ∷ fs) p = pair-number i e f es fs p

-- two chunks that stand as pair i
record Both (i : ℕ) (es fs : List Entry) : Type 0 where
  first : Entry
  second : Entry
  both : PairAt i first second es fs

-- they are there for every i below the number of pairs
both-there : (a b : List ℕ) (i : ℕ) (es fs : List Entry) → i < length (paired a b es fs) → Both i es fs
unfolding paired
both-there a b i [] fs h = absurd (omega arith)
both-there a b i (e ∷ es) [] h = absurd (omega arith)
both-there a b zero (e ∷ es) (f ∷ fs) h = record { first = e; second = f; both = (refl, refl) }
both-there a b (suc i) (e ∷ es) (f ∷ fs) h = let t = both-there a b i es fs (omega arith) in record { first = t.first; second = t.second; both = t.both }

pub pair-there : (sync : ℕ) (a b : List ℕ) (i : ℕ) → i < length (pairs_of sync a b) → APair sync a b i
pair-there sync a b i h = let t = both-there a b i (reading sync a) (reading sync b) h in record { first = t.first; second = t.second; paired = t.both }

-- the chunks of a pair are listed
pair-among : (i : ℕ) (e f : Entry) (es fs : List Entry) → PairAt i e f es fs → Among e es × Among f fs
pair-among i e f [] fs p = absurd p
pair-among i e f (x ∷ es) [] p = absurd p
pair-among zero e f (x ∷ es) (y ∷ fs) p = (inl p.0, inl p.1)
pair-among (suc i) e f (x ∷ es) (y ∷ fs) p = let t = pair-among i e f es fs p in (inr t.0, inr t.1)

pub pair-chunks : (sync : ℕ) (a b : List ℕ) (i : ℕ) (e f : Entry) → Paired sync a b i e f → Chunk sync a e × Chunk sync b f
pair-chunks sync a b i e f p =
    let t = pair-among i e f (reading sync a) (reading sync b) p in
    (listed-chunk sync a e t.0, listed-chunk sync b f t.1)

-- ---- which number

-- the number of an answer says it again
abbrev pub Coded : Option Words → Type 0
Coded p = pair_said (pair_number p) ≡ p

-- two such answers with one number are one
pub coded-once : (p q : Option Words) → Coded p → Coded q → pair_number p ≡ pair_number q → p ≡ q
coded-once p q c d e = sym c ∙ ap pair_said e ∙ d

-- so it is with what is true of two rows that do not part at word 0, which alone has the number of the same
coded-true : (p : Option Words) (xs ys : List ℕ) → (PartAt 0 xs ys → ⊥) → Says p xs ys → Coded p
coded-true None xs ys h s = refl
coded-true (Some n) xs ys h s = said-word n.0 (λ z. h (rw z at s))

-- and so with the answer of two listed chunks
pub coded : (sync : ℕ) (a b : List ℕ) (e f : Entry) → Chunk sync a e → Chunk sync b f → Coded (answer_of a b e f)
coded sync a b e f c d =
    coded-true (answer_of a b e f) (chunk_words a e) (chunk_words b f) (not-at-first sync a b e f c d) (answer-true (chunk_words a e) (chunk_words b f))

-- what holds of the answer of each pair of two lists holds of each of their answers
each-answer : (P : Option Words → Type 0) (a b : List ℕ) (es fs : List Entry) → ((i : ℕ) (e f : Entry) → PairAt i e f es fs → P (answer_of a b e f))
    → (p : Option Words) → AmongAnswers p (paired a b es fs) → P p
unfolding paired
each-answer P a b [] fs h p m = absurd m
each-answer P a b (e ∷ es) [] h p m = absurd m
each-answer P a b (e ∷ es) (f ∷ fs) h p (inl z) = rw z (h 0 e f (refl, refl))
each-answer P a b (e ∷ es) (f ∷ fs) h p (inr m) = each-answer P a b es fs (λ i d g q. h (suc i) d g q) p m

-- each answer of the pairs of two recordings is one that its number says again
pub every-coded : (sync : ℕ) (a b : List ℕ) (p : Option Words) → AmongAnswers p (pairs_of sync a b) → Coded p
every-coded sync a b = each-answer Coded a b (reading sync a) (reading sync b)
    (λ i e f q. let t = pair-chunks sync a b i e f q in coded sync a b e f t.0 t.1)

-- a row of such numbers says the row of answers again
pub said-again : (ps : List (Option Words)) → ((p : Option Words) → AmongAnswers p ps → Coded p) → map pair_said (pair_numbers ps) ≡ ps
said-again [] h = refl
said-again (p ∷ ps) h = ap₂ (λ (q : Option Words) (l : List (Option Words)). q ∷ l) (h p (inl refl)) (said-again ps (λ q m. h q (inr m)))

-- ---- the same recording, and the other order

-- a list and itself: every answer is the same, and every number 0
pub paired-itself : (a : List ℕ) (es : List Entry) → paired a a es es ≡ replicate (length es) None
unfolding paired
paired-itself a [] = refl
paired-itself a (e ∷ es) = ap₂ (λ (p : Option Words) (l : List (Option Words)). p ∷ l) ((answered None (chunk_words a e) (chunk_words a e)).1 refl) (paired-itself a es)

pub numbers-same : (n : ℕ) → pair_numbers (replicate n None) ≡ replicate n 0
numbers-same zero = refl
numbers-same (suc n) = ap (λ (l : List ℕ). 0 ∷ l) (numbers-same n)

-- two lists in the other order have the same answers
pub paired-exchanged : (a b : List ℕ) (es fs : List Entry) → paired b a fs es ≡ paired a b es fs
unfolding paired
paired-exchanged a b [] [] = refl
paired-exchanged a b [] (f ∷ fs) = refl
paired-exchanged a b (e ∷ es) [] = refl
paired-exchanged a b (e ∷ es) (f ∷ fs) =
    ap₂ (λ (p : Option Words) (l : List (Option Words)). p ∷ l) (words-exchanged (chunk_words a e) (chunk_words b f)) (paired-exchanged a b es fs)
