-- FORMAT, "Comparing recordings": what the entries of the list tell after a comparison that is accepted.
use Rattle.std.specs.Prelude.{ℕ, zero, suc, ◌≤◌, ◌<◌, ◌≡◌, List, [], ◌∷◌, ◌++◌, map, ◌⊎◌, length, get_or, take, Option}
use Rattle.chunk.specs.declared.Entry.{Entry}
use Rattle.chunk.specs.Reading.{reading}
use Rattle.chunk_laws.specs.Ends.{Exactly}
use Rattle.base.specs.declared.Words.{Words}
use Rattle.chunk_compare.specs.Pairs.{chunk_words, pairs_of, pair_number, pair_said}
use Rattle.chunk_compare.specs.Compare.{compare_reply, compare_room}
use Rattle.chunk_compare_laws.specs.Words.{PartAt}

-- the comparison of a and b with this list is accepted
abbrev pub Accepted : ℕ → List ℕ → List ℕ → List ℕ → Type 0
Accepted sync a b list = (compare_reply sync a b (length list)).refusal ≡ 0

-- entry i of the list afterwards
abbrev pub entry_at : ℕ → List ℕ → List ℕ → List ℕ → ℕ → ℕ
entry_at sync a b list i = get_or (compare_room sync a b list) i 0

-- the entries that tell of a pair: as many as the reply has pairs
abbrev pub told : ℕ → List ℕ → List ℕ → List ℕ → List ℕ
told sync a b list = take (compare_reply sync a b (length list)).pairs (compare_room sync a b list)

-- ---- pairs

-- e and f are entry i of two lists, counted from 0; there is no such pair where one list is too short
abbrev pub PairAt : ℕ → Entry → Entry → List Entry → List Entry → Type 0
PairAt i e f [] fs = ⊥
PairAt i e f (x ∷ es) [] = ⊥
PairAt zero e f (x ∷ es) (y ∷ fs) = (e ≡ x) × (f ≡ y)
PairAt (suc i) e f (x ∷ es) (y ∷ fs) = PairAt i e f es fs

-- e and f are pair i of the chunks listed in a and in b
abbrev pub Paired : ℕ → List ℕ → List ℕ → ℕ → Entry → Entry → Type 0
Paired sync a b i e f = PairAt i e f (reading sync a) (reading sync b)

-- there is a pair i
pub record APair (sync : ℕ) (a b : List ℕ) (i : ℕ) : Type 0 where
  pub first : Entry
  pub second : Entry
  pub paired : Paired sync a b i first second

-- There is a pair i exactly for each i below the number of pairs: so what is said below of a pair is said of every entry that the call writes.
pub record Covers (sync : ℕ) (a b list : List ℕ) : Type 0 where
  pub every : (i : ℕ) → i < (compare_reply sync a b (length list)).pairs → APair sync a b i
  pub only : (i : ℕ) (e f : Entry) → Paired sync a b i e f → i < (compare_reply sync a b (length list)).pairs

abbrev pub EveryPairIsTold : Type 0
EveryPairIsTold = (sync : ℕ) (a b list : List ℕ) → Accepted sync a b list → Covers sync a b list

-- ---- what an entry tells

-- The entry x of a pair is the truth: 0 exactly where the two chunks have the same words, and n exactly where they part at word n.
pub record TrueEntry (a b : List ℕ) (e f : Entry) (x : ℕ) : Type 0 where
  pub same : Exactly (x ≡ 0) (chunk_words a e ≡ chunk_words b f)
  pub parts : (n : ℕ) → 0 < n → Exactly (x ≡ n) (PartAt n (chunk_words a e) (chunk_words b f))

abbrev pub EntriesAreTrue : Type 0
EntriesAreTrue =
    (sync : ℕ) (a b list : List ℕ) → Accepted sync a b list
    → (i : ℕ) (e f : Entry) → Paired sync a b i e f → TrueEntry a b e f (entry_at sync a b list i)

-- Chunks with different headers differ first at word 1, and those with the same header are of one length. So a difference lies inside both.
pub record HeaderFirst (a b : List ℕ) (e f : Entry) (x : ℕ) : Type 0 where
  pub other : (e.header ≡ f.header → ⊥) → x ≡ 1
  pub alike : e.header ≡ f.header → length (chunk_words a e) ≡ length (chunk_words b f)
  -- the longest chunk has 8,186 words
  pub inside : 0 < x → (x < length (chunk_words a e)) × (x < length (chunk_words b f)) × (x ≤ 8185)

abbrev pub HeadersComeFirst : Type 0
HeadersComeFirst =
    (sync : ℕ) (a b list : List ℕ) → Accepted sync a b list
    → (i : ℕ) (e f : Entry) → Paired sync a b i e f → HeaderFirst a b e f (entry_at sync a b list i)

-- Of two chunks in a pair neither is a prefix of the other, unless they are the same: where one begins the other, nothing is left of the other.
abbrev pub NeitherIsPrefix : Type 0
NeitherIsPrefix =
    (sync : ℕ) (a b : List ℕ) (i : ℕ) (e f : Entry) → Paired sync a b i e f → (rest : List ℕ)
    → (chunk_words a e ++ rest ≡ chunk_words b f → rest ≡ []) × (chunk_words b f ++ rest ≡ chunk_words a e → rest ≡ [])

-- ---- one number for each answer

-- p is one of these answers
abbrev pub AmongAnswers : Option Words → List (Option Words) → Type 0
AmongAnswers p [] = ⊥
AmongAnswers p (q ∷ ps) = (p ≡ q) ⊎ AmongAnswers p ps

-- What the entries say are the answers of the pairs, in order.
abbrev pub EntriesSayAnswers : Type 0
EntriesSayAnswers = (sync : ℕ) (a b list : List ℕ) → Accepted sync a b list → map pair_said (told sync a b list) ≡ pairs_of sync a b

-- No two different answers of the pairs have the same number.
abbrev pub NumbersTellAnswers : Type 0
NumbersTellAnswers =
    (sync : ℕ) (a b : List ℕ) (p q : Option Words) → AmongAnswers p (pairs_of sync a b) → AmongAnswers q (pairs_of sync a b) → pair_number p ≡ pair_number q → p ≡ q
