-- What an entry tells: the number of the pair's answer, which is true of the words of the two chunks (`Words`) and says it again (`Pairs`).
use Rattle.std.proofs.Common.{Option, None}
use mathlib.Core.Path.{◌≡◌, refl, ap, ◌∙◌}
use mathlib.Core.List.{List, map}
use Prim.Native.Nat.{ℕ, ◌<◌}
use native.Mathlib.Omega.{arith}
use Rattle.chunk.specs.declared.Entry.{Entry}
use Rattle.chunk.specs.Reading.{reading}
use Rattle.chunk_laws.specs.Ends.{Exactly}
use Rattle.base.specs.declared.Words.{Words}
use Rattle.chunk_compare.specs.Pairs.{chunk_words, differs, pairs_of, pair_number, pair_said}
use Rattle.chunk_compare.proofs.Difference.{said-word}
use Rattle.chunk_compare_laws.specs.Words.{PartAt}
use Rattle.chunk_compare_laws.specs.Entries.{Accepted, entry_at, Paired, TrueEntry, HeaderFirst, EveryPairIsTold, EntriesAreTrue, HeadersComeFirst, NeitherIsPrefix, EntriesSayAnswers, NumbersTellAnswers}
use Rattle.chunk_compare_laws.proofs.Words.{Says, answered}
use Rattle.chunk_compare_laws.proofs.Chunks.{Chunk, one-length, part-at-header, part-inside, no-prefix}
use Rattle.chunk_compare_laws.proofs.Pairs.{answer_of, pair-below, pair-number, pair-there, pair-chunks, Coded, coded, coded-once, every-coded, said-again}
use Rattle.chunk_compare_laws.proofs.Call.{accepted-pairs, told-numbers, entry-number}

-- ---- every pair

pub every-pair-is-told : EveryPairIsTold
every-pair-is-told sync a b list z = record {
  every = λ i h. pair-there sync a b i (omega (arith, accepted-pairs sync a b list z));
  only = λ i e f p. omega (arith, accepted-pairs sync a b list z, pair-below a b i e f (reading sync a) (reading sync b) p);
}

-- ---- the number of one pair

module _ (sync : ℕ) (a b : List ℕ) (e f : Entry) (c : Chunk sync a e) (d : Chunk sync b f) where
  abbrev xs : List ℕ
  xs = chunk_words a e

  abbrev ys : List ℕ
  ys = chunk_words b f

  -- the number of an answer that numbers tell stands exactly where it is true
  number-true : (p : Option Words) → Coded p → Exactly (pair_number (answer_of a b e f) ≡ pair_number p) (Says p xs ys)
  number-true p k = (
    λ n. (answered p xs ys).0 (coded-once (answer_of a b e f) p (coded sync a b e f c d) k n),
    λ s. ap pair_number ((answered p xs ys).1 s),
  )

  word-true : (n : ℕ) → 0 < n → Exactly (pair_number (answer_of a b e f) ≡ n) (PartAt n xs ys)
  word-true n h = number-true (differs n) (said-word n (λ z. omega arith))

  number-is-true : TrueEntry a b e f (pair_number (answer_of a b e f))
  number-is-true = record { same = number-true None refl; parts = word-true }

  number-header-first : HeaderFirst a b e f (pair_number (answer_of a b e f))
  number-header-first = record {
    other = λ n. (word-true 1 (omega arith)).1 (part-at-header sync a b e f c d n);
    alike = one-length sync a b e f c d;
    inside = λ h. part-inside sync a b e f c d (pair_number (answer_of a b e f)) ((word-true (pair_number (answer_of a b e f)) h).0 refl);
  }

-- ---- the entry of one pair

entry-of-pair : (sync : ℕ) (a b list : List ℕ) → Accepted sync a b list → (i : ℕ) (e f : Entry) → Paired sync a b i e f
    → entry_at sync a b list i ≡ pair_number (answer_of a b e f)
entry-of-pair sync a b list z i e f p =
    entry-number sync a b list z i (pair-below a b i e f (reading sync a) (reading sync b) p) ∙ pair-number a b i e f (reading sync a) (reading sync b) p

pub entries-are-true : EntriesAreTrue
entries-are-true sync a b list z i e f p =
    let t = pair-chunks sync a b i e f p in
    rw (entry-of-pair sync a b list z i e f p) (number-is-true sync a b e f t.0 t.1)

pub headers-come-first : HeadersComeFirst
headers-come-first sync a b list z i e f p =
    let t = pair-chunks sync a b i e f p in
    rw (entry-of-pair sync a b list z i e f p) (number-header-first sync a b e f t.0 t.1)

pub neither-is-prefix : NeitherIsPrefix
neither-is-prefix sync a b i e f p rest =
    let t = pair-chunks sync a b i e f p in
    (no-prefix sync a b e f t.0 t.1 rest, no-prefix sync b a f e t.1 t.0 rest)

-- ---- numbers and answers

pub entries-say-answers : EntriesSayAnswers
entries-say-answers sync a b list z = ap (map pair_said) (told-numbers sync a b list z) ∙ said-again (pairs_of sync a b) (every-coded sync a b)

pub numbers-tell-answers : NumbersTellAnswers
numbers-tell-answers sync a b p q m n e = coded-once p q (every-coded sync a b p m) (every-coded sync a b q n) e
