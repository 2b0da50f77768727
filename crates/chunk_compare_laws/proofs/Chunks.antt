-- Two listed chunks begin with the same sync word, and each has the length that its header word says. So they never part at word 0, different headers
-- part at word 1, and where the headers agree neither chunk ends before the other.
use mathlib.Core.Path.{◌≡◌, refl, sym, ap, ◌∙◌}
use mathlib.Core.Bool.{true}
use mathlib.Core.List.{List, [], ◌∷◌, ◌++◌}
use mathlib.Core.Logic.{inl, inr}
use Prim.Native.Nat.{ℕ, ◌≤◌, ◌<◌}
use native.Mathlib.Omega.{arith}
use lib.ListN.{length, get_or, take, drop, length-append, get_or-append}
use lib.Seq.{length-take-le, take-suc, get_or-take}
use lib.Dec.{eqb}
use Rattle.base.proofs.Booleans.{and_left, and_right}
use Rattle.chunk.specs.declared.Entry.{Entry}
use Rattle.chunk.specs.Header.{size, span, headed, ends, confirmed}
use Rattle.chunk.specs.Reading.{reading, left_at, listed_at}
use Rattle.chunk.proofs.Headers.{headed-parts, confirmed-within}
use Rattle.chunk_laws.specs.Listed.{Among}
use Rattle.chunk_laws.proofs.ByPlace.{listed-place}
use Rattle.chunk_compare.specs.Pairs.{chunk_words}
use Rattle.chunk_compare_laws.specs.Words.{EndsAt, PartAt}

-- ---- the words of one chunk

-- a chunk with the entry e: as many words as its header says, the sync word and the header word first, and a legal size
pub record Chunk (sync : ℕ) (ws : List ℕ) (e : Entry) : Type 0 where
  pub words : length (chunk_words ws e) ≡ span e.header
  pub first : get_or (chunk_words ws e) 0 0 ≡ sync
  pub second : get_or (chunk_words ws e) 1 0 ≡ e.header
  pub least : 9 ≤ size e.header
  pub most : size e.header ≤ 8184

-- a chunk that is confirmed at the front of these words
front : (sync : ℕ) (vs : List ℕ) → confirmed sync vs ≡ true → (get_or vs 0 0 ≡ sync) × (span (get_or vs 1 0) ≤ length vs)
unfolding confirmed
front sync vs c = ((headed-parts sync vs (and_left (headed sync vs) (ends sync (span (get_or vs 1 0)) vs) c)).0, (confirmed-within sync vs c).0)

-- where a chunk is listed, one is confirmed
place-confirmed : (sync : ℕ) (ws : List ℕ) (p : ℕ) → listed_at sync ws p ≡ true → confirmed sync (drop p ws) ≡ true
unfolding listed_at
place-confirmed sync ws p h = and_right (eqb (left_at sync 0 ws p) 0) (confirmed sync (drop p ws)) h

-- each listed chunk is one
pub listed-chunk : (sync : ℕ) (ws : List ℕ) (e : Entry) → Among e (reading sync ws) → Chunk sync ws e
listed-chunk sync ws e h =
    let vs : List ℕ = drop e.position.0 ws in
    let t = listed-place sync ws e h in
    let c : confirmed sync vs ≡ true = place-confirmed sync ws e.position.0 t.0 in
    let b = confirmed-within sync vs c in
    let n : size e.header ≡ size (get_or vs 1 0) = ap size t.1 in
    record {
      words = length-take-le (span e.header) vs (omega (arith, b.0));
      first = get_or-take (span e.header) vs 0 0 (omega arith) ∙ (front sync vs c).0;
      second = get_or-take (span e.header) vs 1 0 (omega arith) ∙ sym t.1;
      least = omega (arith, b.1);
      most = omega (arith, b.2);
    }

-- ---- the words of two

nothing : (l : List ℕ) → length l ≡ 0 → l ≡ []
nothing [] e = refl
nothing (x ∷ l) e = absurd (omega arith)

module _ (sync : ℕ) (a b : List ℕ) (e f : Entry) (c : Chunk sync a e) (d : Chunk sync b f) where
  -- one header, one length
  pub one-length : e.header ≡ f.header → length (chunk_words a e) ≡ length (chunk_words b f)
  one-length h = c.words ∙ ap span h ∙ sym d.words

  -- they have the same length where they agree at word 1
  alike : get_or (chunk_words a e) 1 0 ≡ get_or (chunk_words b f) 1 0 → length (chunk_words a e) ≡ length (chunk_words b f)
  alike h = one-length (sym c.second ∙ h ∙ d.second)

  -- they have the same sync word
  pub not-at-first : PartAt 0 (chunk_words a e) (chunk_words b f) → ⊥
  not-at-first (_, inl (_, _, n)) = n (c.first ∙ sym d.first)
  not-at-first (_, inr (inl (z, _))) = omega (arith, c.words)
  not-at-first (_, inr (inr (z, _))) = omega (arith, d.words)

  -- different header words part at word 1
  pub part-at-header : (e.header ≡ f.header → ⊥) → PartAt 1 (chunk_words a e) (chunk_words b f)
  part-at-header n = (
    take-suc (chunk_words a e) 0 0 (omega (arith, c.words)) ∙ ap (λ (x : ℕ). x ∷ []) (c.first ∙ sym d.first)
        ∙ sym (take-suc (chunk_words b f) 0 0 (omega (arith, d.words))),
    inl (omega (arith, c.words, c.least), omega (arith, d.words, d.least), λ z. n (sym c.second ∙ z ∙ d.second)),
  )

  -- the first does not end before the second
  pub not-at-end : (n : ℕ) → take n (chunk_words a e) ≡ take n (chunk_words b f) → EndsAt n (chunk_words a e) (chunk_words b f) → ⊥
  not-at-end n agree (z, l) =
      let two : 1 < n = omega (arith, c.words) in
      let h : get_or (chunk_words a e) 1 0 ≡ get_or (chunk_words b f) 1 0 =
      sym (get_or-take n (chunk_words a e) 1 0 two) ∙ ap (λ (l : List ℕ). get_or l 1 0) agree ∙ get_or-take n (chunk_words b f) 1 0 two in
      omega (arith, alike h)

  -- nor is it a prefix
  pub no-prefix : (rest : List ℕ) → chunk_words a e ++ rest ≡ chunk_words b f → rest ≡ []
  no-prefix rest z =
      let two : 1 < length (chunk_words a e) = omega (arith, c.words) in
      let h : get_or (chunk_words a e) 1 0 ≡ get_or (chunk_words b f) 1 0 =
      sym (get_or-append (chunk_words a e) rest 0 1 two) ∙ ap (λ (l : List ℕ). get_or l 1 0) z in
      nothing rest (omega (arith, alike h, ap length z, length-append (chunk_words a e) rest))

-- where two chunks part, both have a word
pub part-inside : (sync : ℕ) (a b : List ℕ) (e f : Entry) → Chunk sync a e → Chunk sync b f → (n : ℕ) → PartAt n (chunk_words a e) (chunk_words b f)
    → (n < length (chunk_words a e)) × (n < length (chunk_words b f)) × (n ≤ 8185)
part-inside sync a b e f c d n (agree, inl (l, m, _)) = (l, m, omega (arith, c.words, c.most))
part-inside sync a b e f c d n (agree, inr (inl z)) = absurd (not-at-end sync a b e f c d n agree z)
part-inside sync a b e f c d n (agree, inr (inr z)) = absurd (not-at-end sync b a f e d c n (sym agree) z)
