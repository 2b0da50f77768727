-- Laws of headers at a place of a recording: what the header check looks at, and what a confirmed chunk tells.
use mathlib.Core.Path.{◌≡◌, refl, ap, ◌∙◌}
use mathlib.Core.Bool.{Bool, true, false, cond, ◌&&◌, ◌||◌, and-true, false≢true}
use mathlib.Core.List.{List, [], ◌∷◌}
use mathlib.Core.Logic.{inl, inr}
use Prim.Native.Nat.{ℕ, ◌+◌, ◌-◌, ◌≤◌, ◌<◌, ◌%◌}
use native.Mathlib.Omega.{arith}
use native.Mathlib.Numerals.{add-one}
use lib.ListN.{length, get_or, drop, length-drop}
use lib.Seq.{drop-cons, drop-drop, get_or-drop}
use native.Mathlib.Nat.{mod-lt}
use lib.Dec.{leb, eqb, lit<}
use borrow.Author.Tests.{eqb-true, eqb-false, eq-eqb, ne_eqb, leb-true, leb-false, le-leb}
use Rattle.base.proofs.Booleans.{and_left, and_right, or_cases}
use Rattle.chunk.specs.declared.Check.{Check}
use Rattle.chunk.specs.Header.{size, camera, kind, image_size, health_size, legal_size, legal, headed, span, ends, confirmed, at_end, chunk_check, check_at, is_chunk, is_at_end}

-- of a chunk the header check tells the mark
pub chunk-told : (m : Bool) → is_chunk (chunk_check m) ≡ true
chunk-told true = refl
chunk-told false = refl

pub at-end-told : (m : Bool) → is_at_end (chunk_check m) ≡ m
at-end-told true = refl
at-end-told false = refl

-- it finds a chunk exactly where one is confirmed
pub check-chunk : (sync : ℕ) (ws : List ℕ) → is_chunk (check_at sync ws) ≡ confirmed sync ws
unfolding check_at
check-chunk sync ws = by-test (confirmed sync ws)
  where
    by-test : (b : Bool) → is_chunk (cond b (chunk_check (at_end ws)) Check.NotAChunk) ≡ b
    by-test true = chunk-told (at_end ws)
    by-test false = refl

pub check-end : (sync : ℕ) (ws : List ℕ) → confirmed sync ws ≡ true → is_at_end (check_at sync ws) ≡ at_end ws
unfolding check_at
check-end sync ws e = rw e (at-end-told (at_end ws))

-- a legal payload has 9 words at the least, and the longest chunk has 8,186
pub legal-size : (k n : ℕ) → legal_size k n ≡ true → (9 ≤ n) × (n ≤ 8184)
unfolding legal_size
legal-size k n e =
    let bounds : leb 1 n && leb n 8190 ≡ true = and_left (leb 1 n && leb n 8190) (cond (eqb k 0) (image_size n) (health_size n)) e in
    let low : 1 ≤ n = leb-true 1 n (and_left (leb 1 n) (leb n 8190) bounds) in
    let high : n ≤ 8190 = leb-true n 8190 (and_right (leb 1 n) (leb n 8190) bounds) in
    by_kind low high (eqb k 0) (and_right (leb 1 n && leb n 8190) (cond (eqb k 0) (image_size n) (health_size n)) e)
  where
    by_kind : 1 ≤ n → n ≤ 8190 → (b : Bool) → cond b (image_size n) (health_size n) ≡ true → (9 ≤ n) × (n ≤ 8184)
    by_kind low high true c =
        elim (or_cases (eqb (n % 264) 0) (leb 9 (n % 264)) c) as (λ x. (9 ≤ n) × (n ≤ 8184)) [
          | inl z ↦ let t = eqb-true (n % 264) 0 z in (omega arith, omega arith)
          | inr z ↦ let t = leb-true 9 (n % 264) z in (omega arith, omega arith)
        ]
    by_kind low high false c = let t = eqb-true (n % 32) 0 c in (omega arith, omega arith)

pub legal-bounds : (h : ℕ) → legal h ≡ true → (9 ≤ size h) × (size h ≤ 8184)
unfolding legal
legal-bounds h e = legal-size (kind h) (size h) (and_left (legal_size (kind h) (size h)) _ e)

-- a header word of size 0 is illegal
pub legal_empty : (h : ℕ) → size h ≡ 0 → legal h ≡ false
unfolding legal legal_size
legal_empty h z = rw z

-- of any other size of 13 bits the rule of the kind alone tells: 8,191, which is too long, meets neither
within-bounds : (n : ℕ) (b : Bool) → 1 ≤ n → n < 8192
    → leb 1 n && leb n 8190 && cond b (image_size n) (health_size n) ≡ cond b (image_size n) (health_size n)
within-bounds n b low high = by-bound (leb n 8190) refl
  where
    too_long : (b : Bool) → leb 1 8191 && leb 8191 8190 && cond b (image_size 8191) (health_size 8191) ≡ cond b (image_size 8191) (health_size 8191)
    too_long true = refl
    too_long false = refl

    by-bound : (t : Bool) → leb n 8190 ≡ t → leb 1 n && leb n 8190 && cond b (image_size n) (health_size n) ≡ cond b (image_size n) (health_size n)
    by-bound true t = rw (le-leb 1 n low, t)
    by-bound false t = let e : n ≡ 8191 = omega (arith, leb-false n 8190 t) in rw e (too_long b)

pub legal_image : (h : ℕ) → 1 ≤ size h → kind h ≡ 0 → legal h ≡ image_size (size h)
unfolding legal legal_size
legal_image h low k = rw (eq-eqb (kind h) 0 k, within-bounds (size h) true low (mod-lt h (lit< tt)), and-true)

pub legal_health : (h : ℕ) → 1 ≤ size h → (kind h ≡ 0 → ⊥) → legal h ≡ health_size (size h) && eqb (camera h) 0
unfolding legal legal_size
legal_health h low k = rw (ne_eqb (kind h) 0 k, within-bounds (size h) false low (mod-lt h (lit< tt)))

-- a header is the sync word and a legal header word
pub headed-parts : (sync : ℕ) (ws : List ℕ) → headed sync ws ≡ true → (get_or ws 0 0 ≡ sync) × (1 < length ws) × (legal (get_or ws 1 0) ≡ true)
unfolding headed
headed-parts sync [] e = absurd (false≢true e)
headed-parts sync (w ∷ []) e = absurd (false≢true e)
headed-parts sync (w ∷ h ∷ ws) e = (eqb-true w sync (and_left (eqb w sync) (legal h) e), omega arith, and_right (eqb w sync) (legal h) e)

-- the end of a chunk lies within the words
pub ends-within : (sync n : ℕ) (ws : List ℕ) → ends sync n ws ≡ true → n ≤ length ws
unfolding ends
ends-within sync n ws e =
    elim (or_cases (eqb n (length ws)) (headed sync (drop n ws)) e) as (λ x. n ≤ length ws) [
      | inl z ↦ omega (arith, eqb-true n (length ws) z)
      | inr z ↦ let h : 1 < length (drop n ws) = (headed-parts sync (drop n ws) z).1 in omega (arith, simp length-drop at h)
    ]

-- a confirmed chunk lies within the words, and its size is legal
pub confirmed-within : (sync : ℕ) (ws : List ℕ) → confirmed sync ws ≡ true → (span (get_or ws 1 0) ≤ length ws) × (9 ≤ size (get_or ws 1 0)) × (size (get_or ws 1 0) ≤ 8184)
unfolding confirmed
confirmed-within sync ws e =
    let h : headed sync ws ≡ true = and_left (headed sync ws) (ends sync (span (get_or ws 1 0)) ws) e in
    let b = legal-bounds (get_or ws 1 0) (headed-parts sync ws h).2 in
    (ends-within sync (span (get_or ws 1 0)) ws (and_right (headed sync ws) (ends sync (span (get_or ws 1 0)) ws) e), b.0, b.1)

-- ---- at a place of a recording

no_header : (sync : ℕ) (l : List ℕ) → length l < 2 → headed sync l ≡ false
unfolding headed
no_header sync [] h = refl
no_header sync (w ∷ []) h = refl
no_header sync (w ∷ v ∷ l) h = absurd (omega arith)

pub end-shifted : (n at l end : ℕ) → at + n ≡ end → at ≤ l → eqb n (l - at) ≡ eqb end l
end-shifted n at l end e h = by_end (eqb end l) refl
  where
    by_end : (b : Bool) → eqb end l ≡ b → eqb n (l - at) ≡ b
    by_end true z = eq-eqb n (l - at) (omega (arith, eqb-true end l z))
    by_end false z = ne_eqb n (l - at) (λ q. eqb-false end l z (omega arith))

module _ (sync : ℕ) (ws : List ℕ) (at : ℕ) where
  pub headed_none : length ws < at + 2 → headed sync (drop at ws) ≡ false
  headed_none h = no_header sync (drop at ws) (simp length-drop (omega arith))

  -- the two words of a header
  pub headed_by_words : at + 1 < length ws → headed sync (drop at ws) ≡ eqb (get_or ws at 0) sync && legal (get_or ws (at + 1) 0)
  unfolding headed
  headed_by_words h =
      rw (drop-cons ws at 0 (omega arith), ← add-one at, drop-cons ws (at + 1) 0 h)

  -- a header lies within the recording
  pub headed-inside : headed sync (drop at ws) ≡ true → at + 1 < length ws
  headed-inside e = let h : 1 < length (drop at ws) = (headed-parts sync (drop at ws) e).1 in omega (arith, simp length-drop at h)

  pub confirmed_none : headed sync (drop at ws) ≡ false → confirmed sync (drop at ws) ≡ false
  unfolding confirmed
  confirmed_none e = ap (λ (b : Bool). b && ends sync (span (get_or (drop at ws) 1 0)) (drop at ws)) e

  -- the chunk there ends with the recording
  pub at-end : (end : ℕ) → at ≤ length ws → end ≡ at + 2 + size (get_or ws (at + 1) 0) → at_end (drop at ws) ≡ eqb end (length ws)
  unfolding at_end
  at-end end h n =
      let s : at + span (get_or (drop at ws) 1 0) ≡ end = omega (arith, ap size (get_or-drop at ws 1 0)) in
      ap (eqb (span (get_or (drop at ws) 1 0))) (length-drop at ws) ∙ end-shifted (span (get_or (drop at ws) 1 0)) at (length ws) end s h

  -- where a header stands, the chunk is confirmed by what stands at its end
  pub confirmed-by-end : (end : ℕ) → headed sync (drop at ws) ≡ true → end ≡ at + 2 + size (get_or ws (at + 1) 0)
      → confirmed sync (drop at ws) ≡ eqb end (length ws) || headed sync (drop end ws)
  unfolding confirmed ends at_end
  confirmed-by-end end e n =
      let s : at + span (get_or (drop at ws) 1 0) ≡ end = omega (arith, ap size (get_or-drop at ws 1 0)) in
      let l : eqb (span (get_or (drop at ws) 1 0)) (length (drop at ws)) ≡ eqb end (length ws) = at-end end (omega (arith, headed-inside e)) n in
      let d : drop (span (get_or (drop at ws) 1 0)) (drop at ws) ≡ drop end ws = drop-drop (span (get_or (drop at ws) 1 0)) at ws ∙ ap (λ (m : ℕ). drop m ws) s in
      rw (e, l, d)

  pub check_none : headed sync (drop at ws) ≡ false → check_at sync (drop at ws) ≡ Check.NotAChunk
  unfolding check_at
  check_none e = rw (confirmed_none e)

-- where a header stands, the end alone is left to look at: a legal header stands there, it is the recording's, or neither
pub check_by_end : (sync : ℕ) (ws : List ℕ) (at end : ℕ) → headed sync (drop at ws) ≡ true → end ≡ at + 2 + size (get_or ws (at + 1) 0)
    → check_at sync (drop at ws) ≡ cond (headed sync (drop end ws)) Check.Followed (cond (eqb end (length ws)) Check.AtEnd Check.NotAChunk)
unfolding check_at
check_by_end sync ws at end e n =
    rw (confirmed-by-end sync ws at end e n, at-end sync ws at end (omega (arith, headed-inside sync ws at e)) n)
    (by-header (headed sync (drop end ws)) refl)
  where
    by_place : (b : Bool) → cond (b || false) (chunk_check b) Check.NotAChunk ≡ cond b Check.AtEnd Check.NotAChunk
    by_place true = refl
    by_place false = refl

    by-header : (h : Bool) → headed sync (drop end ws) ≡ h
        → cond (eqb end (length ws) || h) (chunk_check (eqb end (length ws))) Check.NotAChunk
        ≡ cond h Check.Followed (cond (eqb end (length ws)) Check.AtEnd Check.NotAChunk)
    by-header true q = rw (ne_eqb end (length ws) (λ z. omega (arith, headed-inside sync ws end q)))
    by-header false q = by_place (eqb end (length ws))
