-- The reading of a recording in steps of the search: from a place where no chunk is in hand, the words up to the next confirmed chunk are skipped,
-- that chunk is listed, and the reading stands at its end with no chunk in hand. Places count from the recording's start; `drop p ws` are the words from p on.
use Rattle.std.specs.Prelude.{Option, Some, None}
use mathlib.Core.Path.{◌≡◌, refl, sym, ap, ap₂, subst, ◌∙◌}
use mathlib.Core.Bool.{Bool, true, false, cond, ◌&&◌, and-false}
use mathlib.Core.List.{List, [], ◌∷◌}
use Prim.Native.Nat.{ℕ, zero, suc, ◌+◌, ◌-◌, ◌≤◌, ◌<◌}
use native.Mathlib.Omega.{arith}
use native.Mathlib.Nat.{add-zero, zero-add, suc-add}
use native.Mathlib.Numerals.{add-one}
use lib.ListN.{length, get_or, drop, length-drop, drop_of_length-le}
use lib.Seq.{drop-cons, drop-drop, get_or-drop}
use lib.Dec.{eqb, ltb}
use borrow.Author.Tests.{eq-eqb, ne_eqb, ltb-true, ltb-false}
use Rattle.base.specs.declared.Words.{Words}
use Rattle.chunk.specs.declared.Entry.{Entry}
use Rattle.chunk.specs.Header.{size, span, headed, ends, confirmed, at_end}
use Rattle.chunk.specs.Reading.{entry, listed, skipped_from, left_at, listed_at, chunk_at, found, next_from}
use Rattle.chunk.proofs.Headers.{confirmed-within, headed_none, headed_by_words, confirmed_none, at-end}

-- ---- a chunk in hand is passed

pub listed-on : (sync at left : ℕ) (ws : List ℕ) → left ≤ length ws → listed sync at left ws ≡ listed sync (at + left) 0 (drop left ws)
unfolding listed
listed-on sync at zero ws h = ap (λ (n : ℕ). listed sync n 0 ws) (sym (add-zero at))
listed-on sync at (suc left) [] h = absurd (omega arith)
listed-on sync at (suc left) (w ∷ ws) h = listed-on sync (suc at) left ws (omega arith) ∙ ap (λ (n : ℕ). listed sync n 0 (drop left ws)) (omega arith)

pub skipped-on : (sync left : ℕ) (ws : List ℕ) → left ≤ length ws → skipped_from sync left ws ≡ skipped_from sync 0 (drop left ws)
unfolding skipped_from
skipped-on sync zero ws h = refl
skipped-on sync (suc left) [] h = absurd (omega arith)
skipped-on sync (suc left) (w ∷ ws) h = skipped-on sync left ws (omega arith)

pub left-on : (sync left q : ℕ) (ws : List ℕ) → q ≤ left → left ≤ length ws → left_at sync left ws q ≡ left - q
unfolding left_at
left-on sync left zero ws h k = omega arith
left-on sync zero (suc q) ws h k = absurd (omega arith)
left-on sync (suc left) (suc q) [] h k = absurd (omega arith)
left-on sync (suc left) (suc q) (w ∷ ws) h k = left-on sync left q ws (omega arith) (omega arith) ∙ omega arith

nothing_left : (sync n : ℕ) → left_at sync 0 [] n ≡ 0
unfolding left_at
nothing_left sync zero = refl
nothing_left sync (suc n) = refl

-- the state at p + n is that of the words from p on, with the state at p
pub left_split : (sync left p n : ℕ) (ws : List ℕ) → left_at sync left ws (p + n) ≡ left_at sync (left_at sync left ws p) (drop p ws) n
unfolding left_at
left_split sync left zero n ws = ap (λ (m : ℕ). left_at sync left ws m) (zero-add n)
left_split sync left (suc p) n [] = ap (λ (m : ℕ). left_at sync left [] m) (suc-add p n) ∙ sym (nothing_left sync n)
left_split sync (suc left) (suc p) n (w ∷ ws) = ap (λ (m : ℕ). left_at sync (suc left) (w ∷ ws) m) (suc-add p n) ∙ left_split sync left p n ws
left_split sync zero (suc p) n (w ∷ ws) =
    ap (λ (m : ℕ). left_at sync 0 (w ∷ ws) m) (suc-add p n)
    ∙ left_split sync (cond (confirmed sync (w ∷ ws)) (suc (size (get_or ws 0 0))) 0) p n ws

-- ---- one word, where no chunk is in hand

pub listed-one : (sync at : ℕ) (w : ℕ) (ws : List ℕ) (b : Bool) → confirmed sync (w ∷ ws) ≡ b
    → listed sync at 0 (w ∷ ws) ≡ cond b (entry at (get_or ws 0 0) (at_end (w ∷ ws)) ∷ listed sync (suc at) (suc (size (get_or ws 0 0))) ws) (listed sync (suc at) 0 ws)
unfolding listed
listed-one sync at w ws true e =
    ap (λ (b : Bool). elim b as (λ x. List Entry) [ true ↦ entry at (get_or ws 0 0) (at_end (w ∷ ws)) ∷ listed sync (suc at) (suc (size (get_or ws 0 0))) ws | false ↦ listed sync (suc at) 0 ws ]) e
listed-one sync at w ws false e =
    ap (λ (b : Bool). elim b as (λ x. List Entry) [ true ↦ entry at (get_or ws 0 0) (at_end (w ∷ ws)) ∷ listed sync (suc at) (suc (size (get_or ws 0 0))) ws | false ↦ listed sync (suc at) 0 ws ]) e

pub skipped-one : (sync : ℕ) (w : ℕ) (ws : List ℕ) (b : Bool) → confirmed sync (w ∷ ws) ≡ b
    → skipped_from sync 0 (w ∷ ws) ≡ cond b (skipped_from sync (suc (size (get_or ws 0 0))) ws) (suc (skipped_from sync 0 ws))
unfolding skipped_from
skipped-one sync w ws true e =
    ap (λ (b : Bool). elim b as (λ x. ℕ) [ true ↦ skipped_from sync (suc (size (get_or ws 0 0))) ws | false ↦ suc (skipped_from sync 0 ws) ]) e
skipped-one sync w ws false e =
    ap (λ (b : Bool). elim b as (λ x. ℕ) [ true ↦ skipped_from sync (suc (size (get_or ws 0 0))) ws | false ↦ suc (skipped_from sync 0 ws) ]) e

found-one : (sync at : ℕ) (w : ℕ) (ws : List ℕ) (b : Bool) → confirmed sync (w ∷ ws) ≡ b
    → found sync at (w ∷ ws) ≡ cond b (chunk_at at (get_or ws 0 0) (at_end (w ∷ ws))) (found sync (suc at) ws)
unfolding found
found-one sync at w ws true e = ap (λ (b : Bool). elim b as (λ x. Option (Entry × Words)) [ true ↦ chunk_at at (get_or ws 0 0) (at_end (w ∷ ws)) | false ↦ found sync (suc at) ws ]) e
found-one sync at w ws false e = ap (λ (b : Bool). elim b as (λ x. Option (Entry × Words)) [ true ↦ chunk_at at (get_or ws 0 0) (at_end (w ∷ ws)) | false ↦ found sync (suc at) ws ]) e

pub left_one : (sync n : ℕ) (w : ℕ) (ws : List ℕ) (b : Bool) → confirmed sync (w ∷ ws) ≡ b
    → left_at sync 0 (w ∷ ws) (suc n) ≡ left_at sync (cond b (suc (size (get_or ws 0 0))) 0) ws n
unfolding left_at
left_one sync n w ws b e = ap (λ (x : Bool). left_at sync (cond x (suc (size (get_or ws 0 0))) 0) ws n) e

-- nothing is confirmed where no words are left
pub confirmed-end : (sync p : ℕ) (ws : List ℕ) → length ws ≤ p → confirmed sync (drop p ws) ≡ false
unfolding confirmed headed
confirmed-end sync p ws h = ap (λ (l : List ℕ). headed sync l && ends sync (span (get_or l 1 0)) l) (drop_of_length-le ws h)

-- ---- one place of a recording

module _ (sync : ℕ) (ws : List ℕ) (p : ℕ) (h : p < length ws) where
  words-here : drop p ws ≡ get_or ws p 0 ∷ drop (suc p) ws
  words-here = drop-cons ws p 0 h

  confirmed-front : (b : Bool) → confirmed sync (drop p ws) ≡ b → confirmed sync (get_or ws p 0 ∷ drop (suc p) ws) ≡ b
  confirmed-front b e = sym (ap (confirmed sync) words-here) ∙ e

  header-next : get_or (drop (suc p) ws) 0 0 ≡ get_or ws (suc p) 0
  header-next = get_or-drop (suc p) ws 0 0 ∙ ap (λ (n : ℕ). get_or ws n 0) (add-zero (suc p))

  pub found-later : confirmed sync (drop p ws) ≡ false → next_from sync ws p ≡ next_from sync ws (suc p)
  found-later e = ap (found sync p) words-here ∙ found-one sync p (get_or ws p 0) (drop (suc p) ws) false (confirmed-front false e)

  pub found_here : confirmed sync (drop p ws) ≡ true → next_from sync ws p ≡ chunk_at p (get_or ws (suc p) 0) (at_end (drop p ws))
  found_here e =
      ap (found sync p) words-here ∙ found-one sync p (get_or ws p 0) (drop (suc p) ws) true (confirmed-front true e)
      ∙ ap₂ (chunk_at p) header-next (sym (ap at_end words-here))

  listed-later : confirmed sync (drop p ws) ≡ false → listed sync p 0 (drop p ws) ≡ listed sync (suc p) 0 (drop (suc p) ws)
  listed-later e = ap (listed sync p 0) words-here ∙ listed-one sync p (get_or ws p 0) (drop (suc p) ws) false (confirmed-front false e)

  skipped-later : confirmed sync (drop p ws) ≡ false → skipped_from sync 0 (drop p ws) ≡ suc (skipped_from sync 0 (drop (suc p) ws))
  skipped-later e = ap (skipped_from sync 0) words-here ∙ skipped-one sync (get_or ws p 0) (drop (suc p) ws) false (confirmed-front false e)

  left-later : confirmed sync (drop p ws) ≡ false → left_at sync 0 ws p ≡ 0 → left_at sync 0 ws (suc p) ≡ 0
  unfolding left_at
  left-later e z =
      ap (λ (n : ℕ). left_at sync 0 ws n) (sym (add-one p)) ∙ left_split sync 0 p 1 ws ∙ ap (λ (n : ℕ). left_at sync n (drop p ws) 1) z
      ∙ ap (λ (x : List ℕ). left_at sync 0 x 1) words-here ∙ left_one sync 0 (get_or ws p 0) (drop (suc p) ws) false (confirmed-front false e)

  module _ (e : confirmed sync (drop p ws) ≡ true) where
    abbrev word : ℕ
    word = get_or ws (suc p) 0

    pub confirmed-bounds : (p + span word ≤ length ws) × (9 ≤ size word) × (size word ≤ 8184)
    confirmed-bounds =
        let b = confirmed-within sync (drop p ws) e in
        let n : size (get_or (drop p ws) 1 0) ≡ size word = ap size (get_or-drop p ws 1 0 ∙ ap (λ (n : ℕ). get_or ws n 0) (add-one p)) in
        (omega (arith, simp length-drop at b.0), omega (arith, b.1), omega (arith, b.2))

    rest-long : suc (size word) ≤ length (drop (suc p) ws)
    rest-long = simp length-drop (omega (arith, confirmed-bounds.0))

    rest_at : drop (suc (size word)) (drop (suc p) ws) ≡ drop (p + span word) ws
    rest_at =
        let n : suc p + suc (size word) ≡ p + span word = omega arith in
        drop-drop (suc (size word)) (suc p) ws ∙ ap (λ (m : ℕ). drop m ws) n

    listed_here : listed sync p 0 (drop p ws) ≡ entry p word (at_end (drop p ws)) ∷ listed sync (p + span word) 0 (drop (p + span word) ws)
    listed_here =
        ap (listed sync p 0) words-here ∙ listed-one sync p (get_or ws p 0) (drop (suc p) ws) true (confirmed-front true e)
        ∙ ap₂ (λ (x : ℕ) (m : Bool). entry p x m ∷ listed sync (suc p) (suc (size x)) (drop (suc p) ws)) header-next (sym (ap at_end words-here))
        ∙ ap (λ (l : List Entry). entry p word (at_end (drop p ws)) ∷ l)
        (listed-on sync (suc p) (suc (size word)) (drop (suc p) ws) rest-long
        ∙ ap (λ (n : ℕ). listed sync n 0 (drop (suc (size word)) (drop (suc p) ws))) (omega arith)
        ∙ ap (listed sync (p + span word) 0) rest_at)

    skipped-here : skipped_from sync 0 (drop p ws) ≡ skipped_from sync 0 (drop (p + span word) ws)
    skipped-here =
        ap (skipped_from sync 0) words-here ∙ skipped-one sync (get_or ws p 0) (drop (suc p) ws) true (confirmed-front true e)
        ∙ ap (λ (x : ℕ). skipped_from sync (suc (size x)) (drop (suc p) ws)) header-next
        ∙ skipped-on sync (suc (size word)) (drop (suc p) ws) rest-long ∙ ap (skipped_from sync 0) rest_at

    left-inside : left_at sync 0 ws p ≡ 0 → (i : ℕ) → p < i → i ≤ p + span word → left_at sync 0 ws i ≡ (p + span word) - i
    left-inside z i k m =
        let n : i ≡ p + suc (i - suc p) = omega arith in
        ap (λ (j : ℕ). left_at sync 0 ws j) n ∙ left_split sync 0 p (suc (i - suc p)) ws ∙ ap (λ (j : ℕ). left_at sync j (drop p ws) (suc (i - suc p))) z
        ∙ ap (λ (x : List ℕ). left_at sync 0 x (suc (i - suc p))) words-here ∙ left_one sync (i - suc p) (get_or ws p 0) (drop (suc p) ws) true (confirmed-front true e)
        ∙ ap (λ (x : ℕ). left_at sync (suc (size x)) (drop (suc p) ws) (i - suc p)) header-next
        ∙ left-on sync (suc (size word)) (i - suc p) (drop (suc p) ws) (omega arith) rest-long ∙ omega arith

-- ---- up to the next confirmed chunk

-- no chunk is confirmed from the place p up to q
abbrev pub Noise : ℕ → List ℕ → ℕ → ℕ → Type 0
Noise sync ws p q = (i : ℕ) → p ≤ i → i < q → confirmed sync (drop i ws) ≡ false

noise-more : (sync : ℕ) (ws : List ℕ) (p q : ℕ) → confirmed sync (drop p ws) ≡ false → Noise sync ws (suc p) q → Noise sync ws p q
noise-more sync ws p q z f i a b = by_place (ltb p i) refl
  where
    by_place : (t : Bool) → ltb p i ≡ t → confirmed sync (drop i ws) ≡ false
    by_place true e = f i (omega (arith, ltb-true p i e)) b
    by_place false e = let n : i ≡ p = omega (arith, ltb-false p i e) in ap (λ (m : ℕ). confirmed sync (drop m ws)) n ∙ z

-- the place past an entry's chunk
abbrev pub past : Entry → ℕ
past e = e.position.0 + span e.header

module _ (sync : ℕ) (ws : List ℕ) where
  listed-noise : (k p : ℕ) → p + k ≤ length ws → Noise sync ws p (p + k) → listed sync p 0 (drop p ws) ≡ listed sync (p + k) 0 (drop (p + k) ws)
  listed-noise zero p h f = ap (λ (n : ℕ). listed sync n 0 (drop n ws)) (sym (add-zero p))
  listed-noise (suc k) p h f =
      let n : suc p + k ≡ p + suc k = omega arith in
      listed-later sync ws p (omega arith) (f p (omega arith) (omega arith))
      ∙ listed-noise k (suc p) (omega arith) (λ i a b. f i (omega arith) (omega arith))
      ∙ ap (λ (m : ℕ). listed sync m 0 (drop m ws)) n

  skipped-noise : (k p : ℕ) → p + k ≤ length ws → Noise sync ws p (p + k) → skipped_from sync 0 (drop p ws) ≡ k + skipped_from sync 0 (drop (p + k) ws)
  skipped-noise zero p h f = ap (λ (n : ℕ). skipped_from sync 0 (drop n ws)) (sym (add-zero p)) ∙ sym (zero-add _)
  skipped-noise (suc k) p h f =
      let n : suc p + k ≡ p + suc k = omega arith in
      skipped-later sync ws p (omega arith) (f p (omega arith) (omega arith))
      ∙ ap suc (skipped-noise k (suc p) (omega arith) (λ i a b. f i (omega arith) (omega arith)) ∙ ap (λ (m : ℕ). k + skipped_from sync 0 (drop m ws)) n)
      ∙ sym (suc-add k _)

  left-noise : (k p : ℕ) → p + k ≤ length ws → Noise sync ws p (p + k) → left_at sync 0 ws p ≡ 0 → left_at sync 0 ws (p + k) ≡ 0
  left-noise zero p h f z = ap (λ (n : ℕ). left_at sync 0 ws n) (add-zero p) ∙ z
  left-noise (suc k) p h f z =
      let n : p + suc k ≡ suc p + k = omega arith in
      ap (λ (m : ℕ). left_at sync 0 ws m) n
      ∙ left-noise k (suc p) (omega arith) (λ i a b. f i (omega arith) (omega arith)) (left-later sync ws p (omega arith) (f p (omega arith) (omega arith)) z)

  -- what the search finds is the first that is confirmed
  record First (p : ℕ) (e : Entry) (next : Words) : Type 0 where
    ahead : p ≤ e.position.0
    there : e.position.0 < length ws
    confirms : confirmed sync (drop e.position.0 ws) ≡ true
    word : e ≡ entry e.position.0 (get_or ws (suc e.position.0) 0) (at_end (drop e.position.0 ws))
    end : next.0 ≡ past e
    noise : Noise sync ws p e.position.0

  -- no chunk is found where no word is left
  pub found-end : (p : ℕ) → length ws ≤ p → next_from sync ws p ≡ None
  unfolding found
  found-end p h = ap (found sync p) (drop_of_length-le ws h)

  -- no chunk is found at a place that has another word than the sync word
  pub found_beyond : (p : ℕ) → p + 1 < length ws → (get_or ws p 0 ≡ sync → ⊥) → next_from sync ws p ≡ next_from sync ws (p + 1)
  found_beyond p h f =
      found-later sync ws p (omega arith)
      (confirmed_none sync ws p (headed_by_words sync ws p h ∙ rw (ne_eqb (get_or ws p 0) sync f)))
      ∙ ap (λ (n : ℕ). next_from sync ws n) (sym (add-one p))

  -- nor where one word is left
  pub found_last : (p : ℕ) → length ws ≤ p + 1 → next_from sync ws p ≡ None
  found_last p h = by_end (ltb p (length ws)) refl
    where
      by_end : (b : Bool) → ltb p (length ws) ≡ b → next_from sync ws p ≡ None
      by_end true l =
          found-later sync ws p (ltb-true p (length ws) l) (confirmed_none sync ws p (headed_none sync ws p (omega arith)))
          ∙ found-end (suc p) (omega arith)
      by_end false l = found-end p (ltb-false p (length ws) l)

  first-confirmed : (k p : ℕ) (e : Entry) (next : Words) → length ws ≤ p + k → next_from sync ws p ≡ Some (e, next) → First p e next
  first-confirmed zero p e next h f = let z : ◌≡◌ {A = ℕ} 0 1 = cc (found-end p (omega arith)) in absurd (omega arith)
  first-confirmed (suc k) p e next h f = by_end (first-confirmed k (suc p) e next (omega arith)) (ltb p (length ws)) refl
    where
      by-check : (next_from sync ws (suc p) ≡ Some (e, next) → First (suc p) e next) → p < length ws → (b : Bool) → confirmed sync (drop p ws) ≡ b → First p e next
      by-check more l true z =
          let both : ◌≡◌ {A = Entry × Words} (e, next) (entry p (get_or ws (suc p) 0) (at_end (drop p ws)), record { 0 = p + span (get_or ws (suc p) 0) }) =
          cc (found_here sync ws p l z) in
          let s : e ≡ entry p (get_or ws (suc p) 0) (at_end (drop p ws)) = ap (λ (x : Entry × Words). x.0) both in
          let n : next ≡ record { 0 = p + span (get_or ws (suc p) 0) } = ap (λ (x : Entry × Words). x.1) both in
          subst (λ (x : Entry). First p x next) (sym s)
          (record { ahead = omega arith; there = l; confirms = z; word = refl; end = ap (λ (x : Words). x.0) n; noise = λ i a b. absurd (omega arith) })
      by-check more l false z =
          let r : First (suc p) e next = more (sym (found-later sync ws p l z) ∙ f) in
          record {
            ahead = omega (arith, r.ahead);
            there = r.there;
            confirms = r.confirms;
            word = r.word;
            end = r.end;
            noise = noise-more sync ws p e.position.0 z r.noise;
          }

      by_end : (next_from sync ws (suc p) ≡ Some (e, next) → First (suc p) e next) → (b : Bool) → ltb p (length ws) ≡ b → First p e next
      by_end more true l = by-check more (ltb-true p (length ws) l) (confirmed sync (drop p ws)) refl
      by_end more false l = let z : ◌≡◌ {A = ℕ} 0 1 = cc (found-end p (ltb-false p (length ws) l)) in absurd (omega arith)

  -- no chunk is found: none is confirmed from here on
  none-confirmed : (k p : ℕ) → length ws ≤ p + k → next_from sync ws p ≡ None → Noise sync ws p (length ws)
  none-confirmed zero p h f = λ i a b. absurd (omega arith)
  none-confirmed (suc k) p h f = by_end (none-confirmed k (suc p) (omega arith)) (ltb p (length ws)) refl
    where
      by-check : (next_from sync ws (suc p) ≡ None → Noise sync ws (suc p) (length ws)) → p < length ws → (b : Bool) → confirmed sync (drop p ws) ≡ b → Noise sync ws p (length ws)
      by-check more l true z = let x : ◌≡◌ {A = ℕ} 0 1 = cc (found_here sync ws p l z) in absurd (omega arith)
      by-check more l false z = noise-more sync ws p (length ws) z (more (sym (found-later sync ws p l z) ∙ f))

      by_end : (next_from sync ws (suc p) ≡ None → Noise sync ws (suc p) (length ws)) → (b : Bool) → ltb p (length ws) ≡ b → Noise sync ws p (length ws)
      by_end more true l = by-check more (ltb-true p (length ws) l) (confirmed sync (drop p ws)) refl
      by_end more false l = let m : length ws ≤ p = ltb-false p (length ws) l in λ i a b. absurd (omega arith)

-- ---- what a step of the search tells of the reading

-- the chunks that are listed from a place on, where none is in hand
abbrev pub listed_from : ℕ → List ℕ → ℕ → List Entry
listed_from sync ws p = listed sync p 0 (drop p ws)

-- a chunk is listed at a place where none is in hand and one is confirmed
pub listed-at-yes : (sync p : ℕ) (ws : List ℕ) → left_at sync 0 ws p ≡ 0 → confirmed sync (drop p ws) ≡ true → listed_at sync ws p ≡ true
unfolding listed_at
listed-at-yes sync p ws z e = rw (eq-eqb (left_at sync 0 ws p) 0 z, e)

pub listed-at-no : (sync p : ℕ) (ws : List ℕ) → confirmed sync (drop p ws) ≡ false → listed_at sync ws p ≡ false
unfolding listed_at
listed-at-no sync p ws e = rw (e, and-false)

pub listed-at-covered : (sync p : ℕ) (ws : List ℕ) → 0 < left_at sync 0 ws p → listed_at sync ws p ≡ false
unfolding listed_at
listed-at-covered sync p ws h = rw (ne_eqb (left_at sync 0 ws p) 0 (λ z. omega arith))

-- The search from p finds the chunk e, with the place n past it.
pub record Next (sync : ℕ) (ws : List ℕ) (p : ℕ) (e : Entry) (n : ℕ) : Type 0 where
  pub end : n ≡ past e
  -- it begins at p or later, and ends within the recording
  pub ahead : p ≤ e.position.0
  pub within : n ≤ length ws
  -- it has the mark exactly where it ends with the recording
  pub mark : e.end ≡ eqb n (length ws)
  -- its header word stands after its first word, with a legal size
  pub word : e.header ≡ get_or ws (suc e.position.0) 0
  pub least : 9 ≤ size e.header
  pub most : size e.header ≤ 8184
  -- it is the first that is confirmed
  pub confirms : confirmed sync (drop e.position.0 ws) ≡ true
  pub noise : Noise sync ws p e.position.0
  -- it is the first that is listed, and the words before it are skipped
  pub lists : listed_from sync ws p ≡ e ∷ listed_from sync ws n
  pub skips : skipped_from sync 0 (drop p ws) ≡ (e.position.0 - p) + skipped_from sync 0 (drop n ws)
  -- where no chunk is in hand at p, none is up to its first word, and inside it what is left of it
  pub free : left_at sync 0 ws p ≡ 0 → (i : ℕ) → p ≤ i → i ≤ e.position.0 → left_at sync 0 ws i ≡ 0
  pub inside : left_at sync 0 ws p ≡ 0 → (i : ℕ) → e.position.0 < i → i ≤ n → left_at sync 0 ws i ≡ n - i

-- The search from p finds none.
pub record Last (sync : ℕ) (ws : List ℕ) (p : ℕ) : Type 0 where
  pub noise : (i : ℕ) → p ≤ i → confirmed sync (drop i ws) ≡ false
  pub lists : listed_from sync ws p ≡ []
  pub skips : skipped_from sync 0 (drop p ws) ≡ length ws - p

module _ (sync : ℕ) (ws : List ℕ) (p : ℕ) where
  pub stepped : (e : Entry) (next : Words) → next_from sync ws p ≡ Some (e, next) → Next sync ws p e next.0
  stepped e next f =
      let r : First sync ws p e next = first-confirmed sync ws (length ws) p e next (omega arith) f in
      let q : ℕ = e.position.0 in
      let h : get_or ws (suc q) 0 ≡ e.header = sym (ap (λ (x : Entry). x.header) r.word) in
      let to : q + span (get_or ws (suc q) 0) ≡ next.0 = ap (λ (x : ℕ). q + span x) h ∙ sym r.end in
      let n : p + (q - p) ≡ q = omega (arith, r.ahead) in
      let b = confirmed-bounds sync ws q r.there r.confirms in
      let quiet : Noise sync ws p (p + (q - p)) = λ i a l. r.noise i a (omega arith) in
      let clear : left_at sync 0 ws p ≡ 0 → (i : ℕ) → p ≤ i → i ≤ q → left_at sync 0 ws i ≡ 0 = λ z i a l.
      let m : p + (i - p) ≡ i = omega arith in
      ap (λ (k : ℕ). left_at sync 0 ws k) (sym m) ∙ left-noise sync ws (i - p) p (omega (arith, r.there)) (λ j c d. r.noise j c (omega arith)) z in
      record {
        end = r.end;
        ahead = r.ahead;
        within = omega (arith, b.0);
        mark =
            ap (λ (x : Entry). x.end) r.word
            ∙ at-end sync ws q next.0 (omega (arith, r.there)) (omega (arith, to, ap (λ (n : ℕ). size (get_or ws n 0)) (add-one q)));
        word = sym h;
        least = omega (arith, b.1, ap size h);
        most = omega (arith, b.2, ap size h);
        confirms = r.confirms;
        noise = r.noise;
        lists =
            listed-noise sync ws (q - p) p (omega (arith, r.there)) quiet
            ∙ ap (λ (m : ℕ). listed sync m 0 (drop m ws)) n
            ∙ listed_here sync ws q r.there r.confirms
            ∙ ap₂ (λ (x : Entry) (m : ℕ). x ∷ listed sync m 0 (drop m ws)) (sym r.word) to;
        skips =
            skipped-noise sync ws (q - p) p (omega (arith, r.there)) quiet
            ∙ ap (λ (m : ℕ). (q - p) + skipped_from sync 0 (drop m ws)) n
            ∙ ap (λ (m : ℕ). (q - p) + m) (skipped-here sync ws q r.there r.confirms
            ∙ ap (λ (m : ℕ). skipped_from sync 0 (drop m ws)) to);
        free = clear;
        inside = λ z i a l.
            left-inside sync ws q r.there r.confirms (clear z q r.ahead (omega arith)) i a (omega arith)
            ∙ ap (λ (m : ℕ). m - i) to;
      }

  pub ended : next_from sync ws p ≡ None → Last sync ws p
  unfolding listed skipped_from
  ended f = record { noise = λ i a. silent i a (ltb i (length ws)) refl; lists = (by_end (ltb p (length ws)) refl).0; skips = (by_end (ltb p (length ws)) refl).1 }
    where
      quiet : Noise sync ws p (length ws)
      quiet = none-confirmed sync ws (length ws) p (omega arith) f

      silent : (i : ℕ) → p ≤ i → (b : Bool) → ltb i (length ws) ≡ b → confirmed sync (drop i ws) ≡ false
      silent i a true l = quiet i a (ltb-true i (length ws) l)
      silent i a false l = confirmed-end sync i ws (ltb-false i (length ws) l)

      by_end : (b : Bool) → ltb p (length ws) ≡ b → (listed sync p 0 (drop p ws) ≡ []) × (skipped_from sync 0 (drop p ws) ≡ length ws - p)
      by_end false l =
          let m : length ws ≤ p = ltb-false p (length ws) l in
          (ap (listed sync p 0) (drop_of_length-le ws m), ap (skipped_from sync 0) (drop_of_length-le ws m) ∙ omega arith)
      by_end true l =
          let m : p < length ws = ltb-true p (length ws) l in
          let n : p + (length ws - p) ≡ length ws = omega arith in
          let far : Noise sync ws p (p + (length ws - p)) = λ i a b. quiet i a (omega arith) in
          let all : length ws ≤ p + (length ws - p) = omega arith in
          let none_left : drop (p + (length ws - p)) ws ≡ [] = drop_of_length-le ws all in (
            listed-noise sync ws (length ws - p) p (omega arith) far ∙ ap (listed sync (p + (length ws - p)) 0) none_left,
            skipped-noise sync ws (length ws - p) p (omega arith) far ∙ ap (λ (r : List ℕ). (length ws - p) + skipped_from sync 0 r) none_left ∙ add-zero (length ws - p),
          )

  -- the place past a chunk is ahead, and within the recording
  pub stepped_past : (e : Entry) (next : Words) → next_from sync ws p ≡ Some (e, next) → (p < next.0) × (next.0 ≤ length ws)
  stepped_past e next f = let s = stepped e next f in (omega (arith, s.end, s.ahead), s.within)
