-- A frame's chunks stand end to end, by the rule that joins them, and each is confirmed where it stands. So the words of the frame are a row of whole
-- chunks, which is listed whole when it is read alone.
use mathlib.Core.Path.{◌≡◌, refl, sym, ap, ap₂, subst, ◌∙◌}
use mathlib.Core.Bool.{Bool, true, false, ◌&&◌, ◌||◌, false≢true, and-false}
use mathlib.Core.List.{List, [], ◌∷◌, ◌++◌}
use mathlib.Core.Logic.{inl, inr}
use Prim.Native.Nat.{ℕ, zero, suc, ◌+◌, ◌≤◌}
use native.Mathlib.Omega.{arith}
use native.Mathlib.Nat.{add_assoc, add-zero, zero-add}
use lib.ListN.{length, get_or, take, drop, length-take, length-drop, take-append-drop}
use lib.Seq.{take-add, take-append-le, drop-append-le, drop-drop}
use lib.Dec.{leb, eqb}
use borrow.Author.Tests.{not-false, eq-eqb, ne_eqb, eqb-true, le-leb, lt-ltb}
use Rattle.base.proofs.Booleans.{and_left, and_right, or-false, and_both}
use Rattle.chunk.specs.declared.Entry.{Entry}
use Rattle.chunk.specs.Header.{size, span, legal, headed, confirmed}
use Rattle.chunk.specs.Reading.{entry, reading, listed_words, within, left_at, listed_at}
use Rattle.chunk.proofs.Headers.{headed-parts, confirmed-within}
use Rattle.chunk_laws.specs.Stretch.{Laid, words, entries, whole, whole_row}
use Rattle.chunk_laws.specs.Outside.{covered}
use Rattle.chunk_laws.specs.Listed.{Among}
use Rattle.chunk_laws.proofs.ByPlace.{listed-place}
use Rattle.chunk_laws.proofs.Rows.{lists-row}
use Rattle.parity_units.specs.Split.{units_in}
use Rattle.frame.specs.Shape.{starts, continues, full, joining, frame_of, frame_chunks, frame_words}
use Rattle.frame.specs.Picture.{payload_of, chunk_units, units_of, frame_units}
use Rattle.frame.specs.Walk.{starts_frame}
use Rattle.frame.specs.Pieces.{frames_and_strays}
use Rattle.chunk.proofs.Steps.{listed_from}
use Rattle.frame.proofs.Joining.{joining-one}
use Rattle.frame.proofs.Chunks.{payload-length}
use Rattle.frame.proofs.Walking.{first-and-ahead, frame-ends-inside}
use Rattle.frame.proofs.Stepping.{pick, pieces-one}
use Rattle.frame_laws.specs.Local.{EndToEnd, unmarked, Local, FramesLocal, StrayAfterGap}

-- ---- the chunks that join

record Joined (end : ℕ) (all : Bool) (es js : List Entry) : Type 0 where
  end_to_end : EndToEnd end js
  among : (f : Entry) → Among f js → Among f es
  again : joining end all js ≡ js

joined : (end : ℕ) (all : Bool) (es : List Entry) → Joined end all es (joining end all es)
unfolding joining
joined end all [] = record { end_to_end = tt; among = λ f h. h; again = refl }
joined end all (e ∷ es) =
    by-join (all && eqb e.position.0 end && continues e.header) refl (joined (end + span e.header) (full e.header) es)
  where
    by-join : (b : Bool) → all && eqb e.position.0 end && continues e.header ≡ b
        → (let n = end + span e.header in Joined n (full e.header) es (joining n (full e.header) es))
        → Joined end all (e ∷ es) (joining end all (e ∷ es))
    by-join false j more =
        subst (Joined end all (e ∷ es)) (sym (joining-one end all e es false j)) (record { end_to_end = tt; among = λ f h. absurd h; again = refl })
    by-join true j more =
        let js : List Entry = joining (end + span e.header) (full e.header) es in
        subst (Joined end all (e ∷ es)) (sym (joining-one end all e es true j)) (record {
          end_to_end = (eqb-true e.position.0 end (and_right all _ (and_left (all && eqb e.position.0 end) _ j)), more.end_to_end);
          among = λ f h. elim h as (λ x. Among f (e ∷ es)) [ inl z ↦ inl z | inr z ↦ inr (more.among f z) ];
          again = joining-one end all e js true j ∙ ap (λ (l : List Entry). e ∷ l) more.again;
        })

-- ---- where the chunks of a frame stand

-- its header word is there, and it is confirmed
record HeaderAt (sync : ℕ) (ws : List ℕ) (e : Entry) : Type 0 where
  word : e.header ≡ get_or (drop e.position.0 ws) 1 0
  confirms : confirmed sync (drop e.position.0 ws) ≡ true

module _ (sync : ℕ) (ws : List ℕ) where
  listed-header-at : (e : Entry) → Among e (reading sync ws) → HeaderAt sync ws e
  unfolding listed_at
  listed-header-at e h =
      let t = listed-place sync ws e h in
      record { word = t.1; confirms = and_right (eqb (left_at sync 0 ws e.position.0) 0) _ t.0 }

  ends-within : (e : Entry) → HeaderAt sync ws e → e.position.0 + span e.header ≤ length ws
  ends-within e s =
      let n : size e.header ≡ size (get_or (drop e.position.0 ws) 1 0) = ap size s.word in
      omega (arith, confirmed-within sync (drop e.position.0 ws) s.confirms, length-drop e.position.0 ws)

  -- where no chunk is confirmed after the first n, there are no more
  none-after-gap : (n at : ℕ) (es : List Entry) → EndToEnd at es → ((e : Entry) → Among e es → HeaderAt sync ws e)
      → confirmed sync (drop (at + listed_words (take n es)) ws) ≡ false → take n es ≡ es
  unfolding listed_words
  none-after-gap zero at [] p s z = refl
  none-after-gap (suc n) at [] p s z = refl
  none-after-gap zero at (e ∷ es) p s z = absurd (false≢true (sym (rw (add-zero at) at z) ∙ (rw p.0 at (s e (inl refl)).confirms)))
  none-after-gap (suc n) at (e ∷ es) p s z =
      ap (λ (l : List Entry). e ∷ l) (none-after-gap n (at + span e.header) es p.1 (λ f h. s f (inr h)) (rw (add_assoc at) z))

-- ---- its own words

-- a confirmed chunk at the front of these words, and m words after it
first-chunk-words : (sync m h : ℕ) (vs : List ℕ) → h ≡ get_or vs 1 0 → confirmed sync vs ≡ true
    → take (span h + m) vs ≡ sync ∷ h ∷ (take (size h) (drop 2 vs) ++ take m (drop (span h) vs))
unfolding confirmed headed
first-chunk-words sync m h [] q c = absurd (false≢true c)
first-chunk-words sync m h (w ∷ []) q c = absurd (false≢true c)
first-chunk-words sync m h (w ∷ k ∷ vs) q c =
    let z : w ≡ sync = eqb-true w sync (and_left (eqb w sync) _ (and_left (eqb w sync && legal k) _ c)) in
    take-add (span h) m (w ∷ k ∷ vs) ∙ ap₂ (λ (x y : ℕ). x ∷ y ∷ (take (size h) vs ++ take m (drop (size h) vs))) z (sym q)

module _ (sync : ℕ) (ws : List ℕ) where
  -- the row of chunks that these entries say
  abbrev row_of : List Entry → List Laid
  row_of [] = []
  row_of (e ∷ es) = record { header = e.header; payload = payload_of ws e } ∷ row_of es

  row-entries : (at : ℕ) (es : List Entry) → EndToEnd at es → unmarked (entries at (row_of es)) ≡ unmarked es
  row-entries at [] p = refl
  row-entries at (e ∷ es) p =
      ap₂ (λ (n : ℕ) (l : List Entry). entry n e.header false ∷ l) (sym p.0) (row-entries (at + span e.header) es p.1)

  row-whole : (es : List Entry) → ((e : Entry) → Among e es → HeaderAt sync ws e) → whole_row (row_of es) ≡ true
  unfolding whole_row confirmed
  row-whole [] s = refl
  row-whole (e ∷ es) s =
      let h : ℕ = e.header in
      let t : HeaderAt sync ws e = s e (inl refl) in
      let l : legal h ≡ true = rw t.word (headed-parts sync (drop e.position.0 ws) (and_left _ _ t.confirms)).2 in
      let n : length (payload_of ws e) ≡ size h = payload-length ws e (ends-within sync ws e t) in
      and_both (whole (record { header = h; payload = payload_of ws e })) _ (and_both (legal h) _ l (eq-eqb (length (payload_of ws e)) (size h) n))
      (row-whole es (λ f i. s f (inr i)))

  row_words : (at : ℕ) (es : List Entry) → EndToEnd at es → ((e : Entry) → Among e es → HeaderAt sync ws e)
      → take (listed_words es) (drop at ws) ≡ words sync (row_of es)
  unfolding listed_words
  row_words at [] p s = refl
  row_words at (e ∷ es) p s =
      let h : ℕ = e.header in
      let t : HeaderAt sync ws e = s e (inl refl) in
      let more : take (listed_words es) (drop (at + span h) ws) ≡ words sync (row_of es) = row_words (at + span h) es p.1 (λ f i. s f (inr i)) in
      first-chunk-words sync (listed_words es) h (drop at ws) (rw p.0 at t.word) (rw p.0 at t.confirms)
      ∙ ap₂ (λ (x y : List ℕ). sync ∷ h ∷ (take (size h) x ++ y))
      (drop-drop 2 at ws ∙ ap (λ (n : ℕ). drop (n + 2) ws) (sym p.0))
      (ap (take (listed_words es)) (drop-drop (span h) at ws) ∙ more)

-- ---- a payload inside the first n words

payload-within : (n : ℕ) (ws : List ℕ) (e : Entry) → e.position.0 + span e.header ≤ n → n ≤ length ws → payload_of (take n ws) e ≡ payload_of ws e
payload-within n ws e f l =
    let at : ℕ = e.position.0 in
    let h : ℕ = e.header in
    let k : length (take n ws) ≡ n = omega (arith, length-take n ws) in
    sym (
    ap (λ (v : List ℕ). take (size h) (drop (at + 2) v)) (sym (take-append-drop n ws))
    ∙ ap (take (size h)) (drop-append-le (at + 2) (take n ws) (drop n ws) (omega arith))
    ∙ take-append-le (size h) (drop (at + 2) (take n ws)) (drop n ws) (omega (arith, length-drop (at + 2) (take n ws)))
    )

units-within : (n : ℕ) (ws : List ℕ) → n ≤ length ws → (at : ℕ) (es : List Entry) → EndToEnd at es → at + listed_words es ≤ n
    → units_of (take n ws) es ≡ units_of ws es
unfolding units_of listed_words
units-within n ws l at [] p f = refl
units-within n ws l at (e ∷ es) p f =
    let h : ℕ = e.header in
    ap₂ (λ (x : List ℕ) (us : List (List ℕ)). units_in x ++ us)
    (payload-within n ws e (omega (arith, p.0)) l)
    (units-within n ws l (at + span h) es p.1 (omega arith))

-- ---- the frame

frame-among : (es : List Entry) (f : Entry) → Among f (frame_of es) → Among f es
unfolding frame_of
frame-among [] f h = h
frame-among (e ∷ es) f h =
    elim h as (λ x. Among f (e ∷ es)) [ inl z ↦ inl z | inr z ↦ inr ((joined (span e.header) (full e.header) es).among f z) ]

frame-again : (es : List Entry) → frame_of (frame_of es) ≡ frame_of es
unfolding frame_of
frame-again [] = refl
frame-again (e ∷ es) = ap (λ (l : List Entry). e ∷ l) (joined (span e.header) (full e.header) es).again

-- the rule that joins chunks looks at no mark
joining-unmarked : (end : ℕ) (all : Bool) (es : List Entry) → joining end all (unmarked es) ≡ unmarked (joining end all es)
unfolding joining
joining-unmarked end all [] = refl
joining-unmarked end all (e ∷ es) =
    by-join (all && eqb e.position.0 end && continues e.header) refl (joining-unmarked (end + span e.header) (full e.header) es)
  where
    by-join : (b : Bool) → all && eqb e.position.0 end && continues e.header ≡ b
        → (let n = end + span e.header in joining n (full e.header) (unmarked es) ≡ unmarked (joining n (full e.header) es))
        → joining end all (unmarked (e ∷ es)) ≡ unmarked (joining end all (e ∷ es))
    by-join true j more =
        joining-one end all (entry e.position.0 e.header false) (unmarked es) true j
        ∙ ap (λ (l : List Entry). entry e.position.0 e.header false ∷ l) more
        ∙ ap unmarked (sym (joining-one end all e es true j))
    by-join false j more =
        joining-one end all (entry e.position.0 e.header false) (unmarked es) false j ∙ ap unmarked (sym (joining-one end all e es false j))

frame-unmarked : (es : List Entry) → frame_of (unmarked es) ≡ unmarked (frame_of es)
unfolding frame_of
frame-unmarked [] = refl
frame-unmarked (e ∷ es) =
    ap (λ (l : List Entry). entry e.position.0 e.header false ∷ l) (joining-unmarked (span e.header) (full e.header) es)

-- nor do the units
units-unmarked : (ws : List ℕ) (es : List Entry) → units_of ws (unmarked es) ≡ units_of ws es
unfolding units_of
units-unmarked ws [] = refl
units-unmarked ws (e ∷ es) = ap (λ (us : List (List ℕ)). chunk_units ws e ++ us) (units-unmarked ws es)

module _ (sync : ℕ) (ws : List ℕ) (s : starts_frame sync ws ≡ true) where
  abbrev fs : List Entry
  fs = frame_chunks sync ws

  abbrev own : List ℕ
  own = take (frame_words sync ws) ws

  end_to_end : EndToEnd 0 fs
  end_to_end =
      let h : ℕ = get_or ws 1 0 in
      let j = joined (span h) (full h) (listed_from sync ws (span h)) in
      subst (EndToEnd 0) (sym (first-and-ahead sync ws s)) (refl, rw (zero-add (span h)) j.end_to_end)

  frame-header-at : (e : Entry) → Among e fs → HeaderAt sync ws e
  unfolding frame_chunks
  frame-header-at e h = listed-header-at sync ws e (frame-among (reading sync ws) e h)

  same-chunks : unmarked (frame_chunks sync own) ≡ unmarked fs
  unfolding frame_chunks
  same-chunks =
      let row : List Entry = entries 0 (row_of sync ws fs) in
      let list : reading sync own ≡ row =
      ap (reading sync) (row_words sync ws 0 fs end_to_end frame-header-at) ∙ lists-row sync 0 (row_of sync ws fs) (row-whole sync ws fs frame-header-at) in
      ap (λ (es : List Entry). unmarked (frame_of es)) list
      ∙ sym (frame-unmarked row) ∙ ap frame_of (row-entries sync ws 0 fs end_to_end) ∙ frame-unmarked fs
      ∙ ap unmarked (frame-again (reading sync ws))

  same_units : frame_units sync own ≡ frame_units sync ws
  same_units =
      sym (units-unmarked own (frame_chunks sync own)) ∙ ap (units_of own) same-chunks ∙ units-unmarked own fs
      ∙ units-within (frame_words sync ws) ws (frame-ends-inside sync ws s) 0 fs end_to_end (omega arith)

  local : Local sync ws
  local = record {
    end_to_end = end_to_end;
    stops = λ n z. none-after-gap sync ws (suc n) 0 fs end_to_end frame-header-at (rw (zero-add (listed_words (take (suc n) fs))) z);
    same_chunks = same-chunks;
    same_units = same_units;
  }

pub frames-local : FramesLocal
unfolding listed_at
frames-local sync ws p f =
    let h : ℕ = get_or (drop p ws) 1 0 in
    let t : listed_at sync ws p && starts h ≡ true = not-false (listed_at sync ws p && starts h) f in
    local sync (drop p ws)
    (and_both (confirmed sync (drop p ws)) (starts h) (and_right (eqb (left_at sync 0 ws p) 0) _ (and_left (listed_at sync ws p) _ t)) (and_right (listed_at sync ws p) _ t))

-- ---- a continuation after a skipped word

-- none of these chunks ends at the place p
abbrev NoneEnds : ℕ → List Entry → Type 0
NoneEnds p [] = Unit {0}
NoneEnds p (e ∷ es) = (e.position.0 + span e.header ≡ p → ⊥) × NoneEnds p es

-- a chunk that ends at p has the word before p
none-ends : (p : ℕ) (before rest : List Entry) → ((k : ℕ) → p ≡ suc k → covered (before ++ rest) k ≡ false) → NoneEnds p before
unfolding covered
none-ends p [] rest g = tt
none-ends p (f ∷ before) rest g = (
  λ q.
      let k : ℕ = f.position.0 + suc (size f.header) in
      let e : p ≡ suc k = omega (arith, q) in
      let w : within k f ≡ true = and_both (leb f.position.0 k) _ (le-leb f.position.0 k (omega arith)) (lt-ltb k (f.position.0 + span f.header) (omega arith)) in
      false≢true (sym (g k e) ∙ ap (λ (b : Bool). b || covered (before ++ rest) k) w),
  none-ends p before rest (λ k e. (or-false (within k f) _ (g k e)).1),
)

module _ (e : Entry) (after : List Entry) (c : continues e.header ≡ true) where
  abbrev Apart : ℕ → Bool → List Entry → Type 0
  Apart end all before = frames_and_strays end all (before ++ e ∷ after) ≡ frames_and_strays end all before ++ e ∷ frames_and_strays 0 false after

  apart : (end : ℕ) (all : Bool) (before : List Entry) → all && eqb e.position.0 end ≡ false → NoneEnds e.position.0 before → Apart end all before
  unfolding frames_and_strays
  apart end all [] j n = pieces-one end all e after true false _ c j refl
  apart end all (f ∷ before) j n =
      by_kind (continues f.header) refl (all && eqb f.position.0 end) refl (starts f.header) refl (λ m a k. apart m a before k n.1)
    where
      -- f ends elsewhere, so e does not join after it
      elsewhere : (a : Bool) (m : ℕ) → m ≡ f.position.0 + span f.header → a && eqb e.position.0 m ≡ false
      elsewhere a m q = rw (ne_eqb e.position.0 m (λ z. n.0 (sym (z ∙ q)))) (and-false a)

      by_kind : (x : Bool) → continues f.header ≡ x → (y : Bool) → all && eqb f.position.0 end ≡ y → (z : Bool) → starts f.header ≡ z
          → ((m : ℕ) (a : Bool) → a && eqb e.position.0 m ≡ false → Apart m a before) → Apart end all (f ∷ before)
      by_kind x p y q z r more =
          pieces-one end all f (before ++ e ∷ after) x y z p q r ∙ picks x y z q
          ∙ ap (λ (l : List Entry). l ++ e ∷ frames_and_strays 0 false after) (sym (pieces-one end all f before x y z p q r))
        where
          picks : (x y z : Bool) → all && eqb f.position.0 end ≡ y
              → pick end all f (before ++ e ∷ after) x y z ≡ pick end all f before x y z ++ e ∷ frames_and_strays 0 false after
          picks true true z q =
              let g : f.position.0 ≡ end = eqb-true f.position.0 end (and_right all _ q) in
              more (end + span f.header) (full f.header) (elsewhere (full f.header) _ (ap (λ (m : ℕ). m + span f.header) (sym g)))
          picks true false z q = ap (λ (l : List Entry). f ∷ l) (more 0 false refl)
          picks false y true q =
              ap (λ (l : List Entry). f ∷ l) (more (f.position.0 + span f.header) (full f.header) (elsewhere (full f.header) _ refl))
          picks false y false q = more 0 false refl

pub stray-after-gap : StrayAfterGap
stray-after-gap sync ws before e after r c n =
    ap (frames_and_strays 0 false) r
    ∙ apart e after c 0 false before refl (none-ends e.position.0 before (e ∷ after) (λ k q. ap (λ (l : List Entry). covered l k) (sym r) ∙ n k q))
