-- A frame as it is walked: what stands directly after its chunks so far is a question about that place alone, since a chunk that is confirmed there is the
-- next that is listed, and where none is confirmed the next listed chunk begins later.
use mathlib.Core.Path.{◌≡◌, refl, sym, ap, subst, ◌∙◌}
use mathlib.Core.Bool.{Bool, true, false, cond, ◌&&◌, ◌||◌, and-true, and-false, or-false, false≢true}
use mathlib.Core.List.{List, [], ◌∷◌}
use Prim.Native.Nat.{ℕ, zero, suc, ◌+◌, ◌≤◌, ◌<◌}
use native.Mathlib.Omega.{arith}
use native.Mathlib.Nat.{add-zero, add_assoc}
use lib.ListN.{length, get_or, drop}
use lib.Dec.{eqb, ltb}
use Rattle.std.specs.Prelude.{Option, Some, None}
use borrow.Author.Tests.{eq-eqb, ne_eqb, ltb-true, ltb-false}
use Rattle.base.specs.declared.Words.{Words}
use Rattle.chunk.specs.declared.Check.{Check}
use Rattle.chunk.specs.declared.Entry.{Entry}
use Rattle.chunk.specs.Header.{kind, span, confirmed, at_end, chunk_check, check_at}
use Rattle.chunk.specs.Reading.{entry, any_end, listed_words, next_from}
use Rattle.chunk.proofs.Steps.{listed_from, Next, stepped, ended, found_here, confirmed-bounds, confirmed-end}
use Rattle.frame.specs.Shape.{continues, full, joining, observes, closes}

-- the entry of the chunk at a place with the header word h
abbrev pub entry_at : List ℕ → ℕ → ℕ → Entry
entry_at ws at h = entry at h (at_end (drop at ws))

module _ (sync : ℕ) (ws : List ℕ) (at : ℕ) where
  -- a confirmed chunk lies within the words
  pub confirmed-inside : confirmed sync (drop at ws) ≡ true → at < length ws
  confirmed-inside e = by_length (ltb at (length ws)) refl
    where
      by_length : (b : Bool) → ltb at (length ws) ≡ b → at < length ws
      by_length true l = ltb-true at (length ws) l
      by_length false l = absurd (false≢true (sym (confirmed-end sync at ws (ltb-false at (length ws) l)) ∙ e))

  -- it is the next that is listed
  pub next_here : confirmed sync (drop at ws) ≡ true → Next sync ws at (entry_at ws at (get_or ws (suc at) 0)) (at + span (get_or ws (suc at) 0))
  next_here e = stepped sync ws at _ _ (found_here sync ws at (confirmed-inside e) e)

  -- where none is confirmed, the next listed chunk begins later
  pub next-later : confirmed sync (drop at ws) ≡ false → (e : Entry) (next : Words) → next_from sync ws at ≡ Some (e, next) → eqb e.position.0 at ≡ false
  next-later z e next f =
      ne_eqb e.position.0 at
      (λ q. false≢true (sym z ∙ sym (ap (λ (n : ℕ). confirmed sync (drop n ws)) q) ∙ (stepped sync ws at e next f).confirms))

-- ---- joining

-- one listed chunk, by whether it joins
pub joining-one : (end : ℕ) (all : Bool) (e : Entry) (es : List Entry) (b : Bool) → all && eqb e.position.0 end && continues e.header ≡ b
    → joining end all (e ∷ es) ≡ cond b (e ∷ joining (end + span e.header) (full e.header) es) []
unfolding joining
joining-one end all e es true q =
    ap (λ (b : Bool). elim b as (λ x. List Entry) [ true ↦ e ∷ joining (end + span e.header) (full e.header) es | false ↦ [] ]) q
joining-one end all e es false q =
    ap (λ (b : Bool). elim b as (λ x. List Entry) [ true ↦ e ∷ joining (end + span e.header) (full e.header) es | false ↦ [] ]) q

module _ (sync : ℕ) (ws : List ℕ) (end : ℕ) where
  -- the continuation that stands at the end joins
  pub joining-step : (h : ℕ) → h ≡ get_or ws (suc end) 0 → confirmed sync (drop end ws) ≡ true → continues h ≡ true
      → joining end true (listed_from sync ws end) ≡ entry_at ws end h ∷ joining (end + span h) (full h) (listed_from sync ws (end + span h))
  joining-step h q e c =
      let t : true && eqb end end && continues h ≡ true = rw (eq-eqb end end refl, c) in
      ap (joining end true) ((next_here sync ws end e).lists ∙ ap (λ (x : ℕ). entry_at ws end x ∷ listed_from sync ws (end + span x)) (sym q))
      ∙ joining-one end true (entry_at ws end h) (listed_from sync ws (end + span h)) true t

  -- nothing else does
  pub joining-stop : (all : Bool) → all && (confirmed sync (drop end ws) && continues (get_or ws (suc end) 0)) ≡ false
      → joining end all (listed_from sync ws end) ≡ []
  unfolding joining
  joining-stop all n = by-check (confirmed sync (drop end ws)) refl n
    where
      by-found : confirmed sync (drop end ws) ≡ false → (f : Option (Entry × Words)) → next_from sync ws end ≡ f → joining end all (listed_from sync ws end) ≡ []
      by-found z None f = ap (joining end all) (ended sync ws end f).lists
      by-found z (Some (e, next)) f =
          let t : all && eqb e.position.0 end && continues e.header ≡ false = rw (next-later sync ws end z e next f, and-false all) in
          ap (joining end all) (stepped sync ws end e next f).lists ∙ joining-one end all e (listed_from sync ws next.0) false t

      by-check : (b : Bool) → confirmed sync (drop end ws) ≡ b → all && (b && continues (get_or ws (suc end) 0)) ≡ false
          → joining end all (listed_from sync ws end) ≡ []
      by-check false z m = by-found z (next_from sync ws end) refl
      by-check true z m =
          let h : ℕ = get_or ws (suc end) 0 in
          let t : all && eqb end end && continues h ≡ false = rw (eq-eqb end end refl, and-true all) m in
          ap (joining end all) (next_here sync ws end z).lists ∙ joining-one end all (entry_at ws end h) (listed_from sync ws (end + span h)) false t

-- ---- the end

module _ (sync cam : ℕ) (ws : List ℕ) (end : ℕ) where
  -- the words at the end close the frame, where a chunk stands there
  abbrev closed : Bool
  closed = eqb (kind (get_or ws (suc end) 0)) 1 && observes (drop (end + 2) ws) cam

  pub closes-at-end : closes ws end cam (listed_from sync ws end) ≡ cond closed (check_at sync (drop end ws)) Check.NotAChunk
  unfolding closes check_at
  closes-at-end = by-check (confirmed sync (drop end ws)) refl
    where
      none : (b : Bool) → Check.NotAChunk ≡ cond b Check.NotAChunk Check.NotAChunk
      none true = refl
      none false = refl

      by-found : confirmed sync (drop end ws) ≡ false → (f : Option (Entry × Words)) → next_from sync ws end ≡ f → closes ws end cam (listed_from sync ws end) ≡ Check.NotAChunk
      by-found z None f = ap (closes ws end cam) (ended sync ws end f).lists
      by-found z (Some (e, next)) f = rw ((stepped sync ws end e next f).lists, next-later sync ws end z e next f)

      by-check : (b : Bool) → confirmed sync (drop end ws) ≡ b
          → closes ws end cam (listed_from sync ws end) ≡ cond closed (cond b (chunk_check (at_end (drop end ws))) Check.NotAChunk) Check.NotAChunk
      by-check false z = by-found z (next_from sync ws end) refl ∙ none closed
      by-check true z = rw ((next_here sync ws end z).lists, eq-eqb end end refl)

-- ---- the whole frame

module _ (sync : ℕ) (ws : List ℕ) where
  -- After the chunks that join, the list goes on at their end; they lie within the words, and one of them has the mark exactly where they end with the words.
  pub record AfterJoined (end : ℕ) (joined : List Entry) : Type 0 where
    pub goes_on : drop (length joined) (listed_from sync ws end) ≡ listed_from sync ws (end + listed_words joined)
    pub within : end + listed_words joined ≤ length ws
    pub mark : eqb end (length ws) || any_end joined ≡ eqb (end + listed_words joined) (length ws)

  after-none-joined : (end : ℕ) (all : Bool) → end ≤ length ws → joining end all (listed_from sync ws end) ≡ [] → AfterJoined end (joining end all (listed_from sync ws end))
  unfolding listed_words any_end
  after-none-joined end all l e =
      rw e (record {
        goes_on = ap (listed_from sync ws) (sym (add-zero end));
        within = omega arith;
        mark = or-false (eqb end (length ws)) ∙ ap (λ (n : ℕ). eqb n (length ws)) (sym (add-zero end));
      })

  after-one-joined : (end : ℕ) → confirmed sync (drop end ws) ≡ true → (h : ℕ) → h ≡ get_or ws (suc end) 0 → (js : List Entry) → AfterJoined (end + span h) js
      → AfterJoined end (entry_at ws end h ∷ js)
  unfolding listed_words any_end
  after-one-joined end e h q js r =
      let n : end + span h + listed_words js ≡ end + (span h + listed_words js) = add_assoc end (span h) (listed_words js) in
      let before : eqb end (length ws) ≡ false = ne_eqb end (length ws) (λ z. omega (arith, confirmed-inside sync ws end e)) in
      let here : at_end (drop end ws) ≡ eqb (end + span h) (length ws) = (next_here sync ws end e).mark ∙ ap (λ (x : ℕ). eqb (end + span x) (length ws)) (sym q) in
      record {
        goes_on =
            ap (drop (suc (length js))) ((next_here sync ws end e).lists ∙ ap (λ (x : ℕ). entry_at ws end x ∷ listed_from sync ws (end + span x)) (sym q))
            ∙ r.goes_on ∙ ap (listed_from sync ws) n;
        within = omega (arith, r.within, n);
        mark = rw (before, here) (r.mark ∙ ap (λ (m : ℕ). eqb m (length ws)) n);
      }

  pub after-joined : (k end : ℕ) (all : Bool) → length ws ≤ end + k → end ≤ length ws → AfterJoined end (joining end all (listed_from sync ws end))
  after-joined zero end all h l =
      after-none-joined end all l (joining-stop sync ws end all (rw (confirmed-end sync end ws (omega arith)) (and-false all)))
  after-joined (suc k) end all h l = by-join (λ e a. after-joined k e a) all (confirmed sync (drop end ws)) refl (continues (get_or ws (suc end) 0)) refl
    where
      by-join : ((e : ℕ) (a : Bool) → length ws ≤ e + k → e ≤ length ws → AfterJoined e (joining e a (listed_from sync ws e)))
          → (all b : Bool) → confirmed sync (drop end ws) ≡ b → (c : Bool) → continues (get_or ws (suc end) 0) ≡ c
          → AfterJoined end (joining end all (listed_from sync ws end))
      by-join more false b z c y = after-none-joined end false l (joining-stop sync ws end false refl)
      by-join more true false z c y = after-none-joined end true l (joining-stop sync ws end true (rw z))
      by-join more true true z false y = after-none-joined end true l (joining-stop sync ws end true (rw (z, y)))
      by-join more true true z true y =
          let w : ℕ = get_or ws (suc end) 0 in
          let b = confirmed-bounds sync ws end (confirmed-inside sync ws end z) z in
          subst (AfterJoined end) (sym (joining-step sync ws end w refl z y))
          (after-one-joined end z w refl (joining (end + span w) (full w) (listed_from sync ws (end + span w))) (more (end + span w) (full w) (omega arith) b.0))
