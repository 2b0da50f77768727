-- The chunks of a frame are a row: each begins where the one before it ends, lies within the words and has a legal image size. So a walk from header to
-- header over as many chunks as the frame has meets its chunks, and where none of its units is damaged, every unit gives its data.
use mathlib.Core.Path.{◌≡◌, refl, sym, ap, ap₂, subst, ◌∙◌}
use mathlib.Core.Bool.{Bool, true, false, and-false}
use mathlib.Core.List.{List, [], ◌∷◌, ◌++◌}
use Prim.Native.Nat.{ℕ, zero, suc, ◌+◌, ◌≤◌}
use native.Mathlib.Omega.{arith}
use native.Mathlib.Nat.{zero-add}
use native.Mathlib.Numerals.{add-one}
use lib.ListN.{length, get_or, take, drop}
use lib.Seq.{get_or-drop, drop-drop}
use lib.Dec.{eqb, leb}
use Rattle.base.proofs.Booleans.{and_left, and_right}
use Rattle.chunk.specs.declared.Entry.{Entry}
use Rattle.chunk.specs.Header.{size, camera, kind, span, image_size, confirmed}
use Rattle.chunk.specs.Reading.{listed_words}
use Rattle.chunk.proofs.Steps.{listed_from, confirmed-bounds, confirmed-end}
use Rattle.parity_units.specs.Split.{units_in, any_damaged, given_data}
use Rattle.parity_units.proofs.Split.{Fair, fair-append, given-all}
use Rattle.frame.specs.Shape.{starts, continues, full, joining, frame_chunks}
use Rattle.frame.specs.Picture.{payload_of, chunk_units, units_of, frame_units, frame_data}
use Rattle.frame.specs.Walk.{starts_frame}
use Rattle.frame.proofs.Joining.{entry_at, confirmed-inside, joining-step, joining-stop}
use Rattle.frame.proofs.Chunks.{image-size, payload-length, image-fair}
use Rattle.frame.proofs.Walking.{first-and-ahead, frame-ends-inside}
use Rattle.frame_reading.specs.Along.{words_along, units_along}

pub record Placed (ws : List ℕ) (at : ℕ) (e : Entry) : Type 0 where
  pub entry_here : e ≡ entry_at ws at (get_or ws (suc at) 0)
  pub within : at + span e.header ≤ length ws
  pub image : image_size (size e.header) ≡ true

abbrev pub Row : List ℕ → ℕ → List Entry → Type 0
Row ws at [] = Unit {0}
Row ws at (e ∷ es) = Placed ws at e × Row ws (at + span e.header) es

module _ (sync : ℕ) (ws : List ℕ) where
  placed : (at : ℕ) → confirmed sync (drop at ws) ≡ true → eqb (kind (get_or ws (suc at) 0)) 0 ≡ true → Placed ws at (entry_at ws at (get_or ws (suc at) 0))
  placed at c i =
      let d : get_or (drop at ws) 1 0 ≡ get_or ws (suc at) 0 = get_or-drop at ws 1 0 ∙ ap (λ (n : ℕ). get_or ws n 0) (add-one at) in
      record {
        entry_here = refl;
        within = (confirmed-bounds sync ws at (confirmed-inside sync ws at c) c).0;
        image = rw d at (image-size sync (drop at ws) c (rw d i));
      }

  row-stop : (end : ℕ) (all : Bool) → joining end all (listed_from sync ws end) ≡ [] → Row ws end (joining end all (listed_from sync ws end))
  row-stop end all e = subst (Row ws end) (sym e) tt

  joining-row : (k end : ℕ) (all : Bool) → length ws ≤ end + k → Row ws end (joining end all (listed_from sync ws end))
  joining-row zero end all h = row-stop end all (joining-stop sync ws end all (rw (confirmed-end sync end ws (omega arith)) (and-false all)))
  joining-row (suc k) end all h = by-join (λ e a. joining-row k e a) all (confirmed sync (drop end ws)) refl (continues (get_or ws (suc end) 0)) refl
    where
      by-join : ((e : ℕ) (a : Bool) → length ws ≤ e + k → Row ws e (joining e a (listed_from sync ws e)))
          → (all b : Bool) → confirmed sync (drop end ws) ≡ b → (c : Bool) → continues (get_or ws (suc end) 0) ≡ c
          → Row ws end (joining end all (listed_from sync ws end))
      by-join more false b z c y = row-stop end false (joining-stop sync ws end false refl)
      by-join more true false z c y = row-stop end true (joining-stop sync ws end true (rw z))
      by-join more true true z false y = row-stop end true (joining-stop sync ws end true (rw (z, y)))
      by-join more true true z true y =
          let w : ℕ = get_or ws (suc end) 0 in
          subst (Row ws end) (sym (joining-step sync ws end w refl z y))
          (placed end z (and_left (eqb (kind w) 0) (eqb (camera w) 0) y), more (end + span w) (full w) (omega arith))

  pub frame_row : starts_frame sync ws ≡ true → Row ws 0 (frame_chunks sync ws)
  frame_row s =
      let w : ℕ = get_or ws 1 0 in
      let c : confirmed sync ws ≡ true = and_left (confirmed sync ws) (starts w) s in
      let i : eqb (kind w) 0 ≡ true = and_left (eqb (kind w) 0) (leb 1 (camera w)) (and_right (confirmed sync ws) (starts w) s) in
      let n : span w ≡ 0 + span w = sym (zero-add (span w)) in
      subst (Row ws 0) (sym (first-and-ahead sync ws s)) (
        placed 0 c i,
        subst (λ (m : ℕ). Row ws m (joining (span w) (full w) (listed_from sync ws (span w)))) n
            (joining-row (length ws) (span w) (full w) (omega arith)),
      )

-- ---- a row, told by its header words

record Along (ws : List ℕ) (at : ℕ) (es : List Entry) : Type 0 where
  words : words_along (length es) (drop at ws) ≡ listed_words es
  units : units_along (length es) (drop at ws) ≡ units_of ws es
  fair : Fair (units_of ws es)

row-along : (ws : List ℕ) (at : ℕ) (es : List Entry) → Row ws at es → Along ws at es
unfolding words_along units_along listed_words units_of
row-along ws at [] r = record { words = refl; units = refl; fair = tt }
row-along ws at (e ∷ es) r =
    let v : List ℕ = drop at ws in
    let w : ℕ = get_or ws (suc at) 0 in
    let p : Placed ws at e = r.0 in
    let h : e.header ≡ w = ap (λ (x : Entry). x.header) p.entry_here in
    let b : e.position.0 ≡ at = ap (λ (x : Entry). x.position.0) p.entry_here in
    let d : get_or v 1 0 ≡ e.header = get_or-drop at ws 1 0 ∙ ap (λ (n : ℕ). get_or ws n 0) (add-one at) ∙ sym h in
    let f : drop (span (get_or v 1 0)) v ≡ drop (at + span e.header) ws =
    ap (λ (n : ℕ). drop (span n) v) d ∙ drop-drop (span e.header) at ws in
    let y : take (size (get_or v 1 0)) (drop 2 v) ≡ payload_of ws e =
    ap₂ (λ (n : ℕ) (x : List ℕ). take (size n) x) d (drop-drop 2 at ws) ∙ ap (λ (n : ℕ). take (size e.header) (drop (n + 2) ws)) (sym b) in
    let l : length (payload_of ws e) ≡ size e.header = payload-length ws e (omega (arith, b, p.within)) in
    let a : Along ws (at + span e.header) es = row-along ws (at + span e.header) es r.1 in
    record {
      words = ap₂ (λ (m n : ℕ). m + n) (ap span d) (ap (words_along (length es)) f ∙ a.words);
      units = ap₂ (λ (x y : List (List ℕ)). x ++ y) (ap units_in y) (ap (units_along (length es)) f ∙ a.units);
      fair = fair-append (chunk_units ws e) (units_of ws es) (image-fair (payload_of ws e) (ap image_size l ∙ p.image)) a.fair;
    }

-- ---- the frame at the front of these words

module _ (sync : ℕ) (ws : List ℕ) (s : starts_frame sync ws ≡ true) where
  frame-along : Along ws 0 (frame_chunks sync ws)
  frame-along = row-along ws 0 (frame_chunks sync ws) (frame_row sync ws s)

  pub frame-units : units_along (length (frame_chunks sync ws)) ws ≡ frame_units sync ws
  frame-units = frame-along.units

  pub frame-within : words_along (length (frame_chunks sync ws)) ws ≤ length ws
  frame-within = omega (arith, frame-along.words, frame-ends-inside sync ws s)

  pub frame-data : any_damaged (frame_units sync ws) ≡ false → given_data (frame_units sync ws) ≡ frame_data sync ws
  frame-data d = given-all (frame_units sync ws) frame-along.fair d
