-- Going through a recording, a frame or a stray at a time: what the search finds is the first of the listed chunks, and its header word says whether it
-- starts a frame, is stray, as none is in hand, or is passed.
use mathlib.Core.Path.{◌≡◌, refl, sym, ap, ap₂, ◌∙◌}
use mathlib.Core.Bool.{Bool, true, false, ◌&&◌, false≢true}
use mathlib.Core.List.{List, [], ◌∷◌}
use Prim.Native.Nat.{ℕ, ◌+◌, ◌≤◌}
use native.Mathlib.Omega.{arith}
use native.Mathlib.Numerals.{add-one}
use lib.ListN.{get_or, drop}
use lib.Seq.{get_or-drop}
use lib.Dec.{eqb}
use Rattle.std.specs.Prelude.{Option, Some, None}
use borrow.Author.Tests.{eq-eqb, ne_eqb, leb-true, leb-false}
use Rattle.base.proofs.Booleans.{and_left, and_right, by-test}
use Rattle.base.specs.declared.Words.{Words}
use Rattle.chunk.specs.declared.Entry.{Entry}
use Rattle.chunk.specs.Header.{kind, camera, span}
use Rattle.chunk.specs.Reading.{next_from}
use Rattle.chunk.specs.declared.walk.Chunks.{Chunks}
use Rattle.chunk.specs.Walk.{chunks_step}
use Rattle.chunk.proofs.Steps.{listed_from, Next, ended}
use Rattle.chunk.proofs.Walking.{Walks, turn}
use Rattle.frame.specs.declared.Piece.{Piece}
use Rattle.frame.specs.Shape.{starts, continues, full}
use Rattle.frame.specs.Walk.{starts_frame}
use Rattle.frame.specs.Pieces.{frames_and_strays, pieces_from, frame_there, stray_there, first_piece, next_piece}

-- ---- one listed chunk

-- by whether it continues a frame, joins the one in hand, starts one
module _ (end : ℕ) (all : Bool) (e : Entry) (es : List Entry) where
  abbrev pub pick : Bool → Bool → Bool → List Entry
  pick c j s =
      elim c as (λ x. List Entry) [
        | true ↦
            elim j as (λ x. List Entry) [
              | true ↦ frames_and_strays (end + span e.header) (full e.header) es
              | false ↦ e ∷ frames_and_strays 0 false es
            ]
        | false ↦
            elim s as (λ x. List Entry) [
              | true ↦ e ∷ frames_and_strays (e.position.0 + span e.header) (full e.header) es
              | false ↦ frames_and_strays 0 false es
            ]
      ]

  pub pieces-one : (c j s : Bool) → continues e.header ≡ c → all && eqb e.position.0 end ≡ j → starts e.header ≡ s
      → frames_and_strays end all (e ∷ es) ≡ pick c j s
  unfolding frames_and_strays
  pieces-one c j s x y z =
      ap (λ (b : Bool). pick b (all && eqb e.position.0 end) (starts e.header)) x
      ∙ ap (λ (b : Bool). pick c b (starts e.header)) y
      ∙ ap (pick c j) z

module _ (h : ℕ) where
  -- what starts a frame continues none
  pub no-continuation : starts h ≡ true → continues h ≡ false
  no-continuation s =
      let c : 1 ≤ camera h = leb-true 1 (camera h) (and_right (eqb (kind h) 0) _ s) in
      rw (and_left (eqb (kind h) 0) _ s) (ne_eqb (camera h) 0 (λ z. omega arith))

  -- and what continues one starts none
  pub starts_none : continues h ≡ true → starts h ≡ false
  starts_none c = by-test (starts h) (λ s. absurd (false≢true (sym (no-continuation s) ∙ c))) (λ s. s)

  -- an image chunk that starts none is a continuation
  pub continuation : kind h ≡ 0 → starts h ≡ false → continues h ≡ true
  continuation k s =
      let i : eqb (kind h) 0 ≡ true = eq-eqb (kind h) 0 k in
      rw i (eq-eqb (camera h) 0 (omega (arith, leb-false 1 (camera h) (rw i at s))))

-- ---- the next from a place on

module _ (sync : ℕ) (ws : List ℕ) (p : ℕ) where
  pub none_left : next_from sync ws p ≡ None → pieces_from sync ws p ≡ frames_and_strays 0 false []
  none_left f = ap (frames_and_strays 0 false) (ended sync ws p f).lists

  pub no-piece : next_from sync ws p ≡ None → next_piece sync ws p ≡ None
  unfolding first_piece frames_and_strays
  no-piece f = ap (first_piece sync ws) (none_left f)

  module _ (e : Entry) (q : ℕ) (n : Next sync ws p e q) where
    begins : (c s : Bool) → continues e.header ≡ c → starts e.header ≡ s → pieces_from sync ws p ≡ pick 0 false e (listed_from sync ws q) c false s
    begins c s x y = ap (frames_and_strays 0 false) n.lists ∙ pieces-one 0 false e (listed_from sync ws q) c false s x refl y

    -- a health chunk is passed
    pub pieces-past-health : (kind e.header ≡ 0 → ⊥) → pieces_from sync ws p ≡ pieces_from sync ws q
    pieces-past-health h =
        let k : eqb (kind e.header) 0 ≡ false = ne_eqb (kind e.header) 0 h in
        begins false false (rw k) (rw k)

    pub health-passed : (kind e.header ≡ 0 → ⊥) → next_piece sync ws p ≡ next_piece sync ws q
    health-passed h = ap (first_piece sync ws) (pieces-past-health h)

    -- a chunk that starts a frame
    pub pieces-at-frame : starts e.header ≡ true
        → pieces_from sync ws p ≡ e ∷ frames_and_strays (e.position.0 + span e.header) (full e.header) (listed_from sync ws q)
    pieces-at-frame s = begins false true (no-continuation e.header s) s

    pub frame-next : starts e.header ≡ true → next_piece sync ws p ≡ Some (frame_there sync ws e.position.0)
    unfolding first_piece
    frame-next s =
        ap (first_piece sync ws) (pieces-at-frame s)
        ∙ ap (λ (b : Bool). elim b as (λ x. Option Piece) [ true ↦ Some (frame_there sync ws e.position.0) | false ↦ Some (stray_there e) ]) s

    -- a continuation
    pub pieces-at-stray : kind e.header ≡ 0 → starts e.header ≡ false → pieces_from sync ws p ≡ e ∷ pieces_from sync ws q
    pieces-at-stray k s = begins true false (continuation e.header k s) s

    pub stray-next : kind e.header ≡ 0 → starts e.header ≡ false → next_piece sync ws p ≡ Some (stray_there e)
    unfolding first_piece
    stray-next k s =
        ap (first_piece sync ws) (pieces-at-stray k s)
        ∙ ap (λ (b : Bool). elim b as (λ x. Option Piece) [ true ↦ Some (frame_there sync ws e.position.0) | false ↦ Some (stray_there e) ]) s

    -- a frame starts at the place of a chunk that starts one
    pub frame-starts : starts e.header ≡ true → starts_frame sync (drop e.position.0 ws) ≡ true
    frame-starts s =
        let w : get_or (drop e.position.0 ws) 1 0 ≡ e.header =
        get_or-drop e.position.0 ws 1 0 ∙ ap (λ (i : ℕ). get_or ws i 0) (add-one e.position.0) ∙ sym n.word in
        rw (w, n.confirms, s)

-- ---- the same, of a turn of the walk over the chunks

module _ (sync : ℕ) (ws : List ℕ) (s t : Chunks) (w : Walks sync ws s) where
  pub none_here : chunks_step s None t → ◌≡◌ {A = Option Piece} None (next_piece sync ws s.at.0)
  none_here c =
      let f : next_from sync ws s.at.0 ≡ None = ap₂ (λ (y : ℕ) (x : List ℕ). next_from y x s.at.0) (sym w.same-sync) (sym w.same-words) ∙ sym c.found in
      sym (no-piece sync ws s.at.0 f)

  module _ (e : Entry) (n : Words) (c : chunks_step s (Some (e, n)) t) where
    here : Next sync ws s.at.0 e n.0
    here = (turn sync ws s t w e n c).next

    pub walks_on : Walks sync ws t
    walks_on = (turn sync ws s t w e n c).on

    pub starts_here : starts e.header ≡ true → starts_frame sync (drop e.position.0 ws) ≡ true
    starts_here = frame-starts sync ws s.at.0 e n.0 here

    pub frame_here : starts e.header ≡ true → Some (frame_there sync ws e.position.0) ≡ next_piece sync ws s.at.0
    frame_here b = sym (frame-next sync ws s.at.0 e n.0 here b)

    pub stray_here : kind e.header ≡ 0 → starts e.header ≡ false → Some (Piece.Stray e n) ≡ next_piece sync ws s.at.0
    stray_here k b = ap (λ (m : ℕ). Some (Piece.Stray e (record { 0 = m }))) here.end ∙ sym (stray-next sync ws s.at.0 e n.0 here k b)

    pub health_here : (kind e.header ≡ 0 → ⊥) → next_piece sync ws t.at.0 ≡ next_piece sync ws s.at.0
    health_here k = ap (λ (m : Words). next_piece sync ws m.0) (turn sync ws s t w e n c).past ∙ sym (health-passed sync ws s.at.0 e n.0 here k)
