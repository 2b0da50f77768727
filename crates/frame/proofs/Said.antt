-- What the next piece says. The chunks that join a frame are no strays, and after them none is in hand; so where a frame ends the frames and strays go on as
-- those of the reading that begins there.
use mathlib.Core.Path.{◌≡◌, refl, sym, ap, ap₂, subst, ◌∙◌}
use mathlib.Core.Bool.{Bool, true, false, ◌&&◌, and-true}
use mathlib.Core.List.{List, [], ◌∷◌}
use Prim.Native.Nat.{ℕ, zero, suc, ◌+◌, ◌≤◌}
use native.Mathlib.Omega.{arith}
use lib.ListN.{length, get_or, drop}
use native.Mathlib.Numerals.{add-one}
use lib.Seq.{drop-drop, get_or-drop}
use lib.Dec.{eqb}
use Rattle.std.specs.Prelude.{Option, Some, None}
use borrow.Author.Tests.{eqb-true, eqb-false}
use Rattle.base.proofs.Booleans.{and_left, and_right}
use Rattle.base.specs.declared.Words.{Words}
use Rattle.chunk.specs.declared.Entry.{Entry}
use Rattle.chunk.specs.Header.{size, kind, span, at_end}
use Rattle.chunk.specs.Reading.{entry, listed, next_from, listed_words}
use Rattle.chunk.specs.Moved.{moved}
use Rattle.chunk.proofs.Headers.{at-end}
use Rattle.chunk.proofs.Steps.{past, listed_from, Next, stepped, found-end}
use Rattle.chunk.proofs.Moved.{listed-moved}
use Rattle.frame.specs.declared.Piece.{Piece}
use Rattle.frame.specs.Shape.{starts, continues, full, joining, frame_words}
use Rattle.frame.specs.Walk.{starts_frame}
use Rattle.frame.specs.Pieces.{frames_and_strays, pieces_from, frame_there, stray_there, next_piece}
use Rattle.frame.specs.Said.{Says, PiecesSaid}
use Rattle.frame.proofs.Joining.{joining-one, AfterJoined, after-joined}
use Rattle.frame.proofs.Walking.{ahead, first-and-ahead}
use Rattle.frame.proofs.Stepping.{pieces-one, continuation, none_left, no-piece, pieces-past-health, health-passed, pieces-at-frame, frame-next, pieces-at-stray, stray-next, frame-starts}
use Rattle.frame.proofs.Moved.{joining-moved, words-moved}

-- a chunk that joins no frame in hand is as it is where none is in hand
alone : (end : ℕ) (all : Bool) (e : Entry) (es : List Entry) → all && eqb e.position.0 end && continues e.header ≡ false
    → frames_and_strays end all (e ∷ es) ≡ frames_and_strays 0 false (e ∷ es)
alone end all e es n = by_kind (continues e.header) refl n
  where
    by_kind : (c : Bool) → continues e.header ≡ c → all && eqb e.position.0 end && c ≡ false
        → frames_and_strays end all (e ∷ es) ≡ frames_and_strays 0 false (e ∷ es)
    by_kind true x m =
        pieces-one end all e es true false (starts e.header) x (sym (and-true (all && eqb e.position.0 end)) ∙ m) refl
        ∙ sym (pieces-one 0 false e es true false (starts e.header) x refl refl)
    by_kind false x m =
        pieces-one end all e es false (all && eqb e.position.0 end) (starts e.header) x refl refl
        ∙ sym (pieces-one 0 false e es false false (starts e.header) x refl refl)

-- the chunks that join the frame in hand are passed
passed : (end : ℕ) (all : Bool) (es : List Entry) → frames_and_strays end all es ≡ frames_and_strays 0 false (drop (length (joining end all es)) es)
unfolding frames_and_strays joining
passed end all [] = refl
passed end all (e ∷ es) = by-join (all && eqb e.position.0 end && continues e.header) refl (λ n a. passed n a es)
  where
    by-join : (b : Bool) → all && eqb e.position.0 end && continues e.header ≡ b
        → ((n : ℕ) (a : Bool) → frames_and_strays n a es ≡ frames_and_strays 0 false (drop (length (joining n a es)) es))
        → frames_and_strays end all (e ∷ es) ≡ frames_and_strays 0 false (drop (length (joining end all (e ∷ es))) (e ∷ es))
    by-join true j more =
        let c : continues e.header ≡ true = and_right (all && eqb e.position.0 end) _ j in
        pieces-one end all e es true true (starts e.header) c (and_left (all && eqb e.position.0 end) _ j) refl
        ∙ more (end + span e.header) (full e.header)
        ∙ ap (λ (js : List Entry). frames_and_strays 0 false (drop (length js) (e ∷ es))) (sym (joining-one end all e es true j))
    by-join false j more =
        alone end all e es j
        ∙ ap (λ (js : List Entry). frames_and_strays 0 false (drop (length js) (e ∷ es))) (sym (joining-one end all e es false j))

-- ---- the next piece

module _ (sync : ℕ) (ws : List ℕ) where
  -- where the frame at p ends, as the list has it
  frame-end : (p : ℕ) → starts_frame sync (drop p ws) ≡ true
      → (let h = get_or (drop p ws) 1 0 in
      p + frame_words sync (drop p ws) ≡ p + span h + listed_words (joining (p + span h) (full h) (listed_from sync ws (p + span h))))
  unfolding listed_words
  frame-end p s =
      let v : List ℕ = drop p ws in
      let h : ℕ = get_or v 1 0 in
      let l : listed_from sync ws (p + span h) ≡ moved p (listed_from sync v (span h)) =
      ap (listed sync (p + span h) 0) (sym (drop-drop (span h) p ws)) ∙ listed-moved sync p (span h) 0 (drop (span h) v) in
      let w : listed_words (joining (p + span h) (full h) (listed_from sync ws (p + span h))) ≡ listed_words (ahead sync v (size h) (span h)) =
      ap (λ (es : List Entry). listed_words (joining (p + span h) (full h) es)) l
      ∙ ap listed_words (joining-moved p (span h) (full h) (listed_from sync v (span h)))
      ∙ words-moved p (ahead sync v (size h) (span h)) in
      omega (arith, ap listed_words (first-and-ahead sync v s), w)

  -- from p on and from q on they are the same, so an answer says the same of them
  moves : (p q : ℕ) → pieces_from sync ws p ≡ pieces_from sync ws q → (x : Option Piece) → Says sync ws q x → Says sync ws p x
  moves p q e x s = record { none = λ z. e ∙ s.none z; first = λ z. e ∙ s.first z; is_frame = s.is_frame; is_stray = s.is_stray }

  module _ (p : ℕ) (e : Entry) (n : Next sync ws p e (past e)) where
    abbrev at : ℕ
    at = e.position.0

    abbrev h : ℕ
    h = e.header

    word : h ≡ get_or ws (at + 1) 0
    word = n.word ∙ ap (λ (i : ℕ). get_or ws i 0) (sym (add-one at))

    named : e ≡ entry at (get_or ws (suc at) 0) (at_end (drop at ws))
    named = ap₂ (entry at) n.word (n.mark ∙ sym (at-end sync ws at (past e) (omega (arith, n.ahead, n.within)) (omega (arith, ap size word))))

    at-stray : kind h ≡ 0 → starts h ≡ false → Says sync ws p (Some (stray_there e))
    at-stray k s = record {
      none = λ z. absurd (omega arith);
      first = λ z. pieces-at-stray sync ws p e (past e) n k s ∙ ap (λ (f : Entry). f ∷ pieces_from sync ws (past e)) named;
      is_frame = λ z. absurd (omega arith);
      is_stray = λ z. (ap (λ (w : ℕ). continues w) (sym n.word) ∙ continuation h k s, named);
    }

    -- after a frame's chunks none is in hand
    after_frame : starts h ≡ true → pieces_from sync ws p ≡ e ∷ pieces_from sync ws (at + frame_words sync (drop at ws))
    after_frame s =
        let q : get_or (drop at ws) 1 0 ≡ h = get_or-drop at ws 1 0 ∙ ap (λ (i : ℕ). get_or ws i 0) (add-one at) ∙ sym n.word in
        let js : List Entry = joining (past e) (full h) (listed_from sync ws (past e)) in
        let r : AfterJoined sync ws (past e) js = after-joined sync ws (length ws) (past e) (full h) (omega arith) n.within in
        let g : at + frame_words sync (drop at ws) ≡ past e + listed_words js =
        rw q at (frame-end at (frame-starts sync ws p e (past e) n s)) in
        pieces-at-frame sync ws p e (past e) n s
        ∙ ap (λ (l : List Entry). e ∷ l) (passed (past e) (full h) (listed_from sync ws (past e)) ∙ ap (frames_and_strays 0 false) r.goes_on)
        ∙ ap (λ (m : ℕ). e ∷ pieces_from sync ws m) (sym g)

    at-frame : starts h ≡ true → Says sync ws p (Some (frame_there sync ws at))
    at-frame s = record {
      none = λ z. absurd (omega arith);
      first = λ z. after_frame s ∙ ap (λ (f : Entry). f ∷ pieces_from sync ws (at + frame_words sync (drop at ws))) named;
      is_frame = λ z. (ap (λ (w : ℕ). starts w) (sym n.word) ∙ s, refl);
      is_stray = λ z. absurd (omega arith);
    }

  at_last : (p : ℕ) → next_from sync ws p ≡ None → Says sync ws p (next_piece sync ws p)
  unfolding frames_and_strays
  at_last p f = subst (Says sync ws p) (sym (no-piece sync ws p f)) record {
    none = λ z. none_left sync ws p f;
    first = λ z. absurd (z refl);
    is_frame = λ z. absurd (omega arith);
    is_stray = λ z. absurd (omega arith);
  }

  -- a chunk was found: the piece is there, or the search goes on past a health chunk
  at-chunk : (p : ℕ) (e : Entry) (n : Next sync ws p e (past e)) → Says sync ws (past e) (next_piece sync ws (past e)) → Says sync ws p (next_piece sync ws p)
  at-chunk p e n more = by_kind (eqb (kind e.header) 0) refl (starts e.header) refl
    where
      by_kind : (k : Bool) → eqb (kind e.header) 0 ≡ k → (s : Bool) → starts e.header ≡ s → Says sync ws p (next_piece sync ws p)
      by_kind false k s y =
          let z = eqb-false (kind e.header) 0 k in
          subst (Says sync ws p) (sym (health-passed sync ws p e (past e) n z))
          (moves p (past e) (pieces-past-health sync ws p e (past e) n z) (next_piece sync ws (past e)) more)
      by_kind true k true y = subst (Says sync ws p) (sym (frame-next sync ws p e (past e) n y)) (at-frame p e n y)
      by_kind true k false y =
          let z = eqb-true (kind e.header) 0 k in
          subst (Says sync ws p) (sym (stray-next sync ws p e (past e) n z y)) (at-stray p e n z y)

  by-found : (k p : ℕ) → length ws ≤ p + suc k → ((q : ℕ) → length ws ≤ q + k → Says sync ws q (next_piece sync ws q))
      → (f : Option (Entry × Words)) → next_from sync ws p ≡ f → Says sync ws p (next_piece sync ws p)
  by-found k p h more None f = at_last p f
  by-found k p h more (Some (e, next)) f =
      let s = stepped sync ws p e next f in
      at-chunk p e (subst (Next sync ws p e) s.end s) (more (past e) (omega (arith, s.ahead)))

  says-within : (k p : ℕ) → length ws ≤ p + k → Says sync ws p (next_piece sync ws p)
  says-within zero p h = at_last p (found-end sync ws p (omega arith))
  says-within (suc k) p h = by-found k p h (λ q. says-within k q) (next_from sync ws p) refl

pub pieces-said : PiecesSaid
pieces-said = record { start = λ sync ws. refl; says = λ sync ws p. says-within sync ws (length ws) p (omega arith) }
