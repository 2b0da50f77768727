-- Frames and strays, counted among the listed chunks. No chunk that starts a frame is lost on the way. And going through a recording a frame or a stray at a
-- time passes every continuation: a stray is one, and after a frame's first chunk stand those that join it, after which the list goes on at the frame's end.
use mathlib.Core.Path.{◌≡◌, refl, sym, ap, ap₂, subst, ◌∙◌}
use mathlib.Core.Bool.{Bool, true, false, ◌&&◌}
use mathlib.Core.List.{List, [], ◌∷◌}
use Prim.Native.Nat.{ℕ, zero, suc, ◌+◌, ◌-◌, ◌≤◌}
use native.Mathlib.Omega.{arith}
use native.Mathlib.Nat.{zero-add}
use native.Mathlib.Numerals.{add-one}
use lib.ListN.{length, get_or, drop}
use lib.Seq.{drop-drop, get_or-drop}
use lib.Dec.{eqb}
use borrow.Author.Tests.{ne_eqb, eqb-true, eqb-false}
use Rattle.std.specs.Prelude.{Option, Some, None}
use Rattle.base.proofs.Booleans.{and_right, by-test}
use Rattle.base.specs.declared.Words.{Words}
use Rattle.chunk.specs.declared.Entry.{Entry}
use Rattle.chunk.specs.Header.{size, kind, span}
use Rattle.chunk.specs.Reading.{listed, next_from, listed_words}
use Rattle.chunk.specs.Moved.{moved}
use Rattle.chunk.proofs.Steps.{past, listed_from, Next, stepped, ended, found-end}
use Rattle.chunk.proofs.Moved.{listed-moved}
use Rattle.frame.specs.Shape.{starts, continues, full, joining, frame_chunks, frame_words}
use Rattle.frame.specs.Walk.{starts_frame}
use Rattle.frame.specs.Pieces.{frames_and_strays, pieces_of, pieces_from, frame_there}
use Rattle.frame.specs.Said.{Says}
use Rattle.frame.proofs.Joining.{joining-one, AfterJoined, after-joined}
use Rattle.frame.proofs.Walking.{ahead, first-and-ahead, frame-ends-inside}
use Rattle.frame.proofs.Stepping.{pick, pieces-one, no-continuation, starts_none, continuation, none_left, pieces-past-health, pieces-at-stray, frame-next, frame-starts}
use Rattle.frame.proofs.Said.{pieces-said}
use Rattle.tally_recording.specs.Numbers.{how_often}
use Rattle.tally_recording.specs.Tally.{is_stray}
use Rattle.tally_laws.specs.Accounts.{joined_in}
use Rattle.tally_laws.proofs.Counting.{one}

-- a chunk that starts a frame, and a continuation
abbrev pub begins : Entry → Bool
begins e = starts e.header

abbrev pub carries : Entry → Bool
carries e = continues e.header

-- ---- chunks that start a frame

pub starts-kept : (end : ℕ) (all : Bool) (es : List Entry) → how_often begins (frames_and_strays end all es) ≡ how_often begins es
unfolding how_often frames_and_strays
starts-kept end all [] = refl
starts-kept end all (e ∷ es) =
    ap (how_often begins) (pieces-one end all e es (carries e) _ (begins e) refl refl refl)
    ∙ picks (carries e) (all && eqb e.position.0 end) (begins e) refl refl (λ n a. starts-kept n a es)
  where
    picks : (c j s : Bool) → carries e ≡ c → begins e ≡ s → ((n : ℕ) (a : Bool) → how_often begins (frames_and_strays n a es) ≡ how_often begins es)
        → how_often begins (pick end all e es c j s) ≡ one (begins e) + how_often begins es
    picks true true s c b more = rw (starts_none e.header c, zero-add) (more (end + span e.header) (full e.header))
    picks true false s c b more = ap (λ (n : ℕ). one (begins e) + n) (more 0 false)
    picks false j true c b more = ap (λ (n : ℕ). one (begins e) + n) (more (e.position.0 + span e.header) (full e.header))
    picks false j false c b more = rw (b, zero-add) (more 0 false)

-- ---- continuations

-- those that join a frame in hand come first
joined-first : (end : ℕ) (all : Bool) (es : List Entry)
    → how_often carries es ≡ length (joining end all es) + how_often carries (drop (length (joining end all es)) es)
unfolding how_often joining
joined-first end all [] = refl
joined-first end all (e ∷ es) =
    let join : Bool = all && eqb e.position.0 end && carries e in
    by-test join
    (λ j. rw (joining-one end all e es true j, and_right (all && eqb e.position.0 end) (carries e) j)
    (omega (arith, joined-first (end + span e.header) (full e.header) es)))
    (λ j. rw (joining-one end all e es false j) (omega arith))

carries-moved : (n : ℕ) (es : List Entry) → how_often carries (moved n es) ≡ how_often carries es
unfolding how_often
carries-moved n [] = refl
carries-moved n (e ∷ es) = ap (λ (m : ℕ). one (carries e) + m) (carries-moved n es)

module _ (sync : ℕ) (ws : List ℕ) where
  -- the continuations listed from a place on
  abbrev carries_from : ℕ → ℕ
  carries_from p = how_often carries (listed_from sync ws p)

  -- counted from another place they are as many
  carries-from : (at m : ℕ) → carries_from (at + m) ≡ how_often carries (listed_from sync (drop at ws) m)
  carries-from at m =
      ap (λ (v : List ℕ). how_often carries (listed sync (at + m) 0 v)) (sym (drop-drop m at ws))
      ∙ ap (how_often carries) (listed-moved sync at m 0 (drop m (drop at ws)))
      ∙ carries-moved at (listed_from sync (drop at ws) m)

-- after the first chunk of the frame at the front of these words stand those that join it, then what is listed from the frame's end on
after_first : (sync : ℕ) (ws : List ℕ) → starts_frame sync ws ≡ true
    → how_often carries (listed_from sync ws (span (get_or ws 1 0))) ≡ length (frame_chunks sync ws) - 1 + how_often carries (listed_from sync ws (frame_words sync ws))
unfolding listed_words
after_first sync ws s =
    let h : ℕ = get_or ws 1 0 in
    let js : List Entry = ahead sync ws (size h) (span h) in
    let f : frame_chunks sync ws ≡ _ = first-and-ahead sync ws s in
    let w : span h + listed_words js ≡ frame_words sync ws = sym (ap listed_words f) in
    let r : AfterJoined sync ws (span h) js =
    after-joined sync ws (length ws) (span h) (full h) (omega arith) (omega (arith, w, frame-ends-inside sync ws s)) in
    joined-first (span h) (full h) (listed_from sync ws (span h))
    ∙ ap₂ ◌+◌ (omega (arith, ap length f)) (ap (how_often carries) (r.goes_on ∙ ap (listed_from sync ws) w))

module _ (sync : ℕ) (ws : List ℕ) where
  -- from p on each continuation is a stray or joins a frame
  abbrev Told : ℕ → Type 0
  Told p = how_often is_stray (pieces_from sync ws p) + joined_in sync ws (pieces_from sync ws p) ≡ carries_from sync ws p

  at_last : (p : ℕ) → next_from sync ws p ≡ None → Told p
  unfolding how_often joined_in frames_and_strays
  at_last p f = rw (none_left sync ws p f, (ended sync ws p f).lists)

  module _ (p : ℕ) (e : Entry) (n : Next sync ws p e (past e)) where
    abbrev at : ℕ
    at = e.position.0

    abbrev h : ℕ
    h = e.header

    carries-here : (c : Bool) → continues h ≡ c → carries_from sync ws p ≡ one c + carries_from sync ws (past e)
    unfolding how_often
    carries-here c q = rw (n.lists, q)

    at-health : (kind h ≡ 0 → ⊥) → Told (past e) → Told p
    at-health k more =
        rw (pieces-past-health sync ws p e (past e) n k) (more ∙ sym (carries-here false (rw (ne_eqb (kind h) 0 k)) ∙ zero-add (carries_from sync ws (past e))))

    at-stray : kind h ≡ 0 → starts h ≡ false → Told (past e) → Told p
    unfolding how_often joined_in
    at-stray k s more = rw (pieces-at-stray sync ws p e (past e) n k s, s) (omega (arith, more, carries-here true (continuation h k s)))

    -- the frame's chunks and words
    frame-carries : starts h ≡ true
        → carries_from sync ws p ≡ length (frame_chunks sync (drop at ws)) - 1 + carries_from sync ws (at + frame_words sync (drop at ws))
    frame-carries s =
        let v : List ℕ = drop at ws in
        let w : get_or v 1 0 ≡ h = get_or-drop at ws 1 0 ∙ ap (λ (i : ℕ). get_or ws i 0) (add-one at) ∙ sym n.word in
        let a = after_first sync v (frame-starts sync ws p e (past e) n s) in
        carries-here false (no-continuation h s) ∙ zero-add (carries_from sync ws (past e))
        ∙ carries-from sync ws at (span h) ∙ ap (λ (x : ℕ). how_often carries (listed_from sync v (span x))) (sym w)
        ∙ a ∙ ap (λ (m : ℕ). length (frame_chunks sync v) - 1 + m) (sym (carries-from sync ws at (frame_words sync v)))

    at-frame : starts h ≡ true → Told (at + frame_words sync (drop at ws)) → Told p
    unfolding how_often joined_in
    at-frame s more =
        let x : Says sync ws p (Some (frame_there sync ws at)) = subst (Says sync ws p) (frame-next sync ws p e (past e) n s) (pieces-said.says sync ws p) in
        rw (x.first (λ z. omega arith), (x.is_frame refl).0) (omega (arith, more, frame-carries s))

    frame-ahead : starts h ≡ true → p + 1 ≤ at + frame_words sync (drop at ws)
    unfolding listed_words
    frame-ahead s = omega (arith, n.ahead, ap listed_words (first-and-ahead sync (drop at ws) (frame-starts sync ws p e (past e) n s)))

    at-chunk : ((q : ℕ) → p + 1 ≤ q → Told q) → Told p
    at-chunk more =
        by-test (eqb (kind h) 0)
        (λ k. by-test (starts h)
        (λ s. at-frame s (more (at + frame_words sync (drop at ws)) (frame-ahead s)))
        (λ s. at-stray (eqb-true (kind h) 0 k) s (more (past e) (omega (arith, n.ahead)))))
        (λ k. at-health (eqb-false (kind h) 0 k) (more (past e) (omega (arith, n.ahead))))

  by-found : (k p : ℕ) → length ws ≤ p + suc k → ((q : ℕ) → length ws ≤ q + k → Told q) → (f : Option (Entry × Words)) → next_from sync ws p ≡ f → Told p
  by-found k p l more None f = at_last p f
  by-found k p l more (Some (e, next)) f =
      let s = stepped sync ws p e next f in
      at-chunk p e (subst (Next sync ws p e) s.end s) (λ q m. more q (omega arith))

  told-within : (k p : ℕ) → length ws ≤ p + k → Told p
  told-within zero p l = at_last p (found-end sync ws p (omega arith))
  told-within (suc k) p l = by-found k p l (λ q. told-within k q) (next_from sync ws p) refl

  pub continuations-told : how_often is_stray (pieces_of sync ws) + joined_in sync ws (pieces_of sync ws) ≡ how_often carries (listed_from sync ws 0)
  continuations-told = told-within (length ws) 0 (omega arith)
