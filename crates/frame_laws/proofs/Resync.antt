-- Demand 3 for frames. A frame is a question about the words from its place on, which are the same after any words; and past the lost words a chunk is
-- listed where it is listed in the stretch alone. A chunk that starts a frame is no matter of what went before, so from there on the frames and strays of
-- a recording are those of the reading that begins there.
use mathlib.Core.Path.{◌≡◌, refl, sym, ap, ◌∙◌}
use mathlib.Core.Bool.{Bool, true, false, cond, ◌&&◌}
use mathlib.Core.List.{List, [], ◌∷◌, ◌++◌}
use Prim.Native.Nat.{ℕ, suc, ◌+◌, ◌≤◌}
use native.Mathlib.Omega.{arith}
use native.Mathlib.Numerals.{add-one}
use lib.ListN.{length, get_or, drop, length-append}
use lib.Seq.{drop-append-add, get_or-drop}
use lib.Dec.{leb, eqb}
use borrow.Author.Tests.{eqb-true, le-ltb}
use Rattle.base.specs.Limit.{recording_limit, too_long}
use Rattle.base.proofs.Booleans.{and_left, and_right}
use Rattle.chunk.specs.declared.Entry.{Entry}
use Rattle.chunk.specs.Header.{span, confirmed}
use Rattle.chunk.specs.Reading.{listed, reading, left_at, listed_at}
use Rattle.chunk.specs.Moved.{moved}
use Rattle.chunk_laws.specs.Stretch.{Laid, words, offset, clean}
use Rattle.chunk_laws.specs.Resync.{from}
use Rattle.chunk_laws.proofs.ByPlace.{listed-place, reading-from}
use Rattle.chunk_laws.proofs.Stretch.{unbroken, clean-unbroken}
use Rattle.chunk_laws.proofs.Resync.{listed_same, listed-late}
use Rattle.frame.specs.Shape.{starts, continues, full}
use Rattle.frame.specs.Pieces.{frames_and_strays, pieces_of, pieces_from}
use Rattle.chunk.proofs.Steps.{listed_from}
use Rattle.frame.proofs.Joining.{next_here, entry_at}
use Rattle.frame.proofs.Stepping.{pick, pieces-one, no-continuation}
use Rattle.frame_reading.specs.Replies.{at_reply, judge_reply, read_reply, read_room}
use Rattle.frame_laws.specs.Resync.{SameFrame, FramesAsAlone, StepsAsAlone}
use Rattle.frame_laws.proofs.Moved.{pieces-from-moved, next-moved}

-- the calls look at three things: whether the recording is too long, whether a chunk is listed at the place, and the words from there on
pub same-frame : (sync p : ℕ) (ws : List ℕ) (q : ℕ) (vs : List ℕ) → too_long ws ≡ too_long vs → listed_at sync ws p ≡ listed_at sync vs q
    → drop p ws ≡ drop q vs → SameFrame sync ws p vs q
unfolding at_reply judge_reply read_reply read_room
same-frame sync p ws q vs t l d = record {
  described = rw (t, l, d);
  judges = rw (t, l, d);
  replies = λ m. rw (t, l, d);
  gives = λ room. rw (t, l, d);
}

-- ---- from a chunk that starts a frame

-- one entry of a list, at the place or later, or before it
from_one : (p : ℕ) (e : Entry) (es : List Entry) (b : Bool) → leb p e.position.0 ≡ b → from p (e ∷ es) ≡ cond b (e ∷ es) (from p es)
unfolding from
from_one p e es true z = rw (z, from)
from_one p e es false z = rw (z, from)

frame-first : (end : ℕ) (all : Bool) (e : Entry) (es : List Entry) → starts e.header ≡ true
    → frames_and_strays end all (e ∷ es) ≡ e ∷ frames_and_strays (e.position.0 + span e.header) (full e.header) es
frame-first end all e es s =
    pieces-one end all e es false (all && eqb e.position.0 end) true (no-continuation e.header s) refl s

-- where the first chunk from the place on starts a frame, it does not matter what is in hand
from-frame : (p end : ℕ) (all : Bool) (es : List Entry) (e : Entry) (rest : List Entry) → from p es ≡ e ∷ rest → starts e.header ≡ true
    → from p (frames_and_strays end all es) ≡ frames_and_strays 0 false (e ∷ rest)
unfolding from frames_and_strays
from-frame p end all [] e rest f s = absurd (omega (arith, ap length f))
from-frame p end all (d ∷ es) e rest f s = by_place (leb p d.position.0) refl (λ g m a. from-frame p m a es e rest g s)
  where
    passed : leb p d.position.0 ≡ false → (xs : List Entry) → from p (d ∷ xs) ≡ from p xs
    passed z xs = from_one p d xs false z

    picks : leb p d.position.0 ≡ false → ((m : ℕ) (a : Bool) → from p (frames_and_strays m a es) ≡ frames_and_strays 0 false (e ∷ rest))
        → (c j t : Bool) → from p (pick end all d es c j t) ≡ frames_and_strays 0 false (e ∷ rest)
    picks z more true true t = more (end + span d.header) (full d.header)
    picks z more true false t = passed z (frames_and_strays 0 false es) ∙ more 0 false
    picks z more false j true =
        passed z (frames_and_strays (d.position.0 + span d.header) (full d.header) es)
        ∙ more (d.position.0 + span d.header) (full d.header)
    picks z more false j false = more 0 false

    by_place : (b : Bool) → leb p d.position.0 ≡ b
        → (from p es ≡ e ∷ rest → (m : ℕ) (a : Bool) → from p (frames_and_strays m a es) ≡ frames_and_strays 0 false (e ∷ rest))
        → from p (frames_and_strays end all (d ∷ es)) ≡ frames_and_strays 0 false (e ∷ rest)
    by_place true z more =
        let g : d ∷ es ≡ e ∷ rest = sym (from_one p d es true z) ∙ f in
        let q : d ≡ e = cc g in
        let t : starts d.header ≡ true = ap (λ (x : Entry). starts x.header) q ∙ s in
        ap (from p) (frame-first end all d es t) ∙ from_one p d _ true z ∙ sym (frame-first 0 false d es t) ∙ ap (frames_and_strays 0 false) g
    by_place false z more =
        ap (from p) (pieces-one end all d es (continues d.header) _ (starts d.header) refl refl refl)
        ∙ picks z (more (sym (passed z es) ∙ f)) (continues d.header) (all && eqb d.position.0 end) (starts d.header)

-- so from its place on the frames and strays of a recording are those of the reading that begins there
pieces-from-frame : (sync : ℕ) (ws : List ℕ) (p : ℕ) → listed_at sync ws p ≡ true → starts (get_or (drop p ws) 1 0) ≡ true
    → from p (pieces_of sync ws) ≡ pieces_from sync ws p
unfolding listed_at
pieces-from-frame sync ws p l s =
    let z : left_at sync 0 ws p ≡ 0 = eqb-true (left_at sync 0 ws p) 0 (and_left (eqb (left_at sync 0 ws p) 0) _ l) in
    let h : ℕ = get_or ws (suc p) 0 in
    let w : get_or (drop p ws) 1 0 ≡ h = get_or-drop p ws 1 0 ∙ ap (λ (i : ℕ). get_or ws i 0) (add-one p) in
    let g : listed sync p 0 (drop p ws) ≡ entry_at ws p h ∷ listed_from sync ws (p + span h) =
    (next_here sync ws p (and_right (eqb (left_at sync 0 ws p) 0) (confirmed sync (drop p ws)) l)).lists in
    from-frame p 0 false (reading sync ws) (entry_at ws p h) _ (reading-from sync p ws ∙ ap (λ (n : ℕ). listed sync p n (drop p ws)) z ∙ g)
    (ap (λ (x : ℕ). starts x) (sym w) ∙ s)
    ∙ ap (frames_and_strays 0 false) (sym g)

-- ---- a stretch

pub steps-as-alone : (sync : ℕ) (a : List ℕ) (cs : List Laid) → unbroken sync cs ≡ true → StepsAsAlone sync a cs
steps-as-alone sync a cs k = record {
  next = next-moved sync a (words sync cs);
  onward = λ before c after e end h t.
      let s : List ℕ = words sync cs in
      let q : ℕ = offset sync before in
      let there = listed-place sync (a ++ s) _ h in
      let word : get_or (drop (length a + q) (a ++ s)) 1 0 ≡ get_or (drop q s) 1 0 = ap (λ (v : List ℕ). get_or v 1 0) (drop-append-add a s q) in
      let frame : starts (get_or (drop (length a + q) (a ++ s)) 1 0) ≡ true = ap (λ (x : ℕ). starts x) (sym there.1) ∙ t in
      pieces-from-frame sync (a ++ s) (length a + q) there.0 frame
      ∙ pieces-from-moved sync a s q
      ∙ ap (moved (length a)) (sym (pieces-from-frame sync s q (sym (listed_same sync a cs k q (listed-late sync a cs k q there.0)) ∙ there.0) (ap (λ (x : ℕ). starts x) (sym word) ∙ frame)));
}

-- in the mission's words: the stretch is clean
pub clean-steps-as-alone : (sync : ℕ) (a : List ℕ) (cs : List Laid) → clean sync cs ≡ true → StepsAsAlone sync a cs
clean-steps-as-alone sync a cs k = steps-as-alone sync a cs (clean-unbroken sync cs k)

module _ (sync : ℕ) (a : List ℕ) (cs : List Laid) (short : length (a ++ words sync cs) ≤ recording_limit) where
  pub frames-as-alone : unbroken sync cs ≡ true → FramesAsAlone sync a cs
  frames-as-alone k before c after e end h =
      let s : List ℕ = words sync cs in
      let q : ℕ = offset sync before in
      let there : listed_at sync (a ++ s) (length a + q) ≡ true = (listed-place sync (a ++ s) _ h).0 in
      let long : too_long (a ++ s) ≡ too_long s =
      le-ltb recording_limit (length (a ++ s)) short ∙ sym (le-ltb recording_limit (length s) (omega (arith, length-append a s))) in
      same-frame sync (length a + q) (a ++ s) q s long (listed_same sync a cs k q (listed-late sync a cs k q there)) (drop-append-add a s q)

  pub clean-frames-as-alone : clean sync cs ≡ true → FramesAsAlone sync a cs
  clean-frames-as-alone k = frames-as-alone (clean-unbroken sync cs k)
