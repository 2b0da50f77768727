-- Going through a recording by its frames and strays comes to an end: each time the place to go on from lies ahead, and within the recording.
use mathlib.Core.Path.{◌≡◌, refl, sym, ap, subst}
use mathlib.Core.Bool.{Bool, true, false}
use mathlib.Core.List.{List}
use Prim.Native.Nat.{ℕ, zero, suc, ◌+◌, ◌≤◌, ◌<◌}
use native.Mathlib.Omega.{arith}
use lib.ListN.{length, drop, length-drop}
use lib.Dec.{eqb}
use Rattle.std.specs.Prelude.{Option, Some, None}
use borrow.Author.Tests.{eqb-true, eqb-false}
use Rattle.base.specs.declared.Words.{Words}
use Rattle.chunk.specs.declared.Entry.{Entry}
use Rattle.chunk.specs.Header.{kind}
use Rattle.chunk.specs.Reading.{next_from, listed_words}
use Rattle.chunk.proofs.Steps.{Next, stepped, found-end}
use Rattle.frame.specs.declared.Piece.{Piece}
use Rattle.frame.specs.Shape.{starts, frame_words}
use Rattle.frame.specs.Walk.{starts_frame}
use Rattle.frame.specs.Pieces.{next_piece, piece_past}
use Rattle.frame.proofs.Stepping.{no-piece, health-passed, frame-next, stray-next, frame-starts}
use Rattle.frame.proofs.Walking.{first-and-ahead, frame-ends-inside}

-- a place to go on from
abbrev On : List ℕ → ℕ → ℕ → Type 0
On ws p q = (p < q) × (q ≤ length ws)

abbrev Ahead : List ℕ → ℕ → Option Piece → Type 0
Ahead ws p (Some x) = On ws p (piece_past x).0
Ahead ws p None = Unit {0}

sooner : (ws : List ℕ) (p q : ℕ) → p ≤ q → (x : Option Piece) → Ahead ws q x → Ahead ws p x
sooner ws p q h (Some x) a = (omega arith, a.1)
sooner ws p q h None a = tt

-- a frame has words, and ends within the recording
frame_on : (sync : ℕ) (ws : List ℕ) (p : ℕ) (e : Entry) (next : ℕ) → Next sync ws p e next → starts_frame sync (drop e.position.0 ws) ≡ true
    → On ws p (e.position.0 + frame_words sync (drop e.position.0 ws))
unfolding listed_words
frame_on sync ws p e next n s =
    let q : ℕ = e.position.0 in
    (omega (arith, n.ahead, ap listed_words (first-and-ahead sync (drop q ws) s)), omega (arith, n.within, n.end, frame-ends-inside sync (drop q ws) s, length-drop q ws))

module _ (sync : ℕ) (ws : List ℕ) where
  ahead-from : (k p : ℕ) → length ws ≤ p + k → Ahead ws p (next_piece sync ws p)
  ahead-from zero p h = subst (Ahead ws p) (sym (no-piece sync ws p (found-end sync ws p (omega arith)))) tt
  ahead-from (suc k) p h = by-found (ahead-from k) (next_from sync ws p) refl
    where
      by-found : ((q : ℕ) → length ws ≤ q + k → Ahead ws q (next_piece sync ws q)) → (f : Option (Entry × Words)) → next_from sync ws p ≡ f → Ahead ws p (next_piece sync ws p)
      by-found more None f = subst (Ahead ws p) (sym (no-piece sync ws p f)) tt
      by-found more (Some (e, next)) f = by_kind (eqb (kind e.header) 0) refl
        where
          n : Next sync ws p e next.0
          n = stepped sync ws p e next f

          by-start : kind e.header ≡ 0 → (b : Bool) → starts e.header ≡ b → Ahead ws p (next_piece sync ws p)
          by-start z true s = subst (Ahead ws p) (sym (frame-next sync ws p e next.0 n s)) (frame_on sync ws p e next.0 n (frame-starts sync ws p e next.0 n s))
          by-start z false s = subst (Ahead ws p) (sym (stray-next sync ws p e next.0 n z s)) (omega (arith, n.ahead), omega (arith, n.within, n.end))

          by_kind : (b : Bool) → eqb (kind e.header) 0 ≡ b → Ahead ws p (next_piece sync ws p)
          by_kind true z = by-start (eqb-true (kind e.header) 0 z) (starts e.header) refl
          by_kind false z =
              subst (Ahead ws p) (sym (health-passed sync ws p e next.0 n (eqb-false (kind e.header) 0 z)))
              (sooner ws p next.0 (omega (arith, n.ahead, n.end)) (next_piece sync ws next.0) (more next.0 (omega (arith, n.ahead, n.end))))

  -- the place where the next piece ends is ahead, and within the recording
  pub past_ahead : (p : ℕ) (x : Piece) → next_piece sync ws p ≡ Some x → (p < (piece_past x).0) × ((piece_past x).0 ≤ length ws)
  past_ahead p x e = subst (Ahead ws p) e (ahead-from (length ws) p (omega arith))
