-- The walk over the frames and strays: a turn gives the next piece from the place where the walk stands, and the walk goes on where it ends.
use Rattle.std.proofs.Common.{◌≡◌, ℕ, List, Option, Some, None, sym, ap₂, ◌∙◌}
use Rattle.frame.specs.declared.Piece.{Piece}
use Rattle.frame.specs.declared.walk.Pieces.{Pieces}
use Rattle.frame.specs.Pieces.{next_piece, piece_past}
use Rattle.frame.specs.Step.{pieces_step}

-- a walk over the frames and strays of these words
pub record Walks (sync : ℕ) (ws : List ℕ) (s : Pieces) : Type 0 where
  pub same-words : s.words.now ≡ ws
  pub same-sync : s.sync ≡ sync

-- A turn with a frame or a stray: it is the next from the place of the walk, which goes on where it ends.
pub record Turn (sync : ℕ) (ws : List ℕ) (s : Pieces) (x : Piece) (t : Pieces) : Type 0 where
  pub next : next_piece sync ws s.at.0 ≡ Some x
  pub on : Walks sync ws t
  pub past : t.at ≡ piece_past x

module _ (sync : ℕ) (ws : List ℕ) (s t : Pieces) (w : Walks sync ws s) where
  same-next : (r : Option Piece) → pieces_step s r t → next_piece sync ws s.at.0 ≡ r
  same-next r c = ap₂ (λ (y : ℕ) (x : List ℕ). next_piece y x s.at.0) (sym w.same-sync) (sym w.same-words) ∙ sym c.next

  pub turn : (x : Piece) → pieces_step s (Some x) t → Turn sync ws s x t
  turn x c =
      record {
        next = same-next (Some x) c;
        on = record { same-words = c.words ∙ w.same-words; same-sync = c.sync ∙ w.same-sync };
        past = c.past;
      }

  -- the last turn: there is none
  pub turned : pieces_step s None t → next_piece sync ws s.at.0 ≡ None
  turned c = same-next None c
