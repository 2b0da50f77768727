-- The walk over the frames and strays of a recording: what a call of its `next` gives.
use Rattle.std.specs.Prelude.{◌≡◌, Option, MatchOption}
use Rattle.frame.specs.declared.Piece.{Piece}
use Rattle.frame.specs.declared.walk.Pieces.{Pieces}
use Rattle.frame.specs.Pieces.{next_piece, piece_past}

-- The next frame or stray from the place where the walk stands, which goes on where that ends; the words and the sync word stay.
pub record pieces_step (s : Pieces) (r : Option Piece) (t : Pieces) : Type 0 where
  pub next : r ≡ next_piece s.sync s.words.now s.at.0
  pub words : t.words.now ≡ s.words.now
  pub sync : t.sync ≡ s.sync
  pub past : MatchOption r (t.at ≡ s.at) (λ x. t.at ≡ piece_past x)
