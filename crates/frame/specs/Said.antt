-- FORMAT, "Frames" and "Listing program": going through a recording with the next frame or stray from a place, and on from the place where it ends, finds the
-- recording's frames and strays in order of position, and no others; and each is told as what it is.
use Rattle.std.specs.Prelude.{ℕ, suc, ◌≡◌, true, List, [], ◌∷◌, get_or, drop, Option}
use Rattle.chunk.specs.declared.Entry.{Entry}
use Rattle.chunk.specs.Header.{at_end}
use Rattle.chunk.specs.Reading.{entry}
use Rattle.frame.specs.declared.Piece.{Piece}
use Rattle.frame.specs.Shape.{starts, continues}
use Rattle.frame.specs.Described.{described}
use Rattle.frame.specs.Pieces.{pieces_of, pieces_from, next_piece, piece_number, piece_place, piece_frame, piece_stray, piece_end}

-- the entry of the chunk that a piece begins with: the header word stands after its first word, and the words from there on give the mark
abbrev pub piece_entry : List ℕ → Option Piece → Entry
piece_entry ws x = entry (piece_place x) (get_or ws (suc (piece_place x)) 0) (at_end (drop (piece_place x) ws))

-- What an answer x says of the frames and strays from the place p on, by its number.
pub record Says (sync : ℕ) (ws : List ℕ) (p : ℕ) (x : Option Piece) : Type 0 where
  -- 0: there are no more
  pub none : piece_number x ≡ 0 → pieces_from sync ws p ≡ []
  -- else the first of them stands at its place, and the others are those from its end on
  pub first : (piece_number x ≡ 0 → ⊥) → pieces_from sync ws p ≡ piece_entry ws x ∷ pieces_from sync ws (piece_end x)
  -- 1: the chunk there starts a frame, and the frame is described
  pub is_frame : piece_number x ≡ 1 → (starts (get_or ws (suc (piece_place x)) 0) ≡ true) × (piece_frame x ≡ described sync (drop (piece_place x) ws))
  -- 2: the chunk there is a continuation, and it is told as it is listed
  pub is_stray : piece_number x ≡ 2 → (continues (get_or ws (suc (piece_place x)) 0) ≡ true) × (piece_stray x ≡ piece_entry ws x)

-- Going through a recording.
pub record PiecesSaid : Type 0 where
  -- from 0 on they are the recording's frames and strays
  pub start : (sync : ℕ) (ws : List ℕ) → pieces_from sync ws 0 ≡ pieces_of sync ws
  -- and from every place on the next piece says what the first of them is, and where the others begin
  pub says : (sync : ℕ) (ws : List ℕ) (p : ℕ) → Says sync ws p (next_piece sync ws p)
