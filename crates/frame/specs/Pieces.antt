-- FORMAT, "Frames": the frames and strays of a recording, in order of position, and the next of them from a place on.
use Rattle.std.specs.Prelude.{ℕ, ◌+◌, Bool, true, false, ◌&&◌, List, [], ◌∷◌, drop, eqb, Option, Some, None}
use Rattle.base.specs.declared.Words.{Words}
use Rattle.chunk.specs.declared.Entry.{Entry}
use Rattle.chunk.specs.Header.{span}
use Rattle.chunk.specs.Reading.{entry, listed, reading}
use Rattle.frame.specs.declared.Description.{Description}
use Rattle.frame.specs.declared.Piece.{Piece}
use Rattle.frame.specs.Shape.{starts, continues, full, frame_words}
use Rattle.frame.specs.Described.{description, described}

-- Of the listed chunks, those that start a frame and those that are stray: continuations that join no frame. `end` and `all` are as in `joining`, of
-- the frame in hand; where none is, `all` is false.
unfoldable pub frames_and_strays : ℕ → Bool → List Entry → List Entry
frames_and_strays end all [] = []
frames_and_strays end all (e ∷ es) =
    elim (continues e.header) [
      | true ↦
          elim (all && eqb e.position.0 end) [
            | true ↦ frames_and_strays (end + span e.header) (full e.header) es
            | false ↦ e ∷ frames_and_strays 0 false es
          ]
      | false ↦
          elim (starts e.header) [
            | true ↦ e ∷ frames_and_strays (e.position.0 + span e.header) (full e.header) es
            | false ↦ frames_and_strays 0 false es
          ]
    ]

-- the frames and strays of a recording
abbrev pub pieces_of : ℕ → List ℕ → List Entry
pieces_of sync ws = frames_and_strays 0 false (reading sync ws)

-- The frames and strays of the reading that begins at the place p. It knows nothing of the words before p: no chunk and no frame is in hand there. So where
-- p lies inside a chunk, a header counts that is confirmed in its payload; and where p lies inside a frame, a continuation of it that is listed from p on
-- joins nothing, and is stray. From 0, from the end of a frame and from the end of a stray on they are the recording's own (`PiecesSaid`).
abbrev pub pieces_from : ℕ → List ℕ → ℕ → List Entry
pieces_from sync ws p = frames_and_strays 0 false (listed sync p 0 (drop p ws))

-- ---- one of them, as it is told

-- a frame at the place p of these words: what it is, and where it ends
abbrev pub frame_there : ℕ → List ℕ → ℕ → Piece
frame_there sync ws p = Piece.Frame (record { 0 = p }) (described sync (drop p ws)) (record { 0 = p + frame_words sync (drop p ws) })

-- a stray continuation, and where it ends
abbrev pub stray_there : Entry → Piece
stray_there e = Piece.Stray e (record { 0 = e.position.0 + span e.header })

-- the place where it ends, to go on from
abbrev pub piece_past : Piece → Words
piece_past (Piece.Frame p d end) = end
piece_past (Piece.Stray e end) = end

-- the first of these frames and strays
unfoldable pub first_piece : ℕ → List ℕ → List Entry → Option Piece
first_piece sync ws [] = None
first_piece sync ws (e ∷ es) = elim (starts e.header) [ true ↦ Some (frame_there sync ws e.position.0) | false ↦ Some (stray_there e) ]

-- the next frame or stray from the place p on
abbrev pub next_piece : ℕ → List ℕ → ℕ → Option Piece
next_piece sync ws p = first_piece sync ws (pieces_from sync ws p)

-- ---- the cases by number, and their values

-- 0 no more, 1 a frame, 2 a stray
abbrev pub piece_number : Option Piece → ℕ
piece_number None = 0
piece_number (Some (Piece.Frame p d end)) = 1
piece_number (Some (Piece.Stray e end)) = 2

-- the place where it stands, what the frame is, what the stray is, and the place where it ends; zeros and false where the case has none
abbrev pub piece_place : Option Piece → ℕ
piece_place None = 0
piece_place (Some (Piece.Frame p d end)) = p.0
piece_place (Some (Piece.Stray e end)) = e.position.0

abbrev pub piece_frame : Option Piece → Description
piece_frame None = description 0 0 false 0 false
piece_frame (Some (Piece.Frame p d end)) = d
piece_frame (Some (Piece.Stray e end)) = description 0 0 false 0 false

abbrev pub piece_stray : Option Piece → Entry
piece_stray None = entry 0 0 false
piece_stray (Some (Piece.Frame p d end)) = entry 0 0 false
piece_stray (Some (Piece.Stray e end)) = e

abbrev pub piece_end : Option Piece → ℕ
piece_end None = 0
piece_end (Some (Piece.Frame p d end)) = end.0
piece_end (Some (Piece.Stray e end)) = end.0
