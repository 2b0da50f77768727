-- FORMAT, "Frames": worked examples, of frames of one chunk with one unit of one data word, 8000h.
use Rattle.std.specs.Prelude.{ℕ, ◌≡◌, true, false, List, [], ◌∷◌, ◌++◌, replicate, Some, None}
use Rattle.base.specs.Refusal.{nothing_there, frame_cut}
use Rattle.chunk.specs.Reading.{entry}
use Rattle.chunk_laws.specs.Written.{WriterCall}
use Rattle.health.specs.Writing.{packet_from}
use Rattle.frame.specs.declared.Piece.{Piece}
use Rattle.frame.specs.Described.{description}
use Rattle.frame.specs.Pieces.{next_piece}
use Rattle.frame_reading.specs.Replies.{frame, refused, at_reply, judge_reply, read_reply, read_room}
use Rattle.frame_laws.specs.Written.{Image, WrittenFrame, recording_of}

abbrev pub sync : ℕ
sync = 0x5AF3

-- the unit that is written for 8000h, with this word where its data word stands
abbrev pub unit : ℕ → List ℕ
unit word = 0x8000 ∷ 0 ∷ 0 ∷ 0 ∷ 0x8000 ∷ 0 ∷ 0 ∷ 0 ∷ word ∷ []

-- a packet of this type
abbrev pub packet : ℕ → List ℕ
packet t = packet_from t 0 (replicate 29 0)

-- an image chunk of camera 1, and a continuation; a health chunk of one packet
abbrev pub image : ℕ → List ℕ
image word = sync ∷ 0x2009 ∷ unit word

abbrev pub continuation : ℕ → List ℕ
continuation word = sync ∷ 0x0009 ∷ unit word

abbrev pub health : ℕ → List ℕ
health t = sync ∷ 0x8020 ∷ packet t

-- the image chunk and the health chunk as calls of the chunk writer, each lent one word more than it needs
abbrev pub image_of : ℕ → Image
image_of word = record { units = unit word ∷ []; room = replicate 12 0 }

abbrev pub health_call : WriterCall
health_call = record { kind = 1; camera = 0; payload = packet 4; room = replicate 35 0 }

pub record Examples : Type 0 where
  -- a packet of type 3 + 1 follows: the frame is complete, and its data go to the room; the health chunk that completes it ends with the recording
  pub complete : (at_reply sync (image 0x8000 ++ health 4) 0 ≡ frame 0 1 1 true 1 true)
      × (read_reply sync (image 0x8000 ++ health 4) 0 2 ≡ frame 0 1 1 true 1 true)
      × (read_room sync (image 0x8000 ++ health 4) 0 (0xFFFF ∷ 0xFFFF ∷ []) ≡ 0x8000 ∷ 0xFFFF ∷ [])
  -- one bit of it was hit: the same answer and the same data
  pub repaired : (read_reply sync (image 0 ++ health 4) 0 2 ≡ frame 0 1 1 true 1 true)
      × (read_room sync (image 0 ++ health 4) 0 (0xFFFF ∷ 0xFFFF ∷ []) ≡ 0x8000 ∷ 0xFFFF ∷ [])
  -- another camera's packet follows: it is cut, and its data are refused
  pub cut : (at_reply sync (image 0x8000 ++ health 5) 0 ≡ frame 0 1 1 false 1 false) × (judge_reply sync (image 0x8000 ++ health 5) 0 ≡ refused frame_cut)
  -- where a chunk follows the health chunk the frame has no mark; where the frame's own chunk is the last, it is cut and has it
  pub followed : at_reply sync (image 0x8000 ++ health 4 ++ continuation 0x8000) 0 ≡ frame 0 1 1 true 1 false
  pub last : at_reply sync (image 0x8000) 0 ≡ frame 0 1 1 false 1 true
  -- a continuation that joins no frame is stray, and no frame stands there
  pub stray : (next_piece sync (continuation 0x8000) 0 ≡ Some (Piece.Stray (entry 0 0x0009 true) (record { 0 = 11 })))
      × (at_reply sync (continuation 0x8000) 0 ≡ refused nothing_there)
  -- a continuation after a chunk that is no multiple of 264 joins nothing: the frame comes first, then the stray, and no more; from a place inside the
  -- frame the stray comes first
  pub stepped : (next_piece sync (image 0x8000 ++ continuation 0x8000) 0 ≡ Some (Piece.Frame (record { 0 = 0 }) (description 1 1 false 1 false) (record { 0 = 11 })))
      × (next_piece sync (image 0x8000 ++ continuation 0x8000) 11 ≡ Some (Piece.Stray (entry 11 0x0009 true) (record { 0 = 22 })))
      × (next_piece sync (image 0x8000 ++ continuation 0x8000) 22 ≡ None)
      × (next_piece sync (image 0x8000 ++ continuation 0x8000) 1 ≡ Some (Piece.Stray (entry 11 0x0009 true) (record { 0 = 22 })))
  -- the complete frame is a written one, and so is the one with the bit that was hit
  pub written : WrittenFrame 1 (image_of 0x8000 ∷ []) health_call ((0x8000 ∷ []) ∷ [])
  pub hurt : WrittenFrame 1 (image_of 0 ∷ []) health_call ((0x8000 ∷ []) ∷ [])
  -- what the calls left that wrote the complete frame
  pub recorded : recording_of sync 1 [] (image_of 0x8000 ∷ []) health_call [] ≡ image 0x8000 ++ health 4
