-- What the walk over a frame's chunks asks at a place and finds: cited by functions that no other crate sees.
use Rattle.std.specs.Prelude.{ℕ, Bool, cond, ◌&&◌, List, length, get_or, drop, eqb}
use Rattle.chunk.specs.declared.Check.{Check}
use Rattle.chunk.specs.Header.{header_width, kind, confirmed, check_at}
use Rattle.frame.specs.declared.shape.Reach.{Reach}
use Rattle.frame.specs.Shape.{starts, continues, observes, frame_chunks, frame_words}
use Rattle.frame.specs.Picture.{frame_length}

-- a frame starts at the front of these words
abbrev pub starts_frame : ℕ → List ℕ → Bool
starts_frame sync ws = confirmed sync ws && starts (get_or ws 1 0)

-- a continuation stands at the front of these words
abbrev pub joins_frame : ℕ → List ℕ → Bool
joins_frame sync ws = confirmed sync ws && continues (get_or ws 1 0)

-- what closes a frame at the front of these words: a health chunk whose first packet observes the camera
abbrev pub closes_frame : ℕ → List ℕ → ℕ → Check
closes_frame sync ws cam = cond (eqb (kind (get_or ws 1 0)) 1 && observes (drop header_width ws) cam) (check_at sync ws) Check.NotAChunk

-- how far the frame at the front of these words reaches: its chunks, its words and its data words
abbrev pub reach_of : ℕ → List ℕ → Reach
reach_of sync ws =
    record { chunks = length (frame_chunks sync ws); end = record { 0 = frame_words sync ws }; length = record { 0 = frame_length sync ws } }
