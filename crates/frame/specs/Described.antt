-- FORMAT, "Frames": what is said of a frame.
use Rattle.std.specs.Prelude.{ℕ, Bool, List, length}
use Rattle.frame.specs.declared.Description.{Description}
use Rattle.frame.specs.Shape.{frame_chunks, frame_camera, complete, frame_end}
use Rattle.frame.specs.Picture.{frame_length}

abbrev pub description : ℕ → ℕ → Bool → ℕ → Bool → Description
description cam n all len end = record { camera = cam; chunks = n; complete = all; length = record { 0 = len }; end = end }

-- the frame at the front of these words: its camera, its chunks, whether it is complete, the words of its data, and its mark
unfoldable pub described : ℕ → List ℕ → Description
described sync ws = description (frame_camera ws) (length (frame_chunks sync ws)) (complete sync ws) (frame_length sync ws) (frame_end sync ws)
