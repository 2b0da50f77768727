-- FORMAT, "Frames": the units of a frame, and its data.
use Rattle.std.specs.Prelude.{ℕ, ◌+◌, List, [], ◌∷◌, ◌++◌, take, drop}
use Rattle.chunk.specs.declared.Entry.{Entry}
use Rattle.chunk.specs.Header.{header_width, size}
use Rattle.parity_units.specs.Split.{units_in, joined_data, data_words}
use Rattle.frame.specs.Shape.{frame_chunks}

-- the payload of a chunk: the words after its two header words
abbrev pub payload_of : List ℕ → Entry → List ℕ
payload_of ws e = take (size e.header) (drop (e.position.0 + header_width) ws)

-- a chunk splits into units of 264 words, the last one possibly shorter
abbrev pub chunk_units : List ℕ → Entry → List (List ℕ)
chunk_units ws e = units_in (payload_of ws e)

-- the units of chunks, in order
unfoldable pub units_of : List ℕ → List Entry → List (List ℕ)
units_of ws [] = []
units_of ws (e ∷ es) = chunk_units ws e ++ units_of ws es

-- the units of the frame at the front of these words
abbrev pub frame_units : ℕ → List ℕ → List (List ℕ)
frame_units sync ws = units_of ws (frame_chunks sync ws)

-- the data of the frame at the front of these words, and their number
abbrev pub frame_data : ℕ → List ℕ → List ℕ
frame_data sync ws = joined_data (frame_units sync ws)

abbrev pub frame_length : ℕ → List ℕ → ℕ
frame_length sync ws = data_words (frame_units sync ws)
