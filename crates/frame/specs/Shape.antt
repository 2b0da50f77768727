-- FORMAT, "Frames": which chunks make a frame, when it is complete, and when it has the mark. All of it is said of the words from the frame's first word
-- on, so a position here counts from there, and nothing before a frame can change it.
use Rattle.std.specs.Prelude.{ℕ, ◌+◌, ◌%◌, Bool, true, false, cond, ◌&&◌, ◌||◌, List, [], ◌∷◌, length, get_or, take, drop, leb, eqb}
use Rattle.base.specs.Size.{unit_width, packet_width}
use Rattle.chunk.specs.declared.Check.{Check}
use Rattle.chunk.specs.declared.Entry.{Entry}
use Rattle.chunk.specs.Header.{header_width, size, camera, kind, span, chunk_check, is_chunk, is_at_end}
use Rattle.chunk.specs.Reading.{reading, any_end, listed_words}
use Rattle.health.specs.Packet.{sound_packet, type_of_packet}

-- an image chunk with camera 1 to 3 starts a frame
abbrev pub starts : ℕ → Bool
starts h = eqb (kind h) 0 && leb 1 (camera h)

-- an image chunk with camera 00 is a continuation
abbrev pub continues : ℕ → Bool
continues h = eqb (kind h) 0 && eqb (camera h) 0

-- a chunk whose size is a multiple of a whole unit's 264 words
abbrev pub full : ℕ → Bool
full h = eqb (size h % unit_width) 0

-- Each directly following continuation joins the frame while every chunk so far is a multiple of 264: `end` is where the last of these chunks ends,
-- `all` says that every one of them is such a multiple.
unfoldable pub joining : ℕ → Bool → List Entry → List Entry
joining end all [] = []
joining end all (e ∷ es) =
    elim (all && eqb e.position.0 end && continues e.header) [
      | true ↦ e ∷ joining (end + span e.header) (full e.header) es
      | false ↦ []
    ]

-- of the listed chunks, the first of which starts a frame, those that make the frame
unfoldable pub frame_of : List Entry → List Entry
frame_of [] = []
frame_of (e ∷ es) = e ∷ joining (span e.header) (full e.header) es

-- the chunks of the frame at the front of these words
unfoldable pub frame_chunks : ℕ → List ℕ → List Entry
frame_chunks sync ws = frame_of (reading sync ws)

-- its words, end to end
abbrev pub frame_words : ℕ → List ℕ → ℕ
frame_words sync ws = listed_words (frame_chunks sync ws)

-- its camera
abbrev pub frame_camera : List ℕ → ℕ
frame_camera ws = camera (get_or ws 1 0)

-- the packet at the front of these words is sound and of type 3 plus the camera
abbrev pub observes : List ℕ → ℕ → Bool
observes ws cam = sound_packet (take packet_width ws) && eqb (type_of_packet ws) (3 + cam)

-- The header check's answer of the chunk that closes the frame. A frame that ends at `end` is closed by the next listed chunk if that follows with no
-- skipped word, is health, and its first packet observes the frame's camera; else nothing closes it.
unfoldable pub closes : List ℕ → ℕ → ℕ → List Entry → Check
closes ws end cam [] = Check.NotAChunk
closes ws end cam (e ∷ es) =
    cond (eqb e.position.0 end && eqb (kind e.header) 1 && observes (drop (end + header_width) ws) cam) (chunk_check e.end) Check.NotAChunk

-- what closes the frame at the front of these words
unfoldable pub closing : ℕ → List ℕ → Check
closing sync ws = closes ws (frame_words sync ws) (frame_camera ws) (drop (length (frame_chunks sync ws)) (reading sync ws))

-- complete, else cut
unfoldable pub complete : ℕ → List ℕ → Bool
complete sync ws = is_chunk (closing sync ws)

-- It has the mark if the chunk that ends with the recording is one of the frame's own chunks, or the health chunk that completes it.
unfoldable pub frame_end : ℕ → List ℕ → Bool
frame_end sync ws = any_end (frame_chunks sync ws) || is_at_end (closing sync ws)
