-- FORMAT, "Reel": what stands on a reel.
use Rattle.std.specs.Prelude.{ℕ, ◌+◌, ◌*◌, ◌/◌, List, [], ◌∷◌, ◌++◌, length}
use Rattle.base.specs.Limit.{reel_limit}
use Rattle.base.specs.Size.{parity_width}
use Rattle.crc.specs.Crc.{crc_words, crc_start}
use Rattle.chunk.specs.declared.Entry.{Entry}
use Rattle.chunk.specs.Header.{header_width}
use Rattle.chunk.specs.Reading.{reading}

-- the words of an entry, and of the trailer
abbrev pub entry_width : ℕ
entry_width = 2

abbrev pub trailer_width : ℕ
trailer_width = 4

-- the last word of a reel
abbrev pub edition : ℕ
edition = 1

-- an entry: the position, then the header word
abbrev pub entry_words : Entry → List ℕ
entry_words e = e.position.0 ∷ e.header ∷ []

-- the entries of these chunks, in order
unfoldable pub index_words : List Entry → List ℕ
index_words [] = []
index_words (e ∷ es) = entry_words e ++ index_words es

-- the trailer's first two words, which point back: how many entries, and where the first of them stands, after the n words of the recording
abbrev pub pointers : ℕ → ℕ → List ℕ
pointers count n = count ∷ n ∷ []

-- the CRC on a reel is that of the entries and of these two words
abbrev pub reel_crc : List ℕ → ℕ → ℕ → ℕ
reel_crc index count n = crc_words crc_start (index ++ pointers count n)

-- the trailer: entry count, n, CRC and 1
abbrev pub trailer : List ℕ → ℕ → ℕ → List ℕ
trailer index count n = pointers count n ++ (reel_crc index count n ∷ edition ∷ [])

-- a recording of n words with these chunks: the entries and the trailer after it
unfoldable pub tail_words : ℕ → List Entry → List ℕ
tail_words n es = index_words es ++ trailer (index_words es) (length es) n

-- The reel of a recording: the recording, two words for each listed chunk, the trailer.
unfoldable pub reel_of : ℕ → List ℕ → List ℕ
reel_of sync ws = ws ++ tail_words (length ws) (reading sync ws)

-- the words of a reel with a recording of n words and this many entries
abbrev pub reel_words : ℕ → ℕ → ℕ
reel_words n count = n + entry_width * count + trailer_width

-- the shortest chunk has 11 words: two header words, and a unit with one data word
abbrev pub shortest_chunk : ℕ
shortest_chunk = header_width + parity_width + 1

-- the shortest reel and the longest, 38,728 words: a recording at the limit, all of it in shortest chunks
abbrev pub reel_least : ℕ
reel_least = trailer_width

abbrev pub reel_most : ℕ
reel_most = reel_words reel_limit (reel_limit / shortest_chunk)
