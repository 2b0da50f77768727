-- FORMAT, "Chunks": the header word, legal headers, and confirmation.
use Rattle.std.specs.Prelude.{ℕ, suc, ◌+◌, ◌/◌, ◌%◌, Bool, false, cond, ◌&&◌, ◌||◌, List, [], ◌∷◌, length, get_or, drop, leb, ltb, eqb}
use Rattle.base.specs.Size.{parity_width, unit_width, packet_width}
use Rattle.chunk.specs.declared.Check.{Check}

-- a chunk begins with a header of two words: the sync word and the header word
abbrev pub header_width : ℕ
header_width = 2

-- bits 12 to 0: the words after the header
abbrev pub size : ℕ → ℕ
size h = h % 8192

-- bits 14 to 13
abbrev pub camera : ℕ → ℕ
camera h = h / 8192 % 4

-- bit 15: 0 image, 1 health
abbrev pub kind : ℕ → ℕ
kind h = h / 32768 % 2

-- an image payload splits into units of 264 words, of which the last may be shorter, but has 9 at the least: the parity words and one data word
abbrev pub image_size : ℕ → Bool
image_size n = eqb (n % unit_width) 0 || leb (parity_width + 1) (n % unit_width)

-- a health payload is whole packets of 32 words
abbrev pub health_size : ℕ → Bool
health_size n = eqb (n % packet_width) 0

-- A payload of n words is legal for a kind: 1 to 8,190 words, by the kind's own rule.
unfoldable pub legal_size : ℕ → ℕ → Bool
legal_size k n = leb 1 n && leb n 8190 && cond (eqb k 0) (image_size n) (health_size n)

-- A legal header word: a legal size for its kind, and camera 00 where it is health.
unfoldable pub legal : ℕ → Bool
legal h = legal_size (kind h) (size h) && (eqb (kind h) 0 || eqb (camera h) 0)

-- a legal header stands at the front of these words: the sync word, then a legal header word
unfoldable pub headed : ℕ → List ℕ → Bool
headed sync [] = false
headed sync (w ∷ []) = false
headed sync (w ∷ h ∷ ws) = eqb w sync && legal h

-- the words of a chunk with this header word: the two of the header, and the payload
abbrev pub span : ℕ → ℕ
span h = suc (suc (size h))

-- a chunk of n words at the front of these ends where they end, or a legal header stands at its end
unfoldable pub ends : ℕ → ℕ → List ℕ → Bool
ends sync n ws = eqb n (length ws) || headed sync (drop n ws)

-- A chunk is confirmed at the front of these words: a legal header, and an end that is the recording's or has a legal header.
unfoldable pub confirmed : ℕ → List ℕ → Bool
confirmed sync ws = headed sync ws && ends sync (span (get_or ws 1 0)) ws

-- the chunk at the front of these words ends with them
unfoldable pub at_end : List ℕ → Bool
at_end ws = eqb (span (get_or ws 1 0)) (length ws)

-- what the header check answers of a chunk: it ends with the recording, or a legal header follows it
abbrev pub chunk_check : Bool → Check
chunk_check end = cond end Check.AtEnd Check.Followed

-- The header check: one of these two where a chunk is confirmed at the front of these words, else not a chunk.
unfoldable pub check_at : ℕ → List ℕ → Check
check_at sync ws = cond (confirmed sync ws) (chunk_check (at_end ws)) Check.NotAChunk

-- the number of each of its answers
abbrev pub check_number : Check → ℕ
check_number Check.NotAChunk = 0
check_number Check.Followed = 1
check_number Check.AtEnd = 2

-- a chunk was found, of either sort; and one that ends with the recording
abbrev pub is_chunk : Check → Bool
is_chunk c = ltb 0 (check_number c)

abbrev pub is_at_end : Check → Bool
is_at_end c = eqb (check_number c) 2
