-- FORMAT, "Health packets": the packet itself. 32 words: type, CRC, time, 29 more.
use Rattle.std.specs.Prelude.{ℕ, ◌%◌, Bool, ◌&&◌, ◌||◌, List, ◌++◌, length, get_or, take, drop, leb, eqb}
use Rattle.base.specs.Size.{packet_width}
use Rattle.crc.specs.Crc.{crc_words, crc_start}

-- the words after type, CRC and time
abbrev pub body_width : ℕ
body_width = 29

-- the 32 words at a place, fewer where the words end before
abbrev pub packet_at : List ℕ → ℕ → List ℕ
packet_at ws p = take packet_width (drop p ws)

-- word 0
abbrev pub type_of_packet : List ℕ → ℕ
type_of_packet p = get_or p 0 0

-- word 2
abbrev pub packet_time : List ℕ → ℕ
packet_time p = get_or p 2 0

-- words 3 to 31
abbrev pub packet_words : List ℕ → List ℕ
packet_words p = drop 3 p

-- The CRC covers words 0 and 2 to 31.
unfoldable pub packet_crc : List ℕ → ℕ
packet_crc p = crc_words crc_start (take 1 p ++ drop 2 p)

-- word 1 is the packet's CRC
abbrev pub crc_right : List ℕ → Bool
crc_right p = eqb (get_or p 1 0) (packet_crc p)

-- Type words 1 to 15, and all with low four bits 0, which are spare, are permitted.
abbrev pub permitted_type : ℕ → Bool
permitted_type t = (leb 1 t && leb t 15) || eqb (t % 16) 0

-- Sound: 32 words, the CRC right and the type permitted.
unfoldable pub sound_packet : List ℕ → Bool
sound_packet p = eqb (length p) packet_width && crc_right p && permitted_type (type_of_packet p)
