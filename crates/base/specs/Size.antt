-- FORMAT, "Parity units" and "Health packets": sizes in words that several sections share.
use Rattle.std.specs.Prelude.{ℕ, ◌+◌}

-- a unit begins with 8 parity words
abbrev pub parity_width : ℕ
parity_width = 8

-- and has at most 256 data words
abbrev pub data_width : ℕ
data_width = 256

-- so a whole unit has 264
abbrev pub unit_width : ℕ
unit_width = parity_width + data_width

-- a health packet has 32 words
abbrev pub packet_width : ℕ
packet_width = 32
