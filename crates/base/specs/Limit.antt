-- FORMAT, "Chunks", "Health packets", "Reel" and "Listing program": the limits, one for each use.
use Rattle.std.specs.Prelude.{ℕ, Bool, List, length, ltb}

-- a recording has 0 to 32,768 words
abbrev pub recording_limit : ℕ
recording_limit = 32768

-- a separate health recording has at most 32,768 words
abbrev pub health_limit : ℕ
health_limit = 32768

-- a reel's recording has at most 32,768 words
abbrev pub reel_limit : ℕ
reel_limit = 32768

-- the listing program takes a recording of at most 32,768 words
abbrev pub listing_limit : ℕ
listing_limit = 32768

-- a recording has more words than its limit
abbrev pub too_long : List ℕ → Bool
too_long ws = ltb recording_limit (length ws)
