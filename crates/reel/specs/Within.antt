-- For the contracts of the functions that are not public: the trailer as the code has it.
use Rattle.std.specs.Prelude.{ℕ, List, length, Option, Some, None, cond, ltb}
use Rattle.reel.specs.declared.trailer.Trailer.{Trailer}
use Rattle.reel.specs.Layout.{trailer_width}
use Rattle.reel.specs.Reading.{count_of, n_of, crc_of, edition_of}

-- what the last four words of a reel say
abbrev pub told_by : List ℕ → Trailer
told_by r = record { count = count_of r; n = n_of r; crc = crc_of r; edition = edition_of r }

-- its trailer; none where it has fewer words
unfoldable pub trailer_of : List ℕ → Option Trailer
trailer_of r = cond (ltb (length r) trailer_width) None (Some (told_by r))
