-- FORMAT, "Listing program": the two chunks of its recording as calls of the writer. They are accepted, and with the word of noise before them the words
-- that they left are the recording.
use Rattle.std.specs.Prelude.{◌≡◌, refl, List, [], ◌∷◌, replicate}
use Rattle.base.specs.Refusal.{answer, settled}
use Rattle.base_room.specs.Room.{put}
use Rattle.chunk.specs.Header.{legal_size, legal, headed, ends, confirmed, at_end, check_at}
use Rattle.chunk.specs.Examples.{listing}
use Rattle.chunk_writing.specs.Writing.{write_room}
use Rattle.chunk_laws.specs.Answers.{checked}
use Rattle.chunk_laws.specs.Written.{WriterCall, Accepted, recorded}

-- nine words 0 of camera 1, with more room than is needed, and a health chunk of 32 words 0, with just enough
abbrev calls : List WriterCall
calls =
    record { kind = 0; camera = 1; payload = replicate 9 0; room = replicate 20 0xFFFF }
    ∷ record { kind = 1; camera = 0; payload = replicate 32 0; room = replicate 34 0xFFFF } ∷ []

pub calls_accepted : Accepted calls
unfolding settled answer legal_size
calls_accepted = (refl, (refl, tt))

pub calls_recorded : 0x0007 ∷ recorded 0x5AF3 calls ≡ listing
unfolding settled answer legal_size write_room put
calls_recorded = refl

-- the header check tells the places of its chunks from the others, and that the second ends with the recording
pub calls_checked : (checked 0x5AF3 listing 0 ≡ 0) × (checked 0x5AF3 listing 1 ≡ 1) × (checked 0x5AF3 listing 2 ≡ 0) × (checked 0x5AF3 listing 12 ≡ 2)
unfolding check_at at_end confirmed headed ends legal legal_size
calls_checked = (refl, refl, refl, refl)
