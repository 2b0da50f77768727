-- FORMAT, "Reel": its examples, by computation.
use Rattle.std.specs.Prelude.{◌≡◌, refl, List, [], ◌∷◌, ℕ}
use Rattle.base.specs.Refusal.{answer}
use Rattle.crc.specs.Crc.{crc_bit, crc_step}
use Rattle.chunk.specs.Header.{legal_size, legal, headed, ends, confirmed}
use Rattle.chunk.specs.Reading.{listed}
use Rattle.reel.specs.Layout.{index_words, tail_words, reel_of, reel_most}
use Rattle.reel.specs.Reading.{same_words, trailer_agrees, index_agrees, read_reply, told, refused}

-- a length outside 4 to 38,728 is refused
longest : reel_most ≡ 38728
longest = refl

-- an empty recording: no entries, n 0, their CRC, and 1
empty : reel_of 0x5AF3 [] ≡ 0 ∷ 0 ∷ 0x84C0 ∷ 1 ∷ []
unfolding reel_of tail_words index_words listed crc_bit crc_step
empty = refl

-- a skipped word, and an image chunk at place 1
recording : List ℕ
recording = 0x0007 ∷ 0x5AF3 ∷ 0x2009 ∷ 0 ∷ 0 ∷ 0 ∷ 0 ∷ 0 ∷ 0 ∷ 0 ∷ 0 ∷ 0 ∷ []

reel : List ℕ
reel = 0x0007 ∷ 0x5AF3 ∷ 0x2009 ∷ 0 ∷ 0 ∷ 0 ∷ 0 ∷ 0 ∷ 0 ∷ 0 ∷ 0 ∷ 0 ∷ 1 ∷ 0x2009 ∷ 1 ∷ 12 ∷ 0xE297 ∷ 1 ∷ []

written : reel_of 0x5AF3 recording ≡ reel
unfolding recording reel reel_of tail_words index_words listed confirmed headed legal legal_size ends crc_bit crc_step
written = refl

read : read_reply 0x5AF3 reel ≡ told 0 12 1
unfolding reel read_reply answer trailer_agrees index_agrees same_words index_words listed confirmed headed legal legal_size ends crc_bit crc_step
read = refl

-- under another sync word nothing is listed, and the entry is wrong
other : read_reply 0x5AF2 reel ≡ refused 13
unfolding reel read_reply answer trailer_agrees index_agrees same_words index_words listed confirmed headed legal legal_size ends crc_bit crc_step
other = refl
