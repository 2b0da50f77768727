-- FORMAT, "Comparing recordings": its example, and the three ways in which words can differ, by computation.
use Rattle.std.specs.Prelude.{◌≡◌, refl, None, [], ◌∷◌, ℕ}
use Rattle.base.specs.Refusal.{answer}
use Rattle.base_room.specs.Room.{put}
use Rattle.chunk.specs.Header.{legal_size, legal, headed, ends, confirmed}
use Rattle.chunk.specs.Reading.{listed}
use Rattle.chunk.specs.Examples.{listing}
use Rattle.chunk_compare.specs.Pairs.{differs, first_difference, paired}
use Rattle.chunk_compare.specs.Examples.{heard}
use Rattle.chunk_compare.specs.Compare.{compared, refused, compare_reply, compare_room}

-- a word differs, one is a prefix of the other, and nothing differs
words : (first_difference (5 ∷ 6 ∷ 7 ∷ []) (5 ∷ 8 ∷ 7 ∷ []) ≡ differs 1)
    × (first_difference (5 ∷ 6 ∷ []) (5 ∷ 6 ∷ 7 ∷ []) ≡ differs 2)
    × (first_difference (5 ∷ []) [] ≡ differs 0)
    × (first_difference (5 ∷ 6 ∷ []) (5 ∷ 6 ∷ []) ≡ None)
unfolding first_difference
words = (refl, refl, refl, refl)

-- the image chunks differ at word 5, the health chunks are the same, and one chunk is left over
pub listing_compared : (x y z : ℕ)
    → (compare_reply 0x5AF3 listing heard 3 ≡ compared 0 2 0 1) × (compare_room 0x5AF3 listing heard (x ∷ y ∷ z ∷ []) ≡ 5 ∷ 0 ∷ z ∷ [])
unfolding compare_reply compare_room answer put paired first_difference listed confirmed ends headed legal legal_size
listing_compared x y z = (refl, refl)

-- a list of one entry is too small
pub listing_refused : (x : ℕ) → (compare_reply 0x5AF3 listing heard 1 ≡ refused 3) × (compare_room 0x5AF3 listing heard (x ∷ []) ≡ x ∷ [])
unfolding compare_reply compare_room answer put paired first_difference listed confirmed ends headed legal legal_size
listing_refused x = (refl, refl)
