-- FORMAT, "Listing program" and "Words, bytes and bits": the bytes that a program takes, and the words that they are. The limit of the recording is the
-- program's: `most` words after the sync word.
use Rattle.std.specs.Prelude.{◌≡◌, refl, ℕ, ◌+◌, ◌*◌, ◌/◌, ◌%◌, Bool, true, false, ◌||◌, List, [], ◌∷◌, length, ltb, eqb}
use Rattle.base.specs.Limit.{listing_limit}
use Rattle.base.specs.Number.{word}
use Rattle.base.specs.Refusal.{Causes, wrong_length, no_room, verdict, answer, settled}
use Rattle.base_room.specs.Room.{put}
use Rattle.base.specs.declared.Written.{Written}

-- files hold words high byte first
unfoldable pub words_of : List ℕ → List ℕ
words_of [] = []
words_of (high ∷ []) = []
words_of (high ∷ low ∷ bytes) = word high low ∷ words_of bytes

-- a number n of bytes that is odd, none, or more than a sync word and `most` words have
abbrev pub wrong_input : ℕ → ℕ → Bool
wrong_input n most = eqb (n % 2) 1 || eqb n 0 || ltb (2 * (1 + most)) n

-- such a number, then a room of m words that is too small
abbrev pub words_causes : ℕ → ℕ → ℕ → Causes
words_causes n most m = (wrong_length, wrong_input n most) ∷ (no_room, ltb m (n / 2)) ∷ []

-- The reply for n bytes: the number of words, the sync word among them.
unfoldable pub words_reply : ℕ → ℕ → ℕ → Written
words_reply n most m = settled (verdict (words_causes n most m)) (n / 2)

-- The room afterwards: the words at its front and every other word as it was; a refusal alters nothing.
unfoldable pub words_room : List ℕ → ℕ → List ℕ → List ℕ
words_room bytes most room = answer (verdict (words_causes (length bytes) most (length room))) (λ v. room) (put (words_of bytes) 0 room)

-- the listing takes 65,538 bytes, and no more
longest : wrong_input 65538 listing_limit ≡ false
longest = refl

too_long : wrong_input 65540 listing_limit ≡ true
too_long = refl

-- the first four bytes of FORMAT's example
first-words : words_of (0x5A ∷ 0xF3 ∷ 0x00 ∷ 0x07 ∷ []) ≡ 0x5AF3 ∷ 0x0007 ∷ []
unfolding words_of
first-words = refl
