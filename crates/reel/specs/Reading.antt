-- FORMAT, "Reel": which reels are accepted, and what the reader answers.
use Rattle.std.specs.Prelude.{ℕ, ◌*◌, ◌-◌, Bool, true, false, not, ◌&&◌, ◌||◌, List, [], ◌∷◌, length, get_or, take, drop, ltb, leb, eqb}
use Rattle.base.specs.Limit.{reel_limit}
use Rattle.base.specs.Refusal.{Causes, wrong_length, wrong_reel, verdict, answer}
use Rattle.chunk.specs.Reading.{reading}
use Rattle.reel.specs.declared.Reel.{Reel}
use Rattle.reel.specs.Layout.{entry_width, edition, index_words, reel_crc, reel_words, reel_least, reel_most}

-- two lists have the same words
unfoldable pub same_words : List ℕ → List ℕ → Bool
same_words [] [] = true
same_words [] (y ∷ ys) = false
same_words (x ∷ xs) [] = false
same_words (x ∷ xs) (y ∷ ys) = eqb x y && same_words xs ys

-- the four words of the trailer, counted from the reel's end
abbrev pub count_of : List ℕ → ℕ
count_of r = get_or r (length r - 4) 0

abbrev pub n_of : List ℕ → ℕ
n_of r = get_or r (length r - 3) 0

abbrev pub crc_of : List ℕ → ℕ
crc_of r = get_or r (length r - 2) 0

abbrev pub edition_of : List ℕ → ℕ
edition_of r = get_or r (length r - 1) 0

-- the recording that the trailer tells of, and the entries between it and the trailer
abbrev pub recording_of : List ℕ → List ℕ
recording_of r = take (n_of r) r

abbrev pub index_of : List ℕ → List ℕ
index_of r = take (entry_width * count_of r) (drop (n_of r) r)

-- length and trailer agree: the reel has the words that the trailer tells of, its last word is 1, and the CRC is right
unfoldable pub trailer_agrees : List ℕ → Bool
trailer_agrees r =
    eqb (length r) (reel_words (n_of r) (count_of r)) && eqb (edition_of r) edition && eqb (crc_of r) (reel_crc (index_of r) (count_of r) (n_of r))

-- the entries equal a fresh reading of the recording
unfoldable pub index_agrees : ℕ → List ℕ → Bool
index_agrees sync r = same_words (index_of r) (index_words (reading sync (recording_of r)))

-- A reel is accepted exactly if its length and trailer agree, n is at most 32,768 and its entries equal a fresh reading.
abbrev pub accepted : ℕ → List ℕ → Bool
accepted sync r = trailer_agrees r && leb (n_of r) reel_limit && index_agrees sync r

-- a length outside 4 to 38,728, then a reel that is not accepted
abbrev pub read_causes : ℕ → List ℕ → Causes
read_causes sync r = (wrong_length, ltb (length r) reel_least || ltb reel_most (length r)) ∷ (wrong_reel, not (accepted sync r)) ∷ []

abbrev pub told : ℕ → ℕ → ℕ → Reel
told v n count = record { refusal = v; n = record { 0 = n }; entries = count }

-- a refusal has zeros
abbrev pub refused : ℕ → Reel
refused v = told v 0 0

-- The reply: n and the entry count.
unfoldable pub read_reply : ℕ → List ℕ → Reel
read_reply sync r = answer (verdict (read_causes sync r)) refused (told 0 (n_of r) (count_of r))
