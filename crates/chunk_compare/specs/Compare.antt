-- FORMAT, "Comparing recordings": what is refused, what the comparison answers, and what it leaves in the lent list.
use Rattle.std.specs.Prelude.{ℕ, ◌-◌, ◌||◌, List, [], ◌∷◌, length, ltb}
use Rattle.base.specs.Limit.{too_long}
use Rattle.base.specs.Refusal.{Causes, wrong_length, no_room, verdict, answer}
use Rattle.base_room.specs.Room.{put}
use Rattle.chunk.specs.Reading.{reading}
use Rattle.chunk_compare.specs.declared.Compared.{Compared}
use Rattle.chunk_compare.specs.Pairs.{pairs_of, pair_numbers}

-- there is one answer for each pair
abbrev pub pair_count : ℕ → List ℕ → List ℕ → ℕ
pair_count sync a b = length (pairs_of sync a b)

-- either recording too long, then a list with fewer entries than there are pairs
abbrev pub compare_causes : ℕ → List ℕ → List ℕ → ℕ → Causes
compare_causes sync a b entries = (wrong_length, too_long a || too_long b) ∷ (no_room, ltb entries (pair_count sync a b)) ∷ []

abbrev pub compared : ℕ → ℕ → ℕ → ℕ → Compared
compared v pairs first second = record { refusal = v; pairs = pairs; first_left = first; second_left = second }

-- a refusal has zeros
abbrev pub refused : ℕ → Compared
refused v = compared v 0 0 0

-- the number of pairs, and of the chunks of each recording that are in none
abbrev pub compare_of : ℕ → List ℕ → List ℕ → Compared
compare_of sync a b = compared 0 (pair_count sync a b) (length (reading sync a) - pair_count sync a b) (length (reading sync b) - pair_count sync a b)

-- The reply, for a list of so many entries.
unfoldable pub compare_reply : ℕ → List ℕ → List ℕ → ℕ → Compared
compare_reply sync a b entries = answer (verdict (compare_causes sync a b entries)) refused (compare_of sync a b)

-- The list afterwards: a number for each pair at its front, in order, and every other entry as it was; a refusal alters nothing.
unfoldable pub compare_room : ℕ → List ℕ → List ℕ → List ℕ → List ℕ
compare_room sync a b list = answer (verdict (compare_causes sync a b (length list))) (λ v. list) (put (pair_numbers (pairs_of sync a b)) 0 list)
