-- FORMAT, "Comparing recordings": a recording compared with itself, two in the other order, and how many chunks are in pairs.
use Rattle.std.specs.Prelude.{ℕ, ◌+◌, ◌≤◌, ◌≡◌, List, map, ◌⊎◌, length, replicate, None}
use Rattle.chunk.specs.Reading.{reading}
use Rattle.chunk_reading.specs.Counting.{survey_reply}
use Rattle.chunk_compare.specs.declared.Compared.{Compared}
use Rattle.chunk_compare.specs.Pairs.{pair_said}
use Rattle.chunk_compare.specs.Compare.{compared, compare_reply, compare_room}
use Rattle.chunk_compare_laws.specs.Entries.{Accepted, told}

-- ---- a recording and itself

-- Every chunk is in a pair, none is left over, and every entry is 0, which says that the two are the same.
pub record Itself (sync : ℕ) (a list : List ℕ) : Type 0 where
  pub reply : compare_reply sync a a (length list) ≡ compared 0 (length (reading sync a)) 0 0
  pub entries : told sync a a list ≡ replicate (length (reading sync a)) 0
  pub says : map pair_said (told sync a a list) ≡ replicate (length (reading sync a)) None

abbrev pub ItselfIsSame : Type 0
ItselfIsSame = (sync : ℕ) (a list : List ℕ) → Accepted sync a a list → Itself sync a list

-- ---- the other order

-- the numbers of chunks that are left over change places
abbrev pub exchanged : Compared → Compared
exchanged r = compared r.refusal r.pairs r.second_left r.first_left

-- In the other order all is answered alike, refusals too: only what is left over changes places, and the list afterwards is the same.
pub record Exchange (sync : ℕ) (a b : List ℕ) : Type 0 where
  pub reply : (entries : ℕ) → compare_reply sync b a entries ≡ exchanged (compare_reply sync a b entries)
  pub room : (list : List ℕ) → compare_room sync b a list ≡ compare_room sync a b list

abbrev pub ComparedInEitherOrder : Type 0
ComparedInEitherOrder = (sync : ℕ) (a b : List ℕ) → Exchange sync a b

-- ---- how many

-- With r the reply: each chunk that the two surveys count is in a pair or left over, and one recording has none left over.
pub record Counted (sync : ℕ) (a b : List ℕ) (r : Compared) : Type 0 where
  -- neither survey is refused
  pub surveyed : ((survey_reply sync a).refusal ≡ 0) × ((survey_reply sync b).refusal ≡ 0)
  pub first : r.pairs + r.first_left ≡ (survey_reply sync a).chunks
  pub second : r.pairs + r.second_left ≡ (survey_reply sync b).chunks
  -- so the pairs are as many as the smaller of the two counts
  pub most : (r.pairs ≤ (survey_reply sync a).chunks) × (r.pairs ≤ (survey_reply sync b).chunks)
  pub one_ends : (r.first_left ≡ 0) ⊎ (r.second_left ≡ 0)

abbrev pub PairsAreCounted : Type 0
PairsAreCounted = (sync : ℕ) (a b list : List ℕ) → Accepted sync a b list → Counted sync a b (compare_reply sync a b (length list))
