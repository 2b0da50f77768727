-- FORMAT, "Health packets", type 8: the checksums of three cameras with eight pages each.
use Rattle.std.specs.Prelude.{ℕ, ◌+◌, ◌*◌, not, List, [], ◌∷◌, take, drop, replicate, eqb}
use Rattle.base.specs.Refusal.{Causes, verdict, answer}
use Rattle.health.specs.Packet.{type_of_packet}
use Rattle.health.specs.Reading.{judge_causes}

abbrev pub checksums_causes : List ℕ → Causes
checksums_causes p = judge_causes p (not (eqb (type_of_packet p) 8))

-- the eight pages of a camera, from 0: words 3 to 26 are three times eight
abbrev pub pages_of : List ℕ → ℕ → List ℕ
pages_of p camera = take 8 (drop (3 + 8 * camera) p)

-- zeros for the number, which has no room in an array
abbrev pub refused : ℕ → List (List ℕ)
refused v = replicate 3 (replicate 8 0)

-- a row for each camera
unfoldable pub checksums_reply : List ℕ → List (List ℕ)
checksums_reply p = answer (verdict (checksums_causes p)) refused (pages_of p 0 ∷ pages_of p 1 ∷ pages_of p 2 ∷ [])
