-- FORMAT, "Health packets", type 10: single event upsets, nine entries written round and round.
use Rattle.std.specs.Prelude.{ℕ, ◌+◌, ◌*◌, ◌%◌, Bool, not, ◌&&◌, List, [], ◌∷◌, map, get_or, replicate, leb, eqb}
use Rattle.base.specs.Number.{low_byte}
use Rattle.base.specs.Refusal.{Causes, verdict, answer}
use Rattle.health_upsets.specs.declared.Upset.{Upset}
use Rattle.health_upsets.specs.declared.UpsetTable.{UpsetTable}
use Rattle.health.specs.Packet.{type_of_packet}
use Rattle.health.specs.Reading.{judge_causes}

-- word 4's low byte; its high byte is spare and not looked at
abbrev pub last_filled : List ℕ → ℕ
last_filled p = low_byte (get_or p 4 0)

-- the type is 10, and the last entry filled is 0 to 8
abbrev pub is_upsets : List ℕ → Bool
is_upsets p = eqb (type_of_packet p) 10 && leb (last_filled p) 8

abbrev pub upsets_causes : List ℕ → Causes
upsets_causes p = judge_causes p (not (is_upsets p))

abbrev pub upset : ℕ → ℕ → ℕ → Upset
upset a t v = record { address = a; time = t; value = v }

-- entry i is words 5+3i to 7+3i
abbrev pub upset_at : List ℕ → ℕ → Upset
upset_at p i = upset (get_or p (5 + 3 * i) 0) (get_or p (6 + 3 * i) 0) (get_or p (7 + 3 * i) 0)

-- the numbers of the entries, oldest first: starting after the last filled, modulo 9
abbrev pub oldest_first : ℕ → List ℕ
oldest_first last = map (λ k. (last + 1 + k) % 9) (0 ∷ 1 ∷ 2 ∷ 3 ∷ 4 ∷ 5 ∷ 6 ∷ 7 ∷ 8 ∷ [])

abbrev pub upset_table : ℕ → ℕ → ℕ → List Upset → UpsetTable
upset_table v n last es = record { refusal = v; total = n; last = last; entries = es }

abbrev pub refused : ℕ → UpsetTable
refused v = upset_table v 0 0 (replicate 9 (upset 0 0 0))

-- the total, the last entry filled and the nine entries, oldest first
unfoldable pub upsets_reply : List ℕ → UpsetTable
upsets_reply p =
    answer (verdict (upsets_causes p)) refused
    (upset_table 0 (get_or p 3 0) (last_filled p) (map (upset_at p) (oldest_first (last_filled p))))
