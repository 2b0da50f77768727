-- What a verdict of 0 tells of a packet that the reader was given.
use mathlib.Core.Path.{◌≡◌, refl}
use mathlib.Core.Bool.{◌&&◌}
use mathlib.Core.List.{List}
use Prim.Native.Nat.{ℕ, ◌≤◌}
use native.Mathlib.Omega.{arith}
use lib.ListN.{length, get_or, take, drop, length-drop}
use lib.Seq.{take_all}
use lib.Dec.{leb}
use borrow.Author.Tests.{leb-true}
use Rattle.base.proofs.Booleans.{and_left}
use Rattle.base.specs.Refusal.{verdict}
use Rattle.health.specs.Packet.{type_of_packet}
use Rattle.health.proofs.Sound.{judged-own}
use Rattle.health_observation.specs.Observation.{flags_known, region_known, is_observation, observation_causes}

pub accepted : (p : List ℕ) → verdict (observation_causes p) ≡ 0 → 3 ≤ type_of_packet p
unfolding is_observation
accepted p z =
    let t = type_of_packet p in
    let own = is_observation t (get_or p 6 0) (get_or p 7 0) in
    let four = leb-true 4 t (and_left (leb 4 t) (leb t 6) (and_left (leb 4 t && leb t 6) (flags_known (get_or p 6 0)) (and_left _ (region_known (get_or p 7 0)) (judged-own own p refl z)))) in
    omega (arith, four)

-- the words from the seventeenth on
pub bins_of : (p : List ℕ) → length p ≡ 32 → take 16 (drop 16 p) ≡ drop 16 p
bins_of p h = take_all 16 (drop 16 p) (omega (arith, h, length-drop 16 p))
