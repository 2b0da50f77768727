-- What is accepted has 32 words.
use Rattle.std.proofs.Common.{◌≡◌, ℕ, List, length, not, eqb, refl}
use Rattle.base.specs.Refusal.{verdict}
use Rattle.health.specs.Packet.{type_of_packet}
use Rattle.health.proofs.Sound.{judged-long}
use Rattle.health_checksums.specs.Checksums.{checksums_causes}

pub accepted_long : (p : List ℕ) → verdict (checksums_causes p) ≡ 0 → length p ≡ 32
accepted_long p z = judged-long (not (eqb (type_of_packet p) 8)) p refl z
