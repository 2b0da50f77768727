-- Worked examples, by computation.
use Rattle.std.specs.Prelude.{◌≡◌, refl, true, false}
use Rattle.health.specs.Packet.{permitted_type}

-- 1 to 15, and the spare ones: 0, 16, 32 and so on
types : (permitted_type 0 ≡ true) × (permitted_type 15 ≡ true) × (permitted_type 16 ≡ true) × (permitted_type 17 ≡ false) × (permitted_type 0xFFF0 ≡ true)
types = (refl, refl, refl, refl, refl)
