-- Worked examples, by computation.
use Rattle.std.specs.Prelude.{◌≡◌, refl, ◌∷◌, replicate}
use Rattle.base.specs.Refusal.{verdict}
use Rattle.crc.specs.Crc.{crc_bit, crc_step}
use Rattle.health.specs.Packet.{packet_crc}
use Rattle.health.specs.Writing.{packet_from, written_crc}
use Rattle.health_upsets.specs.Upsets.{upsets_causes}

-- the high byte of word 4 is spare
spare : verdict (upsets_causes (packet_from 10 0 (0 ∷ 0xAB08 ∷ replicate 27 0))) ≡ 0
unfolding packet_crc written_crc crc_bit crc_step
spare = refl
