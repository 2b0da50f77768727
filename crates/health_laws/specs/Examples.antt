-- FORMAT, "Health packets", its example: an observation of camera 1. Its fields are an observation, and the words that say them, written, are the example's.
-- The recording of "Frames" has a health chunk that carries it.
use Rattle.std.specs.Prelude.{◌≡◌, refl, true, false, [], ◌∷◌, ◌++◌, replicate}
use Rattle.std.proofs.Common.{arith}
use Rattle.base.specs.Refusal.{answer, settled}
use Rattle.base_room.specs.Room.{put}
use Rattle.chunk.specs.Header.{legal_size}
use Rattle.chunk_laws.specs.Written.{WriterCall, reply}
use Rattle.crc.specs.Crc.{crc_bit, crc_step}
use Rattle.health.specs.Writing.{written_crc, packet_from, write_room}
use Rattle.health_observation.specs.declared.Mode.{Mode}
use Rattle.health_observation.specs.declared.Observed.{Observed}
use Rattle.health_laws.specs.Written.{Accepted}
use Rattle.health_laws.specs.Fields.{observation_words, Observation}
use Rattle.health_laws.specs.Recordings.{Packet, packets, Carrier}
use Rattle.health_laws.specs.Newest.{ScienceWith, HealthWith}

-- period 4, exposure 3, mode normal, RICE_EN, RICE_DT and FLAT_EN, region map 2
abbrev pub observed : Observed
observed =
    record {
      refusal = 0;
      camera = 1;
      crc = 0xFB72;
      time = 0x1A2B;
      frame = 7;
      period = 4;
      exposure = 3;
      mode = Mode.Normal;
      mode_word = 0x0200;
      rice_en = true;
      rice_dt = true;
      flat_en = true;
      ff_led_en = false;
      st_asap = false;
      region = 2;
      others = replicate 8 0;
      bins =
          0x0100 ∷ 0x0101 ∷ 0x0102 ∷ 0x0103 ∷ 0x0104 ∷ 0x0105 ∷ 0x0106 ∷ 0x0107
          ∷ 0x0108 ∷ 0x0109 ∷ 0x010A ∷ 0x010B ∷ 0x010C ∷ 0x010D ∷ 0x010E ∷ 0x010F ∷ [];
    }

pub is_observation : Observation observed
unfolding written_crc crc_bit crc_step
is_observation =
    record {
      refusal = refl;
      camera = (omega arith, omega arith);
      crc = refl;
      exposure = omega arith;
      mode = refl;
      region = omega arith;
      others = refl;
      bins = refl;
    }

pub words : packet_from 4 0x1A2B (observation_words observed)
    ≡ 0x0004 ∷ 0xFB72 ∷ 0x1A2B ∷ 0x0007 ∷ 0x0403 ∷ 0x0200 ∷ 0xE000 ∷ 0x2000 ∷ replicate 8 0 ++ observed.bins
unfolding written_crc crc_bit crc_step
words = refl

pub accepted : Accepted 4 (observation_words observed) (replicate 32 0)
unfolding settled answer
accepted = refl

abbrev pub packet : Packet
packet = record { type = 4; time = 0x1A2B; words = observation_words observed; room = replicate 32 0; accepted = accepted }

abbrev pub call : WriterCall
call = record { kind = 1; camera = 0; payload = packets (packet ∷ []); room = replicate 34 0 }

pub chunk_accepted : (reply call).refusal ≡ 0
unfolding settled answer legal_size write_room put
chunk_accepted = refl

abbrev pub carrier : Carrier
carrier = record { call = call; accepted = chunk_accepted; carried = packet ∷ []; image = λ e. absurd (omega (arith, e)); health = λ e. refl }

-- In a recording of this chunk alone the packet is the last of its type, and so it is in a health recording of its own.
abbrev pub science_with : ScienceWith packet
science_with = record { before = []; carrier = carrier; after = []; earlier = []; later = []; carries = refl; last = refl }

abbrev pub health_with : HealthWith packet
health_with = record { before = []; after = []; last = refl }
