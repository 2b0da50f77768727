-- FORMAT, "Health packets", types 4, 5 and 6: the observations of cameras 1, 2 and 3.
use Rattle.std.specs.Prelude.{ℕ, ◌-◌, ◌/◌, ◌%◌, ◌^◌, Bool, false, cond, not, ◌&&◌, List, get_or, take, drop, replicate, leb, eqb}
use Rattle.base.specs.Number.{high_byte, low_byte, bit_set}
use Rattle.base.specs.Refusal.{Causes, verdict, answer}
use Rattle.health_observation.specs.declared.Mode.{Mode}
use Rattle.health_observation.specs.declared.Mode.TheVariants.{Engineering, HighResolution, Normal, NoAcquisition, Disabled}
use Rattle.health_observation.specs.declared.Observed.{Observed}
use Rattle.health.specs.Packet.{type_of_packet, packet_time}
use Rattle.health.specs.Reading.{judge_causes}

-- The number of each mode. Disabled has every other value: 4 is the least of them.
abbrev pub mode_number : Mode → ℕ
mode_number Engineering = 0
mode_number HighResolution = 1
mode_number Normal = 2
mode_number NoAcquisition = 3
mode_number Disabled = 4

-- the values of the mode byte that mean a mode
abbrev pub mode_has : Mode → ℕ → Bool
mode_has Engineering b = eqb b 0
mode_has HighResolution b = eqb b 1
mode_has Normal b = eqb b 2
mode_has NoAcquisition b = eqb b 3
mode_has Disabled b = leb 4 b

-- 0 engineering, 1 high resolution, 2 normal, 3 no acquisition, any other disabled
abbrev pub mode_of : ℕ → Mode
mode_of b = cond (eqb b 0) Engineering (cond (eqb b 1) HighResolution (cond (eqb b 2) Normal (cond (eqb b 3) NoAcquisition Disabled)))

-- word 6: below its five flags all bits are 0
abbrev pub flags_known : ℕ → Bool
flags_known w = eqb (w % 2 ^ 11) 0

-- word 7: the region map in bits 15 to 12 is 0 to 4, and the other bits are 0
abbrev pub region_known : ℕ → Bool
region_known w = leb (w / 2 ^ 12) 4 && eqb (w % 2 ^ 12) 0

-- the type t is 4, 5 or 6, and words 6 and 7 have specified values
unfoldable pub is_observation : ℕ → ℕ → ℕ → Bool
is_observation t six seven = leb 4 t && leb t 6 && flags_known six && region_known seven

abbrev pub observation_causes : List ℕ → Causes
observation_causes p = judge_causes p (not (is_observation (type_of_packet p) (get_or p 6 0) (get_or p 7 0)))

-- zeros beside the number; the mode of number 0
abbrev pub refused : ℕ → Observed
refused v =
    record {
      refusal = v;
      camera = 0;
      crc = 0;
      time = 0;
      frame = 0;
      period = 0;
      exposure = 0;
      mode = Engineering;
      mode_word = 0;
      rice_en = false;
      rice_dt = false;
      flat_en = false;
      ff_led_en = false;
      st_asap = false;
      region = 0;
      others = replicate 8 0;
      bins = replicate 16 0;
    }

-- The fields of an observation: words 1, 2 and 8 to 15 are handed over raw, and so is word 5 with its low byte.
abbrev pub observation_of : List ℕ → Observed
observation_of p =
    record {
      refusal = 0;
      camera = type_of_packet p - 3;
      crc = get_or p 1 0;
      time = packet_time p;
      frame = get_or p 3 0;
      period = high_byte (get_or p 4 0);
      exposure = low_byte (get_or p 4 0);
      mode = mode_of (high_byte (get_or p 5 0));
      mode_word = get_or p 5 0;
      rice_en = bit_set (get_or p 6 0) 15;
      rice_dt = bit_set (get_or p 6 0) 14;
      flat_en = bit_set (get_or p 6 0) 13;
      ff_led_en = bit_set (get_or p 6 0) 12;
      st_asap = bit_set (get_or p 6 0) 11;
      region = get_or p 7 0 / 2 ^ 12;
      others = take 8 (drop 8 p);
      bins = drop 16 p;
    }

unfoldable pub observation_reply : List ℕ → Observed
observation_reply p = answer (verdict (observation_causes p)) refused (observation_of p)
