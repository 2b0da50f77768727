-- FORMAT, "Health packets", types 4 to 6, 8 and 10: the 29 words that say the fields of an observation, of checksums and of upsets. Written as a packet,
-- they are given back by the field reader.
use Rattle.std.specs.Prelude.{ℕ, suc, ◌+◌, ◌*◌, ◌^◌, ◌≤◌, ◌<◌, ◌≡◌, Bool, true, cond, List, [], ◌∷◌, ◌++◌, length, take, drop}
use Rattle.base.specs.Number.{word, high_byte}
use Rattle.base.specs.Refusal.{verdict}
use Rattle.health.specs.Writing.{written_crc}
use Rattle.health_observation.specs.declared.Observed.{Observed}
use Rattle.health_observation.specs.Observation.{mode_has, observation_reply}
use Rattle.health_checksums.specs.Checksums.{checksums_causes, checksums_reply}
use Rattle.health_upsets.specs.declared.Upset.{Upset}
use Rattle.health_upsets.specs.Upsets.{upset_table, upsets_reply}
use Rattle.health_laws.specs.Written.{Accepted, written}

-- ---- observations

-- a flag in bit b of a word
abbrev pub bit : Bool → ℕ → ℕ
bit flag b = cond flag 1 0 * 2 ^ b

-- word 6: the five flags from bit 15 down, over zeros
abbrev pub flags_word : Observed → ℕ
flags_word o = bit o.rice_en 15 + bit o.rice_dt 14 + bit o.flat_en 13 + bit o.ff_led_en 12 + bit o.st_asap 11

-- words 3 to 31: frame; period and exposure; mode; flags; region map; eight words that are handed over raw; the bins
abbrev pub observation_words : Observed → List ℕ
observation_words o =
    o.frame ∷ word o.period o.exposure ∷ o.mode_word ∷ flags_word o ∷ o.region * 2 ^ 12 ∷ o.others ++ o.bins

-- the type of a camera's observations
abbrev pub observation_type : Observed → ℕ
observation_type o = o.camera + 3

-- An observation: cameras 1 to 3, a byte of exposure, the mode that the high byte of word 5 means, a region map of 0 to 4, and the packet's own CRC.
pub record Observation (o : Observed) : Type 0 where
  pub refusal : o.refusal ≡ 0
  pub camera : (1 ≤ o.camera) × (o.camera ≤ 3)
  pub crc : o.crc ≡ written_crc (observation_type o) o.time (observation_words o)
  pub exposure : o.exposure < 256
  pub mode : mode_has o.mode (high_byte o.mode_word) ≡ true
  pub region : o.region ≤ 4
  pub others : length o.others ≡ 8
  pub bins : length o.bins ≡ 16

-- a written observation is read with all its fields
abbrev pub ObservationIsRead : Type 0
ObservationIsRead = (o : Observed) (room : List ℕ) → Observation o → Accepted (observation_type o) (observation_words o) room
    → observation_reply (written (observation_type o) o.time (observation_words o) room) ≡ o

-- ---- checksums

-- words 3 to 31: the pages of three cameras, and five words that the packet reader alone gives
abbrev pub checksum_words : List ℕ → List ℕ → List ℕ → List ℕ → List ℕ
checksum_words first second third rest = first ++ (second ++ (third ++ rest))

-- the eight pages of each camera come back
abbrev pub ChecksumsAreRead : Type 0
ChecksumsAreRead = (s : ℕ) (first second third rest room : List ℕ) → length first ≡ 8 → length second ≡ 8 → length third ≡ 8
    → Accepted 8 (checksum_words first second third rest) room
    → (verdict (checksums_causes (written 8 s (checksum_words first second third rest) room)) ≡ 0)
    × (checksums_reply (written 8 s (checksum_words first second third rest) room) ≡ first ∷ second ∷ third ∷ [])

-- ---- upsets

-- address, time and value of each
abbrev pub entry_words : List Upset → List ℕ
entry_words [] = []
entry_words (e ∷ es) = e.address ∷ e.time ∷ e.value ∷ entry_words es

-- words 3 to 31: the total, the last entry filled under a spare byte, entries 0 to 8
abbrev pub upset_words : ℕ → ℕ → ℕ → List Upset → List ℕ
upset_words total spare last es = total ∷ word spare last ∷ entry_words es

-- nine entries come back, from the one after the last filled on, and then those up to it
abbrev pub UpsetsAreRead : Type 0
UpsetsAreRead = (s total spare last : ℕ) (es : List Upset) (room : List ℕ) → last ≤ 8 → Accepted 10 (upset_words total spare last es) room
    → upsets_reply (written 10 s (upset_words total spare last es) room) ≡ upset_table 0 total last (drop (suc last) es ++ take (suc last) es)
