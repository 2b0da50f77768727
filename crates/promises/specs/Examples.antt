-- Eleven examples of FORMAT, of the very definitions to which the calls are tied.
use Rattle.std.specs.Prelude.{ℕ, ◌≡◌, true, false, List, [], ◌∷◌, map, get_or, replicate}
use Rattle.base.specs.Refusal.{wrote}
use Rattle.chunk.specs.Header.{legal_size, legal}
use Rattle.chunk_reading.specs.Counting.{surveyed, survey_reply}
use Rattle.crc.specs.Crc.{crc_words}
use Rattle.parity.specs.declared.Case.TheVariants.{ParityBit, DataBit}
use Rattle.parity.specs.Unit.{reply, refused, check_reply, check_room, write_reply, write_room}
use Rattle.health.specs.Writing.{packet_from}
use Rattle.health_upsets.specs.Upsets.{upset, upset_table, upsets_reply}
use Rattle.command.specs.declared.Fields.{Fields}
use Rattle.command.specs.Layout.{command_bytes}
use Rattle.command_reading.specs.Reading.{command, no_fields, read_reply}

-- ---- what the examples are about

-- a unit of one data word
abbrev pub unit : ℕ → ℕ → ℕ → List ℕ
unit rows columns word = rows ∷ 0 ∷ 0 ∷ 0 ∷ columns ∷ 0 ∷ 0 ∷ 0 ∷ word ∷ []

-- an upset packet whose last entry filled is this one; entry i holds 3i+1, 3i+2 and 3i+3
abbrev pub upset_packet : ℕ → List ℕ
upset_packet last =
    packet_from 10 0
    (0 ∷ last ∷ 1 ∷ 2 ∷ 3 ∷ 4 ∷ 5 ∷ 6 ∷ 7 ∷ 8 ∷ 9 ∷ 10 ∷ 11 ∷ 12 ∷ 13 ∷ 14 ∷ 15 ∷ 16 ∷ 17 ∷ 18 ∷ 19 ∷ 20 ∷ 21 ∷ 22 ∷ 23 ∷ 24 ∷ 25 ∷ 26 ∷ 27 ∷ [])

-- SUBMODE with qualifier 2; PATCH of 38 bytes, all of them used
abbrev pub submode : Fields
submode = record { sequence = 0; command_type = 9; qualifier = 2; address = 0; «data» = 0 }

abbrev pub patch : Fields
patch = record { sequence = 0; command_type = 2; qualifier = 0; address = 0; «data» = 38 }

-- ---- the table

pub record Examples : Type 0 where
  -- an empty recording has no chunk and 0 skipped; one sync word is 1 skipped
  pub one : (sync : ℕ) → (survey_reply sync [] ≡ surveyed 0 0 0 false) × (survey_reply sync (sync ∷ []) ≡ surveyed 0 0 1 false)
  -- image sizes 9, 264, 273, 8,184 legal; 0, 8, 265, 272, 8,185 not
  pub two : (map (legal_size 0) (9 ∷ 264 ∷ 273 ∷ 8184 ∷ []) ≡ true ∷ true ∷ true ∷ true ∷ [])
      × (map (legal_size 0) (0 ∷ 8 ∷ 265 ∷ 272 ∷ 8185 ∷ []) ≡ false ∷ false ∷ false ∷ false ∷ false ∷ [])
  -- header word A020h illegal; 8020h legal
  pub three : (legal 0xA020 ≡ false) × (legal 0x8020 ≡ true)
  -- k = 1, data 8000h: parity words 0 and 4 are 8000h, others 0
  pub four : (write_reply 1 9 ≡ wrote 0 9) × (write_room (0x8000 ∷ []) (replicate 9 0xFFFF) ≡ unit 0x8000 0x8000 0x8000)
  -- the same data with all parity 0: repaired to 0, word 0 bit 15
  pub five : (check_reply (unit 0 0 0x8000) 1 ≡ reply 0 DataBit 0 15 1) × (check_room (unit 0 0 0x8000) (0xFFFF ∷ []) ≡ 0 ∷ [])
  -- k = 1, data 0, parity word 0 = 4000h only: data as they stand
  pub six : (check_reply (unit 0x4000 0 0) 1 ≡ reply 0 ParityBit 0 14 1) × (check_room (unit 0x4000 0 0) (0xFFFF ∷ []) ≡ 0 ∷ [])
  -- as before with parity word 4 = 8000h too: refusal 6
  pub seven : (check_reply (unit 0x4000 0x8000 0) 1 ≡ refused 6) × (check_room (unit 0x4000 0x8000 0) (0xFFFF ∷ []) ≡ 0xFFFF ∷ [])
  -- CRC from register 0 of word 0001h is 1021h, of 0002h is 2042h
  pub eight : (crc_words 0 (0x0001 ∷ []) ≡ 0x1021) × (crc_words 0 (0x0002 ∷ []) ≡ 0x2042)
  -- last entry 8: the oldest is entry 0; last entry 9: refusal 7
  pub nine : (get_or (upsets_reply (upset_packet 8)).entries 0 (upset 0 0 0) ≡ upset 1 2 3)
      × (upsets_reply (upset_packet 9) ≡ upset_table 7 0 0 (replicate 9 (upset 0 0 0)))
  -- type 9 qualifier 2: accepted in catalogue 1 (standby), 10 in catalogue 2
  pub ten : (read_reply 1 1 (command_bytes submode []) ≡ command 0 submode 0) × (read_reply 2 1 (command_bytes submode []) ≡ command 10 no_fields 0)
  -- PATCH with N = 38 and actual length 38: permitted in catalogue 2, 11 in catalogue 1
  pub eleven : (read_reply 2 1 (command_bytes patch (replicate 38 0xA5)) ≡ command 0 patch 38)
      × (read_reply 1 1 (command_bytes patch (replicate 38 0xA5)) ≡ command 11 no_fields 0)
