-- The examples, by computation.
use Prim.Native.Nat.{ℕ}
use mathlib.Core.Path.{◌≡◌, refl}
use mathlib.Core.Bool.{false}
use mathlib.Core.List.{[], ◌∷◌}
use lib.ListN.{get_or, replicate}
use Rattle.base.specs.Refusal.{answer, wrote, settled}
use Rattle.base_room.specs.Room.{put}
use Rattle.crc.specs.Crc.{crc_bit, crc_step}
use Rattle.chunk.specs.Header.{legal_size, legal, headed, confirmed}
use Rattle.chunk.specs.Reading.{listed, any_end, skipped_from}
use Rattle.chunk_reading.specs.Counting.{surveyed, survey_reply}
use Rattle.parity_rows.specs.Parity.{xor_all, number, bit_from, row_parity, column_parity, row_word, column_word, parity_words}
use Rattle.parity.specs.declared.Case.TheVariants.{ParityBit, DataBit}
use Rattle.parity.specs.Unit.{unit_of, flipped, row_differs, column_differs, sum_all, first_of, five_cases, finding, unit_data, check_verdict, write_verdict, reply, refused, check_reply, check_room, write_reply, write_room}
use Rattle.health.specs.Packet.{packet_crc}
use Rattle.health.specs.Writing.{written_crc}
use Rattle.health_upsets.specs.Upsets.{upset, upset_table, upsets_reply}
use Rattle.command_catalogue.specs.Table.{table, permits}
use Rattle.command.specs.Layout.{command_bytes}
use Rattle.command_reading.specs.Reading.{command, no_fields, given, read_reply}
use Rattle.promises.specs.Examples.{Examples, unit, upset_packet, submode, patch}

surveys : (sync : ℕ) → (survey_reply sync [] ≡ surveyed 0 0 0 false) × (survey_reply sync (sync ∷ []) ≡ surveyed 0 0 1 false)
unfolding answer listed any_end skipped_from confirmed headed
surveys sync = (refl, refl)

writes : (write_reply 1 9 ≡ wrote 0 9) × (write_room (0x8000 ∷ []) (replicate 9 0xFFFF) ≡ unit 0x8000 0x8000 0x8000)
unfolding answer settled put write_reply write_room write_verdict unit_of parity_words row_word column_word row_parity column_parity bit_from number xor_all
writes = (refl, refl)

repairs : (check_reply (unit 0 0 0x8000) 1 ≡ reply 0 DataBit 0 15 1) × (check_room (unit 0 0 0x8000) (0xFFFF ∷ []) ≡ 0 ∷ [])
unfolding answer put check_reply check_room check_verdict unit_data flipped finding five_cases first_of sum_all row_differs column_differs row_parity column_parity bit_from xor_all
repairs = (refl, refl)

stands : (check_reply (unit 0x4000 0 0) 1 ≡ reply 0 ParityBit 0 14 1) × (check_room (unit 0x4000 0 0) (0xFFFF ∷ []) ≡ 0 ∷ [])
unfolding answer put check_reply check_room check_verdict unit_data flipped finding five_cases first_of sum_all row_differs column_differs row_parity column_parity bit_from xor_all
stands = (refl, refl)

refuses : (check_reply (unit 0x4000 0x8000 0) 1 ≡ refused 6) × (check_room (unit 0x4000 0x8000 0) (0xFFFF ∷ []) ≡ 0xFFFF ∷ [])
unfolding answer put check_reply check_room check_verdict finding five_cases first_of sum_all row_differs column_differs row_parity column_parity bit_from xor_all
refuses = (refl, refl)

upsets : (get_or (upsets_reply (upset_packet 8)).entries 0 (upset 0 0 0) ≡ upset 1 2 3)
    × (upsets_reply (upset_packet 9) ≡ upset_table 7 0 0 (replicate 9 (upset 0 0 0)))
unfolding answer upsets_reply packet_crc written_crc crc_bit crc_step
upsets = (refl, refl)

submodes : (read_reply 1 1 (command_bytes submode []) ≡ command 0 submode 0) × (read_reply 2 1 (command_bytes submode []) ≡ command 10 no_fields 0)
unfolding crc_bit crc_step command_bytes read_reply given answer permits table
submodes = (refl, refl)

patches : (read_reply 2 1 (command_bytes patch (replicate 38 0xA5)) ≡ command 0 patch 38)
    × (read_reply 1 1 (command_bytes patch (replicate 38 0xA5)) ≡ command 11 no_fields 0)
unfolding crc_bit crc_step command_bytes read_reply given answer permits table
patches = (refl, refl)

pub examples : Examples
unfolding legal legal_size crc_bit crc_step
examples =
    record {
      one = surveys;
      two = (refl, refl);
      three = (refl, refl);
      four = writes;
      five = repairs;
      six = stands;
      seven = refuses;
      eight = (refl, refl);
      nine = upsets;
      ten = submodes;
      eleven = patches;
    }
