-- The examples, by computation.
use mathlib.Core.Path.{◌≡◌, refl}
use mathlib.Core.Bool.{true, false}
use mathlib.Core.List.{[], ◌∷◌, ◌++◌}
use native.Mathlib.Omega.{arith}
use Rattle.std.specs.Prelude.{Some, None}
use Rattle.base.specs.Refusal.{answer, settled, nothing_there, frame_cut}
use Rattle.base_room.specs.Room.{put}
use Rattle.crc.specs.Crc.{crc_bit, crc_step}
use Rattle.parity_rows.specs.Parity.{xor_all, bit_from, row_parity, column_parity}
use Rattle.parity.specs.Unit.{flipped, row_differs, column_differs, sum_all, first_of, five_cases, finding, unit_data, judge_verdict}
use Rattle.parity_units.specs.Split.{parts, any_damaged, joined_data, data_words}
use Rattle.chunk.specs.Header.{legal_size, legal, headed, ends, confirmed, at_end}
use Rattle.chunk.specs.Reading.{entry, listed, any_end, listed_words, left_at, listed_at}
use Rattle.chunk_writing.specs.Writing.{write_room}
use Rattle.health.specs.Packet.{packet_crc, sound_packet}
use Rattle.health.specs.Writing.{written_crc}
use Rattle.frame.specs.declared.Piece.{Piece}
use Rattle.frame.specs.Shape.{joining, frame_of, frame_chunks, closes, closing, complete, frame_end}
use Rattle.frame.specs.Picture.{units_of}
use Rattle.frame.specs.Described.{description, described}
use Rattle.frame.specs.Pieces.{frames_and_strays, first_piece, next_piece}
use Rattle.frame_reading.specs.Replies.{frame, refused, at_reply, judge_reply, read_reply, read_room}
use Rattle.frame_laws.specs.Written.{joined, unit_row, unit_rows, full_but_last, WrittenFrame, recording_of}
use Rattle.frame_laws.specs.Examples.{sync, image, continuation, health, image_of, health_call, Examples}

completes : (at_reply sync (image 0x8000 ++ health 4) 0 ≡ frame 0 1 1 true 1 true)
    × (read_reply sync (image 0x8000 ++ health 4) 0 2 ≡ frame 0 1 1 true 1 true)
    × (read_room sync (image 0x8000 ++ health 4) 0 (0xFFFF ∷ 0xFFFF ∷ []) ≡ 0x8000 ∷ 0xFFFF ∷ [])
unfolding answer put at_reply read_reply read_room described complete frame_end closing closes frame_chunks frame_of joining units_of parts data_words any_damaged joined_data unit_data judge_verdict flipped finding five_cases first_of sum_all row_differs column_differs row_parity column_parity bit_from xor_all listed_at left_at listed any_end listed_words at_end confirmed headed ends legal legal_size sound_packet packet_crc written_crc crc_bit crc_step
completes = (refl, refl, refl)

repairs : (read_reply sync (image 0 ++ health 4) 0 2 ≡ frame 0 1 1 true 1 true)
    × (read_room sync (image 0 ++ health 4) 0 (0xFFFF ∷ 0xFFFF ∷ []) ≡ 0x8000 ∷ 0xFFFF ∷ [])
unfolding answer put read_reply read_room described complete frame_end closing closes frame_chunks frame_of joining units_of parts data_words any_damaged joined_data unit_data judge_verdict flipped finding five_cases first_of sum_all row_differs column_differs row_parity column_parity bit_from xor_all listed_at left_at listed any_end listed_words at_end confirmed headed ends legal legal_size sound_packet packet_crc written_crc crc_bit crc_step
repairs = (refl, refl)

cuts : (at_reply sync (image 0x8000 ++ health 5) 0 ≡ frame 0 1 1 false 1 false) × (judge_reply sync (image 0x8000 ++ health 5) 0 ≡ refused frame_cut)
unfolding answer at_reply judge_reply described complete frame_end closing closes frame_chunks frame_of joining units_of parts data_words any_damaged judge_verdict finding five_cases first_of sum_all row_differs column_differs row_parity column_parity bit_from xor_all listed_at left_at listed any_end listed_words at_end confirmed headed ends legal legal_size sound_packet packet_crc written_crc crc_bit crc_step
cuts = (refl, refl)

follows : at_reply sync (image 0x8000 ++ health 4 ++ continuation 0x8000) 0 ≡ frame 0 1 1 true 1 false
unfolding answer at_reply described complete frame_end closing closes frame_chunks frame_of joining units_of parts data_words listed_at left_at listed any_end listed_words at_end confirmed headed ends legal legal_size sound_packet packet_crc written_crc crc_bit crc_step
follows = refl

lasts : at_reply sync (image 0x8000) 0 ≡ frame 0 1 1 false 1 true
unfolding answer at_reply described complete frame_end closing closes frame_chunks frame_of joining units_of parts data_words listed_at left_at listed any_end listed_words at_end confirmed headed ends legal legal_size
lasts = refl

strays : (next_piece sync (continuation 0x8000) 0 ≡ Some (Piece.Stray (entry 0 0x0009 true) (record { 0 = 11 })))
    × (at_reply sync (continuation 0x8000) 0 ≡ refused nothing_there)
unfolding answer at_reply first_piece frames_and_strays described listed_at left_at listed at_end confirmed headed ends legal legal_size
strays = (refl, refl)

steps : (next_piece sync (image 0x8000 ++ continuation 0x8000) 0 ≡ Some (Piece.Frame (record { 0 = 0 }) (description 1 1 false 1 false) (record { 0 = 11 })))
    × (next_piece sync (image 0x8000 ++ continuation 0x8000) 11 ≡ Some (Piece.Stray (entry 11 0x0009 true) (record { 0 = 22 })))
    × (next_piece sync (image 0x8000 ++ continuation 0x8000) 22 ≡ None)
    × (next_piece sync (image 0x8000 ++ continuation 0x8000) 1 ≡ Some (Piece.Stray (entry 11 0x0009 true) (record { 0 = 22 })))
unfolding first_piece frames_and_strays described complete frame_end closing closes frame_chunks frame_of joining units_of parts data_words listed any_end listed_words at_end confirmed headed ends legal legal_size sound_packet packet_crc crc_bit crc_step
steps = (refl, refl, refl, refl)

writes : WrittenFrame 1 (image_of 0x8000 ∷ []) health_call ((0x8000 ∷ []) ∷ [])
unfolding settled answer unit_rows unit_row joined full_but_last unit_data judge_verdict flipped finding five_cases first_of sum_all row_differs column_differs row_parity column_parity bit_from xor_all legal_size sound_packet packet_crc written_crc crc_bit crc_step
writes =
    record {
      of_camera = omega arith;
      units = refl;
      full = refl;
      closing = refl;
      observed = refl;
      accepted = (refl, (refl, tt));
      hold = (refl, refl, tt);
    }

hits : WrittenFrame 1 (image_of 0 ∷ []) health_call ((0x8000 ∷ []) ∷ [])
unfolding settled answer unit_rows unit_row joined full_but_last unit_data judge_verdict flipped finding five_cases first_of sum_all row_differs column_differs row_parity column_parity bit_from xor_all legal_size sound_packet packet_crc written_crc crc_bit crc_step
hits =
    record {
      of_camera = omega arith;
      units = refl;
      full = refl;
      closing = refl;
      observed = refl;
      accepted = (refl, (refl, tt));
      hold = (refl, refl, tt);
    }

records : recording_of sync 1 [] (image_of 0x8000 ∷ []) health_call [] ≡ image 0x8000 ++ health 4
unfolding settled answer put write_room joined legal_size
records = refl

pub examples : Examples
examples = record { complete = completes; repaired = repairs; cut = cuts; followed = follows; last = lasts; stray = strays; stepped = steps; written = writes; hurt = hits; recorded = records }
