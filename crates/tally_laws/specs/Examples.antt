-- FORMAT, "The tally": the recording of the listing program, counted.
use Rattle.std.specs.Prelude.{◌≡◌, refl, [], ◌∷◌, replicate}
use Rattle.base.specs.Refusal.{answer}
use Rattle.parity_rows.specs.Parity.{xor_all, bit_from, row_parity, column_parity}
use Rattle.parity.specs.Unit.{row_differs, column_differs, sum_all, first_of, five_cases, finding, judge_verdict, judge_reply}
use Rattle.parity_units.specs.Split.{parts}
use Rattle.parity_units.specs.Replies.{how_many}
use Rattle.crc.specs.Crc.{crc_bit, crc_step}
use Rattle.chunk.specs.Header.{legal_size, legal, headed, ends, confirmed, at_end}
use Rattle.chunk.specs.Reading.{listed, skipped_from, listed_words}
use Rattle.chunk.specs.Examples.{listing}
use Rattle.health.specs.Packet.{sound_packet, packet_crc}
use Rattle.health_places.specs.Packets.{packet_places, chunk_places, places_of, sound_of}
use Rattle.frame.specs.Shape.{joining, frame_of, frame_chunks, closes, closing, complete}
use Rattle.frame.specs.Picture.{units_of}
use Rattle.frame.specs.Pieces.{frames_and_strays}
use Rattle.tally_recording.specs.declared.Tally.{Tally}
use Rattle.tally_recording.specs.Numbers.{how_often, each}
use Rattle.tally_recording.specs.Tally.{chunk_numbers, packet_numbers, unit_numbers, images, tally_of}

-- one image chunk of camera 1 and one health chunk, which does not complete its frame; one unit, which is sound
abbrev pub counted : Tally
counted =
    record {
      recordings = 1;
      words = 46;
      skipped = 1;
      chunks = 0 ∷ 1 ∷ 0 ∷ 0 ∷ 1 ∷ [];
      complete = 0;
      cut = 1;
      strays = 0;
      packets = replicate 15 0;
      units = 1 ∷ 0 ∷ 0 ∷ 0 ∷ [];
    }

pub listing_tallied : tally_of 0x5AF3 listing ≡ counted
unfolding tally_of chunk_numbers packet_numbers unit_numbers images how_often each listed skipped_from listed_words at_end confirmed headed ends legal legal_size frames_and_strays complete closing closes frame_chunks frame_of joining units_of parts how_many judge_reply judge_verdict answer finding five_cases sum_all first_of row_differs column_differs bit_from row_parity column_parity places_of chunk_places packet_places sound_of sound_packet packet_crc crc_bit crc_step xor_all
listing_tallied = refl
