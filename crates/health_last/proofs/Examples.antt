-- Worked examples, by computation: a science recording of one health chunk, alone or before an image chunk, and a health recording of one packet or two.
use Rattle.std.specs.Prelude.{◌≡◌, ℕ, true, false, [], ◌∷◌, ◌++◌, replicate, refl}
use Rattle.std.proofs.Common.{eq-eqb}
use Rattle.base.specs.Refusal.{answer}
use Rattle.crc.specs.Crc.{crc_bit, crc_step}
use Rattle.chunk.specs.Header.{legal_size, legal, headed, ends, confirmed, at_end}
use Rattle.chunk.specs.Reading.{listed}
use Rattle.health.specs.Packet.{body_width, packet_crc, sound_packet}
use Rattle.health.specs.Writing.{written_crc}
use Rattle.health_places.specs.Packets.{packet_places, chunk_places, places_of, sound_of}
use Rattle.health_last.specs.Packets.{in_end, science_end, last_where}
use Rattle.health_last.specs.Last.{place, refused, newer, time_at, place_in, shown, newest, last_place_reply}
use Rattle.health_last.specs.Examples.{packet, asked, between}

-- its CRC is right, whatever its time
pub sound : (time : ℕ) → sound_packet (packet 4 time) ≡ true
unfolding packet sound_packet packet_crc written_crc
sound time = let crc = written_crc 4 time (replicate body_width 0) in simp (eq-eqb crc crc refl)

-- the health recording's is newer where it lies 1 to 32,767 after the other, over the counter's turn too
pub after : (between 0 1 ≡ place 0 2 0 false) × (between 0 32767 ≡ place 0 2 0 false) × (between 0xFFFF 0x0000 ≡ place 0 2 0 false)
unfolding between asked packet last_place_reply newest shown place_in time_at newer answer last_where packet_places chunk_places places_of in_end science_end sound_of listed at_end confirmed headed ends legal legal_size
after = (rw (sound 0, sound 1), rw (sound 0, sound 32767), rw (sound 0xFFFF, sound 0x0000))

-- half a turn apart nothing is shown
pub half : (between 0 32768 ≡ refused 2) × (between 32768 0 ≡ refused 2)
unfolding between asked packet last_place_reply newest shown place_in time_at newer answer last_where packet_places chunk_places places_of in_end science_end sound_of listed at_end confirmed headed ends legal legal_size
half = (rw (sound 0, sound 32768), rw (sound 32768, sound 0))

-- more than half a turn after it, which is before it, or at the same time, the science recording's is shown
pub before : (between 0 32769 ≡ place 0 1 2 true) × (between 1 0 ≡ place 0 1 2 true) × (between 0x0000 0xFFFF ≡ place 0 1 2 true) × (between 5 5 ≡ place 0 1 2 true)
unfolding between asked packet last_place_reply newest shown place_in time_at newer answer last_where packet_places chunk_places places_of in_end science_end sound_of listed at_end confirmed headed ends legal legal_size
before = (rw (sound 0, sound 32769), rw (sound 1, sound 0), rw (sound 0x0000, sound 0xFFFF), rw (sound 5))

-- it has the mark, for its chunk ends with the recording; and none where an image chunk follows its chunk
pub followed : asked (0x5AF3 ∷ 0x8020 ∷ packet 4 7 ++ 0x5AF3 ∷ 0x2009 ∷ replicate 9 0) [] ≡ place 0 1 2 false
unfolding asked packet last_place_reply newest shown place_in time_at newer answer last_where packet_places chunk_places places_of in_end science_end sound_of listed at_end confirmed headed ends legal legal_size
followed = rw (sound 7)

-- the last packet by place is compared, though an earlier one of the health recording is newer
pub both : asked (0x5AF3 ∷ 0x8020 ∷ packet 4 7) (packet 4 8 ++ packet 4 6) ≡ place 0 1 2 true
unfolding asked packet last_place_reply newest shown place_in time_at newer answer last_where packet_places chunk_places places_of in_end science_end sound_of listed at_end confirmed headed ends legal legal_size
both = rw (sound 7, sound 6)

-- or an earlier one of the science recording
pub by_place : asked (0x5AF3 ∷ 0x8040 ∷ packet 4 9 ++ packet 4 3) (packet 4 5) ≡ place 0 2 0 false
unfolding asked packet last_place_reply newest shown place_in time_at newer answer last_where packet_places chunk_places places_of in_end science_end sound_of listed at_end confirmed headed ends legal legal_size
by_place = rw (sound 3, sound 5)

-- the science recording's packet is of another type, and so is the second in the health recording
pub other : asked (0x5AF3 ∷ 0x8020 ∷ packet 5 1) (packet 4 0 ++ packet 5 0) ≡ place 0 2 0 false
unfolding asked packet last_place_reply newest shown place_in time_at newer answer last_where packet_places chunk_places places_of in_end science_end sound_of sound_packet packet_crc written_crc crc_bit crc_step listed at_end confirmed headed ends legal legal_size
other = refl

-- a packet in no listed health chunk does not count; the last of two is at place 32
pub unlisted : (asked (packet 4 0) [] ≡ refused 2) × (asked (packet 4 0) (packet 4 0 ++ packet 4 0) ≡ place 0 2 32 false)
unfolding asked packet last_place_reply newest shown place_in time_at newer answer last_where packet_places chunk_places places_of in_end science_end sound_of sound_packet packet_crc written_crc crc_bit crc_step listed at_end confirmed headed ends legal legal_size
unlisted = (refl, refl)
