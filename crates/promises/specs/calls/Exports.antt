-- The functions of `exports`, which C links: the contract, what the caller sees, and the definition that says it.
use Rattle.std.specs.Prelude.{ℕ, List, length}
use Rattle.std.proofs.Math.Option.{some}
use Rattle.base.specs.Refusal.{Causes}
use Rattle.crc.specs.Crc as crc
use Rattle.parity.specs.Unit.{refused, judge_causes, judge_reply, check_causes, check_reply, check_room, write_causes, write_reply, write_room}
use Rattle.chunk_reading.specs.Counting.{survey_causes, survey_reply}
use Rattle.chunk_outline.specs.Outline.{outline_causes, outline_reply}
use Rattle.frame_reading.specs.Replies as frame
use Rattle.reel.specs.Reading as reel
use Rattle.reel_writing.specs.Writing as reels
use Rattle.health_last.specs.Last.{last_causes, last_place_reply}
use Rattle.command_reading.specs.Reading as reading
use Rattle.command_writing.specs.Writing as writing
use Rattle.exports.specs.Reply.{in_bytes, refusal_in}
use Rattle.exports.specs.Answer as says
use Rattle.exports.specs.contracts.hawserfen_judge_unit as judge_unit_contract
use Rattle.exports.proofs.hawserfen_judge_unit.Reads as judge_unit_reads
use Rattle.exports.specs.contracts.hawserfen_check_unit as check_unit_contract
use Rattle.exports.proofs.hawserfen_check_unit.Reads as check_unit_reads
use Rattle.exports.specs.contracts.hawserfen_crc_words as crc_words_contract
use Rattle.exports.proofs.hawserfen_crc_words.Reads as crc_words_reads
use Rattle.exports.specs.contracts.hawserfen_crc_bytes as crc_bytes_contract
use Rattle.exports.proofs.hawserfen_crc_bytes.Reads as crc_bytes_reads
use Rattle.exports.specs.contracts.hawserfen_write_unit as write_unit_contract
use Rattle.exports.proofs.hawserfen_write_unit.Reads as write_unit_reads
use Rattle.exports.specs.contracts.recordings.hawserfen_survey as survey_contract
use Rattle.exports.proofs.recordings.hawserfen_survey.Reads as survey_reads
use Rattle.exports.specs.contracts.recordings.hawserfen_outline as outline_contract
use Rattle.exports.proofs.recordings.hawserfen_outline.Reads as outline_reads
use Rattle.exports.specs.contracts.recordings.hawserfen_read_frame as read_frame_contract
use Rattle.exports.proofs.recordings.hawserfen_read_frame.Reads as read_frame_reads
use Rattle.exports.specs.contracts.recordings.hawserfen_write_reel as write_reel_contract
use Rattle.exports.proofs.recordings.hawserfen_write_reel.Reads as write_reel_reads
use Rattle.exports.specs.contracts.recordings.hawserfen_read_reel as read_reel_contract
use Rattle.exports.proofs.recordings.hawserfen_read_reel.Reads as read_reel_reads
use Rattle.exports.specs.contracts.packets.hawserfen_last_place as last_place_contract
use Rattle.exports.proofs.packets.hawserfen_last_place.Reads as last_place_reads
use Rattle.exports.specs.contracts.packets.hawserfen_read_packet as read_packet_contract
use Rattle.exports.proofs.packets.hawserfen_read_packet.Reads as read_packet_reads
use Rattle.exports.specs.contracts.commands.hawserfen_read_command as read_command_contract
use Rattle.exports.proofs.commands.hawserfen_read_command.Reads as read_command_reads
use Rattle.exports.specs.contracts.commands.hawserfen_write_command as write_command_contract
use Rattle.exports.proofs.commands.hawserfen_write_command.Reads as write_command_reads
use Rattle.promises.specs.Ties.{Function, replies, Told, Call, replies_or_refuses, shows_or_refuses}

-- `exports::hawserfen_judge_unit`
abbrev pub judge_unit : Call
judge_unit =
    replies_or_refuses judge_unit_contract.ended judge_unit_reads.Asked judge_unit_reads.Post
    λ κs (unit, _).
    record {
      defined = in_bytes (judge_reply unit.now);
      causes = judge_causes unit.now;
      refused = λ v. in_bytes (refused v);
      number = some refusal_in;
    }

-- `exports::hawserfen_check_unit`
abbrev pub check_unit : Call
check_unit =
    shows_or_refuses check_unit_contract.ended check_unit_reads.Asked check_unit_reads.Post
    (ℕ × List ℕ) (λ κs x (_, (room, _)). (x, room.now))
    λ κs (unit, (room, _)).
    record {
      defined = (in_bytes (check_reply unit.now (length room.now)), check_room unit.now room.now);
      causes = check_causes unit.now (length room.now);
      refused = λ v. (in_bytes (refused v), room.now);
      number = some λ (x, _). refusal_in x;
    }

-- ---- the answers of four words

-- a refusal has its number, and three zeros below it
abbrev pub told : ℕ → Causes → Told ℕ
told n cs = record { defined = n; causes = cs; refused = λ v. says.in_words v 0 0 0; number = some says.refusal_of }

-- and what is lent is as it was
abbrev pub told_and_left : {A : Type 0} → ℕ → A → A → Causes → Told (ℕ × A)
told_and_left n after before cs =
    record { defined = (n, after); causes = cs; refused = λ v. (says.in_words v 0 0 0, before); number = some λ (x, _). says.refusal_of x }

-- `exports::hawserfen_crc_words`
abbrev pub crc_words : Function
crc_words =
    replies crc_words_contract.ended crc_words_reads.Asked crc_words_reads.Post
    λ κs (start, (message, _)). crc.crc_words start message.now

-- `exports::hawserfen_crc_bytes`
abbrev pub crc_bytes : Function
crc_bytes =
    replies crc_bytes_contract.ended crc_bytes_reads.Asked crc_bytes_reads.Post
    λ κs (start, (message, _)). crc.crc_bytes start message.now

-- `exports::hawserfen_write_unit`
abbrev pub write_unit : Call
write_unit =
    shows_or_refuses write_unit_contract.ended write_unit_reads.Asked write_unit_reads.Post
    (ℕ × List ℕ) (λ κs x (_, (room, _)). (x, room.now))
    λ κs (words, (room, _)).
    told_and_left (says.written (write_reply (length words.now) (length room.now)))
    (write_room words.now room.now) room.now
    (write_causes (length words.now) (length room.now))

-- `exports::recordings::hawserfen_survey`
abbrev pub survey : Call
survey =
    replies_or_refuses survey_contract.ended survey_reads.Asked survey_reads.Post
    λ κs (recording, (sync, _)).
    told (says.surveyed (survey_reply sync recording.now)) (survey_causes recording.now)

-- `exports::recordings::hawserfen_outline`
abbrev pub outline : Call
outline =
    replies_or_refuses outline_contract.ended outline_reads.Asked outline_reads.Post
    λ κs (recording, (sync, _)).
    told (says.outlined (outline_reply sync recording.now)) (outline_causes recording.now)

-- `exports::recordings::hawserfen_read_frame`
abbrev pub read_frame : Call
read_frame =
    shows_or_refuses read_frame_contract.ended read_frame_reads.Asked read_frame_reads.Post
    (ℕ × List ℕ) (λ κs x (_, (_, (_, (room, _)))). (x, room.now))
    λ κs (recording, (sync, (place, (room, _)))).
    told_and_left (says.framed (frame.read_reply sync recording.now place (length room.now)))
    (frame.read_room sync recording.now place room.now) room.now
    (frame.read_causes sync recording.now place (length room.now))

-- `exports::recordings::hawserfen_write_reel`
abbrev pub write_reel : Call
write_reel =
    shows_or_refuses write_reel_contract.ended write_reel_reads.Asked write_reel_reads.Post
    (ℕ × List ℕ) (λ κs x (_, (_, (room, _))). (x, room.now))
    λ κs (recording, (sync, (room, _))).
    told_and_left (says.written (reels.write_reply sync recording.now (length room.now)))
    (reels.write_room sync recording.now room.now) room.now
    (reels.write_causes sync recording.now (length room.now))

-- `exports::recordings::hawserfen_read_reel`
abbrev pub read_reel : Call
read_reel =
    replies_or_refuses read_reel_contract.ended read_reel_reads.Asked read_reel_reads.Post
    λ κs (words, (sync, _)).
    told (says.reeled (reel.read_reply sync words.now)) (reel.read_causes sync words.now)

-- `exports::packets::hawserfen_last_place`
abbrev pub last_place : Call
last_place =
    replies_or_refuses last_place_contract.ended last_place_reads.Asked last_place_reads.Post
    λ κs (science, (sync, (health, (type, _)))).
    told (says.placed (last_place_reply sync science.now health.now type)) (last_causes sync science.now health.now type)

-- `exports::packets::hawserfen_read_packet`
abbrev pub read_packet : Call
read_packet =
    shows_or_refuses read_packet_contract.ended read_packet_reads.Asked read_packet_reads.Post
    (ℕ × List ℕ) (λ κs x (_, (room, _)). (x, room.now))
    λ κs (packet, (room, _)).
    told_and_left (says.packet_reply packet.now (length room.now))
    (says.packet_room packet.now room.now) room.now
    (says.packet_causes packet.now (length room.now))

-- `exports::commands::hawserfen_read_command`
abbrev pub read_command : Call
read_command =
    shows_or_refuses read_command_contract.ended read_command_reads.Asked read_command_reads.Post
    (ℕ × ℕ) (λ κs x (_, (_, (_, (fields, _)))). (x, fields.now))
    λ κs (catalogue, (mode, (bytes, (fields, _)))).
    told_and_left (says.commanded (reading.read_reply catalogue mode bytes.now))
    (says.fields_after (reading.read_reply catalogue mode bytes.now) fields.now) fields.now
    (reading.read_causes catalogue mode bytes.now)

-- `exports::commands::hawserfen_write_command`
abbrev pub write_command : Call
write_command =
    shows_or_refuses write_command_contract.ended write_command_reads.Asked write_command_reads.Post
    (ℕ × List ℕ) (λ κs x (_, (_, (_, (_, (room, _))))). (x, room.now))
    λ κs (catalogue, (mode, (fields, (further, (room, _))))).
    told_and_left (says.sent (writing.write_reply catalogue mode (says.unpacked fields) further.now (length room.now)))
    (writing.write_room catalogue mode (says.unpacked fields) further.now room.now) room.now
    (writing.write_causes catalogue mode (says.unpacked fields) further.now (length room.now))
