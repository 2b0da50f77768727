-- FORMAT, "The three demands", the first: every public call accepts every input and ends, and a refusal has its number, in order, with zeros beside it and
-- nothing altered. That each ends is its own proof. The rest stands here, of each public function under its name, but of those that read or write a
-- descriptor or a file: nothing can be said of what comes or goes there.
use Rattle.promises.specs.Ties.{Determined, Answers, Turned}
use Rattle.promises.specs.calls.Base as base
use Rattle.promises.specs.calls.Crc as crc
use Rattle.promises.specs.calls.Parity as parity
use Rattle.promises.specs.calls.Exports as exports
use Rattle.promises.specs.calls.Chunk as chunk
use Rattle.promises.specs.calls.Register as register
use Rattle.promises.specs.calls.Compare as compare
use Rattle.promises.specs.calls.Health as health
use Rattle.promises.specs.calls.Frame as frame
use Rattle.promises.specs.calls.Tally as tally
use Rattle.promises.specs.calls.SpacePacket as packet
use Rattle.promises.specs.calls.Command as command
use Rattle.promises.specs.calls.Event as event
use Rattle.promises.specs.calls.Reel as reel
use Rattle.promises.specs.calls.Program as program

-- The calls. Each accepts every input, and refuses what the rules refuse, with the first cause that applies in the order of FORMAT, "Refusal numbers"; beside
-- the number stand zeros, and what is lent is as it was. Else the number is 0, the answer is the definition's, and there is no other.
pub record Calls : Type 0 where
  pub survey : Answers chunk.survey
  pub chunk_at : Answers chunk.at
  pub payload : Answers chunk.payload
  pub write_chunk : Answers chunk.write_chunk
  pub list : Answers register.list
  pub outline : Answers chunk.outline
  pub compare_recordings : Answers compare.recordings
  pub write_unit : Answers parity.write_unit
  pub judge_unit : Answers parity.judge_unit
  pub check_unit : Answers parity.check_unit
  pub hawserfen_judge_unit : Answers exports.judge_unit
  pub hawserfen_check_unit : Answers exports.check_unit
  pub hawserfen_write_unit : Answers exports.write_unit
  pub hawserfen_survey : Answers exports.survey
  pub hawserfen_outline : Answers exports.outline
  pub hawserfen_read_frame : Answers exports.read_frame
  pub hawserfen_write_reel : Answers exports.write_reel
  pub hawserfen_read_reel : Answers exports.read_reel
  pub hawserfen_last_place : Answers exports.last_place
  pub hawserfen_read_packet : Answers exports.read_packet
  pub hawserfen_read_command : Answers exports.read_command
  pub hawserfen_write_command : Answers exports.write_command
  pub judge_packet : Answers health.judge
  pub read_packet : Answers health.read_packet
  pub write_packet : Answers health.write_packet
  pub observation : Answers health.observation
  pub checksums_refusal : Answers health.checksums_refusal
  pub checksums : Answers health.checksums
  pub upsets : Answers health.upsets
  pub last_place : Answers health.last_place
  pub last_packet : Answers health.last_packet
  pub frame_at : Answers frame.at
  pub judge_frame : Answers frame.judge
  pub read_frame : Answers frame.read
  pub tally_of : Answers tally.of
  pub tally_added : Answers tally.added
  pub add_to_tally : Answers tally.add
  pub judge_command : Answers command.judge
  pub command_first : Answers command.first
  pub read_command : Answers command.read
  pub further : Answers command.further
  pub write_command : Answers command.write
  pub read_head : Answers event.read_head
  pub read_slot : Answers event.read_slot
  pub read_event : Answers event.read_event
  pub write_events : Answers event.write_events
  pub read_reel : Answers reel.read
  pub write_reel : Answers reel.write
  pub input_words : Answers program.words

-- The building blocks, with which calls and programs step. They take words, numbers and tests, and every input is good: there is nothing to refuse. The
-- answer is the definition's, and there is no other.
pub record Total : Type 0 where
  pub cause : Determined base.cause
  pub settle : Determined base.settle
  pub too_long : Determined base.too_long
  pub word : Determined base.word
  pub high_byte : Determined base.high_byte
  pub low_byte : Determined base.low_byte
  pub low_word : Determined base.low_word
  pub either : Determined base.either
  pub word_at : Determined base.word_at
  pub byte_at : Determined base.byte_at
  pub put_words : Determined base.put_words
  pub put_joined : Determined base.put_joined
  pub put_bytes : Determined base.put_bytes
  pub eight : Determined crc.eight
  pub sixteen : Determined crc.sixteen
  pub sixty_four : Determined crc.sixty_four
  pub crc_words : Determined crc.words
  pub crc_bytes : Determined crc.bytes
  pub hawserfen_crc_words : Determined exports.crc_words
  pub hawserfen_crc_bytes : Determined exports.crc_bytes
  pub rows_parity : Determined parity.rows_parity
  pub stated_parity : Determined parity.stated
  pub parity_words : Determined parity.parity_words
  pub data_words : Determined parity.data_words
  pub damaged : Determined parity.damaged
  pub inspect_units : Determined parity.inspect
  pub join : Determined parity.join
  pub copy : Determined parity.copy
  pub count_units : Determined parity.count
  pub size_of : Determined chunk.size_of
  pub camera_of : Determined chunk.camera_of
  pub kind_of : Determined chunk.kind_of
  pub legal_size : Determined chunk.legal_size
  pub check : Determined chunk.check
  pub is_chunk : Determined chunk.is_chunk
  pub is_at_end : Determined chunk.is_at_end
  pub next_chunk : Determined chunk.next
  pub chunks : Determined chunk.chunks
  pub refused_survey : Determined chunk.refused
  pub count_chunks : Determined chunk.count
  pub is_listed : Determined chunk.is_listed
  pub compare_chunks : Determined compare.chunks
  pub said_pair : Determined compare.said
  pub sound_at : Determined health.sound_at
  pub starts : Determined frame.starts
  pub next_piece : Determined frame.next
  pub pieces : Determined frame.pieces
  pub empty_tally : Determined tally.empty
  pub tally_numbers : Determined tally.numbers
  pub tally_from_numbers : Determined tally.from_numbers
  pub packet_word_at : Determined packet.word_at
  pub long_at : Determined packet.long_at
  pub header_wrong : Determined packet.header_wrong
  pub crc_wrong : Determined packet.crc_wrong
  pub settle_sent : Determined packet.settle
  pub put_sealed : Determined packet.put_sealed
  pub fields_in : Determined command.fields_in
  pub asked_wrong : Determined command.asked_wrong
  pub head_in : Determined event.head_in
  pub slot_in : Determined event.slot_in
  pub event_in : Determined event.event_in
  pub out_to : Determined program.to
  pub append : Determined program.append
  pub append_number : Determined program.append_number

-- The walks, by which calls and programs go through a recording: a turn of each gives what the building block of its step gives, and goes on past it.
pub record Walks : Type 0 where
  pub chunks_next : Turned chunk.chunks_next
  pub pieces_next : Turned frame.pieces_next

pub record Demand1 : Type 0 where
  pub calls : Calls
  pub blocks : Total
  pub walks : Walks
