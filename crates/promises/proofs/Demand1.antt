-- Demand 1 is each family's ties.
use Rattle.promises.specs.Demand1.{Calls, Total, Walks, Demand1}
use Rattle.promises.proofs.calls.Base as base
use Rattle.promises.proofs.calls.Crc as crc
use Rattle.promises.proofs.calls.Parity as parity
use Rattle.promises.proofs.calls.Exports as exports
use Rattle.promises.proofs.calls.Chunk as chunk
use Rattle.promises.proofs.calls.Register as register
use Rattle.promises.proofs.calls.Compare as compare
use Rattle.promises.proofs.calls.Health as health
use Rattle.promises.proofs.calls.Frame as frame
use Rattle.promises.proofs.calls.Tally as tally
use Rattle.promises.proofs.calls.SpacePacket as packet
use Rattle.promises.proofs.calls.Command as command
use Rattle.promises.proofs.calls.Event as event
use Rattle.promises.proofs.calls.Reel as reel
use Rattle.promises.proofs.calls.Program as program

calls : Calls
calls =
    record {
      survey = chunk.survey;
      chunk_at = chunk.at;
      payload = chunk.payload;
      write_chunk = chunk.write-chunk;
      list = register.list;
      outline = chunk.outline;
      compare_recordings = compare.recordings;
      write_unit = parity.write-unit;
      judge_unit = parity.judge-unit;
      check_unit = parity.check-unit;
      hawserfen_judge_unit = exports.judge-unit;
      hawserfen_check_unit = exports.check-unit;
      hawserfen_write_unit = exports.write-unit;
      hawserfen_survey = exports.survey;
      hawserfen_outline = exports.outline;
      hawserfen_read_frame = exports.read-frame;
      hawserfen_write_reel = exports.write-reel;
      hawserfen_read_reel = exports.read-reel;
      hawserfen_last_place = exports.last-place;
      hawserfen_read_packet = exports.read-packet;
      hawserfen_read_command = exports.read-command;
      hawserfen_write_command = exports.write-command;
      judge_packet = health.judge;
      read_packet = health.read-packet;
      write_packet = health.write-packet;
      observation = health.observation;
      checksums_refusal = health.checksums-refusal;
      checksums = health.checksums;
      upsets = health.upsets;
      last_place = health.last-place;
      last_packet = health.last-packet;
      frame_at = frame.at;
      judge_frame = frame.judge;
      read_frame = frame.read;
      tally_of = tally.of;
      tally_added = tally.added;
      add_to_tally = tally.add;
      judge_command = command.judge;
      command_first = command.first;
      read_command = command.read;
      further = command.further;
      write_command = command.write;
      read_head = event.read-head;
      read_slot = event.read-slot;
      read_event = event.read-event;
      write_events = event.write-events;
      read_reel = reel.read;
      write_reel = reel.write;
      input_words = program.words;
    }

blocks : Total
blocks =
    record {
      cause = base.cause;
      settle = base.settle;
      too_long = base.too_long;
      word = base.word;
      high_byte = base.high_byte;
      low_byte = base.low-byte;
      low_word = base.low-word;
      either = base.either;
      word_at = base.word-at;
      byte_at = base.byte-at;
      put_words = base.put-words;
      put_joined = base.put-joined;
      put_bytes = base.put-bytes;
      eight = crc.eight;
      sixteen = crc.sixteen;
      sixty_four = crc.sixty-four;
      crc_words = crc.words;
      crc_bytes = crc.bytes;
      hawserfen_crc_words = exports.crc-words;
      hawserfen_crc_bytes = exports.crc-bytes;
      rows_parity = parity.rows-parity;
      stated_parity = parity.stated;
      parity_words = parity.parity-words;
      data_words = parity.data-words;
      damaged = parity.damaged;
      inspect_units = parity.inspect;
      join = parity.join;
      copy = parity.copy;
      count_units = parity.count;
      size_of = chunk.size-of;
      camera_of = chunk.camera-of;
      kind_of = chunk.kind-of;
      legal_size = chunk.legal-size;
      check = chunk.check;
      is_chunk = chunk.is-chunk;
      is_at_end = chunk.is-at-end;
      next_chunk = chunk.next;
      chunks = chunk.chunks;
      refused_survey = chunk.refused;
      count_chunks = chunk.count;
      is_listed = chunk.is-listed;
      compare_chunks = compare.chunks;
      said_pair = compare.said;
      sound_at = health.sound-at;
      starts = frame.starts;
      next_piece = frame.next;
      pieces = frame.pieces;
      empty_tally = tally.empty;
      tally_numbers = tally.numbers;
      tally_from_numbers = tally.from_numbers;
      packet_word_at = packet.word-at;
      long_at = packet.long-at;
      header_wrong = packet.header-wrong;
      crc_wrong = packet.crc-wrong;
      settle_sent = packet.settle;
      put_sealed = packet.put-sealed;
      fields_in = command.fields_in;
      asked_wrong = command.asked-wrong;
      head_in = event.head_in;
      slot_in = event.slot-in;
      event_in = event.event-in;
      out_to = program.to;
      append = program.append;
      append_number = program.append-number;
    }

walks : Walks
walks = record { chunks_next = chunk.chunks-next; pieces_next = frame.pieces-next }

pub demand-1 : Demand1
demand-1 = record { calls = calls; blocks = blocks; walks = walks }
