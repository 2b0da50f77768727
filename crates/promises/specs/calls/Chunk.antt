-- The functions of `chunk`, `chunk_reading`, `chunk_writing` and `chunk_outline`: the contract, what the caller sees, and the definition that says it.
use Rattle.std.specs.Prelude.{ℕ, false, List, [], length, drop}
use Rattle.std.proofs.Math.Option.{none, some}
use Rattle.base.specs.declared.Words.{Words}
use Rattle.base.specs.declared.Written.{Written}
use Rattle.base.specs.Refusal.{wrote}
use Rattle.chunk.specs.declared.Entry.{Entry}
use Rattle.chunk.specs.declared.walk.Chunks.{Chunks}
use Rattle.chunk.specs.Header as header
use Rattle.chunk.specs.Reading.{listed_at, next_from}
use Rattle.chunk_reading.specs.Counting as counting
use Rattle.chunk_reading.specs.Place as place
use Rattle.chunk_writing.specs.Writing.{write_causes, write_reply, write_room}
use Rattle.chunk_outline.specs.Outline.{outline_causes, counted, outline_reply}
use Rattle.chunk.specs.contracts.header.size_of as size_of_contract
use Rattle.chunk.proofs.header.size_of.Reads as size_of_reads
use Rattle.chunk.specs.contracts.header.camera_of as camera_of_contract
use Rattle.chunk.proofs.header.camera_of.Reads as camera_of_reads
use Rattle.chunk.specs.contracts.header.kind_of as kind_of_contract
use Rattle.chunk.proofs.header.kind_of.Reads as kind_of_reads
use Rattle.chunk.specs.contracts.header.legal_size as legal_size_contract
use Rattle.chunk.proofs.header.legal_size.Reads as legal_size_reads
use Rattle.chunk.specs.contracts.header.check as check_contract
use Rattle.chunk.proofs.header.check.Reads as check_reads
use Rattle.chunk.specs.contracts.header.is_chunk as is_chunk_contract
use Rattle.chunk.proofs.header.is_chunk.Reads as is_chunk_reads
use Rattle.chunk.specs.contracts.header.is_at_end as is_at_end_contract
use Rattle.chunk.proofs.header.is_at_end.Reads as is_at_end_reads
use Rattle.chunk.specs.contracts.search.next as next_contract
use Rattle.chunk.proofs.search.next.Reads as next_reads
use Rattle.chunk.specs.contracts.search.chunks as chunks_contract
use Rattle.chunk.proofs.search.chunks.Reads as chunks_reads
use Rattle.chunk.specs.contracts.walk.ChunksIterator.TheImpl as chunks_walk
use Rattle.chunk_reading.specs.contracts.counting.refused as refused_contract
use Rattle.chunk_reading.proofs.counting.refused.Reads as refused_reads
use Rattle.chunk_reading.specs.contracts.counting.count as count_contract
use Rattle.chunk_reading.proofs.counting.count.Reads as count_reads
use Rattle.chunk_reading.specs.contracts.counting.survey as survey_contract
use Rattle.chunk_reading.proofs.counting.survey.Reads as survey_reads
use Rattle.chunk_reading.specs.contracts.place.is_listed as is_listed_contract
use Rattle.chunk_reading.proofs.place.is_listed.Reads as is_listed_reads
use Rattle.chunk_reading.specs.contracts.place.at as at_contract
use Rattle.chunk_reading.proofs.place.at.Reads as at_reads
use Rattle.chunk_reading.specs.contracts.place.payload as payload_contract
use Rattle.chunk_reading.proofs.place.payload.Reads as payload_reads
use Rattle.chunk_writing.specs.contracts.write_chunk as write_chunk_contract
use Rattle.chunk_writing.proofs.write_chunk.Reads as write_chunk_reads
use Rattle.chunk_outline.specs.contracts.outline as outline_contract
use Rattle.chunk_outline.proofs.outline.Reads as outline_reads
use Rattle.promises.specs.Ties.{Function, replies, shows, Call, replies_or_refuses, shows_or_refuses, Walk}

-- `chunk::header::size_of`
abbrev pub size_of : Function
size_of =
    shows size_of_contract.ended size_of_reads.Asked size_of_reads.Post
    ℕ (λ κs x e. x.0) λ κs (word, _). header.size word

-- `chunk::header::camera_of`
abbrev pub camera_of : Function
camera_of =
    replies camera_of_contract.ended camera_of_reads.Asked camera_of_reads.Post
    λ κs (word, _). header.camera word

-- `chunk::header::kind_of`
abbrev pub kind_of : Function
kind_of =
    replies kind_of_contract.ended kind_of_reads.Asked kind_of_reads.Post
    λ κs (word, _). header.kind word

-- `chunk::header::legal_size`
abbrev pub legal_size : Function
legal_size =
    replies legal_size_contract.ended legal_size_reads.Asked legal_size_reads.Post
    λ κs (kind, (size, _)). header.legal_size kind size.0

-- `chunk::header::check`
abbrev pub check : Function
check =
    replies check_contract.ended check_reads.Asked check_reads.Post
    λ κs (words, (sync, (at, _))). header.check_at sync (drop at.0 words.now)

-- `chunk::header::is_chunk`
abbrev pub is_chunk : Function
is_chunk =
    replies is_chunk_contract.ended is_chunk_reads.Asked is_chunk_reads.Post
    λ κs (check, _). header.is_chunk check

-- `chunk::header::is_at_end`
abbrev pub is_at_end : Function
is_at_end =
    replies is_at_end_contract.ended is_at_end_reads.Asked is_at_end_reads.Post
    λ κs (check, _). header.is_at_end check

-- `chunk::search::next`
abbrev pub next : Function
next =
    replies next_contract.ended next_reads.Asked next_reads.Post
    λ κs (words, (sync, (from, _))). next_from sync words.now from.0

-- `chunk::search::chunks`: the words, the sync word and the place of the walk
abbrev pub chunks : Function
chunks =
    shows chunks_contract.ended chunks_reads.Asked chunks_reads.Post
    (List ℕ × (ℕ × ℕ)) (λ κs x e. (x.words.now, (x.sync, x.at.0))) λ κs (words, (sync, _)). (words.now, (sync, 0))

-- `chunk::walk::Chunks::next`
abbrev pub chunks_next : Walk
chunks_next =
    record {
      State = Chunks;
      Item = Entry × Words;
      gives = chunks_walk.ghosts.next_gives;
      words = λ s. s.words.now;
      sync = λ s. s.sync;
      at = λ s. s.at;
      found = next_from;
      past = λ x. x.1;
    }

-- `chunk_reading::counting::refused`
abbrev pub refused : Function
refused =
    replies refused_contract.ended refused_reads.Asked refused_reads.Post
    λ κs (number, _). counting.refused number

-- `chunk_reading::counting::count`
abbrev pub count : Function
count =
    replies count_contract.ended count_reads.Asked count_reads.Post
    λ κs (words, (sync, _)). counting.count_reply sync words.now

-- `chunk_reading::counting::survey`
abbrev pub survey : Call
survey =
    replies_or_refuses survey_contract.ended survey_reads.Asked survey_reads.Post
    λ κs (recording, (sync, _)).
    record {
      defined = counting.survey_reply sync recording.now;
      causes = counting.survey_causes recording.now;
      refused = λ v. counting.surveyed v 0 0 false;
      number = some λ x. x.refusal;
    }

-- `chunk_reading::place::is_listed`
abbrev pub is_listed : Function
is_listed =
    replies is_listed_contract.ended is_listed_reads.Asked is_listed_reads.Post
    λ κs (words, (sync, (p, _))). listed_at sync words.now p.0

-- `chunk_reading::place::at`
abbrev pub at : Call
at =
    replies_or_refuses at_contract.ended at_reads.Asked at_reads.Post
    λ κs (recording, (sync, (p, _))).
    record {
      defined = place.at_reply sync recording.now p.0;
      causes = place.at_causes sync recording.now p.0;
      refused = λ v. place.heading v 0 0 0 false;
      number = some λ x. x.refusal;
    }

-- `chunk_reading::place::payload`
abbrev pub payload : Call
payload =
    shows_or_refuses payload_contract.ended payload_reads.Asked payload_reads.Post
    (List ℕ) (λ κs x e. x.now)
    λ κs (recording, (sync, (p, _))).
    record {
      defined = place.payload_reply sync recording.now p.0;
      causes = place.at_causes sync recording.now p.0;
      refused = λ v. [];
      number = none;
    }

-- `chunk_writing::write_chunk`
abbrev pub write_chunk : Call
write_chunk =
    shows_or_refuses write_chunk_contract.ended write_chunk_reads.Asked write_chunk_reads.Post
    (Written × List ℕ) (λ κs x (_, (_, (_, (_, (room, _))))). (x, room.now))
    λ κs (sync, (kind, (camera, (words, (room, _))))).
    record {
      defined = (write_reply kind camera (length words.now) (length room.now), write_room sync kind camera words.now room.now);
      causes = write_causes kind camera (length words.now) (length room.now);
      refused = λ v. (wrote v 0, room.now);
      number = some λ (x, _). x.refusal;
    }

-- `chunk_outline::outline`
abbrev pub outline : Call
outline =
    replies_or_refuses outline_contract.ended outline_reads.Asked outline_reads.Post
    λ κs (recording, (sync, _)).
    record {
      defined = outline_reply sync recording.now;
      causes = outline_causes recording.now;
      refused = λ v. counted v 0 0;
      number = some λ x. x.refusal;
    }
