-- The functions of `frame` and `frame_reading`: the contract, what the caller sees, and the definition that says it.
use Rattle.std.specs.Prelude.{ℕ, List, length}
use Rattle.std.proofs.Math.Option.{some}
use Rattle.frame.specs.declared.Piece.{Piece}
use Rattle.frame.specs.declared.walk.Pieces.{Pieces}
use Rattle.frame_reading.specs.declared.Frame.{Frame}
use Rattle.frame.specs.Shape as shape
use Rattle.frame.specs.Pieces.{next_piece, piece_past}
use Rattle.frame_reading.specs.Replies.{refused, at_causes, at_reply, judge_causes, judge_reply, read_causes, read_reply, read_room}
use Rattle.frame.specs.contracts.starts as starts_contract
use Rattle.frame.proofs.starts.Reads as starts_reads
use Rattle.frame.specs.contracts.pieces.next as next_contract
use Rattle.frame.proofs.pieces.next.Reads as next_reads
use Rattle.frame.specs.contracts.pieces.pieces as pieces_contract
use Rattle.frame.proofs.pieces.pieces.Reads as pieces_reads
use Rattle.frame.specs.contracts.walk.PiecesIterator.TheImpl as pieces_walk
use Rattle.frame_reading.specs.contracts.at as at_contract
use Rattle.frame_reading.proofs.at.Reads as at_reads
use Rattle.frame_reading.specs.contracts.judge as judge_contract
use Rattle.frame_reading.proofs.judge.Reads as judge_reads
use Rattle.frame_reading.specs.contracts.read as read_contract
use Rattle.frame_reading.proofs.read.Reads as read_reads
use Rattle.promises.specs.Ties.{Function, replies, shows, Call, replies_or_refuses, shows_or_refuses, Walk}

-- `frame::starts`
abbrev pub starts : Function
starts =
    replies starts_contract.ended starts_reads.Asked starts_reads.Post
    λ κs (header, _). shape.starts header

-- `frame::pieces::next`
abbrev pub next : Function
next =
    replies next_contract.ended next_reads.Asked next_reads.Post
    λ κs (words, (sync, (from, _))). next_piece sync words.now from.0

-- `frame::pieces::pieces`: the words, the sync word and the place of the walk
abbrev pub pieces : Function
pieces =
    shows pieces_contract.ended pieces_reads.Asked pieces_reads.Post
    (List ℕ × (ℕ × ℕ)) (λ κs x e. (x.words.now, (x.sync, x.at.0))) λ κs (words, (sync, _)). (words.now, (sync, 0))

-- `frame::walk::Pieces::next`
abbrev pub pieces_next : Walk
pieces_next =
    record {
      State = Pieces;
      Item = Piece;
      gives = pieces_walk.ghosts.next_gives;
      words = λ s. s.words.now;
      sync = λ s. s.sync;
      at = λ s. s.at;
      found = next_piece;
      past = piece_past;
    }

-- `frame_reading::at`
abbrev pub at : Call
at =
    replies_or_refuses at_contract.ended at_reads.Asked at_reads.Post
    λ κs (recording, (sync, (place, _))).
    record {
      defined = at_reply sync recording.now place.0;
      causes = at_causes sync recording.now place.0;
      refused = refused;
      number = some λ x. x.refusal;
    }

-- `frame_reading::judge`
abbrev pub judge : Call
judge =
    replies_or_refuses judge_contract.ended judge_reads.Asked judge_reads.Post
    λ κs (recording, (sync, (place, _))).
    record {
      defined = judge_reply sync recording.now place.0;
      causes = judge_causes sync recording.now place.0;
      refused = refused;
      number = some λ x. x.refusal;
    }

-- `frame_reading::read`
abbrev pub read : Call
read =
    shows_or_refuses read_contract.ended read_reads.Asked read_reads.Post
    (Frame × List ℕ) (λ κs x (_, (_, (_, (room, _)))). (x, room.now))
    λ κs (recording, (sync, (place, (room, _)))).
    record {
      defined = (read_reply sync recording.now place.0 (length room.now), read_room sync recording.now place.0 room.now);
      causes = read_causes sync recording.now place.0 (length room.now);
      refused = λ v. (refused v, room.now);
      number = some λ (x, _). x.refusal;
    }
