-- The functions of `space_packet`: the contract, what the caller sees, and the definition that says it.
use Rattle.std.specs.Prelude.{ℕ, List, ◌++◌}
use Rattle.base_room.specs.Room.{put}
use Rattle.space_packet.specs.Layout.{word, long, number_at}
use Rattle.space_packet.specs.Header as header
use Rattle.space_packet.specs.Reply.{settled}
use Rattle.space_packet.specs.contracts.word_at as word_at_contract
use Rattle.space_packet.proofs.word_at.Reads as word_at_reads
use Rattle.space_packet.specs.contracts.long_at as long_at_contract
use Rattle.space_packet.proofs.long_at.Reads as long_at_reads
use Rattle.space_packet.specs.contracts.header_wrong as header_wrong_contract
use Rattle.space_packet.proofs.header_wrong.Reads as header_wrong_reads
use Rattle.space_packet.specs.contracts.crc_wrong as crc_wrong_contract
use Rattle.space_packet.proofs.crc_wrong.Reads as crc_wrong_reads
use Rattle.space_packet.specs.contracts.settle as settle_contract
use Rattle.space_packet.proofs.settle.Reads as settle_reads
use Rattle.space_packet.specs.contracts.put_sealed as put_sealed_contract
use Rattle.space_packet.proofs.put_sealed.Reads as put_sealed_reads
use Rattle.promises.specs.Ties.{Function, replies, shows}

-- `space_packet::word_at`
abbrev pub word_at : Function
word_at =
    replies word_at_contract.ended word_at_reads.Asked word_at_reads.Post
    λ κs (bytes, (at, _)). number_at word bytes.now at.0

-- `space_packet::long_at`
abbrev pub long_at : Function
long_at =
    replies long_at_contract.ended long_at_reads.Asked long_at_reads.Post
    λ κs (bytes, (at, _)). number_at long bytes.now at.0

-- `space_packet::header_wrong`
abbrev pub header_wrong : Function
header_wrong =
    replies header_wrong_contract.ended header_wrong_reads.Asked header_wrong_reads.Post
    λ κs (id, (bytes, _)). header.header_wrong id bytes.now

-- `space_packet::crc_wrong`
abbrev pub crc_wrong : Function
crc_wrong =
    replies crc_wrong_contract.ended crc_wrong_reads.Asked crc_wrong_reads.Post
    λ κs (bytes, _). header.crc_wrong bytes.now

-- `space_packet::settle`
abbrev pub settle : Function
settle =
    replies settle_contract.ended settle_reads.Asked settle_reads.Post
    λ κs (verdict, (length, _)). settled verdict length.0

-- `space_packet::put_sealed`
abbrev pub put_sealed : Function
put_sealed =
    shows put_sealed_contract.ended put_sealed_reads.Asked put_sealed_reads.Post
    (List ℕ) (λ κs x (_, (_, (room, _))). room.now)
    λ κs (front, (rest, (room, _))). put (header.sealed (front.now ++ rest.now)) 0 room.now
