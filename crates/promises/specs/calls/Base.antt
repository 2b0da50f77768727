-- The functions of `base` and `base_room`: the contract, what the caller sees, and the definition that says it.
use Rattle.std.specs.Prelude.{ℕ, cond, refl, List, ◌++◌, get_or}
use Rattle.base.specs.Refusal.{settled}
use Rattle.base.specs.Limit as limit
use Rattle.base.specs.Number as number
use Rattle.base_room.specs.Room.{put}
use Rattle.base.specs.contracts.refusal.cause as cause_contract
use Rattle.base.proofs.refusal.cause.Reads as cause_reads
use Rattle.base.specs.contracts.refusal.settle as settle_contract
use Rattle.base.proofs.refusal.settle.Reads as settle_reads
use Rattle.base.specs.contracts.limit.too_long as too_long_contract
use Rattle.base.proofs.limit.too_long.Reads as too_long_reads
use Rattle.base.specs.contracts.number.word as word_contract
use Rattle.base.proofs.number.word.Reads as word_reads
use Rattle.base.specs.contracts.number.high_byte as high_byte_contract
use Rattle.base.proofs.number.high_byte.Reads as high_byte_reads
use Rattle.base.specs.contracts.number.low_byte as low_byte_contract
use Rattle.base.proofs.number.low_byte.Reads as low_byte_reads
use Rattle.base.specs.contracts.number.low_word as low_word_contract
use Rattle.base.proofs.number.low_word.Reads as low_word_reads
use Rattle.base.specs.contracts.number.either as either_contract
use Rattle.base.proofs.number.either.Reads as either_reads
use Rattle.base_room.specs.contracts.at as at_contract
use Rattle.base_room.proofs.at.Reads as at_reads
use Rattle.base_room.specs.contracts.put as put_contract
use Rattle.base_room.proofs.put.Reads as put_reads
use Rattle.base_room.specs.contracts.put_joined as put_joined_contract
use Rattle.base_room.proofs.put_joined.Reads as put_joined_reads
use Rattle.base_room.specs.contracts.U16Item.TheImpl as word_item
use Rattle.base_room.specs.contracts.U8Item.TheImpl as byte_item
use Rattle.std.specs.contracts.prelude.U16Clone.TheImpl as word_clone
use Rattle.std.specs.contracts.prelude.U8Clone.TheImpl as byte_clone
use denote.RattleType.{RattleType}
use denote.Struct.Field.{u16-field, u8-field}
use denote.Struct.Laws.{u16-laws, u16-copy, u8-laws, u8-copy}
use denote.Param.Laws.{Laws, IsCopy, of_field, of_copyable}
use denote.Param.Shared.{copy_shared}
use Rattle.promises.specs.Ties.{Function, replies, shows}

-- `base::refusal::cause`
abbrev pub cause : Function
cause =
    replies cause_contract.ended cause_reads.Asked cause_reads.Post
    λ κs (number, (holds, (others, _))). cond holds number others

-- `base::refusal::settle`
abbrev pub settle : Function
settle =
    replies settle_contract.ended settle_reads.Asked settle_reads.Post
    λ κs (verdict, (length, _)). settled verdict length.0

-- `base::limit::too_long`
abbrev pub too_long : Function
too_long =
    replies too_long_contract.ended too_long_reads.Asked too_long_reads.Post
    λ κs (recording, _). limit.too_long recording.now

-- `base::number::word`
abbrev pub word : Function
word =
    replies word_contract.ended word_reads.Asked word_reads.Post
    λ κs (high, (low, _)). number.word high low

-- `base::number::high_byte`
abbrev pub high_byte : Function
high_byte =
    replies high_byte_contract.ended high_byte_reads.Asked high_byte_reads.Post
    λ κs (w, _). number.high_byte w

-- `base::number::low_byte`
abbrev pub low_byte : Function
low_byte =
    replies low_byte_contract.ended low_byte_reads.Asked low_byte_reads.Post
    λ κs (w, _). number.low_byte w

-- `base::number::low_word`
abbrev pub low_word : Function
low_word =
    replies low_word_contract.ended low_word_reads.Asked low_word_reads.Post
    λ κs (x, _). number.low_word x

-- `base::number::either`
abbrev pub either : Function
either =
    replies either_contract.ended either_reads.Asked either_reads.Post
    λ κs (test, (one, (other, _))). cond test one other

-- The functions of `base_room` are for items of any type; here at words and at bytes: the type, its laws, and that it is copied.
abbrev pub words : RattleType
words = u16-field.row

abbrev pub word_laws : Laws words
word_laws = of_field u16-field u16-laws refl (copy_shared u16-field u16-copy)

abbrev pub word_copied : IsCopy words
word_copied = of_copyable u16-field u16-copy

abbrev pub bytes : RattleType
bytes = u8-field.row

abbrev pub byte_laws : Laws bytes
byte_laws = of_field u8-field u8-laws refl (copy_shared u8-field u8-copy)

abbrev pub byte_copied : IsCopy bytes
byte_copied = of_copyable u8-field u8-copy

-- `base_room::at`, of words
abbrev pub word_at : Function
word_at =
    replies
    (at_contract.ended words word_item.ghosts word_item.dict word_clone.ghosts word_clone.dict)
    (at_reads.Asked words word_laws word_copied word_item.ghosts word_item.dict word_clone.ghosts word_clone.dict)
    (at_reads.Post words word_laws word_copied word_item.ghosts word_item.dict word_clone.ghosts word_clone.dict)
    λ κs (items, (place, _)). get_or items.now place 0

-- `base_room::at`, of bytes
abbrev pub byte_at : Function
byte_at =
    replies
    (at_contract.ended bytes byte_item.ghosts byte_item.dict byte_clone.ghosts byte_clone.dict)
    (at_reads.Asked bytes byte_laws byte_copied byte_item.ghosts byte_item.dict byte_clone.ghosts byte_clone.dict)
    (at_reads.Post bytes byte_laws byte_copied byte_item.ghosts byte_item.dict byte_clone.ghosts byte_clone.dict)
    λ κs (items, (place, _)). get_or items.now place 0

-- `base_room::put`, of words
abbrev pub put_words : Function
put_words =
    shows
    (put_contract.ended words word_clone.ghosts word_clone.dict)
    (put_reads.Asked words word_laws word_copied word_clone.ghosts word_clone.dict)
    (put_reads.Post words word_laws word_copied word_clone.ghosts word_clone.dict)
    (List ℕ) (λ κs x (_, (room, _)). room.now)
    λ κs (items, (room, (at, _))). put items.now at room.now

-- `base_room::put_joined`, of words
abbrev pub put_joined : Function
put_joined =
    shows
    (put_joined_contract.ended words word_clone.ghosts word_clone.dict)
    (put_joined_reads.Asked words word_laws word_copied word_clone.ghosts word_clone.dict)
    (put_joined_reads.Post words word_laws word_copied word_clone.ghosts word_clone.dict)
    (List ℕ) (λ κs x (_, (_, (room, _))). room.now)
    λ κs (first, (second, (room, _))). put (first.now ++ second.now) 0 room.now

-- `base_room::put`, of bytes
abbrev pub put_bytes : Function
put_bytes =
    shows
    (put_contract.ended bytes byte_clone.ghosts byte_clone.dict)
    (put_reads.Asked bytes byte_laws byte_copied byte_clone.ghosts byte_clone.dict)
    (put_reads.Post bytes byte_laws byte_copied byte_clone.ghosts byte_clone.dict)
    (List ℕ) (λ κs x (_, (room, _)). room.now)
    λ κs (items, (room, (at, _))). put items.now at room.now
