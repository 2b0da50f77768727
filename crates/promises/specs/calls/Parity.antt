-- The functions of `parity_rows`, `parity` and `parity_units`: the contract, what the caller sees, and the definition that says it.
use Rattle.std.specs.Prelude.{ℕ, List, length}
use Rattle.std.proofs.Math.Option.{some}
use Rattle.base.specs.declared.Written.{Written}
use Rattle.base.specs.Refusal.{wrote}
use Rattle.parity.specs.declared.Judged.{Judged}
use Rattle.parity_rows.specs.Parity.{parities, stated_parity, parity_words as words_of}
use Rattle.parity.specs.Unit.{refused, judge_causes, judge_reply, check_causes, check_reply, check_room, write_causes, write_reply, write_room}
use Rattle.parity_units.specs.Split.{units_in, data_words_in, any_damaged}
use Rattle.parity_units.specs.Replies.{join_reply, join_room, copy_reply, copy_room, outcomes, harm_to}
use Rattle.parity_rows.specs.contracts.parity as rows_parity_contract
use Rattle.parity_rows.proofs.parity.Reads as rows_parity_reads
use Rattle.parity_rows.specs.contracts.stated as stated_contract
use Rattle.parity_rows.proofs.stated.Reads as stated_reads
use Rattle.parity_rows.specs.contracts.parity_words as parity_words_contract
use Rattle.parity_rows.proofs.parity_words.Reads as parity_words_reads
use Rattle.parity.specs.contracts.write_unit as write_unit_contract
use Rattle.parity.proofs.write_unit.Reads as write_unit_reads
use Rattle.parity.specs.contracts.judge_unit as judge_unit_contract
use Rattle.parity.proofs.judge_unit.Reads as judge_unit_reads
use Rattle.parity.specs.contracts.check_unit as check_unit_contract
use Rattle.parity.proofs.check_unit.Reads as check_unit_reads
use Rattle.parity_units.specs.contracts.data_words as data_words_contract
use Rattle.parity_units.proofs.data_words.Reads as data_words_reads
use Rattle.parity_units.specs.contracts.damaged as damaged_contract
use Rattle.parity_units.proofs.damaged.Reads as damaged_reads
use Rattle.parity_units.specs.contracts.inspect as inspect_contract
use Rattle.parity_units.proofs.inspect.Reads as inspect_reads
use Rattle.parity_units.specs.contracts.join as join_contract
use Rattle.parity_units.proofs.join.Reads as join_reads
use Rattle.parity_units.specs.contracts.copy as copy_contract
use Rattle.parity_units.proofs.copy.Reads as copy_reads
use Rattle.parity_units.specs.contracts.count as count_contract
use Rattle.parity_units.proofs.count.Reads as count_reads
use Rattle.promises.specs.Ties.{Function, replies, shows, Call, replies_or_refuses, shows_or_refuses}

-- `parity_rows::parity`
abbrev pub rows_parity : Function
rows_parity =
    replies rows_parity_contract.ended rows_parity_reads.Asked rows_parity_reads.Post
    λ κs (words, _). parities words.now

-- `parity_rows::stated`
abbrev pub stated : Function
stated =
    replies stated_contract.ended stated_reads.Asked stated_reads.Post
    λ κs (unit, _). stated_parity unit.now

-- `parity_rows::parity_words`
abbrev pub parity_words : Function
parity_words =
    replies parity_words_contract.ended parity_words_reads.Asked parity_words_reads.Post
    λ κs (words, _). words_of words.now

-- `parity::write_unit`
abbrev pub write_unit : Call
write_unit =
    shows_or_refuses write_unit_contract.ended write_unit_reads.Asked write_unit_reads.Post
    (Written × List ℕ) (λ κs x (_, (room, _)). (x, room.now))
    λ κs (words, (room, _)).
    record {
      defined = (write_reply (length words.now) (length room.now), write_room words.now room.now);
      causes = write_causes (length words.now) (length room.now);
      refused = λ v. (wrote v 0, room.now);
      number = some λ (x, _). x.refusal;
    }

-- `parity::judge_unit`
abbrev pub judge_unit : Call
judge_unit =
    replies_or_refuses judge_unit_contract.ended judge_unit_reads.Asked judge_unit_reads.Post
    λ κs (unit, _).
    record {
      defined = judge_reply unit.now;
      causes = judge_causes unit.now;
      refused = refused;
      number = some λ x. x.refusal;
    }

-- `parity::check_unit`
abbrev pub check_unit : Call
check_unit =
    shows_or_refuses check_unit_contract.ended check_unit_reads.Asked check_unit_reads.Post
    (Judged × List ℕ) (λ κs x (_, (room, _)). (x, room.now))
    λ κs (unit, (room, _)).
    record {
      defined = (check_reply unit.now (length room.now), check_room unit.now room.now);
      causes = check_causes unit.now (length room.now);
      refused = λ v. (refused v, room.now);
      number = some λ (x, _). x.refusal;
    }

-- `parity_units::data_words`
abbrev pub data_words : Function
data_words =
    shows data_words_contract.ended data_words_reads.Asked data_words_reads.Post
    ℕ (λ κs x e. x.0) λ κs (n, _). data_words_in n.0

-- `parity_units::damaged`
abbrev pub damaged : Function
damaged =
    replies damaged_contract.ended damaged_reads.Asked damaged_reads.Post
    λ κs (payload, _). any_damaged (units_in payload.now)

-- `parity_units::inspect`
abbrev pub inspect : Function
inspect =
    replies inspect_contract.ended inspect_reads.Asked inspect_reads.Post
    λ κs (payload, _). harm_to (units_in payload.now)

-- `parity_units::join`
abbrev pub join : Function
join =
    shows join_contract.ended join_reads.Asked join_reads.Post
    (ℕ × List ℕ) (λ κs x (_, (room, _)). (x.0, room.now))
    λ κs (payload, (room, (place, _))). (join_reply payload.now place.0 (length room.now), join_room payload.now place.0 room.now)

-- `parity_units::copy`
abbrev pub copy : Function
copy =
    shows copy_contract.ended copy_reads.Asked copy_reads.Post
    (ℕ × List ℕ) (λ κs x (_, (room, _)). (x.0, room.now))
    λ κs (payload, (room, (place, _))). (copy_reply payload.now place.0 (length room.now), copy_room payload.now place.0 room.now)

-- `parity_units::count`
abbrev pub count : Function
count =
    replies count_contract.ended count_reads.Asked count_reads.Post
    λ κs (payload, _). outcomes (units_in payload.now)
