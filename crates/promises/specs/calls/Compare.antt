-- The functions of `chunk_compare`: the contract, what the caller sees, and the definition that says it.
use Rattle.std.specs.Prelude.{ℕ, List, length}
use Rattle.std.proofs.Math.Option.{some}
use Rattle.chunk_compare.specs.declared.Compared.{Compared}
use Rattle.chunk_compare.specs.Pairs.{first_difference, pair_said}
use Rattle.chunk_compare.specs.Compare.{compare_causes, compared, compare_reply, compare_room}
use Rattle.chunk_compare.specs.contracts.chunks as chunks_contract
use Rattle.chunk_compare.proofs.chunks.Reads as chunks_reads
use Rattle.chunk_compare.specs.contracts.said as said_contract
use Rattle.chunk_compare.proofs.said.Reads as said_reads
use Rattle.chunk_compare.specs.contracts.recordings as recordings_contract
use Rattle.chunk_compare.proofs.recordings.Reads as recordings_reads
use Rattle.promises.specs.Ties.{Function, replies, Call, shows_or_refuses}

-- `chunk_compare::chunks`
abbrev pub chunks : Function
chunks =
    replies chunks_contract.ended chunks_reads.Asked chunks_reads.Post
    λ κs (first, (second, _)). first_difference first.now second.now

-- `chunk_compare::said`
abbrev pub said : Function
said =
    replies said_contract.ended said_reads.Asked said_reads.Post
    λ κs (entry, _). pair_said entry

-- `chunk_compare::recordings`
abbrev pub recordings : Call
recordings =
    shows_or_refuses recordings_contract.ended recordings_reads.Asked recordings_reads.Post
    (Compared × List ℕ) (λ κs x (_, (_, (_, (list, _)))). (x, list.now))
    λ κs (first, (second, (sync, (list, _)))).
    record {
      defined = (compare_reply sync first.now second.now (length list.now), compare_room sync first.now second.now list.now);
      causes = compare_causes sync first.now second.now (length list.now);
      refused = λ v. (compared v 0 0 0, list.now);
      number = some λ (x, _). x.refusal;
    }
