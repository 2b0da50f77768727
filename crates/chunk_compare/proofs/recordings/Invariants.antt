-- What the list tells of the pairs so far (`Told`), up to the places where both walks stand.
use Rattle.std.specs.Iterator.Adapters.{enumerate_source, enumerate_count, zip_first, zip_second}
use Rattle.chunk.proofs.Walking.{Walks}
use Rattle.chunk_compare.proofs.Pairing.{Told}
use Rattle.chunk_compare.proofs.recordings.Given as goal

abbrev pub invariant-loop-k : goal.invariant-loop-k
invariant-loop-k l =
    let one = zip_first (enumerate_source l.k-iterator) in
    let other = zip_second (enumerate_source l.k-iterator) in
    (goal.iterator-loop-k).can_next l.k-iterator ×
    (goal.iterator-loop-k).is_finite l.k-iterator ×
    Walks l.sync l.first one ×
    Walks l.sync l.second other ×
    Told l.sync l.first l.second l.initial.list l.list one.at.0 other.at.0 (enumerate_count l.k-iterator)
