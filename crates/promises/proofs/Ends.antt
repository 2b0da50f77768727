-- What is said of a chunk's end is the law of the header check and the law of the mark.
use Rattle.chunk_laws.proofs.Ends.{checked-three-ways, mark-follows-from-place}
use Rattle.promises.specs.Ends.{Ends}

pub ends : Ends
ends = record { three_ways = checked-three-ways; mark = mark-follows-from-place }
