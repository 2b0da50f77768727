-- Behind the packet in hand none is of the asked: the last of those before it is the last of all.
use Rattle.std.proofs.Common.{◌≡◌}
use Rattle.health_places.specs.Packets.{packet_places}
use Rattle.health_last.specs.Packets.{last_where}
use Rattle.health_last.specs.Seek.{wanted}
use Rattle.health_last.proofs.seek.in_row.Given as goal

abbrev pub invariant-loop-k : goal.invariant-loop-k
invariant-loop-k l =
    last_where (wanted l.words l.packet_type l.any) (packet_places l.k l.from.0) ≡ last_where (wanted l.words l.packet_type l.any) (packet_places l.count l.from.0)
