use Rattle.std.proofs.Common.{◌≡◌, length}
use Rattle.health_places.specs.Packets.{packet_places}
use Rattle.tally_recording.specs.Numbers.{sums}
use Rattle.tally_recording.specs.Tally.{packet_numbers}
use Rattle.tally_recording.proofs.Packets.{left}
use Rattle.tally_recording.proofs.chunks.row_packets.Given as goal

-- what is counted so far and the packets from i on give the numbers of all
abbrev pub invariant-loop-packet : goal.invariant-loop-packet
invariant-loop-packet l =
    record {
      size : length l.all ≡ 15;
      rest : sums l.all (left l.words l.fn.from.0 l.fn.count l.packet-index) ≡ sums l.fn.packets (packet_numbers l.words (packet_places l.fn.count l.fn.from.0));
    }
