-- `tally_recording::chunks::row_packets` meets its contract: the packets counted so far, and those from this one on.
use Rattle.std.proofs.Common.{◌<◌, ◌-◌, ◌≡◌, ◌+◌, ◌*◌, arith, rules}
use Rattle.tally_recording.proofs.Packets.{row-length, none-in-row, one-in-row, row-none, row-one, row-fits, row-all}
use Rattle.tally_recording.proofs.chunks.row_packets.Goals as goal
use Rattle.tally_recording.proofs.chunks.row_packets.Goals.{in-Some, in_default}

pub overflow_add-all : goal.overflow_add-all
overflow_add-all c =
    let a = c.args in
    let v = c.loop-packet.invariant in
    let i = c.loop-packet.packet-index in
    let width : a.from.0 + 32 * a.count - a.from.0 ≡ 32 * a.count = omega arith in
    let more : i < a.count = omega (arith, c.loop-packet-test.true, c.as_chunks.ensures.front_len, row-length a.words.now a.from.0 a.count _ c.requires.count_in_bounds width) in
    let one = one-in-row a.words.now a.from.0 a.count _ c.requires.count_in_bounds width i more _ c.as_chunks.ensures.front c.in-Some.t c.in-Some.ensures in
    let fits = row-fits a.words.now a.from.0 a.count i c.loop-packet.all _ v.size v.rest more c.in-Some.t one c.requires.from_value in
    rw c.from.ensures (omega (arith, fits))

pub loop-packet-preserved : goal.loop-packet-preserved
loop-packet-preserved c =
    let a = c.args in
    let v = c.loop-packet.invariant in
    let i = c.loop-packet.packet-index in
    let width : a.from.0 + 32 * a.count - a.from.0 ≡ 32 * a.count = omega arith in
    let more : i < a.count = omega (arith, c.loop-packet-test.true, c.as_chunks.ensures.front_len, row-length a.words.now a.from.0 a.count _ c.requires.count_in_bounds width) in
    elim c.match-sound_type.branch [
      | in-Some w ↦
          record {
            size = search rules;
            rest = rw (w.all-is, w.from.ensures)
                (row-one a.words.now a.from.0 a.count i c.loop-packet.all _ v.size v.rest more w.in-Some.t
                (one-in-row a.words.now a.from.0 a.count _ c.requires.count_in_bounds width i more _ c.as_chunks.ensures.front w.in-Some.t w.in-Some.ensures));
          }
      | in_default w ↦
          record {
            size = search rules;
            rest = rw w.all-is
                (row-none a.words.now a.from.0 a.count i c.loop-packet.all _ v.size v.rest more
                (none-in-row a.words.now a.from.0 a.count _ c.requires.count_in_bounds width i more _ c.as_chunks.ensures.front w.in_default.ensures));
          }
    ]

pub returns : goal.returns
returns c =
    let a = c.args in
    let width : a.from.0 + 32 * a.count - a.from.0 ≡ 32 * a.count = omega arith in
    row-all a.words.now a.from.0 a.count c.loop-packet.packet-index c.loop-packet.all _ c.loop-packet.invariant.size c.loop-packet.invariant.rest
    (omega (arith, c.loop-packet-test.false, c.as_chunks.ensures.front_len, row-length a.words.now a.from.0 a.count _ c.requires.count_in_bounds width))
