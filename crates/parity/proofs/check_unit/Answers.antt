-- The data stand in the room, and where a data bit was hit it is flipped back there.
use Rattle.std.proofs.Common.{◌≡◌, arith, rules}
use Rattle.parity.specs.declared.Case.TheVariants.{DataBit}
use Rattle.parity.proofs.Checking.{untouched, unit-length, bit-in-word, word-below-256, data-as-they-stand, word-in-room, data-repaired}
use Rattle.parity.proofs.check_unit.Goals as goal

pub returns-then-r-ne0-clause-room_after : goal.returns-then-r-ne0-clause-room_after
returns-then-r-ne0-clause-room_after c = untouched _ _ _ c.look-r.ensures c.if-r-ne0.true

pub slice_bounds-put-count : goal.slice_bounds-put-count
slice_bounds-put-count c = omega (arith, (unit-length _ _ _ c.look-r.ensures c.if-r-ne0.false).0)

pub slice_bounds-put-start : goal.slice_bounds-put-start
slice_bounds-put-start c = omega (arith, (unit-length _ _ _ c.look-r.ensures c.if-r-ne0.false).0)

pub overflow_shl-room : goal.overflow_shl-room
overflow_shl-room c =
    let hit : c.look-r.result.case ≡ DataBit = search rules in
    bit-in-word _ _ _ c.look-r.ensures c.if-r-ne0.false hit

pub offset_bounds-room-r : goal.offset_bounds-room-r
offset_bounds-room-r c =
    let hit : c.look-r.result.case ≡ DataBit = search rules in
    omega (arith, word-below-256 _ _ _ c.look-r.ensures c.if-r-ne0.false hit)

pub bounds-room-r : goal.bounds-room-r
bounds-room-r c =
    let hit : c.look-r.result.case ≡ DataBit = search rules in
    word-in-room _ _ _ c.look-r.ensures c.if-r-ne0.false _ c.put.ensures hit

pub bounds-room-r-then-eq : goal.bounds-room-r-then-eq
bounds-room-r-then-eq c =
    let hit : c.look-r.result.case ≡ DataBit = search rules in
    word-in-room _ _ _ c.look-r.ensures c.if-r-ne0.false _ c.put.ensures hit

pub returns-then-eq-clause-room_after : goal.returns-then-eq-clause-room_after
returns-then-eq-clause-room_after c =
    let hit : c.look-r.result.case ≡ DataBit = search rules in
    data-repaired _ _ _ c.look-r.ensures c.if-r-ne0.false _ c.put.ensures hit

pub returns-else-eq-clause-room_after : goal.returns-else-eq-clause-room_after
returns-else-eq-clause-room_after c =
    data-as-they-stand _ _ _ c.look-r.ensures c.if-r-ne0.false _ c.put.ensures (search rules)
