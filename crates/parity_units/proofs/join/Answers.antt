-- What a unit gives is written behind what the units before it gave.
use Rattle.std.proofs.Common.{◌≡◌, sym, ◌∙◌, arith, rules}
use Rattle.std.specs.Slice.Iter.{chunks_rest}
use Rattle.parity_units.specs.Split.{given_data}
use Rattle.parity_units.specs.Replies.{join_reply, join_room}
use Rattle.parity_units.proofs.Split.{given-words}
use Rattle.parity_units.proofs.Joining.{too_small, none-joined, given-none, room-left, unit-joined, all-joined}
use Rattle.parity_units.proofs.join.Goals as goal

pub returns-then-not-fits-clause-result_value : goal.returns-then-not-fits-clause-result_value
unfolding join_reply
returns-then-not-fits-clause-result_value c =
    (too_small given_data c.args.payload.now c.args.room.now c.args.place.0 (sym c.fits.ensures ∙ c.if-not-fits.true)).0

pub returns-then-not-fits-clause-room_after : goal.returns-then-not-fits-clause-room_after
unfolding join_room
returns-then-not-fits-clause-room_after c =
    (too_small given_data c.args.payload.now c.args.room.now c.args.place.0 (sym c.fits.ensures ∙ c.if-not-fits.true)).1

pub loop-unit-init : goal.loop-unit-init
loop-unit-init c =
    let whole : chunks_rest c.into_iter-unit-iterator.result ≡ c.args.payload.now = search rules in
    (search rules, rw whole (none-joined given_data _ _ _ given-words (sym c.fits.ensures ∙ c.if-not-fits.false)))

pub overflow_add-to : goal.overflow_add-to
overflow_add-to c =
    let size = c.loop-unit.invariant.0 in
    let steps = c.in-Some.ensures.steps in
    omega (arith, room-left _ _ _ _ _ _ c.loop-unit.invariant.1 _ _ steps.1.0 (rw size at steps.1.1) steps.1.2 _ c.check_unit-checked.ensures.value)

pub loop-unit-preserved : goal.loop-unit-preserved
loop-unit-preserved c =
    let size = c.loop-unit.invariant.0 in
    let steps = c.in-Some.ensures.steps in (
      steps.0 ∙ size,
      unit-joined _ _ _ _ _ _ c.loop-unit.invariant.1 _ _ steps.1.0 (rw size at steps.1.1) steps.1.2 _ c.check_unit-checked.ensures.value _ c.check_unit-checked.ensures.room_after,
    )

pub overflow_sub-result : goal.overflow_sub-result
overflow_sub-result c =
    omega (arith, (all-joined given_data _ _ _ _ _ _ c.loop-unit.invariant.1 given-none (sym c.fits.ensures ∙ c.if-not-fits.false) c.in-None.ensures.steps.1.0).0)

pub returns-clause-result_value : goal.returns-clause-result_value
unfolding join_reply
returns-clause-result_value c =
    (all-joined given_data _ _ _ _ _ _ c.loop-unit.invariant.1 given-none (sym c.fits.ensures ∙ c.if-not-fits.false) c.in-None.ensures.steps.1.0).1

pub returns-clause-room_after : goal.returns-clause-room_after
unfolding join_room
returns-clause-room_after c =
    (all-joined given_data _ _ _ _ _ _ c.loop-unit.invariant.1 given-none (sym c.fits.ensures ∙ c.if-not-fits.false) c.in-None.ensures.steps.1.0).2
