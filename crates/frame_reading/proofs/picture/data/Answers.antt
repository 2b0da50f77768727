-- `frame_reading::picture::data` meets its contract: the data of the chunks before those that are left stand in the room.
use Rattle.std.proofs.Common.{arith}
use Rattle.frame_reading.proofs.picture.Along.{none-given, first-within, untouched-here, room-left, chunk-given, all-given}
use Rattle.frame_reading.proofs.picture.data.Goals as goal

pub loop-init : goal.loop-init
loop-init c =
    none-given c.args.words.now c.args.room.now c.args.chunks c.args.touched c.requires.words_in_bounds c.requires.words_in_bounds_2 c.requires.words_value

pub first_payload-requires : goal.first_payload-requires
first_payload-requires c = first-within c.args.chunks c.loop.counter c.loop.rest.now c.loop-test.true c.loop.invariant.within

pub give-place-requires : goal.give-place-requires
give-place-requires c =
    untouched-here _ c.args.touched c.args.room.now c.loop.room c.args.chunks c.loop.counter c.loop.rest.now c.loop.place c.loop.invariant
    _ _ c.loop-test.true c.first_payload.ensures.payload c.first_payload.ensures.rest

pub overflow_add-place : goal.overflow_add-place
overflow_add-place c =
    let left = room-left _ c.args.touched c.args.room.now c.loop.room c.args.chunks c.loop.counter c.loop.rest.now c.loop.place c.loop.invariant
    _ _ c.loop-test.true c.first_payload.ensures.payload c.first_payload.ensures.rest _ c.give-place.ensures.result_value in
    omega (arith, left)

pub loop-preserved : goal.loop-preserved
loop-preserved c =
    chunk-given _ c.args.touched c.args.room.now c.loop.room c.args.chunks c.loop.counter c.loop.rest.now c.loop.place c.loop.invariant
    _ _ c.loop-test.true c.first_payload.ensures.payload c.first_payload.ensures.rest
    _ c.give-place.ensures.result_value _ c.give-place.ensures.room_after

pub returns : goal.returns
returns c = all-given _ c.args.touched c.args.room.now c.loop.room c.args.chunks c.loop.counter c.loop.rest.now c.loop.place c.loop.invariant c.loop-test.false
