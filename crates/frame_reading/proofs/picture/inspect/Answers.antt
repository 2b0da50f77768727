-- `frame_reading::picture::inspect` meets its contract: the loop's invariant is what was found of the chunks before those that are left.
use Rattle.std.proofs.Common.{Bool, ap₂}
use Rattle.frame_reading.proofs.picture.Along.{none-inspected, first-within, chunk-inspected, all-inspected}
use Rattle.frame_reading.proofs.picture.inspect.Goals as goal

pub loop-init : goal.loop-init
loop-init c = none-inspected c.args.words.now c.args.chunks c.requires

pub first_payload-requires : goal.first_payload-requires
first_payload-requires c = first-within c.args.chunks c.loop.counter c.loop.rest.now c.loop-test.true c.loop.invariant.within

pub loop-preserved : goal.loop-preserved
loop-preserved c =
    chunk-inspected _ c.args.chunks c.loop.counter c.loop.rest.now _ _ c.loop.invariant _ _ c.loop-test.true c.first_payload.ensures.payload c.first_payload.ensures.rest
    c.inspect-harm.result c.inspect-harm.ensures

pub returns : goal.returns
returns c =
    let h = all-inspected _ c.args.chunks c.loop.counter c.loop.rest.now _ _ c.loop.invariant c.loop-test.false in
    ap₂ (λ (d t : Bool). record { damaged = d; touched = t }) h.0 h.1
