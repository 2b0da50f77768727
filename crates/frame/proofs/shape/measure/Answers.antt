-- `frame::shape::measure` meets its contract: each turn goes over one more chunk of the frame, and where none joins it is at its end.
use Rattle.frame.proofs.Walking.{first_walked, joined_inside, one_more_walked, short_walked, parted_walked}
use Rattle.std.proofs.Common.{arith}
use Rattle.frame.proofs.shape.measure.Goals as goal

pub loop-size-init : goal.loop-size-init
loop-size-init c = first_walked c.args.sync c.args.words.now c.requires _ _ c.size_of-size.ensures c.data_words-length.ensures

pub bounds-words-end : goal.bounds-words-end
bounds-words-end c = joined_inside _ _ c.requires _ _ _ _ c.loop-size.invariant _ c.joins.ensures c.if-joins.true

pub loop-size-smaller : goal.loop-size-smaller
loop-size-smaller c = omega (arith, joined_inside _ _ c.requires _ _ _ _ c.loop-size.invariant _ c.joins.ensures c.if-joins.true)

pub loop-size-preserved : goal.loop-size-preserved
loop-size-preserved c =
    one_more_walked _ _ c.requires _ _ _ _ c.loop-size.invariant _ c.joins.ensures c.if-joins.true c.loop-size-test.true _ _ c.size_of-size-in-loop-size.ensures c.data_words-length-in-loop-size.ensures

pub returns-else-joins : goal.returns-else-joins
returns-else-joins c =
    parted_walked _ _ c.requires _ _ _ _ c.loop-size.invariant c.loop-size-test.true _ c.joins.ensures c.if-joins.false

pub returns-after-loop-size : goal.returns-after-loop-size
returns-after-loop-size c = short_walked _ _ c.requires _ _ _ _ c.loop-size.invariant c.loop-size-test.false
