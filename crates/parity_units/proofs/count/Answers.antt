-- Each arm counts its outcome, and at the end all units are counted.
use Rattle.std.proofs.Common.{◌∙◌}
use Rattle.parity_units.proofs.Counting.{all-tallied, sound-tallied, hit-tallied, repaired-tallied, refused-tallied}
use Rattle.parity_units.proofs.count.Goals as goal

pub loop-unit-preserved-in-0-Sound : goal.loop-unit-preserved-in-0-Sound
loop-unit-preserved-in-0-Sound c =
    let size = c.loop-unit.invariant.0 in
    let steps = c.in-Some.ensures.steps in (
      steps.0 ∙ size,
      sound-tallied _ _ _ c.loop-unit.invariant.1 _ _ steps.1.0 (rw size at steps.1.1) steps.1.2 _ c.judge_unit-judged.ensures c.in-0-Sound.is-0 c.in-0-Sound.is-1,
    )

pub loop-unit-preserved-in-0-ParityBit : goal.loop-unit-preserved-in-0-ParityBit
loop-unit-preserved-in-0-ParityBit c =
    let size = c.loop-unit.invariant.0 in
    let steps = c.in-Some.ensures.steps in (
      steps.0 ∙ size,
      hit-tallied _ _ _ c.loop-unit.invariant.1 _ _ steps.1.0 (rw size at steps.1.1) steps.1.2 _ c.judge_unit-judged.ensures c.in-0-ParityBit.is-0 c.in-0-ParityBit.is-1,
    )

pub loop-unit-preserved-in-0-DataBit : goal.loop-unit-preserved-in-0-DataBit
loop-unit-preserved-in-0-DataBit c =
    let size = c.loop-unit.invariant.0 in
    let steps = c.in-Some.ensures.steps in (
      steps.0 ∙ size,
      repaired-tallied _ _ _ c.loop-unit.invariant.1 _ _ steps.1.0 (rw size at steps.1.1) steps.1.2 _ c.judge_unit-judged.ensures c.in-0-DataBit.is-0 c.in-0-DataBit.is-1,
    )

pub loop-unit-preserved : goal.loop-unit-preserved
loop-unit-preserved c =
    let size = c.loop-unit.invariant.0 in
    let steps = c.in-Some.ensures.steps in (
      steps.0 ∙ size,
      refused-tallied _ _ _ c.loop-unit.invariant.1 _ _ steps.1.0 (rw size at steps.1.1) steps.1.2 _ c.judge_unit-judged.ensures c.in_default.is-0.1,
    )

pub returns : goal.returns
returns c = all-tallied _ _ _ c.loop-unit.invariant.1 c.in-None.ensures.steps.1.0
