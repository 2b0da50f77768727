-- A unit more is inspected, and at the end all are.
use Rattle.std.proofs.Common.{Bool, ap₂, ◌∙◌}
use Rattle.parity_units.proofs.Judging.{unit-inspected, all-inspected}
use Rattle.parity_units.proofs.inspect.Goals as goal

pub loop-unit-preserved : goal.loop-unit-preserved
loop-unit-preserved c =
    let size = c.loop-unit.invariant.0 in
    let steps = c.in-Some.ensures.steps in (
      steps.0 ∙ size,
      unit-inspected _ _ _ _ c.loop-unit.invariant.1 _ _ steps.1.0 (rw size at steps.1.1) steps.1.2 _ c.judge_unit-judged.ensures _ c.is_touched.ensures,
    )

pub returns : goal.returns
returns c =
    let found = all-inspected _ _ _ _ c.loop-unit.invariant.1 c.in-None.ensures.steps.1.0 in
    ap₂ (λ (d t : Bool). record { damaged = d; touched = t }) found.0 found.1
