-- The runs are counted from 0, from the end of the first chunk on.
use Rattle.std.proofs.Common.{◌≡◌, false, sym, ◌∙◌, arith}
use borrow.Author.Tests.{ltb-false}
use Rattle.base.specs.Limit.{too_long}
use Rattle.chunk.proofs.Steps.{Next, stepped, ended}
use Rattle.chunk_outline.specs.Within.{Reached}
use Rattle.chunk_outline.proofs.run.Handing.{health-else}
use Rattle.chunk_outline.proofs.Reply.{too-long-refused, runs-counted, runs-all, runs_none}
use Rattle.chunk_outline.proofs.outline.Goals as goal
use Rattle.chunk_outline.proofs.outline.Goals.{In-Some, Else-too_long}

short : (c : Else-too_long) → too_long c.args.recording.now ≡ false
short c = sym c.too_long.ensures ∙ c.if-too_long.false

-- the first chunk
first : (c : In-Some) → Next c.args.sync c.args.recording.now 0 c.in-Some.first c.in-Some.next.0
first c = stepped c.args.sync c.args.recording.now 0 c.in-Some.first c.in-Some.next (sym c.next.ensures ∙ c.in-Some.is)

-- begins the first run
reached : (c : In-Some) → too_long c.args.recording.now ≡ false → Reached c.args.recording.now c.in-Some.next.0 0
reached c s = record { few = omega (arith, (first c).end); within = (first c).within; short = ltb-false _ _ s }

pub returns-then-too_long : goal.returns-then-too_long
returns-then-too_long c = c.refused.ensures ∙ too-long-refused _ _ (sym c.too_long.ensures ∙ c.if-too_long.true)

pub image_run-requires : goal.image_run-requires
image_run-requires c = reached (goal.at.image_run-requires c).In-Some (short (goal.at.image_run-requires c).Else-too_long)

pub health_run-requires : goal.health_run-requires
health_run-requires c = reached (goal.at.health_run-requires c).In-Some (short (goal.at.health_run-requires c).Else-too_long)

pub returns-then-kind_of-eq-IMAGE : goal.returns-then-kind_of-eq-IMAGE
returns-then-kind_of-eq-IMAGE c =
    let a = c.args in
    let p = goal.at.returns-then-kind_of-eq-IMAGE c in
    let n = runs-all a.sync a.recording.now _ _ (first p.In-Some) 0 (sym c.kind_of.ensures ∙ c.if-kind_of-eq-IMAGE.true) in
    runs-counted a.sync a.recording.now (short p.Else-too_long) _ _ (omega (arith, c.image_run.ensures.image, n 0)) (omega (arith, c.image_run.ensures.health, n 1))

pub returns-else-kind_of-eq-IMAGE : goal.returns-else-kind_of-eq-IMAGE
returns-else-kind_of-eq-IMAGE c =
    let a = c.args in
    let p = goal.at.returns-else-kind_of-eq-IMAGE c in
    let n = runs-all a.sync a.recording.now _ _ (first p.In-Some) 1 (health-else _ (λ z. c.if-kind_of-eq-IMAGE.false (c.kind_of.ensures ∙ z))) in
    runs-counted a.sync a.recording.now (short p.Else-too_long) _ _ (omega (arith, c.health_run.ensures.image, n 0)) (omega (arith, c.health_run.ensures.health, n 1))

pub returns-in_default : goal.returns-in_default
returns-in_default c =
    let a = c.args in
    let l = ended a.sync a.recording.now 0 (sym c.next.ensures ∙ c.in_default.is) in
    runs-counted a.sync a.recording.now (short (goal.at.returns-in_default c).Else-too_long) 0 0 (runs_none _ _ l 0) (runs_none _ _ l 1)
