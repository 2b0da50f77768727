-- Each turn goes on with a chunk that joins the run, or ends at one that begins another.
use Rattle.std.proofs.Common.{◌≡◌, ap, sym, ◌∙◌, true, false, ◌&&◌, eqb}
use borrow.Author.Tests.{eq-eqb, ne_eqb}
use Rattle.base.specs.declared.Words.{Words}
use Rattle.chunk.specs.Header.{kind}
use Rattle.chunk.proofs.Steps.{Next, Last}
use Rattle.chunk.proofs.Walking.{Turn, turn, turned}
use Rattle.chunk_outline.proofs.run.Going.{run-last, run-parted, run-joined}
use Rattle.chunk_outline.proofs.run.next_run.Goals as goal
use Rattle.chunk_outline.proofs.run.next_run.Goals.{In-Some, then-not-adjacent-via-then-not-adjacent, then-not-adjacent-via-else-not-adjacent+then-kind_of-kind}

-- the chunk of this turn
here : (c : In-Some) → Turn c.args.sync c.args.words.now c.loop-entry.entry-iterator c.in-Some.entry c.in-Some.past c.next.new.self
here c = turn _ _ _ _ c.loop-entry.invariant.2 _ _ c.in-Some.ensures.steps

-- it is the first one from the run's end so far
found : (c : In-Some) → Next c.args.sync c.args.words.now c.loop-entry.end c.in-Some.entry c.in-Some.past.0
found c = rw c.loop-entry.invariant.3 at (here c).next

pub returns-then-not-adjacent : goal.returns-then-not-adjacent
returns-then-not-adjacent c =
    let p = goal.at.returns-then-not-adjacent c in
    let parts : eqb c.in-Some.entry.position.0 c.loop-entry.end && eqb (kind c.in-Some.entry.header) c.args.kind ≡ false =
    elim c.then-not-adjacent.branch [
      | then-not-adjacent-via-then-not-adjacent w ↦ rw (ne_eqb _ _ w.if-not-adjacent.true)
      | then-not-adjacent-via-else-not-adjacent+then-kind_of-kind w ↦
          rw (eq-eqb _ _ w.if-not-adjacent.false, ne_eqb _ _ (λ q. w.if-kind_of-kind.true (w.kind_of.ensures ∙ q)))
    ] in
    run-parted _ _ _ _ _ c.loop-entry.invariant.4 _ _ (found p.In-Some) parts

pub loop-entry-preserved : goal.loop-entry-preserved
loop-entry-preserved c =
    let t = here (goal.at.loop-entry-preserved c).In-Some in
    let joins : eqb c.in-Some.entry.position.0 c.loop-entry.end && eqb (kind c.in-Some.entry.header) c.args.kind ≡ true =
    rw (eq-eqb _ _ c.if-not-adjacent.false, eq-eqb _ _ (sym c.kind_of.ensures ∙ c.if-kind_of-kind.false)) in
    (tt, tt, t.on, ap (λ (w : Words). w.0) t.past, run-joined _ _ _ _ _ c.loop-entry.invariant.4 _ _ (rw c.loop-entry.invariant.3 at t.next) joins)

pub returns : goal.returns
returns c =
    let i = c.loop-entry.invariant in
    let last : Last c.args.sync c.args.words.now c.loop-entry.entry-iterator.at.0 = turned _ _ _ _ i.2 c.in-None.ensures.steps in
    run-last _ _ _ _ _ i.4 (rw i.3 at last)
