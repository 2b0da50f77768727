-- Each turn counts the chunk that it gives; the last has counted all.
use Rattle.std.proofs.Common.{ℕ, length, ap, ap₂, ◌∙◌, arith}
use Rattle.chunk.specs.Reading.{reading, skipped}
use Rattle.chunk.proofs.Steps.{Last}
use Rattle.chunk.proofs.Walking.{Turn, turn, turned}
use Rattle.chunk_reading.specs.Counting.{counts}
use Rattle.chunk_reading.proofs.counting.Counted.{chunk-counted, all-chunks, all-skipped, any-end}
use Rattle.chunk_reading.proofs.counting.count.Goals as goal
use Rattle.chunk_reading.proofs.counting.count.Goals.{In-Some}

-- the chunk of this turn
here : (c : In-Some) → Turn c.args.sync c.args.words.now c.loop-entry.entry-iterator c.in-Some.entry c.in-Some.past c.next.new.self
here c = turn _ _ _ _ c.loop-entry.invariant.2 _ _ c.in-Some.ensures.steps

pub overflow_sub-listed : goal.overflow_sub-listed
overflow_sub-listed c = let s = (here (goal.at.overflow_sub-listed c).In-Some).next in omega (arith, s.end)

pub overflow_add-listed : goal.overflow_add-listed
overflow_add-listed c = let s = (here (goal.at.overflow_add-listed c).In-Some).next in record { fits = omega (arith, c.loop-entry.invariant.3.less, s.ahead, s.within, s.end) }

pub loop-entry-preserved : goal.loop-entry-preserved
loop-entry-preserved c =
    let t = here (goal.at.loop-entry-preserved c).In-Some in
    (tt, tt, t.on, rw t.past (chunk-counted _ _ _ _ _ _ c.loop-entry.invariant.3 _ _ t.next))

pub returns : goal.returns
returns c =
    let a = c.args in
    let last : Last a.sync a.words.now c.loop-entry.entry-iterator.at.0 = turned _ _ _ _ c.loop-entry.invariant.2 c.in-None.ensures.steps in
    ap₂ (λ (n m : ℕ). counts n m c.loop-entry.end) (all-chunks a.sync a.words.now _ _ _ _ c.loop-entry.invariant.3 last)
    (all-skipped a.sync a.words.now _ _ _ _ c.loop-entry.invariant.3 last)
    ∙ ap (counts (length (reading a.sync a.words.now)) (skipped a.sync a.words.now)) (any-end _ _ _ _ _ _ c.loop-entry.invariant.3 last)
