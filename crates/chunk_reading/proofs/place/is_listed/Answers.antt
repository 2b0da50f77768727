-- The place is at the chunk of this turn or before it, or inside it, or still to come; after the last turn it is behind every chunk.
use Rattle.std.proofs.Common.{◌≡◌, refl, sym, rules, arith}
use Rattle.chunk.specs.Reading.{left_at}
use Rattle.chunk.proofs.Steps.{Last, listed-at-no}
use Rattle.chunk.proofs.Walking.{Turn, turn, turned}
use Rattle.chunk_reading.proofs.place.Listed.{listed-up-to, listed-inside, left-past}
use Rattle.chunk_reading.proofs.place.is_listed.Goals as goal
use Rattle.chunk_reading.proofs.place.is_listed.Goals.{In-Some}

-- the chunk of this turn
here : (c : In-Some) → Turn c.args.sync c.args.words.now c.loop-entry.entry-iterator c.in-Some.entry c.in-Some.past c.next.new.self
here c = turn _ _ _ _ c.loop-entry.invariant.2 _ _ c.in-Some.ensures.steps

pub loop-entry-init : goal.loop-entry-init
unfolding left_at
loop-entry-init c = let start : c.into_iter-entry-iterator.result.at.0 ≡ 0 = search rules in (tt, tt, search rules, rw start refl, omega arith)

pub returns-then-asked-begins : goal.returns-then-asked-begins
returns-then-asked-begins c =
    let i = c.loop-entry.invariant in
    listed-up-to _ _ _ _ _ (here (goal.at.returns-then-asked-begins c).In-Some).next c.args.place.0 i.3 i.4 (omega arith)

pub returns-then-asked-past : goal.returns-then-asked-past
returns-then-asked-past c =
    let i = c.loop-entry.invariant in
    sym (listed-inside _ _ _ _ _ (here (goal.at.returns-then-asked-past c).In-Some).next c.args.place.0 i.3 (omega arith) (omega arith))

pub loop-entry-preserved : goal.loop-entry-preserved
loop-entry-preserved c =
    let i = c.loop-entry.invariant in
    let t = here (goal.at.loop-entry-preserved c).In-Some in
    (tt, tt, t.on, rw t.past (left-past _ _ _ _ _ t.next i.3), rw t.past (omega arith))

pub returns : goal.returns
returns c =
    let i = c.loop-entry.invariant in
    let last : Last c.args.sync c.args.words.now c.loop-entry.entry-iterator.at.0 = turned _ _ _ _ i.2 c.in-None.ensures.steps in
    sym (listed-at-no _ _ _ (last.noise c.args.place.0 i.4))
