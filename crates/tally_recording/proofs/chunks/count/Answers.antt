-- `tally_recording::chunks::count` meets its contract: the walk of `Gathered`.
use Rattle.std.proofs.Common.{ℕ, ◌+◌, ◌-◌, ◌≤◌, get_or, sym, ap, arith, rules}
use Rattle.base.specs.declared.Words.{Words}
use Rattle.base.specs.Limit.{recording_limit}
use Rattle.chunk.proofs.Steps.{Next, Last}
use Rattle.chunk.proofs.Walking.{Turn, turn, turned}
use Rattle.tally_recording.proofs.Gathering.{none-gathered, chunk-gathered, sort-fits, packets-here, units-here, skipped-fits, last_fits, all-gathered}
use Rattle.tally_recording.proofs.chunks.count.Goals as goal
use Rattle.tally_recording.proofs.chunks.count.Goals.{In-Some}

-- the chunk of this turn
here : (c : In-Some) → Turn c.args.sync c.args.words.now c.loop-entry.entry-iterator c.in-Some.entry c.in-Some.past c.next.new.self
here c = turn _ _ _ _ c.loop-entry.invariant.2 _ _ c.in-Some.ensures.steps

-- it is the next from the place up to which is counted
step : (c : In-Some) → Next c.args.sync c.args.words.now c.loop-entry.at c.in-Some.entry c.in-Some.past.0
step c = rw c.loop-entry.invariant.3 (here c).next

-- what is skipped before it
gap : (c : In-Some) → c.loop-entry.skipped + (c.in-Some.entry.position.0 - c.loop-entry.at) ≤ recording_limit
gap c = skipped-fits c.args.sync c.args.words.now _ _ _ _ _ c.loop-entry.invariant.4 _ _ (step c) c.requires

pub loop-entry-init : goal.loop-entry-init
loop-entry-init c = (tt, tt, search rules, search rules, none-gathered c.args.sync c.args.words.now)

pub overflow_sub-skipped : goal.overflow_sub-skipped
overflow_sub-skipped c = (step (goal.at.overflow_sub-skipped c).In-Some).ahead

pub overflow_cast-skipped : goal.overflow_cast-skipped
overflow_cast-skipped c = record { fits = omega (arith, gap (goal.at.overflow_cast-skipped c).In-Some) }

pub overflow_add-skipped : goal.overflow_add-skipped
overflow_add-skipped c = record { fits = omega (arith, gap (goal.at.overflow_add-skipped c).In-Some) }

pub overflow_add-chunks : goal.overflow_add-chunks
overflow_add-chunks c =
    let fits = sort-fits c.args.sync c.args.words.now _ _ _ _ _ c.loop-entry.invariant.4 _ _ (step (goal.at.overflow_add-chunks c).In-Some) c.requires in
    record { fits = omega (arith, fits, ap (λ (i : ℕ). get_or c.loop-entry.chunks i 0) c.sort_of-place.ensures) }

pub chunk_packets-counted-requires-clause-header_in_bounds : goal.chunk_packets-counted-requires-clause-header_in_bounds
chunk_packets-counted-requires-clause-header_in_bounds c =
    let s = step (goal.at.chunk_packets-counted-requires-clause-header_in_bounds c).In-Some in omega (arith, s.within, s.end)

pub chunk_packets-counted-requires-clause-chunk_value : goal.chunk_packets-counted-requires-clause-chunk_value
chunk_packets-counted-requires-clause-chunk_value c =
    packets-here c.args.sync c.args.words.now _ _ _ _ _ c.loop-entry.invariant.4 _ _ (step (goal.at.chunk_packets-counted-requires-clause-chunk_value c).In-Some) c.requires

pub chunk_units-judged-requires-clause-header_in_bounds : goal.chunk_units-judged-requires-clause-header_in_bounds
chunk_units-judged-requires-clause-header_in_bounds c =
    let s = step (goal.at.chunk_units-judged-requires-clause-header_in_bounds c).In-Some in omega (arith, s.within, s.end)

pub chunk_units-judged-requires-clause-chunk_value : goal.chunk_units-judged-requires-clause-chunk_value
chunk_units-judged-requires-clause-chunk_value c =
    units-here c.args.sync c.args.words.now _ _ _ _ _ c.loop-entry.invariant.4 _ _ (step (goal.at.chunk_units-judged-requires-clause-chunk_value c).In-Some) c.requires

pub loop-entry-preserved : goal.loop-entry-preserved
loop-entry-preserved c =
    let t = here (goal.at.loop-entry-preserved c).In-Some in (
      tt,
      tt,
      t.on,
      ap (λ (n : Words). n.0) (sym t.past),
      chunk-gathered c.args.sync c.args.words.now _ _ _ _ _ c.loop-entry.invariant.4 _ _ (step (goal.at.loop-entry-preserved c).In-Some) _ c.sort_of-place.ensures _ _ c.chunk_packets-counted.ensures c.chunk_units-judged.ensures,
    )

pub overflow_add-result : goal.overflow_add-result
overflow_add-result c =
    let last : Last c.args.sync c.args.words.now c.loop-entry.entry-iterator.at.0 = turned _ _ _ _ c.loop-entry.invariant.2 c.in-None.ensures.steps in
    record { fits = omega (arith, last_fits c.args.sync c.args.words.now _ _ _ _ _ c.loop-entry.invariant.4 (rw c.loop-entry.invariant.3 last) c.requires) }

pub returns : goal.returns
returns c =
    let last : Last c.args.sync c.args.words.now c.loop-entry.entry-iterator.at.0 = turned _ _ _ _ c.loop-entry.invariant.2 c.in-None.ensures.steps in
    all-gathered c.args.sync c.args.words.now _ _ _ _ _ c.loop-entry.invariant.4 (rw c.loop-entry.invariant.3 last)
