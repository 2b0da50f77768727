-- Each turn compares the chunk that it gives; the last has compared all.
use Rattle.std.proofs.Common.{rules, ◌∙◌, sym}
use Rattle.chunk.proofs.Walking.{Turn, turn, turned}
use Rattle.reel.proofs.index.Compared.{too-few, entry-differs, entry-compared, all-compared}
use Rattle.reel.proofs.index.agrees.Goals as goal
use Rattle.reel.proofs.index.agrees.Goals.{In-Some}

-- the chunk of this turn
here : (c : In-Some) → Turn c.args.sync c.args.recording.now c.loop-entry.entry-iterator c.in-Some.entry c.in-Some.field-0-1 c.next.new.self
here c = turn _ _ _ _ c.loop-entry.invariant.2 _ _ c.in-Some.ensures.steps

pub returns-in_default : goal.returns-in_default
returns-in_default c =
    let t = here (goal.at.returns-in_default c).In-Some in
    too-few _ _ _ _ _ c.loop-entry.invariant.3 _ _ t.next (search rules)

pub returns-then-not-is_entry : goal.returns-then-not-is_entry
returns-then-not-is_entry c =
    let t = here (goal.at.returns-then-not-is_entry c).In-Some in
    entry-differs _ _ _ _ _ c.loop-entry.invariant.3 _ _ t.next c.in-Some-split_first_chunk.words.now (search rules) (sym c.is_entry.ensures ∙ c.if-not-is_entry.true)

pub loop-entry-preserved : goal.loop-entry-preserved
loop-entry-preserved c =
    let t = here (goal.at.loop-entry-preserved c).In-Some in (
      tt,
      tt,
      t.on,
      rw t.past
          (entry-compared _ _ _ _ _ c.loop-entry.invariant.3 _ _ t.next c.in-Some-split_first_chunk.words.now (search rules)
          (sym c.is_entry.ensures ∙ c.if-not-is_entry.false) _ (search rules)),
    )

pub returns : goal.returns
returns c =
    let all = all-compared _ _ _ _ _ c.loop-entry.invariant.3 (turned _ _ _ _ c.loop-entry.invariant.2 c.in-None.ensures.steps) in
    search (rules, all)
