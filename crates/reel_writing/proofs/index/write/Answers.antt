-- Each turn puts the entry of the chunk that it gives; the last has put all.
use Rattle.std.proofs.Common.{rules, arith}
use Rattle.chunk.proofs.Walking.{Turn, turn, turned}
use Rattle.reel_writing.proofs.index.Indexed.{entry-indexed, all-indexed}
use Rattle.reel_writing.proofs.index.write.Goals as goal
use Rattle.reel_writing.proofs.index.write.Goals.{In-Some}

-- the chunk of this turn
here : (c : In-Some) → Turn c.args.sync c.args.recording.now c.loop-entry.entry-iterator c.in-Some.entry c.in-Some.field-0-1 c.next.new.self
here c = turn _ _ _ _ c.loop-entry.invariant.2 _ _ c.in-Some.ensures.steps

pub put_entry-requires : goal.put_entry-requires
put_entry-requires c =
    let s = (here (goal.at.put_entry-requires c).In-Some).next in
    omega (arith, s.within, s.end, c.requires.0)

pub loop-entry-preserved : goal.loop-entry-preserved
loop-entry-preserved c =
    let t = here (goal.at.loop-entry-preserved c).In-Some in
    (tt, tt, t.on, rw t.past (entry-indexed _ _ _ _ _ _ c.loop-entry.invariant.3 _ _ t.next _ (search rules)))

pub returns-clause-value : goal.returns-clause-value
returns-clause-value c =
    (all-indexed _ _ _ _ _ _ c.loop-entry.invariant.3 (turned _ _ _ _ c.loop-entry.invariant.2 c.in-None.ensures.steps)).0

pub returns-clause-room_after : goal.returns-clause-room_after
returns-clause-room_after c =
    (all-indexed _ _ _ _ _ _ c.loop-entry.invariant.3 (turned _ _ _ _ c.loop-entry.invariant.2 c.in-None.ensures.steps)).1
