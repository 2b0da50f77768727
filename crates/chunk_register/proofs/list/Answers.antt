-- The facts about lists are `Filling`'s.
use Rattle.std.proofs.Common.{refl, sym, arith}
use Rattle.chunk_register.proofs.Filling as F
use Rattle.chunk_register.proofs.list.Goals as goal

pub slice_bounds-entry-items-end : goal.slice_bounds-entry-items-end
slice_bounds-entry-items-end c = (F.entries_fit _ _ c.args.register.now _ c.look-reply.ensures).1

pub slice_bounds-entry-items-end-2 : goal.slice_bounds-entry-items-end-2
slice_bounds-entry-items-end-2 c = sym (F.none_filled _ _ _ _ c.look-reply.ensures).long

pub loop-entry-init : goal.loop-entry-init
loop-entry-init c = F.none_filled _ _ _ _ c.look-reply.ensures

pub loop-entry-preserved : goal.loop-entry-preserved
loop-entry-preserved c = F.entry_filled _ _ _ _ _ _ c.loop-entry.invariant (omega arith) _ c.step_from-step.ensures

pub returns-clause-entries : goal.returns-clause-entries
returns-clause-entries c = F.all_filled _ _ _ _ _ _ c.loop-entry.invariant (omega arith) _ _ c.look-reply.ensures refl
