-- The room on the writer's two ways out.
use Rattle.parity.proofs.Writing.{untouched, stored}
use Rattle.parity.proofs.write_unit.Goals as goal

pub returns-then-r-ne0-clause-room_after : goal.returns-then-r-ne0-clause-room_after
returns-then-r-ne0-clause-room_after c = untouched _ _ _ c.plan-r.ensures c.if-r-ne0.true

pub returns-clause-room_after : goal.returns-clause-room_after
returns-clause-room_after c = stored _ _ _ c.plan-r.ensures c.if-r-ne0.false _ _ c.parity_words-parity.ensures c.put_joined.ensures
