-- The judge's reply, and the room looked at last.
use Rattle.std.proofs.Common.{◌∙◌}
use Rattle.parity.proofs.Judging.{refused-as-judged, refused-for-room, accepted-as-judged}
use Rattle.parity.proofs.look.Goals as goal

pub returns-then-r-ne0 : goal.returns-then-r-ne0
returns-then-r-ne0 c = refused-as-judged _ _ _ c.judge_unit-r.ensures c.if-r-ne0.true

pub returns-then-room-r : goal.returns-then-room-r
returns-then-room-r c = c.refused.ensures ∙ refused-for-room _ _ _ c.judge_unit-r.ensures c.if-r-ne0.false c.if-room-r.true

pub returns : goal.returns
returns c = accepted-as-judged _ _ _ c.judge_unit-r.ensures c.if-r-ne0.false c.if-room-r.false
