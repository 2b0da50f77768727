-- By the verdict on the arguments, and then by what is shown.
use Rattle.std.proofs.Common.{◌∙◌}
use Rattle.health_last.proofs.Placed.{arguments-refused, none-refused, found-shown}
use Rattle.health_last.proofs.last_place.Goals as goal

pub returns-then-verdict-ne0 : goal.returns-then-verdict-ne0
returns-then-verdict-ne0 c =
    let a = c.args in
    c.refused.ensures ∙ arguments-refused a.sync a.science.now a.packet_type a.health.now c.judge-verdict.ensures c.if-verdict-ne0.true

pub returns-then-place-eq0 : goal.returns-then-place-eq0
returns-then-place-eq0 c =
    let a = c.args in
    c.refused-then-place-eq0.ensures
    ∙ none-refused a.sync a.science.now a.packet_type a.health.now c.judge-verdict.ensures c.if-verdict-ne0.false
    c.newest-place.ensures c.if-place-eq0.true

pub returns : goal.returns
returns c =
    let a = c.args in
    found-shown a.sync a.science.now a.packet_type a.health.now c.judge-verdict.ensures c.if-verdict-ne0.false
    c.newest-place.ensures c.if-place-eq0.false
