-- The packet in hand is the last, or none of the asked.
use Rattle.std.proofs.Common.{sym, ◌∙◌, arith}
use Rattle.health_last.specs.Seek.{wanted}
use Rattle.health_last.proofs.seek.Seeking.{last_found, last-before, none_left}
use Rattle.health_last.proofs.seek.in_row.Goals as goal

pub returns-then-is_of : goal.returns-then-is_of
returns-then-is_of c =
    let a = c.args in
    last_found (wanted a.words.now a.packet_type a.any) c.loop-k.k a.from.0 c.loop-k-test.true (sym c.is_of.ensures ∙ c.if-is_of.true) ∙ c.loop-k.invariant

pub loop-k-preserved : goal.loop-k-preserved
loop-k-preserved c =
    let a = c.args in
    last-before (wanted a.words.now a.packet_type a.any) c.loop-k.k a.from.0 c.loop-k-test.true (sym c.is_of.ensures ∙ c.if-is_of.false) ∙ c.loop-k.invariant

pub returns : goal.returns
returns c =
    let a = c.args in
    sym (none_left (wanted a.words.now a.packet_type a.any) c.loop-k.k a.from.0 (omega arith)) ∙ c.loop-k.invariant
