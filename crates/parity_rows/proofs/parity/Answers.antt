-- The whole rows, and the row after them; those further on are past the data.
use Rattle.std.proofs.Common.{◌+◌, ◌<◌, sym, ap, ◌∙◌, arith}
use Rattle.parity_rows.specs.ByRows.{sums_of}
use Rattle.parity_rows.proofs.ByRows.{next-sums, enough-rows, all-rows}
use Rattle.parity_rows.proofs.parity.Goals as goal

pub returns-then-whole-eq64 : goal.returns-then-whole-eq64
returns-then-whole-eq64 c =
    let d = c.args.«data».now in
    c.whole_rows-s.ensures ∙ ap (sums_of d) (sym c.min-whole.ensures ∙ c.if-whole-eq64.true) ∙ all-rows d

pub returns : goal.returns
returns c =
    let d = c.args.«data».now in
    let n = c.min-whole.result in
    let few : n < 64 = omega arith in
    next-sums d n few (c.whole_rows-s.ensures ∙ ap (sums_of d) (sym c.min-whole.ensures)) c.bits_from.ensures c.add.ensures
    ∙ enough-rows d (n + 1) (omega arith) (omega arith) ∙ all-rows d
