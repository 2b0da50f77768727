-- Past the end `at` gives 0, as `get_or` does.
use Rattle.std.proofs.Common.{◌∙◌}
use Rattle.parity_rows.proofs.Words.{packed}
use Rattle.parity_rows.proofs.bits_from.Goals as goal

pub returns : goal.returns
returns c =
    c.pack_row.ensures
    ∙ packed _ _ _ _ _ _ (λ i. (c.type_inv.words i).fits)
    c.at.ensures c.at-2.ensures c.at-3.ensures c.at-4.ensures
