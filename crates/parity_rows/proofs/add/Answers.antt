-- The low digit of a count is its oddness, and shifted by less than 64 it stays whole.
use Rattle.std.proofs.Common.{ℕ, ap}
use Rattle.std.specs.Int.Count.{ones}
use Rattle.base.specs.Xor.{◌xor◌}
use Rattle.parity_rows.specs.Parity.{sums}
use Rattle.parity_rows.proofs.Packing.{placed}
use Rattle.parity_rows.proofs.add.Goals as goal

pub returns : goal.returns
returns c =
    let a = c.args in
    ap (λ (x : ℕ). sums (a.s.rows xor x) (a.s.columns xor a.w)) (placed (ones a.w) a.r c.requires c.from-odd.ensures)
