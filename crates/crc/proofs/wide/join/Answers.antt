-- `crc::wide::join` meets its contract: the law of `Joining`.
use native.Mathlib.Omega.{arith}
use Rattle.crc.specs.Held.{register_of_wide}
use Rattle.crc_division.proofs.Joining.{join-wide}
use Rattle.crc.proofs.wide.join.Goals as goal

pub returns : goal.returns
unfolding register_of_wide
returns c =
    let a = c.args in
    join-wide a.w.first a.w.second a.w.third a.w.fourth a.block (omega arith)
