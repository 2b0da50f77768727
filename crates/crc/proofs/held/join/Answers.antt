-- `crc::held::join` meets its contract: the law of `Joining`.
use native.Mathlib.Omega.{arith}
use Rattle.crc.specs.Held.{register_of}
use Rattle.crc_division.proofs.Joining as joining
use Rattle.crc.proofs.held.join.Goals as goal

pub returns : goal.returns
unfolding register_of
returns c =
    let a = c.args in
    joining.join a.h.first a.h.second a.block (omega arith)
