-- `crc::held::begin` meets its contract: the law of `Beginning`.
use Rattle.crc.specs.Held.{register_of}
use Rattle.crc_division.proofs.Beginning as beginning
use Rattle.crc.proofs.held.begin.Goals as goal

pub returns : goal.returns
unfolding register_of
returns c =
    let a = c.args in
    rw c.from-top.ensures (beginning.begin a.r a.first a.next c.ranges.r.fits c.ranges.first.fits a.count c.requires)
