-- Each word stands below the words before it.
use Rattle.parity_rows.proofs.Packing.{joined}
use Rattle.parity_rows.proofs.pack_row.Goals as goal

pub returns : goal.returns
returns c =
    let a = c.args in
    cc (joined a.a a.b a.c a.d c.ranges.a.fits c.ranges.b.fits c.ranges.c.fits c.ranges.d.fits)
