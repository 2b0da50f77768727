-- The law of four words.
use native.Mathlib.Omega.{arith}
use Rattle.crc.proofs.Lanes.{packed}
use Rattle.crc.proofs.held.pack.Goals as goal

pub returns : goal.returns
returns c =
    rw (c.from.ensures, c.from-2.ensures, c.from-3.ensures, c.from-4.ensures)
    (packed c.args.words.now c.told-words (omega arith) (omega arith) (omega arith) (omega arith))
