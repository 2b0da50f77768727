-- The laws of eight bytes.
use Rattle.std.proofs.Common.{◌≡◌}
use Rattle.crc_division.specs.Folding.{high_lanes}
use Rattle.crc.proofs.Lanes.{pairs_of, packed-bytes}
use Rattle.crc.proofs.Turns.{eight-bytes, first-bytes}
use Rattle.crc.proofs.held.pack_bytes.Goals as goal

pub returns : goal.returns
returns c =
    let bytes = c.args.bytes.now in
    let e : high_lanes c.from_be_bytes.result ≡ pairs_of bytes = packed-bytes _ bytes c.told-bytes c.fits-bytes c.from_be_bytes.ensures in
    record { whole = eight-bytes _ bytes c.told-bytes c.fits-bytes e; front = first-bytes _ bytes c.told-bytes c.fits-bytes e }
