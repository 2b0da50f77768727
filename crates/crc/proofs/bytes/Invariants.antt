-- What is left of the blocks takes the register of what is held to the answer.
use Rattle.std.proofs.Common.{◌≡◌, drop}
use mathlib.Core.List.{foldl}
use Rattle.crc.specs.Crc.{crc_bytes}
use Rattle.crc.specs.Held.{register_of}
use Rattle.crc.proofs.bytes.Given as goal

abbrev pub invariant-loop-block : goal.invariant-loop-block
invariant-loop-block l = foldl crc_bytes (register_of l.h) (drop l.block-index l.rest) ≡ crc_bytes l.fn.start l.fn.message
