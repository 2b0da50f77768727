-- What is left of the blocks takes the register of what is held to the answer.
use Rattle.std.proofs.Common.{◌≡◌, drop}
use mathlib.Core.List.{foldl}
use Rattle.crc.specs.Crc.{crc_words}
use Rattle.crc.specs.Held.{register_of_wide}
use Rattle.crc.proofs.words.Given as goal

abbrev pub invariant-loop-block : goal.invariant-loop-block
invariant-loop-block l = foldl crc_words (register_of_wide l.w) (drop l.block-index l.rest) ≡ crc_words l.fn.start l.fn.message
