-- `crc::held::register` meets its contract: the law of `Joining` at the end of a message.
use mathlib.Core.Path.{ap, ◌∙◌}
use native.Mathlib.Omega.{arith}
use Rattle.crc.specs.Crc.{crc_words}
use Rattle.crc_division.specs.Blocks.{after_block}
use Rattle.crc_division.specs.Folding.{after_high}
use Rattle.crc.specs.Held.{register_of}
use Rattle.crc_division.proofs.Joining as joining
use Rattle.crc.proofs.held.register.Goals as goal

pub returns : goal.returns
unfolding register_of after_block after_high
returns c =
    let h = c.args.h in
    c.sixty_four.ensures ∙ ap (crc_words 0) c.turned.ensures.0 ∙ joining.fold h.first h.second (omega arith)
