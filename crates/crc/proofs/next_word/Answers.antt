-- A word fills the whole register.
use Rattle.std.proofs.Common.{sym, ◌∙◌}
use Rattle.crc_division.proofs.Linear.{word-step}
use Rattle.crc.proofs.next_word.Goals as goal

pub returns : goal.returns
returns c = c.sixteen.ensures ∙ sym (word-step _ _)
