-- `crc::wide::narrow` meets its contract: a block turned round has the same words.
use mathlib.Core.Path.{refl, ◌∙◌}
use Rattle.crc.specs.Held.{register_of, register_of_wide}
use Rattle.crc.proofs.Turns.{turned_round}
use Rattle.crc.proofs.wide.narrow.Goals as goal

pub returns : goal.returns
unfolding register_of register_of_wide
returns c =
    c.join-2.ensures
    ∙ turned_round _ _
    (c.join.ensures
    ∙ turned_round _ _ (turned_round _ _ (turned_round _ _ refl c.turned.ensures.1) c.turned-2.ensures.1) c.turned-3.ensures.1)
    c.turned-4.ensures.1
