-- `crc::wide::widen` meets its contract: blocks 0 before them change nothing, and a block turned round has the same words.
use mathlib.Core.Path.{sym, ap, ◌∙◌}
use Prim.Native.Nat.{ℕ}
use Rattle.crc_division.specs.Blocks.{after_block}
use Rattle.crc_division.proofs.Blocks.{after-block-linear}
use Rattle.crc_division.proofs.Joining.{nothing}
use Rattle.crc.specs.Held.{register_of, register_of_wide}
use Rattle.crc.proofs.Turns.{turned_round}
use Rattle.crc.proofs.wide.widen.Goals as goal

pub returns : goal.returns
unfolding register_of register_of_wide
returns c =
    let still = nothing after_block after-block-linear in
    sym (turned_round _ _ (turned_round _ _ (sym (ap (λ (r : ℕ). after_block r 0) still ∙ still)) (sym c.turned.ensures.0)) (sym c.turned-2.ensures.0))
