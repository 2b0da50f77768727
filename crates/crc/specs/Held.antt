-- What the code holds of a message until the end, for its private functions: eight words, or sixteen, that have the message's register.
use Rattle.std.specs.Prelude.{ℕ}
use Rattle.crc_division.specs.Blocks.{after_block}
use Rattle.crc_division.specs.Folding.{after_high}
use Rattle.crc.specs.declared.held.Held.{Held}
use Rattle.crc.specs.declared.wide.Wide.{Wide}

-- the register of the eight words held
unfoldable pub register_of : Held → ℕ
register_of h = after_high (after_high 0 h.first) h.second

-- and of the sixteen
unfoldable pub register_of_wide : Wide → ℕ
register_of_wide w = after_block (after_block (after_block (after_block 0 w.first) w.second) w.third) w.fourth
