-- The part that is judged has its words, whatever its width is.
use Rattle.std.proofs.Common.{ℕ, arith, length-take}
use Rattle.health.proofs.packet.sound_at.Goals as goal

pub slice_bounds-is_sound-end : goal.slice_bounds-is_sound-end
slice_bounds-is_sound-end c = omega (arith, length-take {A = ℕ})
