-- The measure of each function of the cycle: the number of words left.
use Rattle.std.proofs.Common.{◌-◌, length}
use Rattle.chunk_outline.proofs.run.+health_run_image_run.Given as goal

abbrev pub decreases-health_run : goal.decreases-health_run
decreases-health_run l = length l.words.now.now - l.end

abbrev pub decreases-image_run : goal.decreases-image_run
decreases-image_run l = length l.words.now.now - l.end
