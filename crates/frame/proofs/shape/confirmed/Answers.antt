-- `frame::shape::confirmed` meets its contract: the header check finds a chunk exactly where one is confirmed.
use Rattle.std.proofs.Common.{ap, ◌∙◌}
use Rattle.chunk.specs.Header.{is_chunk}
use Rattle.chunk.proofs.Headers.{check-chunk}
use Rattle.frame.proofs.shape.confirmed.Goals as goal

pub returns : goal.returns
returns c = c.is_chunk.ensures ∙ ap is_chunk c.check.ensures ∙ check-chunk _ _
