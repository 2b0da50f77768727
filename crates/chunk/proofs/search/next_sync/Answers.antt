-- A place with another word than the sync word is passed.
use Rattle.std.proofs.Common.{◌∙◌, arith}
use Rattle.chunk.proofs.Steps.{found_beyond}
use Rattle.chunk.proofs.search.next_sync.Goals as goal

pub loop-at-preserved : goal.loop-at-preserved
loop-at-preserved c =
    let a = c.args in
    (omega arith, c.loop-at.invariant.1 ∙ found_beyond a.sync a.words.now c.loop-at.at (omega arith) c.if-words-at.false)
