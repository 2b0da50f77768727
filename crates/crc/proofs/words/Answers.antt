-- The laws of blocks: the first words and a block, and one block more.
use Rattle.std.proofs.Common.{[], ap, ◌∙◌}
use Rattle.crc.specs.Crc.{crc_words}
use Rattle.crc_division.specs.Blocks.{after_block}
use Rattle.crc.specs.Held.{register_of_wide}
use Rattle.crc.proofs.Turns.{words-begun, block-more}
use Rattle.crc.proofs.words.Goals as goal

pub loop-block-init : goal.loop-block-init
loop-block-init c =
    words-begun c.args.start _ _ _ _ c.args.message.now c.in-Some-Some.first.now _ _ _ c.as_rchunks.ensures.front_len c.in-Some-Some.ensures.cases.same
    c.in-Some-Some.ensures'.cases.0 c.as_rchunks.ensures.back c.pack.ensures c.pack-2.ensures (c.widen-w.ensures ∙ c.begin-begun.ensures)

pub loop-block-preserved : goal.loop-block-preserved
unfolding after_block
loop-block-preserved c =
    block-more 16 _ _ _ _ _ [] c.loop-block-test.true (c.join-w.ensures ∙ ap (crc_words (register_of_wide c.loop-block.w)) c.pack-in-loop-block.ensures)
    c.loop-block.invariant
