-- The laws of blocks: the first bytes and a block, and one block more; all of it after an odd byte.
use Rattle.std.proofs.Common.{◌≡◌, [], ◌∙◌, length, ◌%◌, arith}
use Rattle.crc.proofs.Turns.{bytes-begun, block-more, in_turn}
use Rattle.crc.proofs.bytes.Goals as goal

pub loop-block-init : goal.loop-block-init
loop-block-init c =
    let pairs = c.split_at.result.1.now in
    let even : length pairs % 2 ≡ 0 = omega (arith, c.split_at.ensures.back_len) in
    bytes-begun _ _ _ _ _ pairs c.in-Some-Some.first.now _ _ _ even c.as_rchunks.ensures.front_len c.in-Some-Some.ensures.cases.same
    c.in-Some-Some.ensures'.cases.0 c.as_rchunks.ensures.back c.pack_bytes.ensures.front c.pack_bytes-2.ensures.whole c.begin-h.ensures
    ∙ in_turn c.args.start _ _ _ _ _ c.split_at.ensures.front c.split_at.ensures.back c.few_bytes-r.ensures

pub loop-block-preserved : goal.loop-block-preserved
loop-block-preserved c =
    block-more 8 _ _ _ _ _ [] c.loop-block-test.true (c.join-h.ensures ∙ c.pack_bytes-in-loop-block.ensures.whole _) c.loop-block.invariant
