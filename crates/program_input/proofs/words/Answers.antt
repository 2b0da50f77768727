-- The next pair of bytes gives the next word of the room; what is refused alters no room.
use Rattle.std.proofs.Common.{◌≡◌, ◌∙◌, ◌/◌, ℕ, List, length, ap, arith, set}
use Rattle.std.proofs.Math.Seq.{paste, paste-zero}
use Rattle.program_input.specs.Input.{words_of}
use Rattle.program_input.proofs.Joining.{joined, untouched, fits, written}
use Rattle.program_input.proofs.words.Goals as goal

pub returns-then-reply-ne0-clause-room_after : goal.returns-then-reply-ne0-clause-room_after
returns-then-reply-ne0-clause-room_after c =
    let a = c.args in
    untouched a.bytes.now a.most.0 a.room.now _ c.plan-reply.ensures c.if-reply-ne0.true

pub loop-i-init : goal.loop-i-init
loop-i-init c = paste-zero c.args.room.now 0 (words_of c.args.bytes.now)

pub bounds-room-i : goal.bounds-room-i
bounds-room-i c =
    let a = c.args in
    omega (arith, c.as_chunks.ensures.front_len, fits a.bytes.now a.most.0 a.room.now _ c.plan-reply.ensures c.if-reply-ne0.false)

pub loop-i-preserved : goal.loop-i-preserved
loop-i-preserved c =
    let a = c.args in
    ap (λ (room : List ℕ). set room c.loop-i.i c.word.result) c.loop-i.invariant
    ∙ joined a.bytes.now a.room.now _ c.loop-i.i _ c.as_chunks.ensures.front (omega (arith, c.loop-i-test.true, c.as_chunks.ensures.front_len))
    (fits a.bytes.now a.most.0 a.room.now _ c.plan-reply.ensures c.if-reply-ne0.false) c.word.ensures

pub returns-clause-room_after : goal.returns-clause-room_after
returns-clause-room_after c =
    let a = c.args in
    let end : c.loop-i.i ≡ length a.bytes.now / 2 = omega (arith, c.as_chunks.ensures.front_len) in
    c.loop-i.invariant ∙ ap (paste a.room.now 0 (words_of a.bytes.now)) end
    ∙ written a.bytes.now a.most.0 a.room.now _ c.plan-reply.ensures c.if-reply-ne0.false
