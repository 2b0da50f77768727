-- `frame::pieces::next` meets its contract: what the chunk of a turn is.
use Rattle.std.proofs.Common.{Some, sym, ap, ◌∙◌, arith}
use Rattle.frame.specs.declared.Piece.{Piece}
use Rattle.frame.proofs.Stepping.{starts_here, frame_here, stray_here}
use Rattle.frame.proofs.pieces.next.Goals as goal

pub frame_there-requires : goal.frame_there-requires
frame_there-requires c =
    starts_here c.args.sync c.args.words.now _ _ c.loop-entry.invariant.2 c.in-Some.entry c.in-Some.past c.in-Some.ensures.steps (sym c.starts.ensures ∙ c.if-starts.true)

pub returns-then-starts : goal.returns-then-starts
returns-then-starts c =
    ap (λ (x : Piece). Some x) c.frame_there.ensures
    ∙ frame_here c.args.sync c.args.words.now _ _ c.loop-entry.invariant.2 c.in-Some.entry c.in-Some.past c.in-Some.ensures.steps (sym c.starts.ensures ∙ c.if-starts.true)
    ∙ c.loop-entry.invariant.3

pub returns-then-kind_of-eq0 : goal.returns-then-kind_of-eq0
returns-then-kind_of-eq0 c =
    stray_here c.args.sync c.args.words.now _ _ c.loop-entry.invariant.2 c.in-Some.entry c.in-Some.past c.in-Some.ensures.steps (omega arith) (sym c.starts.ensures ∙ c.if-starts.false)
    ∙ c.loop-entry.invariant.3
