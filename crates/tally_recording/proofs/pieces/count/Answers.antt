-- `tally_recording::pieces::count` meets its contract: each turn counts the frame or the stray that it gives, by the lemmas of `Framing`.
use Rattle.std.proofs.Common.{◌≡◌, Some, refl, ap, ◌∙◌, arith, rules}
use Rattle.frame.specs.declared.Piece.{Piece}
use Rattle.frame.specs.Pieces.{next_piece}
use Rattle.frame.proofs.Turns.{Turn, turn, turned}
use Rattle.tally_recording.proofs.Framing.{frame-framed, frame-fits, stray-framed, stray-fits, all-framed}
use Rattle.tally_recording.proofs.pieces.count.Goals as goal
use Rattle.tally_recording.proofs.pieces.count.Goals.{In-Some}

-- this turn, and that its piece is the next
here : (c : In-Some) → Turn c.args.sync c.args.words.now c.loop-piece.piece-iterator c.in-Some.piece c.next.new.self
here c = turn _ _ _ _ c.loop-piece.invariant.2 _ c.in-Some.ensures.steps

told : (c : In-Some) (x : Piece) → c.in-Some.piece ≡ x → next_piece c.args.sync c.args.words.now c.loop-piece.piece-iterator.at.0 ≡ Some x
told c x is = (here c).next ∙ ap (λ (y : Piece). Some y) is

pub overflow_add-complete : goal.overflow_add-complete
overflow_add-complete c =
    let fits = frame-fits c.args.sync c.args.words.now _ _ _ _ c.loop-piece.invariant.3 _ _ _ (told (goal.at.overflow_add-complete c).In-Some _ c.in-Frame.is) c.from-complete.result _ (search rules) refl c.requires in
    record { fits = omega (arith, fits.0) }

pub overflow_add-cut : goal.overflow_add-cut
overflow_add-cut c =
    let fits = frame-fits c.args.sync c.args.words.now _ _ _ _ c.loop-piece.invariant.3 _ _ _ (told (goal.at.overflow_add-cut c).In-Some _ c.in-Frame.is) _ c.from-cut.result refl (search rules) c.requires in
    record { fits = omega (arith, fits.1) }

pub loop-piece-preserved-in-Frame : goal.loop-piece-preserved-in-Frame
loop-piece-preserved-in-Frame c =
    let i = (goal.at.loop-piece-preserved-in-Frame c).In-Some in
    let t = here i in (
      tt,
      tt,
      t.on,
      rw (t.past, c.in-Frame.is) (frame-framed c.args.sync c.args.words.now _ _ _ _ c.loop-piece.invariant.3 _ _ _ (told i _ c.in-Frame.is) _ _ (search rules) (search rules)),
    )

pub overflow_add-strays : goal.overflow_add-strays
overflow_add-strays c =
    let fits = stray-fits c.args.sync c.args.words.now _ _ _ _ c.loop-piece.invariant.3 _ _ (told (goal.at.overflow_add-strays c).In-Some _ c.in-Stray.is) c.requires in
    record { fits = omega (arith, fits) }

pub loop-piece-preserved : goal.loop-piece-preserved
loop-piece-preserved c =
    let i = (goal.at.loop-piece-preserved c).In-Some in
    let t = here i in (
      tt,
      tt,
      t.on,
      rw (t.past, c.in-Stray.is) (stray-framed c.args.sync c.args.words.now _ _ _ _ c.loop-piece.invariant.3 _ _ (told i _ c.in-Stray.is)),
    )

pub returns : goal.returns
returns c = all-framed c.args.sync c.args.words.now _ _ _ _ c.loop-piece.invariant.3 (turned _ _ _ _ c.loop-piece.invariant.2 c.in-None.ensures.steps)
