-- `frame::pieces::frame_there` meets its contract: what is told of the frame is told by how far it reaches, and by what stands where it ends.
use Rattle.std.proofs.Common.{◌≡◌, ◌-◌, ◌||◌, eqb, length, take, drop}
use borrow.Author.Tests.{eq-eqb, ne_eqb}
use Rattle.frame.proofs.Walking.{frame_told}
use Rattle.chunk.specs.Header.{is_at_end}
use Rattle.frame.proofs.pieces.frame_there.Goals as goal
use Rattle.frame.proofs.pieces.frame_there.Goals.{then-own, else-own}

pub returns : goal.returns
returns c =
    let ws = c.args.words.now in
    let p = c.args.place.0 in
    let last : c.if-own.description ≡ eqb c.measure-reach.result.end.0 (length (take (length ws - p) (drop p ws))) || is_at_end c.closes-closing.result =
    elim c.if-own.branch [
      | then-own w ↦ rw (w.description-is, eq-eqb _ _ w.if-own.true)
      | else-own w ↦ rw (w.description-is, w.is_at_end.ensures, ne_eqb _ _ w.if-own.false)
    ] in
    frame_told c.args.sync ws p c.requires c.measure-reach.result c.measure-reach.ensures _ _ _ _ c.camera_of-camera.ensures c.closes-closing.ensures c.is_chunk.ensures last
