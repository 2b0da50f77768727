-- `frame_reading::picture::give` meets its contract: where no data are touched, a copy is what is joined.
use Rattle.std.proofs.Common.{◌∙◌}
use Rattle.parity_units.proofs.Joining.{copied}
use Rattle.frame_reading.proofs.picture.give.Goals as goal

pub returns-clause-result_value : goal.returns-clause-result_value
returns-clause-result_value c =
    c.copy.ensures.result_value ∙ (copied c.args.payload.now c.args.room.now c.args.place.0 (c.requires c.if-touched.false)).0

pub returns-clause-room_after : goal.returns-clause-room_after
returns-clause-room_after c =
    c.copy.ensures.room_after ∙ (copied c.args.payload.now c.args.room.now c.args.place.0 (c.requires c.if-touched.false)).1
