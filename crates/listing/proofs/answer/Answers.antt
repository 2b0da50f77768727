-- An input that is taken has a sync word, and its words end within the room.
use Rattle.program_input.proofs.Joining.{accepted}
use Rattle.listing.proofs.answer.Goals as goal

pub slice_bounds-list-count : goal.slice_bounds-list-count
slice_bounds-list-count c = (accepted _ _ _ _ _ c.words-reply.ensures.value c.words-reply.ensures.room_after c.if-reply-ne0.false).0

pub slice_bounds-list-start : goal.slice_bounds-list-start
slice_bounds-list-start c = (accepted _ _ _ _ _ c.words-reply.ensures.value c.words-reply.ensures.room_after c.if-reply-ne0.false).0

pub slice_bounds-list-end : goal.slice_bounds-list-end
slice_bounds-list-end c = (accepted _ _ _ _ _ c.words-reply.ensures.value c.words-reply.ensures.room_after c.if-reply-ne0.false).1
