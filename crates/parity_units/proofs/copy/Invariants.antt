-- The data of the units so far stand in the room.
use Rattle.std.proofs.Common.{◌≡◌}
use Rattle.std.specs.Slice.Iter.{chunks_rest, chunks_size}
use Rattle.parity_units.specs.Replies.{standing_data}
use Rattle.parity_units.proofs.Joining.{Joined}
use Rattle.parity_units.proofs.copy.Given as goal

abbrev pub invariant-loop-unit : goal.invariant-loop-unit
invariant-loop-unit l = (chunks_size l.unit-iterator ≡ 264) × Joined standing_data l.payload l.initial.room l.place.0 l.room (chunks_rest l.unit-iterator) l.past
