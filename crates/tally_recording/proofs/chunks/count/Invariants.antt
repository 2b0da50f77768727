-- What is counted of the listed chunks so far, up to the place where the walk over them stands.
use Rattle.std.proofs.Common.{◌≡◌}
use Rattle.chunk.proofs.Walking.{Walks}
use Rattle.tally_recording.proofs.Gathering.{Gathered}
use Rattle.tally_recording.proofs.chunks.count.Given as goal

abbrev pub invariant-loop-entry : goal.invariant-loop-entry
invariant-loop-entry l =
    (goal.iterator-loop-entry).can_next l.entry-iterator ×
    (goal.iterator-loop-entry).is_finite l.entry-iterator ×
    Walks l.sync l.words l.entry-iterator ×
    (l.at ≡ l.entry-iterator.at.0) ×
    Gathered l.sync l.words l.skipped l.chunks l.packets l.units l.at
