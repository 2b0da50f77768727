-- Document 02, request 5: a running tally over many recordings. That the calls answer as their definitions say, refusals too, is `Demand1`. Here stands what
-- the definitions amount to, of what the calls reply and leave in the caller's tally. Where a law asks for the rows of a tally, it asks for their lengths,
-- which the tally's type gives.
use Rattle.tally_laws.specs.Kept.{NumbersComeBack}
use Rattle.tally_laws.specs.Run.{RunsAreSums, OrderDoesNotMatter}
use Rattle.tally_laws.specs.Refusals.{SevenExactly, AddGivesAdded, FirstIsItself}
use Rattle.tally_laws.specs.Accounts.{EveryNumberIsAccountedFor}

pub record Tally : Type 0 where
  -- after any recordings the tally is what it was with the tally of each recording that was not refused added, and the refused ones change nothing
  pub sum : RunsAreSums
  -- where none is refused in one order, none is in another, and the tally afterwards is the same
  pub order : OrderDoesNotMatter
  -- every word is skipped or stands in a listed chunk, every chunk and every unit is counted once, every image chunk starts a frame, joins one or is a stray,
  -- and no packet is counted twice
  pub accounts : EveryNumberIsAccountedFor
  -- one recording more is refused with 1 exactly where it is too long, and with 7 exactly where it is not and one of the thirty sums passes 4,294,967,295,
  -- which leaves the tally as it was; else the number is 0, and each of the thirty is the sum
  pub seven : SevenExactly
  -- the call that changes the caller's tally and the one that answers with a new one give the same number, and the same tally where nothing is refused
  pub agree : AddGivesAdded
  -- a recording added to the tally of none gives what is answered of it alone, refused or not
  pub first : FirstIsItself
  -- a tally's thirty numbers give it back, and thirty numbers are those of the tally that they give
  pub kept : NumbersComeBack
