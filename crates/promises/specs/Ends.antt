-- Document 02, request 6: the header check answers three ways, and every listed chunk carries the mark that it ends with the recording. That a clean stretch
-- has the marks that it has alone is `Demand3`.
use Rattle.chunk_laws.specs.Ends.{CheckedThreeWays, MarkFollowsFromPlace}

pub record Ends : Type 0 where
  -- 0 exactly where no chunk is confirmed, 1 exactly where a legal header stands at its end, 2 exactly where it ends with the recording
  pub three_ways : CheckedThreeWays
  -- the mark follows from position, header word and length; at most one chunk has it, the last of the list, and nothing is skipped after it
  pub mark : MarkFollowsFromPlace
