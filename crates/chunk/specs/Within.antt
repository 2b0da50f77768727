-- For the contract of a function that is not public: the next place at which the search looks for a chunk.
use Rattle.std.specs.Prelude.{ℕ, ◌+◌, ◌≤◌, ◌<◌, ◌≡◌, List, length, get_or, Option, Some, None}
use Rattle.base.specs.declared.Words.{Words}
use Rattle.chunk.specs.Reading.{next_from}

-- the sync word stands at the place q, with a word after it, and from p on the search finds what it finds from there on
pub record Synced (sync : ℕ) (ws : List ℕ) (p q : ℕ) : Type 0 where
  pub ahead : p ≤ q
  pub room : q + 1 < length ws
  pub there : get_or ws q 0 ≡ sync
  pub same : next_from sync ws p ≡ next_from sync ws q

-- from p on there is such a place, or the search finds nothing
abbrev pub SyncFrom : ℕ → List ℕ → ℕ → Option Words → Type 0
SyncFrom sync ws p (Some q) = Synced sync ws p q.0
SyncFrom sync ws p None = next_from sync ws p ≡ None
