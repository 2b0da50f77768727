-- For the contracts of the functions that are not public: the runs from a place on, where a run is that has one more chunk, before the place.
use Rattle.std.specs.Prelude.{ℕ, Option, None, Some, ◌+◌, ◌<◌, ◌≤◌, ◌≡◌, Bool, false, cond, ◌&&◌, List, [], ◌∷◌, length, drop, eqb}
use Rattle.base.specs.Limit.{recording_limit}
use Rattle.base.specs.declared.Words.{Words}
use Rattle.chunk.specs.declared.Entry.{Entry}
use Rattle.chunk.specs.Header.{kind}
use Rattle.chunk.specs.Reading.{listed}
use Rattle.chunk_outline.specs.Runs.{runs, count_kind}

-- a run is at the place, in a recording within its limit, and the runs before it are fewer than the words up to the place
pub record Reached (ws : List ℕ) (end before : ℕ) : Type 0 where
  pub few : before < end
  pub within : end ≤ length ws
  pub short : length ws ≤ recording_limit

-- the first of these chunks joins a run of the kind `own` that is at the place: it begins there and is of that kind
abbrev pub joins : ℕ → ℕ → List Entry → Bool
joins own end [] = false
joins own end (e ∷ es) = eqb e.position.0 end && eqb (kind e.header) own

-- 1 for a run of the kind k
abbrev pub one : ℕ → ℕ → ℕ
one k own = cond (eqb own k) 1 0

-- the runs of the kind k, of these chunks with such a run before them
abbrev pub runs_with : ℕ → ℕ → ℕ → List Entry → ℕ
runs_with k own end es = cond (joins own end es) 0 (one k own) + count_kind k (runs es)

-- and of the chunks listed from the place on
unfoldable pub runs_on : ℕ → ℕ → ℕ → List ℕ → ℕ → ℕ
runs_on k own sync ws end = runs_with k own end (listed sync end 0 (drop end ws))

-- and from a run on that begins with the chunk that was found
abbrev pub runs_of : ℕ → ℕ → List ℕ → Option (Entry × Words) → ℕ
runs_of k sync ws None = 0
runs_of k sync ws (Some (e, next)) = runs_on k (kind e.header) sync ws next.0

-- A run of the kind `own` is at the place, and `found` is the chunk that begins the next run: it ends further on, and no run stands between.
pub record RunOn (sync : ℕ) (ws : List ℕ) (own end : ℕ) (found : Option (Entry × Words)) : Type 0 where
  pub counts : (k : ℕ) → runs_on k own sync ws end ≡ one k own + runs_of k sync ws found
  pub ahead : (e : Entry) (next : Words) → found ≡ Some (e, next) → (end < next.0) × (next.0 ≤ length ws)
