-- The walk over the chunks of a recording: what a call of its `next` gives.
use Rattle.std.specs.Prelude.{◌≡◌, Option, MatchOption}
use Rattle.base.specs.declared.Words.{Words}
use Rattle.chunk.specs.declared.Entry.{Entry}
use Rattle.chunk.specs.declared.walk.Chunks.{Chunks}
use Rattle.chunk.specs.Reading.{next_from}

-- The next chunk from the place where the walk stands, which goes on past it; the words and the sync word stay.
pub record chunks_step (s : Chunks) (r : Option (Entry × Words)) (t : Chunks) : Type 0 where
  pub found : r ≡ next_from s.sync s.words.now s.at.0
  pub words : t.words.now ≡ s.words.now
  pub sync : t.sync ≡ s.sync
  pub past : MatchOption r (t.at ≡ s.at) (λ x. t.at ≡ x.1)
