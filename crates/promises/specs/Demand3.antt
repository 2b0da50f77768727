-- FORMAT, "The three demands", the third: after any words, a clean stretch up to the end of a recording is read as it is read alone. Alone it lists exactly its
-- own chunks. After any words every chunk that begins 8,185 words or more after the stretch's start is listed; from the first of its chunks that is listed
-- the list, marks included, is that of the stretch alone, and so is every frame that starts there, asked for by its place or come to a step at a time.
use Rattle.std.specs.Prelude.{ℕ, ◌≤◌, ◌≡◌, true, List, ◌++◌, length}
use Rattle.base.specs.Limit.{recording_limit}
use Rattle.chunk_laws.specs.Stretch.{Laid, words, clean}
use Rattle.chunk_laws.specs.Resync.{ReadAsAlone}
use Rattle.frame_laws.specs.Resync.{FramesAsAlone, StepsAsAlone}

-- the list of the stretch `cs`, alone and after the words `a`; its frames asked for by place; and the frames and strays that a program comes to which steps
-- through it
pub record AsAlone (sync : ℕ) (a : List ℕ) (cs : List Laid) : Type 0 where
  pub lists : ReadAsAlone sync a cs
  pub frames : FramesAsAlone sync a cs
  pub steps : StepsAsAlone sync a cs

-- for every sync word, all words before, and every clean stretch, in a recording within the limit
abbrev pub Demand3 : Type 0
Demand3 = (sync : ℕ) (a : List ℕ) (cs : List Laid) → clean sync cs ≡ true → length (a ++ words sync cs) ≤ recording_limit → AsAlone sync a cs
