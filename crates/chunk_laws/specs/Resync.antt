-- Demand 3 for lists: after any words, a clean stretch up to the end of the recording is read as it is read alone.
use Rattle.std.specs.Prelude.{ℕ, ◌+◌, ◌≤◌, ◌≡◌, Bool, true, false, List, [], ◌∷◌, ◌++◌, length, leb}
use Rattle.chunk.specs.declared.Entry.{Entry}
use Rattle.chunk.specs.Reading.{entry, reading}
pub use Rattle.chunk.specs.Moved.{moved_entry, moved}
use Rattle.chunk_laws.specs.Stretch.{Laid, words, offset, empty, entries}
use Rattle.chunk_laws.specs.Listed.{Among}

-- the list from the place p on: from its first entry that stands at p or later
unfoldable pub from : ℕ → List Entry → List Entry
from p [] = []
from p (e ∷ es) = elim (leb p e.position.0) [ true ↦ e ∷ es | false ↦ from p es ]

-- The stretch `cs` after the words `a` is read as it is read alone.
pub record ReadAsAlone (sync : ℕ) (a : List ℕ) (cs : List Laid) : Type 0 where
  -- alone it lists exactly its own chunks: each at its place with its header word, the last with the mark, and nothing else
  pub alone : reading sync (words sync cs) ≡ entries 0 cs
  -- every chunk that begins 8,185 words or more after the stretch's start is listed, with the mark exactly where it is the stretch's last
  pub late : (before : List Laid) (c : Laid) (after : List Laid) → cs ≡ before ++ c ∷ after → 8185 ≤ offset sync before
      → Among (entry (length a + offset sync before) c.header (empty after)) (reading sync (a ++ words sync cs))
  -- from each of its chunks that is listed, and so from the first, the list with its marks is that of the stretch alone, moved by the words of `a`
  pub onward : (before : List Laid) (c : Laid) (after : List Laid) → cs ≡ before ++ c ∷ after → (end : Bool)
      → Among (entry (length a + offset sync before) c.header end) (reading sync (a ++ words sync cs))
      → from (length a + offset sync before) (reading sync (a ++ words sync cs))
      ≡ moved (length a) (from (offset sync before) (reading sync (words sync cs)))
