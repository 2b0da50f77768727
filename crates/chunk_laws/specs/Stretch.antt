-- Rows of chunks: their words, their entries, and what makes a row a clean stretch.
use Rattle.std.specs.Prelude.{ℕ, ◌+◌, Bool, true, false, not, ◌&&◌, List, [], ◌∷◌, ◌++◌, length, eqb}
use Rattle.chunk.specs.declared.Entry.{Entry}
use Rattle.chunk.specs.Header.{size, span, legal}
use Rattle.chunk.specs.Reading.{entry}

-- A chunk: its header word, and the words after it.
pub record Laid : Type 0 where
  pub header : ℕ
  pub payload : List ℕ

-- the words of a row of chunks, end to end: of each the sync word, the header word and the payload
abbrev pub words : ℕ → List Laid → List ℕ
words sync [] = []
words sync (c ∷ cs) = sync ∷ c.header ∷ (c.payload ++ words sync cs)

-- how many words after the row's start the chunk begins that comes after the chunks `before`
abbrev pub offset : ℕ → List Laid → ℕ
offset sync before = length (words sync before)

-- these are none; of the chunks after one, that it is the row's last
abbrev pub empty : {A : Type 0} → List A → Bool
empty [] = true
empty (c ∷ cs) = false

-- every chunk of a row as it is listed, the first at the position `at` and each other where the one before it ends; the last has the mark
abbrev pub entries : ℕ → List Laid → List Entry
entries at [] = []
entries at (c ∷ cs) = entry at c.header (empty cs) ∷ entries (at + span c.header) cs

-- a legal header word, and as many words after it as it says
abbrev pub whole : Laid → Bool
whole c = legal c.header && eqb (length c.payload) (size c.header)

-- every chunk of a row is whole
unfoldable pub whole_row : List Laid → Bool
whole_row [] = true
whole_row (c ∷ cs) = whole c && whole_row cs

-- the word w is none of these
unfoldable pub lacks : ℕ → List ℕ → Bool
lacks w [] = true
lacks w (x ∷ xs) = not (eqb x w) && lacks w xs

-- A clean stretch, as the mission has it: whole chunks, and in each the sync word stands only as its first word.
unfoldable pub clean : ℕ → List Laid → Bool
clean sync [] = true
clean sync (c ∷ cs) = whole c && lacks sync (c.header ∷ c.payload) && clean sync cs
