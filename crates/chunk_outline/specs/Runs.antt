-- FORMAT, "Chunks": runs of image chunks and of health chunks.
use Rattle.std.specs.Prelude.{ℕ, ◌+◌, ◌≡◌, Bool, true, false, cond, ◌&&◌, List, [], ◌∷◌, ◌++◌, eqb}
use Rattle.chunk.specs.declared.Entry.{Entry}
use Rattle.chunk.specs.Header.{kind, span}

-- b follows a in one row: it begins where a ends, with no skipped word between, and is of a's kind
abbrev pub adjacent : Entry → Entry → Bool
adjacent a b = eqb b.position.0 (a.position.0 + span a.header) && eqb (kind b.header) (kind a.header)

-- a chunk before a list of rows: it joins the first of them where the row's first chunk follows it, else it is a row of its own
unfoldable pub before : Entry → List (List Entry) → List (List Entry)
before e [] = (e ∷ []) ∷ []
before e ([] ∷ rows) = (e ∷ []) ∷ rows
before e ((f ∷ row) ∷ rows) = cond (adjacent e f) ((e ∷ f ∷ row) ∷ rows) ((e ∷ []) ∷ (f ∷ row) ∷ rows)

-- The listed chunks in runs: longest rows of adjacent chunks of one kind.
unfoldable pub runs : List Entry → List (List Entry)
runs [] = []
runs (e ∷ es) = before e (runs es)

-- the row is of chunks of the kind k
abbrev pub of_kind : ℕ → List Entry → Bool
of_kind k [] = false
of_kind k (e ∷ row) = eqb (kind e.header) k

-- how many of these rows are of the kind k
unfoldable pub count_kind : ℕ → List (List Entry) → ℕ
count_kind k [] = 0
count_kind k (row ∷ rows) = cond (of_kind k row) 1 0 + count_kind k rows

-- ---- the rule's own words, of any way to part a list of chunks: the runs are one such way, and the only one

-- a row: each chunk follows the one before it
abbrev pub Row : List Entry → Type 0
Row [] = ⊥
Row (e ∷ []) = Unit {0}
Row (e ∷ f ∷ row) = (adjacent e f ≡ true) × Row (f ∷ row)

-- the first of these rows begins with a chunk that does not follow e, so that e ends a longest row
abbrev pub Cut : Entry → List (List Entry) → Type 0
Cut e [] = Unit {0}
Cut e ([] ∷ rows) = ⊥
Cut e ((f ∷ row) ∷ rows) = adjacent e f ≡ false

-- the row, before these rows, is a longest one
abbrev pub Longest : List Entry → List (List Entry) → Type 0
Longest [] rows = ⊥
Longest (e ∷ []) rows = Cut e rows
Longest (e ∷ f ∷ row) rows = Longest (f ∷ row) rows

-- rows of adjacent chunks, each as long as can be
abbrev pub Parted : List (List Entry) → Type 0
Parted [] = Unit {0}
Parted (row ∷ rows) = Row row × Longest row rows × Parted rows

-- the chunks of all the rows, in order
abbrev pub joined : List (List Entry) → List Entry
joined [] = []
joined (row ∷ rows) = row ++ joined rows

-- the runs of a list are its chunks, in rows that are each as long as can be
abbrev pub RunsAreLongest : Type 0
RunsAreLongest = (es : List Entry) → (joined (runs es) ≡ es) × Parted (runs es)

-- and no other rows of its chunks are
abbrev pub OnlyRuns : Type 0
OnlyRuns = (es : List Entry) (rows : List (List Entry)) → joined rows ≡ es → Parted rows → rows ≡ runs es
