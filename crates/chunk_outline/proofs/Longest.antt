-- The runs of a list of chunks are longest rows of adjacent chunks of one kind, and no other way to part the list is.
use mathlib.Core.Path.{◌≡◌, refl, sym, ap, ◌∙◌}
use mathlib.Core.Bool.{Bool, true, false, cond}
use mathlib.Core.List.{List, [], ◌∷◌, ◌++◌}
use Rattle.chunk.specs.declared.Entry.{Entry}
use Rattle.chunk_outline.specs.Runs.{adjacent, before, runs, Row, Cut, Longest, Parted, joined, RunsAreLongest, OnlyRuns}

before-joined : (e : Entry) (rows : List (List Entry)) → joined (before e rows) ≡ e ∷ joined rows
unfolding before
before-joined e [] = refl
before-joined e ([] ∷ rows) = refl
before-joined e ((f ∷ row) ∷ rows) = by-test (adjacent e f)
  where
    by-test : (b : Bool) → joined (cond b ((e ∷ f ∷ row) ∷ rows) ((e ∷ []) ∷ (f ∷ row) ∷ rows)) ≡ e ∷ f ∷ (row ++ joined rows)
    by-test true = refl
    by-test false = refl

before-parted : (e : Entry) (rows : List (List Entry)) → Parted rows → Parted (before e rows)
unfolding before
before-parted e [] p = (tt, tt, tt)
before-parted e ([] ∷ rows) p = absurd p.0
before-parted e ((f ∷ row) ∷ rows) p = by-test (adjacent e f) refl
  where
    by-test : (b : Bool) → adjacent e f ≡ b → Parted (cond b ((e ∷ f ∷ row) ∷ rows) ((e ∷ []) ∷ (f ∷ row) ∷ rows))
    by-test true a = ((a, p.0), p.1, p.2)
    by-test false a = (tt, a, p)

-- the runs are the chunks, parted
runs-joined : (es : List Entry) → joined (runs es) ≡ es
unfolding runs
runs-joined [] = refl
runs-joined (e ∷ es) = before-joined e (runs es) ∙ ap (λ (l : List Entry). e ∷ l) (runs-joined es)

runs-parted : (es : List Entry) → Parted (runs es)
unfolding runs
runs-parted [] = tt
runs-parted (e ∷ es) = before-parted e (runs es) (runs-parted es)

-- a chunk that ends a longest row is a row of its own before the others
ends-row : (e : Entry) (rows : List (List Entry)) → Cut e rows → before e rows ≡ (e ∷ []) ∷ rows
unfolding before
ends-row e [] c = refl
ends-row e ([] ∷ rows) c = absurd c
ends-row e ((f ∷ row) ∷ rows) c = rw c

row_first : (row : List Entry) (rows : List (List Entry)) → Row row → Longest row rows → runs (joined rows) ≡ rows → runs (row ++ joined rows) ≡ row
    ∷ rows
unfolding runs before
row_first [] rows r l e = absurd r
row_first (e ∷ []) rows r l q = ap (before e) q ∙ ends-row e rows l
row_first (e ∷ f ∷ row) rows r l q = ap (before e) (row_first (f ∷ row) rows r.1 l q) ∙ rw r.0

rows-are-runs : (rows : List (List Entry)) → Parted rows → runs (joined rows) ≡ rows
unfolding runs
rows-are-runs [] p = refl
rows-are-runs (row ∷ rows) p = row_first row rows p.0 p.1 (rows-are-runs rows p.2)

pub runs-are-longest : RunsAreLongest
runs-are-longest es = (runs-joined es, runs-parted es)

pub only-runs : OnlyRuns
only-runs es rows j p = sym (ap runs (sym j) ∙ rows-are-runs rows p)
