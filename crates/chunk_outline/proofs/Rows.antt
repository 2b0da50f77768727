-- The number of runs, one chunk at a time: a chunk that is adjacent to the next joins its run, and any other is a run of its own.
use mathlib.Core.Path.{◌≡◌, refl, sym, ap, ◌∙◌}
use mathlib.Core.Bool.{Bool, true, false}
use mathlib.Core.List.{List, [], ◌∷◌}
use Prim.Native.Nat.{ℕ, ◌+◌}
use native.Mathlib.Nat.{zero-add}
use lib.Dec.{eqb}
use borrow.Author.Tests.{eqb-true}
use Rattle.base.proofs.Booleans.{and_right}
use Rattle.chunk.specs.declared.Entry.{Entry}
use Rattle.chunk.specs.Header.{kind, span}
use Rattle.chunk_outline.specs.Runs.{adjacent, before, runs, count_kind}
use Rattle.chunk_outline.specs.Within.{one, runs_with}

-- the first run of a list begins with the list's first chunk
record FirstRun (f : Entry) (es : List Entry) : Type 0 where
  row : List Entry
  rows : List (List Entry)
  begins : runs (f ∷ es) ≡ (f ∷ row) ∷ rows

longer : (f g : Entry) (es : List Entry) → FirstRun g es → (b : Bool) → adjacent f g ≡ b → FirstRun f (g ∷ es)
unfolding runs before
longer f g es r true e = record { row = g ∷ r.row; rows = r.rows; begins = rw (r.begins, e) }
longer f g es r false e = record { row = []; rows = (g ∷ r.row) ∷ r.rows; begins = rw (r.begins, e) }

first_run : (f : Entry) (es : List Entry) → FirstRun f es
unfolding runs before
first_run f [] = record { row = []; rows = []; begins = refl }
first_run f (g ∷ es) = longer f g es (first_run g es) (adjacent f g) refl

-- the runs of a chunk and of those after it: it stands for a run that is at its end
pub runs-first : (k : ℕ) (e : Entry) (es : List Entry) → count_kind k (runs (e ∷ es)) ≡ runs_with k (kind e.header) (e.position.0 + span e.header) es
unfolding runs before count_kind
runs-first k e [] = refl
runs-first k e (f ∷ es) = by-test (adjacent e f) refl
  where
    r : FirstRun f es
    r = first_run f es

    by-test : (b : Bool) → adjacent e f ≡ b
        → count_kind k (runs (e ∷ f ∷ es)) ≡ runs_with k (kind e.header) (e.position.0 + span e.header) (f ∷ es)
    by-test true h =
        let same : kind f.header ≡ kind e.header =
        eqb-true _ _ (and_right (eqb f.position.0 (e.position.0 + span e.header)) (eqb (kind f.header) (kind e.header)) h) in
        rw (r.begins, h) (ap (λ (n : ℕ). one k n + count_kind k r.rows) (sym same) ∙ sym (zero-add _))
    by-test false h = rw (r.begins, h)
