-- The search for the end of a run: it goes from end to end of the run's chunks, and the runs from the place reached are those from the first place.
use mathlib.Core.Path.{◌≡◌, sym, ap, ◌∙◌}
use Rattle.std.proofs.Common.{Option, None, Some}
use Rattle.std.proofs.lemmas.Option.{some_pair_parts}
use mathlib.Core.Bool.{Bool, true, false, cond, ◌&&◌}
use mathlib.Core.List.{List}
use Prim.Native.Nat.{ℕ, ◌+◌, ◌≤◌}
use native.Mathlib.Nat.{zero-add}
use native.Mathlib.Omega.{arith}
use lib.ListN.{drop}
use lib.Dec.{eqb}
use borrow.Author.Tests.{eqb-true}
use Rattle.base.proofs.Booleans.{and_right}
use Rattle.base.specs.declared.Words.{Words}
use Rattle.chunk.specs.declared.Entry.{Entry}
use Rattle.chunk.specs.Header.{kind}
use Rattle.chunk.specs.Reading.{listed}
use Rattle.chunk.proofs.Steps.{Next, Last}
use Rattle.chunk_outline.specs.Runs.{runs, count_kind}
use Rattle.chunk_outline.specs.Within.{joins, one, runs_with, runs_on, RunOn}
use Rattle.chunk_outline.proofs.Rows.{runs-first}

-- the runs of the chunks listed from a chunk on are those from its end on
pub runs-from : (sync : ℕ) (ws : List ℕ) (p : ℕ) (e : Entry) (n : ℕ) → Next sync ws p e n → (k : ℕ)
    → count_kind k (runs (listed sync p 0 (drop p ws))) ≡ runs_on k (kind e.header) sync ws n
unfolding runs_on
runs-from sync ws p e n s k =
    ap (λ (es : List Entry). count_kind k (runs es)) s.lists
    ∙ runs-first k e (listed sync n 0 (drop n ws))
    ∙ ap (λ (m : ℕ). runs_with k (kind e.header) m (listed sync n 0 (drop n ws))) (sym s.end)

-- a run of the kind `own` was at `from`, and is at `end`
pub record Going (sync : ℕ) (ws : List ℕ) (own from end : ℕ) : Type 0 where
  pub on : from ≤ end
  pub same : (k : ℕ) → runs_on k own sync ws from ≡ runs_on k own sync ws end

module _ (sync : ℕ) (ws : List ℕ) (own from : ℕ) where
  module _ (end : ℕ) (g : Going sync ws own from end) where
    -- no chunk is left
    pub run-last : Last sync ws end → RunOn sync ws own from None
    unfolding runs_on runs count_kind
    run-last l = record {
      counts = λ k. g.same k ∙ ap (runs_with k own end) l.lists;
      ahead = λ e n q. let z : ◌≡◌ {A = ℕ} 0 1 = cc in absurd (omega arith);
    }

    module _ (e : Entry) (n : ℕ) (s : Next sync ws end e n) where
      runs_here : (b : Bool) → eqb e.position.0 end && eqb (kind e.header) own ≡ b → (k : ℕ)
          → runs_on k own sync ws end ≡ cond b 0 (one k own) + count_kind k (runs (listed sync end 0 (drop end ws)))
      unfolding runs_on
      runs_here b t k = ap (λ (c : Bool). cond c 0 (one k own) + count_kind k (runs (listed sync end 0 (drop end ws)))) (ap (joins own end) s.lists ∙ t)

      -- the runs from here on, where the next chunk joins this run or does not
      by_next : (b : Bool) → eqb e.position.0 end && eqb (kind e.header) own ≡ b → (k : ℕ)
          → runs_on k own sync ws from ≡ cond b 0 (one k own) + runs_on k (kind e.header) sync ws n
      by_next b t k = g.same k ∙ runs_here b t k ∙ ap (λ (m : ℕ). cond b 0 (one k own) + m) (runs-from sync ws end e n s k)

      same_end : {f : Entry} {m : Words} → ◌≡◌ {A = Option (Entry × Words)} (Some (e, record { 0 = n })) (Some (f, m)) → record { 0 = n } ≡ m
      same_end q = (some_pair_parts _ _ _ _ q).1

      -- it begins another run
      pub run-parted : eqb e.position.0 end && eqb (kind e.header) own ≡ false → RunOn sync ws own from (Some (e, record { 0 = n }))
      run-parted t = record {
        counts = by_next false t;
        ahead = λ f m q.
            let i : n ≡ m.0 = ap (λ (x : Words). x.0) (same_end q) in
            (omega (arith, g.on, s.ahead, s.end), omega (arith, s.within));
      }

      -- it is of this run
      pub run-joined : eqb e.position.0 end && eqb (kind e.header) own ≡ true → Going sync ws own from n
      run-joined t = record {
        on = omega (arith, g.on, s.ahead, s.end);
        same = λ k.
            by_next true t k ∙ zero-add _
            ∙ ap (λ (o : ℕ). runs_on k o sync ws n) (eqb-true _ _ (and_right (eqb e.position.0 end) (eqb (kind e.header) own) t));
      }
