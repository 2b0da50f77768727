-- The rest is handed on: what the function of a kind knows once its run is passed, in plain numbers.
use mathlib.Core.Path.{◌≡◌, ap, ◌∙◌}
use Rattle.std.proofs.Common.{Option, None, Some}
use mathlib.Core.List.{List}
use Prim.Native.Nat.{ℕ, ◌+◌, ◌<◌, ◌≤◌, ◌/◌}
use native.Mathlib.Nat.{add-zero, mod-lt}
use native.Mathlib.Omega.{arith}
use lib.ListN.{length}
use lib.Dec.{lit<}
use Rattle.base.specs.Limit.{recording_limit}
use Rattle.base.specs.declared.Words.{Words}
use Rattle.chunk.specs.declared.Entry.{Entry}
use Rattle.chunk.specs.Header.{kind}
use Rattle.chunk_outline.specs.Within.{Reached, one, runs_on, runs_of, RunOn}

-- there are two kinds
pub health-else : (h : ℕ) → (kind h ≡ 0 → ⊥) → kind h ≡ 1
health-else h z = omega (arith, mod-lt (h / 32768) {m = 2} (lit< tt))

-- a run of the kind `own` is at `end`, and the next one begins with the chunk e, which ends at n
pub record Handed (sync : ℕ) (ws : List ℕ) (own end : ℕ) (e : Entry) (n : ℕ) : Type 0 where
  pub ahead : end < n
  pub within : n ≤ length ws
  pub counts : (k : ℕ) → runs_on k own sync ws end ≡ one k own + runs_on k (kind e.header) sync ws n

module _ (sync : ℕ) (ws : List ℕ) (own end : ℕ) (found : Option (Entry × Words)) (r : RunOn sync ws own end found) where
  pub run-handed : (e : Entry) (next : Words) → found ≡ Some (e, next) → Handed sync ws own end e next.0
  run-handed e next q = record {
    ahead = (r.ahead e next q).0;
    within = (r.ahead e next q).1;
    counts = λ k. r.counts k ∙ ap (λ (f : Option (Entry × Words)). one k own + runs_of k sync ws f) q;
  }

  -- it is the last run
  pub last-run : found ≡ None → (k : ℕ) → runs_on k own sync ws end ≡ one k own
  last-run q k = r.counts k ∙ ap (λ (f : Option (Entry × Words)). one k own + runs_of k sync ws f) q ∙ add-zero (one k own)

-- the runs that the function of the next kind counts
pub kind-counted : {sync : ℕ} {ws : List ℕ} {own end n : ℕ} {e : Entry} → Handed sync ws own end e n → (o : ℕ) → kind e.header ≡ o → (k : ℕ)
    → runs_on k own sync ws end ≡ one k own + runs_on k o sync ws n
kind-counted {sync} {ws} {own} {end} {n} h o i k = h.counts k ∙ ap (λ (x : ℕ). one k own + runs_on k x sync ws n) i

-- the next run is reached with one run more counted
pub next-reached : {sync : ℕ} {ws : List ℕ} {own end before n : ℕ} {e : Entry} → Reached ws end before → Handed sync ws own end e n → (m : ℕ)
    → m ≡ before + 1 → Reached ws n m
next-reached b h m c = record { few = omega (arith, b.few, h.ahead); within = h.within; short = b.short }

-- and there is room for it in the count
pub one_more : {ws : List ℕ} {end before : ℕ} → Reached ws end before → before + 1 ≤ recording_limit
one_more b = omega (arith, b.few, b.within, b.short)
