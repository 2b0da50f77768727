-- The shortest chunk has 11 words, so a recording has at most an eleventh as many chunks as words.
use mathlib.Core.Path.{◌≡◌, refl, ap}
use mathlib.Core.List.{List}
use Prim.Native.Nat.{ℕ, zero, suc, ◌+◌, ◌*◌, ◌≤◌}
use native.Mathlib.Omega.{arith}
use lib.ListN.{length}
use Rattle.std.proofs.Common.{Option, Some, None}
use Rattle.base.specs.declared.Words.{Words}
use Rattle.chunk.specs.declared.Entry.{Entry}
use Rattle.chunk.specs.Reading.{reading, next_from}
use Rattle.chunk.proofs.Steps.{listed_from, Next, stepped, ended, found-end}
use Rattle.reel.specs.Layout.{shortest_chunk}

module _ (sync : ℕ) (ws : List ℕ) where
  few-from : (k p : ℕ) → length ws ≤ p + k → p ≤ length ws → p + shortest_chunk * length (listed_from sync ws p) ≤ length ws
  few-from zero p h l = omega (arith, ap length (ended sync ws p (found-end sync ws p (omega arith))).lists)
  few-from (suc k) p h l = by-found (few-from k) (next_from sync ws p) refl
    where
      by-found : ((q : ℕ) → length ws ≤ q + k → q ≤ length ws → q + shortest_chunk * length (listed_from sync ws q) ≤ length ws) → (f : Option (Entry × Words)) → next_from sync ws p ≡ f
          → p + shortest_chunk * length (listed_from sync ws p) ≤ length ws
      by-found more (Some (e, next)) f =
          let s : Next sync ws p e next.0 = stepped sync ws p e next f in
          let least : p + shortest_chunk ≤ next.0 = omega (arith, s.ahead, s.least, s.end) in
          omega (arith, ap length s.lists, more next.0 (omega arith) s.within)
      by-found more None f = omega (arith, ap length (ended sync ws p f).lists)

  pub few-chunks : shortest_chunk * length (reading sync ws) ≤ length ws
  few-chunks = omega (arith, few-from (length ws) 0 (omega arith) (omega arith))
