-- No number of one recording's tally passes the largest: each row by itself, and the numbers between them.
use mathlib.Core.Path.{◌≡◌}
use mathlib.Core.Bool.{false}
use mathlib.Core.List.{List, [], ◌∷◌, ◌++◌}
use Prim.Native.Nat.{ℕ, ◌≤◌}
use native.Mathlib.Omega.{arith}
use lib.Dec.{ltb}
use borrow.Author.Tests.{le-ltb}
use Rattle.base.proofs.Booleans.{or-false}
use Rattle.base.specs.Limit.{too_long}
use Rattle.tally_recording.specs.Numbers.{largest, any_past}
use Rattle.tally_recording.specs.Tally.{is_complete, is_cut, is_stray, tally_of}
use Rattle.tally_recording.proofs.Bound.{short, skipped-few, pieces-fit, chunks_fit, packets-fit, units-fit}
use Rattle.tally_counts.specs.Numbers.{numbers_of}

one-fits : (n : ℕ) (ns : List ℕ) → n ≤ largest → any_past ns ≡ false → any_past (n ∷ ns) ≡ false
unfolding any_past
one-fits n ns h e = rw (le-ltb largest n h) e

both-fit : (ms ns : List ℕ) → any_past ms ≡ false → any_past ns ≡ false → any_past (ms ++ ns) ≡ false
unfolding any_past
both-fit [] ns d e = e
both-fit (m ∷ ms) ns d e = let p = or-false (ltb largest m) (any_past ms) d in rw p.0 (both-fit ms ns p.1 e)

pub fits : (sync : ℕ) (ws : List ℕ) → too_long ws ≡ false → any_past (numbers_of (tally_of sync ws)) ≡ false
unfolding numbers_of tally_of
fits sync ws h =
    let piece = pieces-fit sync ws h in
    one-fits _ _ (omega arith) (one-fits _ _ (omega (arith, short sync ws h)) (one-fits _ _ (omega (arith, skipped-few sync ws h)) (both-fit _ _ (chunks_fit sync ws h)
    (one-fits _ _ (omega (arith, piece (is_complete sync ws))) (one-fits _ _ (omega (arith, piece (is_cut sync ws))) (one-fits _ _ (omega (arith, piece is_stray))
    (both-fit _ _ (packets-fit sync ws h) (units-fit sync ws h))))))))
