-- The mark of an entry follows from its position, its header word and the recording's length: at each place that length is the place and the words left.
use mathlib.Core.Path.{◌≡◌, ap, ◌∙◌}
use mathlib.Core.Bool.{true, false}
use mathlib.Core.List.{List, [], ◌∷◌}
use Prim.Native.Nat.{ℕ, zero, suc, ◌+◌}
use native.Mathlib.Omega.{arith}
use lib.ListN.{length, get_or}
use lib.Dec.{eqb}
use Rattle.base.proofs.Booleans.{by-test}
use Rattle.chunk.specs.declared.Entry.{Entry}
use Rattle.chunk.specs.Header.{size, span, confirmed, at_end}
use Rattle.chunk.specs.Reading.{listed, reading}
use Rattle.chunk.proofs.Headers.{end-shifted}
use Rattle.chunk.proofs.Steps.{past, listed-one}

-- each of these has the mark exactly where it ends at n
abbrev pub Marked : ℕ → List Entry → Type 0
Marked n [] = Unit {0}
Marked n (e ∷ es) = (e.end ≡ eqb (past e) n) × Marked n es

first-marked : (n at w : ℕ) (ws : List ℕ) → at + length (w ∷ ws) ≡ n → at_end (w ∷ ws) ≡ eqb (at + span (get_or ws 0 0)) n
unfolding at_end
first-marked n at w ws h =
    ap (eqb (span (get_or ws 0 0))) (omega arith) ∙ end-shifted (span (get_or ws 0 0)) at n (at + span (get_or ws 0 0)) (omega arith) (omega arith)

listed-marked : (sync n at left : ℕ) (ws : List ℕ) → at + length ws ≡ n → Marked n (listed sync at left ws)
unfolding listed
listed-marked sync n at left [] h = tt
listed-marked sync n at (suc left) (w ∷ ws) h = listed-marked sync n (suc at) left ws (omega arith)
listed-marked sync n at zero (w ∷ ws) h =
    by-test (confirmed sync (w ∷ ws))
    (λ c. rw (listed-one sync at w ws true c) (first-marked n at w ws h, listed-marked sync n (suc at) (suc (size (get_or ws 0 0))) ws (omega arith)))
    (λ c. rw (listed-one sync at w ws false c) (listed-marked sync n (suc at) 0 ws (omega arith)))

pub reading-marked : (sync : ℕ) (ws : List ℕ) → Marked (length ws) (reading sync ws)
reading-marked sync ws = listed-marked sync (length ws) 0 0 ws (omega arith)
