-- Positions count from where reading begins: moved by n words, the same chunks are listed, for nothing that confirms one or marks it looks at its position.
use mathlib.Core.Path.{◌≡◌, refl, ap}
use mathlib.Core.Bool.{true, false}
use mathlib.Core.List.{List, [], ◌∷◌}
use Prim.Native.Nat.{ℕ, zero, suc, ◌+◌}
use native.Mathlib.Nat.{add-suc}
use lib.ListN.{get_or}
use Rattle.base.proofs.Booleans.{by-test}
use Rattle.chunk.specs.declared.Entry.{Entry}
use Rattle.chunk.specs.Header.{confirmed, at_end}
use Rattle.chunk.specs.Reading.{entry, listed}
use Rattle.chunk.specs.Moved.{moved}
use Rattle.chunk.proofs.Steps.{listed-one}

pub listed-moved : (sync n at left : ℕ) (ws : List ℕ) → listed sync (n + at) left ws ≡ moved n (listed sync at left ws)
unfolding listed
listed-moved sync n at left [] = refl
listed-moved sync n at (suc left) (w ∷ ws) = rw (← add-suc n at) (listed-moved sync n (suc at) left ws)
listed-moved sync n at zero (w ∷ ws) =
    by-test (confirmed sync (w ∷ ws))
    (λ e. rw (listed-one sync (n + at) w ws true e, listed-one sync at w ws true e, ← add-suc n at)
    (ap (λ (l : List Entry). entry (n + at) (get_or ws 0 0) (at_end (w ∷ ws)) ∷ l) (listed-moved sync n (suc at) _ ws)))
    (λ e. rw (listed-one sync (n + at) w ws false e, listed-one sync at w ws false e, ← add-suc n at) (listed-moved sync n (suc at) 0 ws))
