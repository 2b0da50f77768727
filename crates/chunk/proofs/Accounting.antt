-- FORMAT, "Chunks": listed chunk lengths plus skipped words are the recording's length. By place: `left` words ahead belong to a chunk that is listed already.
use mathlib.Core.Path.{◌≡◌, refl}
use mathlib.Core.Bool.{Bool, true, false}
use mathlib.Core.List.{List, [], ◌∷◌}
use Prim.Native.Nat.{ℕ, zero, suc, ◌+◌, ◌≤◌}
use native.Mathlib.Omega.{arith}
use lib.ListN.{length, get_or}
use Rattle.chunk.specs.Header.{size, confirmed}
use Rattle.chunk.specs.Reading.{listed, reading, skipped_from, skipped, listed_words}
use Rattle.chunk.proofs.Headers.{confirmed-within}

accounted-from : (sync at left : ℕ) (ws : List ℕ) → left ≤ length ws → listed_words (listed sync at left ws) + skipped_from sync left ws + left ≡ length ws
unfolding listed skipped_from listed_words
accounted-from sync at zero [] h = refl
accounted-from sync at (suc left) [] h = absurd (omega arith)
accounted-from sync at (suc left) (w ∷ ws) h = omega (arith, accounted-from sync (suc at) left ws (omega arith))
accounted-from sync at zero (w ∷ ws) h =
    by_cases (λ left l. accounted-from sync (suc at) left ws l) (confirmed sync (w ∷ ws)) refl
  where
    by_cases : ((left : ℕ) → left ≤ length ws → listed_words (listed sync (suc at) left ws) + skipped_from sync left ws + left ≡ length ws)
        → (b : Bool) → confirmed sync (w ∷ ws) ≡ b → listed_words (listed sync at 0 (w ∷ ws)) + skipped_from sync 0 (w ∷ ws) + 0 ≡ suc (length ws)
    by_cases more true e =
        let fits : suc (size (get_or ws 0 0)) ≤ length ws = omega (arith, (confirmed-within sync (w ∷ ws) e).0) in
        rw (listed, skipped_from, e) (omega (arith, more (suc (size (get_or ws 0 0))) fits))
    by_cases more false e = rw (listed, skipped_from, e) (omega (arith, more 0 (omega arith)))

pub accounted : (sync : ℕ) (ws : List ℕ) → listed_words (reading sync ws) + skipped sync ws ≡ length ws
accounted sync ws = omega (arith, accounted-from sync 0 0 ws (omega arith))
