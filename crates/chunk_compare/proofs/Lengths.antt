-- How many pairs there are: as many as the shorter list has chunks.
use mathlib.Core.Path.{◌≡◌}
use mathlib.Core.List.{List, [], ◌∷◌}
use Prim.Native.Nat.{ℕ, min}
use native.Mathlib.Omega.{arith}
use lib.ListN.{length}
use Rattle.chunk.specs.declared.Entry.{Entry}
use Rattle.chunk_compare.specs.Pairs.{paired}

pub paired-length : (a b : List ℕ) (es fs : List Entry) → length (paired a b es fs) ≡ min (length es) (length fs)
unfolding paired
paired-length a b [] fs = omega arith
paired-length a b (e ∷ es) [] = omega arith
paired-length a b (e ∷ es) (f ∷ fs) = omega (arith, paired-length a b es fs)
