-- FORMAT, "Comparing recordings": its example.
use Rattle.std.specs.Prelude.{ℕ, List, ◌∷◌, ◌++◌, replicate}

-- the recording of the listing as another station heard it: no noise before it, the fourth payload word of the image chunk is 1, and a chunk more
abbrev pub heard : List ℕ
heard = 0x5AF3 ∷ 0x2009 ∷ 0 ∷ 0 ∷ 0 ∷ 1 ∷ replicate 5 0 ++ 0x5AF3 ∷ 0x8020 ∷ replicate 32 0 ++ 0x5AF3 ∷ 0x0009 ∷ replicate 9 0
