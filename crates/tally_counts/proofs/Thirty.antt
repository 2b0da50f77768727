-- The thirty numbers and back: a row of known length is its numbers, written out one by one, and so what the code does to each of the thirty is what the
-- definitions do to the rows.
use mathlib.Core.Path.{◌≡◌, sym, ap, ap₂, ◌∙◌}
use mathlib.Core.List.{List, ◌∷◌, ◌++◌}
use Prim.Native.Nat.{ℕ, ◌+◌}
use lib.ListN.{length}
use Rattle.tally_recording.specs.declared.Tally.{Tally}
use Rattle.tally_recording.specs.Numbers.{each, sums}
use Rattle.tally_recording.proofs.Rows.{places, all-places}
use Rattle.tally_counts.specs.Numbers.{Rows, numbers_of, plus, tally_from}

-- the thirty of a tally with these rows
abbrev pub thirty : Tally → List ℕ → List ℕ → List ℕ → List ℕ
thirty t chunks packets units =
    t.recordings ∷ t.words ∷ t.skipped ∷ (chunks ++ (t.complete ∷ t.cut ∷ t.strays ∷ (packets ++ units)))

-- one by one
abbrev pub written : Tally → List ℕ
written t = thirty t (places 5 t.chunks) (places 15 t.packets) (places 4 t.units)

pub numbers-written : (t : Tally) → Rows t → written t ≡ numbers_of t
unfolding numbers_of
numbers-written t r =
    ap (λ (x : List ℕ). thirty t x (places 15 t.packets) (places 4 t.units)) (all-places t.chunks 5 r.five)
    ∙ ap₂ (thirty t t.chunks) (all-places t.packets 15 r.fifteen) (all-places t.units 4 r.four)

-- the sum of two with these rows
abbrev together : Tally → Tally → List ℕ → List ℕ → List ℕ → Tally
together t u chunks packets units =
    record {
      recordings = t.recordings + u.recordings;
      words = t.words + u.words;
      skipped = t.skipped + u.skipped;
      chunks = chunks;
      complete = t.complete + u.complete;
      cut = t.cut + u.cut;
      strays = t.strays + u.strays;
      packets = packets;
      units = units;
    }

module _ (t u : Tally) (r : Rows t) (s : Rows u) where
  sums-written : sums (written t) (written u) ≡ sums (numbers_of t) (numbers_of u)
  sums-written = ap₂ sums (numbers-written t r) (numbers-written u s)

  row : (ns ms : List ℕ) (n : ℕ) → length ns ≡ n → length ms ≡ n → sums (places n ns) (places n ms) ≡ sums ns ms
  row ns ms n h k = ap₂ sums (all-places ns n h) (all-places ms n k)

  added-rows : together t u (sums (places 5 t.chunks) (places 5 u.chunks)) (sums (places 15 t.packets) (places 15 u.packets))
      (sums (places 4 t.units) (places 4 u.units)) ≡ plus t u
  unfolding plus
  added-rows =
      ap (λ (x : List ℕ). together t u x (sums (places 15 t.packets) (places 15 u.packets)) (sums (places 4 t.units) (places 4 u.units))) (row t.chunks u.chunks 5 r.five s.five)
      ∙ ap₂ (together t u (sums t.chunks u.chunks)) (row t.packets u.packets 15 r.fifteen s.fifteen) (row t.units u.units 4 r.four s.four)

  -- the thirty sums are the numbers of the sum
  pub sums-numbers : sums (numbers_of t) (numbers_of u) ≡ numbers_of (plus t u)
  unfolding sums each numbers_of
  sums-numbers = sym sums-written ∙ ap numbers_of added-rows

  -- and the tally that has them is the sum
  pub tally-sums : tally_from (sums (numbers_of t) (numbers_of u)) ≡ plus t u
  unfolding sums each tally_from
  tally-sums = sym (ap tally_from sums-written) ∙ added-rows
