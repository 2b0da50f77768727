-- The units of a payload and of a chunk, counted.
use mathlib.Core.Path.{◌≡◌, sym, ap, ◌∙◌}
use mathlib.Core.Bool.{true, false}
use mathlib.Core.List.{List, [], ◌∷◌, ◌++◌, append-nil}
use Prim.Native.Nat.{ℕ, ◌+◌, ◌≤◌, ◌<◌}
use native.Mathlib.Omega.{arith}
use lib.ListN.{length, get_or}
use lib.Dec.{eqb}
use borrow.Author.Tests.{eq-eqb, ne_eqb}
use Rattle.base.proofs.Booleans.{by-test}
use Rattle.chunk.specs.declared.Entry.{Entry}
use Rattle.chunk.specs.Header.{kind}
use Rattle.parity_units.specs.declared.Outcomes.{Outcomes}
use Rattle.parity_units.specs.Split.{units_in}
use Rattle.parity_units.specs.Replies.{how_many, outcomes}
use Rattle.frame.specs.Picture.{payload_of, units_of}
use Rattle.tally_recording.specs.Numbers.{each, sums, largest, any_past}
use Rattle.tally_recording.specs.Tally.{unit_numbers, images}
use Rattle.tally_recording.specs.Walk.{chunk_unit_numbers}
use Rattle.tally_recording.proofs.Rows.{often-append, each-length, each_same, each-place, sums-place, sums-each, sums-zeros, none-past, all-places}
use Rattle.tally_recording.proofs.Bound.{many-often, images-one}

-- ---- the numbers of units

pub units-length : (us : List (List ℕ)) → length (unit_numbers us) ≡ 4
unfolding unit_numbers
units-length us = each-length 0 4 (λ k. how_many k us)

many-append : (k : ℕ) (us vs : List (List ℕ)) → how_many k (us ++ vs) ≡ how_many k us + how_many k vs
many-append k us vs = rw (many-often k (us ++ vs), many-often k us, many-often k vs) (often-append _ us vs)

pub units-append : (us vs : List (List ℕ)) → unit_numbers (us ++ vs) ≡ sums (unit_numbers us) (unit_numbers vs)
unfolding unit_numbers
units-append us vs = each_same 0 4 _ _ (λ k a b. many-append k us vs) ∙ sym (sums-each 0 4 (λ k. how_many k us) (λ k. how_many k vs))

pub no-units : (a : List ℕ) → length a ≡ 4 → sums a (unit_numbers []) ≡ a
unfolding unit_numbers how_many
no-units a h = sums-zeros a 0 4 h

-- ---- a payload

module _ (a : List ℕ) (us : List (List ℕ)) (h : length a ≡ 4) (o : Outcomes) (e : o ≡ outcomes us) where
  -- a number and the units of its outcome do not pass the largest
  unit-fits : any_past (sums a (unit_numbers us)) ≡ false → (k : ℕ) → k < 4 → get_or a k 0 + how_many k us ≤ largest
  unfolding unit_numbers
  unit-fits n k l =
      let z : 0 + k ≡ k = omega arith in
      omega (
        arith,
        sums-place a (unit_numbers us) (h ∙ sym (units-length us)) k,
        each-place 0 4 (λ j. how_many j us) k l,
        ap (λ (j : ℕ). how_many j us) z,
        none-past (sums a (unit_numbers us)) n k,
      )

  pub sound_fits : any_past (sums a (unit_numbers us)) ≡ false → get_or a 0 0 + o.sound ≤ largest
  sound_fits n = omega (arith, unit-fits n 0 (omega arith), ap (λ (x : Outcomes). x.sound) e)

  pub hit_fits : any_past (sums a (unit_numbers us)) ≡ false → get_or a 1 0 + o.hit ≤ largest
  hit_fits n = omega (arith, unit-fits n 1 (omega arith), ap (λ (x : Outcomes). x.hit) e)

  pub repaired_fits : any_past (sums a (unit_numbers us)) ≡ false → get_or a 2 0 + o.repaired ≤ largest
  repaired_fits n = omega (arith, unit-fits n 2 (omega arith), ap (λ (x : Outcomes). x.repaired) e)

  pub refused_fits : any_past (sums a (unit_numbers us)) ≡ false → get_or a 3 0 + o.refused ≤ largest
  refused_fits n = omega (arith, unit-fits n 3 (omega arith), ap (λ (x : Outcomes). x.refused) e)

  -- and so none of these counts does by itself
  pub sound_small : any_past (sums a (unit_numbers us)) ≡ false → o.sound ≤ largest
  sound_small n = omega (arith, sound_fits n)

  pub hit_small : any_past (sums a (unit_numbers us)) ≡ false → o.hit ≤ largest
  hit_small n = omega (arith, hit_fits n)

  pub repaired_small : any_past (sums a (unit_numbers us)) ≡ false → o.repaired ≤ largest
  repaired_small n = omega (arith, repaired_fits n)

  pub refused_small : any_past (sums a (unit_numbers us)) ≡ false → o.refused ≤ largest
  refused_small n = omega (arith, refused_fits n)

  pub units_added : (get_or a 0 0 + o.sound) ∷ (get_or a 1 0 + o.hit) ∷ (get_or a 2 0 + o.repaired) ∷ (get_or a 3 0 + o.refused) ∷ [] ≡ sums a (unit_numbers us)
  unfolding unit_numbers each sums
  units_added =
      ap (λ (x : Outcomes). (get_or a 0 0 + x.sound) ∷ (get_or a 1 0 + x.hit) ∷ (get_or a 2 0 + x.repaired) ∷ (get_or a 3 0 + x.refused) ∷ []) e
      ∙ ap (λ (x : List ℕ). sums x (unit_numbers us)) (all-places a 4 h)

-- ---- a chunk

module _ (ws : List ℕ) (e : Entry) where
  pub image-units : kind e.header ≡ 0 → chunk_unit_numbers ws e ≡ unit_numbers (units_in (payload_of ws e))
  unfolding units_of images
  image-units k =
      ap (λ (es : List Entry). unit_numbers (units_of ws es)) (images-one e [] true (eq-eqb (kind e.header) 0 k))
      ∙ ap unit_numbers (append-nil (units_in (payload_of ws e)))

  pub health-units : (kind e.header ≡ 0 → ⊥) → (a : List ℕ) → length a ≡ 4 → sums a (chunk_unit_numbers ws e) ≡ a
  unfolding units_of images
  health-units k a h =
      ap (λ (es : List Entry). sums a (unit_numbers (units_of ws es))) (images-one e [] false (ne_eqb (kind e.header) 0 k)) ∙ no-units a h

  -- the units of the image chunks, by the first chunk
  first-units : (es : List Entry) → units_of ws (images (e ∷ es)) ≡ units_of ws (images (e ∷ [])) ++ units_of ws (images es)
  unfolding units_of images
  first-units es =
      by-test (eqb (kind e.header) 0)
      (λ t. rw (images-one e es true t, images-one e [] true t) (ap (λ (x : List (List ℕ)). x ++ units_of ws (images es)) (sym (append-nil (units_in (payload_of ws e))))))
      (λ t. rw (images-one e es false t, images-one e [] false t))

  pub chunk-units : (es : List Entry) → unit_numbers (units_of ws (images (e ∷ es))) ≡ sums (chunk_unit_numbers ws e) (unit_numbers (units_of ws (images es)))
  chunk-units es = ap unit_numbers (first-units es) ∙ units-append (units_of ws (images (e ∷ []))) (units_of ws (images es))
