-- The pass over the listed chunks: what is counted up to `at` and what is listed from there on give the numbers of all.
use mathlib.Core.Path.{◌≡◌, refl, sym, ap, subst, ◌∙◌}
use mathlib.Core.Bool.{false, cond}
use mathlib.Core.List.{List, [], ◌∷◌}
use Prim.Native.Nat.{ℕ, ◌+◌, ◌-◌, ◌≤◌, ◌<◌}
use native.Mathlib.Omega.{arith}
use lib.ListN.{length, get_or, set, drop, replicate, length-set}
use lib.Dec.{eqb}
use Rattle.base.proofs.Booleans.{by-test}
use Rattle.base.specs.Limit.{too_long, recording_limit}
use Rattle.chunk.specs.declared.Entry.{Entry}
use Rattle.chunk.specs.Header.{kind}
use Rattle.chunk.specs.Reading.{reading, skipped_from, skipped}
use Rattle.chunk.proofs.Steps.{listed_from, Next, Last}
use Rattle.health_places.specs.Packets.{chunk_places, places_of, science_places, sound_of}
use Rattle.parity_units.specs.Replies.{how_many}
use Rattle.frame.specs.Picture.{units_of}
use Rattle.tally_recording.specs.declared.chunks.Listed.{Listed}
use Rattle.tally_recording.specs.Numbers.{how_often, each, sums, largest, any_past}
use Rattle.tally_recording.specs.Tally.{sort, chunk_numbers, packet_numbers, unit_numbers, images, tally_of}
use Rattle.tally_recording.specs.Walk.{chunk_unit_numbers, listed_of}
use Rattle.tally_recording.proofs.Rows.{sums-length, sums-assoc, zeros-sums, sums-zeros, counted-at, place-fits, front_fits}
use Rattle.tally_recording.proofs.Bound.{skipped-few, chunks_fit, packets-fit, units-fit}
use Rattle.tally_recording.proofs.Packets.{packets-length, packets-append, no-packets-counted}
use Rattle.tally_recording.proofs.Units.{units-length, no-units, chunk-units}

pub record Gathered (sync : ℕ) (ws : List ℕ) (noise : ℕ) (chunks packets units : List ℕ) (at : ℕ) : Type 0 where
  pub within : at ≤ length ws
  pub five : length chunks ≡ 5
  pub fifteen : length packets ≡ 15
  pub four : length units ≡ 4
  pub missed : noise + skipped_from sync 0 (drop at ws) ≡ skipped sync ws
  pub sorted : sums chunks (chunk_numbers (listed_from sync ws at)) ≡ chunk_numbers (reading sync ws)
  pub sounded : sums packets (packet_numbers ws (places_of (listed_from sync ws at))) ≡ packet_numbers ws (science_places sync ws)
  pub judged : sums units (unit_numbers (units_of ws (images (listed_from sync ws at)))) ≡ unit_numbers (units_of ws (images (reading sync ws)))

-- there are five sorts
pub sort-few : (h : ℕ) → sort h < 5
sort-few h = by-test (eqb (kind h) 0) (λ t. rw t (omega arith)) (λ t. rw t (omega arith))

module _ (sync : ℕ) (ws : List ℕ) where
  pub none-gathered : Gathered sync ws 0 (replicate 5 0) (replicate 15 0) (replicate 4 0) 0
  unfolding each chunk_numbers packet_numbers unit_numbers
  none-gathered =
      record {
        within = omega arith;
        five = refl;
        fifteen = refl;
        four = refl;
        missed = omega arith;
        sorted = zeros-sums 0 5 (λ s. how_often (λ (e : Entry). eqb (sort e.header) s) (reading sync ws));
        sounded = zeros-sums 1 15 (λ t. how_often (sound_of ws t) (science_places sync ws));
        judged = zeros-sums 0 4 (λ k. how_many k (units_of ws (images (reading sync ws))));
      }

  module _ (noise : ℕ) (chunks packets units : List ℕ) (at : ℕ) (c : Gathered sync ws noise chunks packets units at) where
    module _ (e : Entry) (n : ℕ) (s : Next sync ws at e n) where
      abbrev h : ℕ
      h = e.header

      -- each number of what is listed from here on, by the chunk and what is listed after it
      sorts-on : sums chunks (each 0 5 (λ k. cond (eqb (sort h) k) 1 0 + how_often (λ (f : Entry). eqb (sort f.header) k) (listed_from sync ws n))) ≡ chunk_numbers (reading sync ws)
      unfolding chunk_numbers how_often
      sorts-on = ap (λ (es : List Entry). sums chunks (chunk_numbers es)) (sym s.lists) ∙ c.sorted

      packets-on : sums (sums packets (packet_numbers ws (chunk_places e))) (packet_numbers ws (places_of (listed_from sync ws n))) ≡ packet_numbers ws (science_places sync ws)
      unfolding places_of
      packets-on =
          sums-assoc packets _ _
          ∙ ap (sums packets) (sym (packets-append ws (chunk_places e) (places_of (listed_from sync ws n))))
          ∙ ap (λ (es : List Entry). sums packets (packet_numbers ws (places_of es))) (sym s.lists)
          ∙ c.sounded

      units-on : sums (sums units (chunk_unit_numbers ws e)) (unit_numbers (units_of ws (images (listed_from sync ws n)))) ≡ unit_numbers (units_of ws (images (reading sync ws)))
      units-on =
          sums-assoc units _ _
          ∙ ap (sums units) (sym (chunk-units ws e (listed_from sync ws n)))
          ∙ ap (λ (es : List Entry). sums units (unit_numbers (units_of ws (images es)))) (sym s.lists)
          ∙ c.judged

      gathered-on : Gathered sync ws (noise + (e.position.0 - at)) (set chunks (sort h) (get_or chunks (sort h) 0 + 1))
          (sums packets (packet_numbers ws (chunk_places e))) (sums units (chunk_unit_numbers ws e)) n
      unfolding chunk_numbers
      gathered-on =
          record {
            within = s.within;
            five = length-set chunks (sort h) _ ∙ c.five;
            fifteen = sums-length packets _ (c.fifteen ∙ sym (packets-length ws (chunk_places e))) ∙ c.fifteen;
            four = sums-length units _ (c.four ∙ sym (units-length (units_of ws (images (e ∷ []))))) ∙ c.four;
            missed = omega (arith, c.missed, s.skips);
            sorted =
                counted-at chunks 0 5 (sort h) (sort h) (λ k. how_often (λ (f : Entry). eqb (sort f.header) k) (listed_from sync ws n)) c.five (omega arith) (sort-few h)
                ∙ sorts-on;
            sounded = packets-on;
            judged = units-on;
          }

      -- as the code has it
      pub chunk-gathered : (i : ℕ) → i ≡ sort h → (ps us : List ℕ) → ps ≡ sums packets (packet_numbers ws (chunk_places e)) → us ≡ sums units (chunk_unit_numbers ws e)
          → Gathered sync ws (noise + (e.position.0 - at)) (set chunks i (get_or chunks i 0 + 1)) ps us n
      chunk-gathered i ei ps us ep eu =
          let all = noise + (e.position.0 - at) in
          subst (λ (j : ℕ). Gathered sync ws all (set chunks j (get_or chunks j 0 + 1)) ps us n) (sym ei)
          (subst (λ (x : List ℕ). Gathered sync ws all (set chunks (sort h) (get_or chunks (sort h) 0 + 1)) x us n) (sym ep)
          (subst (λ (x : List ℕ). Gathered sync ws all (set chunks (sort h) (get_or chunks (sort h) 0 + 1)) (sums packets (packet_numbers ws (chunk_places e))) x n) (sym eu) gathered-on))

      module _ (l : too_long ws ≡ false) where
        pub sort-fits : get_or chunks (sort h) 0 + 1 ≤ largest
        sort-fits = place-fits chunks 0 5 (sort h) (sort h) (λ k. how_often (λ (f : Entry). eqb (sort f.header) k) (listed_from sync ws n)) c.five (omega arith) (sort-few h)
            (ap any_past sorts-on ∙ chunks_fit sync ws l)

        pub packets-here : any_past (sums packets (packet_numbers ws (chunk_places e))) ≡ false
        packets-here = front_fits _ _ (gathered-on.fifteen ∙ sym (packets-length ws (places_of (listed_from sync ws n)))) (ap any_past packets-on ∙ packets-fit sync ws l)

        pub units-here : any_past (sums units (chunk_unit_numbers ws e)) ≡ false
        units-here = front_fits _ _ (gathered-on.four ∙ sym (units-length (units_of ws (images (listed_from sync ws n))))) (ap any_past units-on ∙ units-fit sync ws l)

        pub skipped-fits : noise + (e.position.0 - at) ≤ recording_limit
        skipped-fits = omega (arith, c.missed, s.skips, skipped-few sync ws l)

    module _ (d : Last sync ws at) where
      pub last_fits : too_long ws ≡ false → noise + (length ws - at) ≤ recording_limit
      last_fits l = omega (arith, c.missed, d.skips, skipped-few sync ws l)

      all-sorted : chunks ≡ chunk_numbers (reading sync ws)
      unfolding chunk_numbers how_often
      all-sorted = sym (sums-zeros chunks 0 5 c.five) ∙ ap (λ (es : List Entry). sums chunks (chunk_numbers es)) (sym d.lists) ∙ c.sorted

      all-sounded : packets ≡ packet_numbers ws (science_places sync ws)
      unfolding places_of
      all-sounded = sym (no-packets-counted ws packets c.fifteen) ∙ ap (λ (es : List Entry). sums packets (packet_numbers ws (places_of es))) (sym d.lists) ∙ c.sounded

      all-judged : units ≡ unit_numbers (units_of ws (images (reading sync ws)))
      unfolding units_of images
      all-judged = sym (no-units units c.four) ∙ ap (λ (es : List Entry). sums units (unit_numbers (units_of ws (images es)))) (sym d.lists) ∙ c.judged

      abbrev listing : ℕ → List ℕ → List ℕ → List ℕ → Listed
      listing n x y z = record { skipped = n; chunks = x; packets = y; units = z }

      pub all-gathered : listing (noise + (length ws - at)) chunks packets units ≡ listed_of sync ws
      unfolding tally_of
      all-gathered =
          let n : noise + (length ws - at) ≡ skipped sync ws = omega (arith, c.missed, d.skips) in
          ap (λ (m : ℕ). listing m chunks packets units) n
          ∙ ap (λ (x : List ℕ). listing (skipped sync ws) x packets units) all-sorted
          ∙ ap (λ (x : List ℕ). listing (skipped sync ws) (chunk_numbers (reading sync ws)) x units) all-sounded
          ∙ ap (listing (skipped sync ws) (chunk_numbers (reading sync ws)) (packet_numbers ws (science_places sync ws))) all-judged
