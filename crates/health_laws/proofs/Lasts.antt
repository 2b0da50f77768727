-- What is found is a sound packet of the asked type, and no later one is: the test holds for the place that is found, and for none of the places after it.
-- Places rise along a row of packets and along a reading, so "after" is by place.
use mathlib.Core.Path.{◌≡◌, refl, sym, ap, ◌∙◌}
use mathlib.Core.Bool.{Bool, true, false, cond}
use mathlib.Core.List.{List, [], ◌∷◌, ◌++◌}
use mathlib.Core.Logic.{inl, inr}
use Prim.Native.Nat.{ℕ, zero, suc, ◌+◌, ◌*◌, ◌/◌, ◌≤◌, ◌<◌}
use native.Mathlib.Omega.{arith}
use lib.ListN.{length, get_or}
use lib.Dec.{eqb}
use Rattle.chunk.specs.declared.Entry.{Entry}
use Rattle.chunk.specs.Header.{kind, size, span, confirmed, at_end}
use Rattle.chunk.specs.Reading.{entry, listed}
use Rattle.chunk.proofs.Headers.{confirmed-within}
use Rattle.health_places.specs.Packets.{packet_places, chunk_places, places_of, science_places, health_places, sound_of}
use Rattle.health_last.specs.Packets.{found_at, nowhere, last_where}
use Rattle.health_last.proofs.Later.{last-cases, none-cases, nothing-in-none}
use Rattle.health_last.proofs.Placed.{last-holds, sound-parts}
use Rattle.health_laws.specs.Last.{OneOf, LastOf, FoundIsLast}

-- ---- places that rise

-- these places rise, from `lo` on and below `hi`
abbrev Rising : ℕ → ℕ → List ℕ → Type 0
Rising lo hi [] = lo ≤ hi
Rising lo hi (p ∷ ps) = (lo ≤ p) × Rising (suc p) hi ps

rising-wider : {lo lo' hi hi' : ℕ} (ps : List ℕ) → lo ≤ lo' → hi' ≤ hi → Rising lo' hi' ps → Rising lo hi ps
rising-wider [] h k r = omega arith
rising-wider (p ∷ ps) h k r = (omega (arith, r.0), rising-wider ps (omega arith) k r.1)

rising-append : (lo mid hi : ℕ) (ps qs : List ℕ) → Rising lo mid ps → Rising mid hi qs → Rising lo hi (ps ++ qs)
rising-append lo mid hi [] qs r s = rising-wider qs r (omega arith) s
rising-append lo mid hi (p ∷ ps) qs r s = (r.0, rising-append (suc p) mid hi ps qs r.1 s)

-- ---- the places of packets rise

row-rises : (n at hi : ℕ) → at + 32 * n ≤ hi → Rising at hi (packet_places n at)
unfolding packet_places
row-rises zero at hi h = omega arith
row-rises (suc n) at hi h = (omega arith, rising-wider (packet_places n (at + 32)) (omega arith) (omega arith) (row-rises n (at + 32) hi (omega arith)))

module _ (p h : ℕ) (end : Bool) where
  chunk-rises : Rising p (p + span h) (chunk_places (entry p h end))
  unfolding chunk_places
  chunk-rises = by_kind (eqb (kind h) 1)
    where
      by_kind : (b : Bool) → Rising p (p + span h) (cond b (packet_places (size h / 32) (p + 2)) [])
      by_kind true = rising-wider (packet_places (size h / 32) (p + 2)) (omega arith) (omega arith) (row-rises (size h / 32) (p + 2) (p + 2 + 32 * (size h / 32)) (omega arith))
      by_kind false = omega arith

reading-rises : (sync at left : ℕ) (ws : List ℕ) → left ≤ length ws → Rising (at + left) (at + length ws) (places_of (listed sync at left ws))
unfolding listed places_of
reading-rises sync at left [] h = omega arith
reading-rises sync at (suc left) (w ∷ ws) h =
    rising-wider (places_of (listed sync (suc at) left ws)) (omega arith) (omega arith) (reading-rises sync (suc at) left ws (omega arith))
reading-rises sync at zero (w ∷ ws) h = by-check (λ left k. reading-rises sync (suc at) left ws k) (confirmed sync (w ∷ ws)) refl
  where
    by-check : ((left : ℕ) → left ≤ length ws → Rising (suc at + left) (suc at + length ws) (places_of (listed sync (suc at) left ws)))
        → (b : Bool) → confirmed sync (w ∷ ws) ≡ b
        → Rising (at + 0) (at + suc (length ws))
        (places_of (elim b as (λ x. List Entry) [
          | true ↦ entry at (get_or ws 0 0) (at_end (w ∷ ws)) ∷ listed sync (suc at) (suc (size (get_or ws 0 0))) ws
          | false ↦ listed sync (suc at) zero ws
        ]))
    by-check rest true e =
        let b = confirmed-within sync (w ∷ ws) e in
        let end = at_end (w ∷ ws) in
        let rows = chunk-rises at (get_or ws 0 0) end in
        let tail = places_of (listed sync (suc at) (suc (size (get_or ws 0 0))) ws) in
        rising-wider (chunk_places (entry at (get_or ws 0 0) end) ++ tail) (omega arith) (omega arith)
        (rising-append at (at + span (get_or ws 0 0)) (suc at + length ws) (chunk_places (entry at (get_or ws 0 0) end)) tail rows
        (rising-wider tail (omega arith) (omega arith) (rest (suc (size (get_or ws 0 0))) (omega (arith, b.0)))))
    by-check rest false e = rising-wider (places_of (listed sync (suc at) zero ws)) (omega arith) (omega arith) (rest 0 (omega arith))

science-rises : (sync : ℕ) (ws : List ℕ) → Rising 0 (length ws) (science_places sync ws)
science-rises sync ws = rising-wider (science_places sync ws) (omega arith) (omega arith) (reading-rises sync 0 0 ws (omega arith))

health-rises : (ws : List ℕ) → Rising 0 (length ws) (health_places ws)
health-rises ws = row-rises (length ws / 32) 0 (length ws) (omega arith)

-- ---- the last of them

-- one of the places is not below the lowest
above : (lo hi : ℕ) (ps : List ℕ) → Rising lo hi ps → (q : ℕ) → OneOf q ps → lo ≤ q
above lo hi [] r q m = absurd m
above lo hi (p ∷ ps) r q (inl e) = omega (arith, r.0)
above lo hi (p ∷ ps) r q (inr m) = omega (arith, r.0, above (suc p) hi ps r.1 q m)

-- nothing is found only where the test holds for none
none-holds : (f : ℕ → Bool) (ps : List ℕ) → last_where f ps ≡ nowhere → (q : ℕ) → OneOf q ps → f q ≡ false
none-holds f [] e q m = absurd m
none-holds f (p ∷ ps) e q (inl z) = ap f z ∙ (none-cases f p ps e).0
none-holds f (p ∷ ps) e q (inr m) = none-holds f ps (none-cases f p ps e).1 q m

-- the place that is found is one of them
found-there : (f : ℕ → Bool) (ps : List ℕ) (p : ℕ) → last_where f ps ≡ found_at p → OneOf p ps
found-there f [] p e = absurd (nothing-in-none f p e)
found-there f (q ∷ ps) p e = elim (last-cases f q ps p e) as (λ x. OneOf p (q ∷ ps)) [
  | inl k ↦ inr (found-there f ps p k)
  | inr k ↦ inl (sym k.0)
]

-- the test holds for none of the places above it
none-later : (f : ℕ → Bool) (lo hi : ℕ) (ps : List ℕ) → Rising lo hi ps → (p : ℕ) → last_where f ps ≡ found_at p
    → (q : ℕ) → OneOf q ps → p < q → f q ≡ false
none-later f lo hi [] r p e q m h = absurd m
none-later f lo hi (x ∷ ps) r p e q (inl z) h = elim (last-cases f x ps p e) as (λ y. f q ≡ false) [
  | inl k ↦ absurd (omega (arith, above (suc x) hi ps r.1 p (found-there f ps p k), z, h))
  | inr k ↦ absurd (omega (arith, k.0, z, h))
]
none-later f lo hi (x ∷ ps) r p e q (inr n) h = elim (last-cases f x ps p e) as (λ y. f q ≡ false) [
  | inl k ↦ none-later f (suc x) hi ps r.1 p k q n h
  | inr k ↦ none-holds f ps k.2 q n
]

-- ---- of the two recordings

last_of : (t : ℕ) (ws places : List ℕ) (hi : ℕ) → Rising 0 hi places → (p : ℕ) → last_where (sound_of ws t) places ≡ found_at p → LastOf t ws places p
last_of t ws places hi r p e =
    let k = sound-parts t ws p (last-holds (sound_of ws t) places p e) in
    record { there = found-there (sound_of ws t) places p e; sound = k.1; type = k.0; latest = none-later (sound_of ws t) 0 hi places r p e }

pub found-is-last : FoundIsLast
found-is-last =
    record {
      science = λ sync t ws p e. last_of t ws (science_places sync ws) (length ws) (science-rises sync ws) p e;
      none_in_science = λ sync t ws e. none-holds (sound_of ws t) (science_places sync ws) e;
      health = λ t ws p e. last_of t ws (health_places ws) (length ws) (health-rises ws) p e;
      none_in_health = λ t ws e. none-holds (sound_of ws t) (health_places ws) e;
    }
