-- No number of one recording passes its words: listed chunks are listed words, and so are the packets and the units in them, for each has a word of its own.
-- So the numbers of a recording within the limit are far from the largest.
use mathlib.Core.Path.{◌≡◌, refl, ap}
use mathlib.Core.Bool.{Bool, true, false, cond, ◌&&◌}
use mathlib.Core.List.{List, [], ◌∷◌}
use Prim.Native.Nat.{ℕ, zero, suc, ◌+◌, ◌/◌, ◌≤◌}
use native.Mathlib.Omega.{arith}
use lib.ListN.{length, drop, length-take, length-append}
use lib.Dec.{eqb}
use borrow.Author.Tests.{ltb-false}
use Rattle.base.proofs.Booleans.{by-test}
use Rattle.base.specs.Limit.{too_long, recording_limit}
use Rattle.chunk.specs.declared.Entry.{Entry}
use Rattle.chunk.specs.Header.{kind, size, span}
use Rattle.chunk.specs.Reading.{reading, skipped, listed_words}
use Rattle.chunk.proofs.Accounting.{accounted}
use Rattle.parity.specs.Unit.{judge_reply}
use Rattle.parity_units.specs.Split.{parts, units_in}
use Rattle.parity_units.specs.Replies.{outcome_of, how_many}
use Rattle.health_places.specs.Packets.{packet_places, chunk_places, places_of, science_places, sound_of}
use Rattle.frame.specs.Shape.{starts, continues, full}
use Rattle.frame.specs.Picture.{payload_of, units_of}
use Rattle.frame.specs.Pieces.{frames_and_strays, pieces_of}
use Rattle.frame.proofs.Stepping.{pick, pieces-one}
use Rattle.tally_recording.specs.Numbers.{how_often, any_past}
use Rattle.tally_recording.specs.Tally.{sort, chunk_numbers, packet_numbers, unit_numbers, images}
use Rattle.tally_recording.proofs.Rows.{each_fits}

-- ---- a count is at most what is counted

pub often-few : {A : Type 0} (test : A → Bool) (xs : List A) → how_often test xs ≤ length xs
unfolding how_often
often-few test [] = omega arith
often-few test (x ∷ xs) = by-test (test x) (λ t. rw t (omega (arith, often-few test xs))) (λ t. rw t (omega (arith, often-few test xs)))

-- units by outcome are such a count
pub many-often : (k : ℕ) (us : List (List ℕ)) → how_many k us ≡ how_often (λ (u : List ℕ). eqb (outcome_of (judge_reply u)) k) us
unfolding how_many how_often
many-often k [] = refl
many-often k (u ∷ us) = ap (λ (n : ℕ). cond (eqb (outcome_of (judge_reply u)) k) 1 0 + n) (many-often k us)

many-few : (k : ℕ) (us : List (List ℕ)) → how_many k us ≤ length us
many-few k us = rw (many-often k us) (often-few _ us)

-- ---- what is counted is at most the listed words

pub chunks-few : (es : List Entry) → length es ≤ listed_words es
unfolding listed_words
chunks-few [] = omega arith
chunks-few (e ∷ es) = omega (arith, chunks-few es)

row-length : (n at : ℕ) → length (packet_places n at) ≡ n
unfolding packet_places
row-length zero at = refl
row-length (suc n) at = ap suc (row-length n (at + 32))

chunk-few : (e : Entry) → length (chunk_places e) ≤ span e.header
unfolding chunk_places
chunk-few e = by-test (eqb (kind e.header) 1) (λ t. rw t (omega (arith, row-length (size e.header / 32) (e.position.0 + 2)))) (λ t. rw t (omega arith))

pub places-few : (es : List Entry) → length (places_of es) ≤ listed_words es
unfolding places_of listed_words
places-few [] = omega arith
places-few (e ∷ es) = omega (arith, length-append (chunk_places e) (places_of es), chunk-few e, places-few es)

parts-length : (n : ℕ) (p : List ℕ) → length (parts n p) ≡ n
unfolding parts
parts-length zero p = refl
parts-length (suc n) p = ap suc (parts-length n (drop 264 p))

units-in-few : (p : List ℕ) → length (units_in p) ≤ length p
units-in-few p = omega (arith, parts-length ((length p + 263) / 264) p)

-- the image chunks among these, by the first
pub images-one : (e : Entry) (es : List Entry) (b : Bool) → eqb (kind e.header) 0 ≡ b → images (e ∷ es) ≡ cond b (e ∷ images es) (images es)
unfolding images
images-one e es true t = ap (λ (b : Bool). elim b as (λ x. List Entry) [ true ↦ e ∷ images es | false ↦ images es ]) t
images-one e es false t = ap (λ (b : Bool). elim b as (λ x. List Entry) [ true ↦ e ∷ images es | false ↦ images es ]) t

pub units-few : (ws : List ℕ) (es : List Entry) → length (units_of ws (images es)) ≤ listed_words es
unfolding units_of images listed_words
units-few ws [] = omega arith
units-few ws (e ∷ es) =
    by-test (eqb (kind e.header) 0)
    (λ t. rw (images-one e es true t) (omega (arith, length-append (units_in (payload_of ws e)) (units_of ws (images es)), units-in-few (payload_of ws e), length-take (size e.header) (drop (e.position.0 + 2) ws), units-few ws es)))
    (λ t. rw (images-one e es false t) (omega (arith, units-few ws es)))

pub pieces-few : (end : ℕ) (all : Bool) (es : List Entry) → length (frames_and_strays end all es) ≤ length es
unfolding frames_and_strays
pieces-few end all [] = omega arith
pieces-few end all (e ∷ es) =
    rw (pieces-one end all e es (continues e.header) (all && eqb e.position.0 end) (starts e.header) refl refl refl)
    (by_cases (continues e.header) (all && eqb e.position.0 end) (starts e.header) (λ n a. pieces-few n a es))
  where
    by_cases : (c j s : Bool) → ((n : ℕ) (a : Bool) → length (frames_and_strays n a es) ≤ length es) → length (pick end all e es c j s) ≤ suc (length es)
    by_cases true true s more = omega (arith, more (end + span e.header) (full e.header))
    by_cases true false s more = omega (arith, more 0 false)
    by_cases false j true more = omega (arith, more (e.position.0 + span e.header) (full e.header))
    by_cases false j false more = omega (arith, more 0 false)

-- ---- a recording within the limit

module _ (sync : ℕ) (ws : List ℕ) (h : too_long ws ≡ false) where
  pub short : length ws ≤ recording_limit
  short = ltb-false recording_limit (length ws) h

  listed-few : listed_words (reading sync ws) ≤ recording_limit
  listed-few = omega (arith, accounted sync ws, short)

  pub skipped-few : skipped sync ws ≤ recording_limit
  skipped-few = omega (arith, accounted sync ws, short)

  pub pieces-fit : (test : Entry → Bool) → how_often test (pieces_of sync ws) ≤ recording_limit
  pieces-fit test = omega (arith, often-few test (pieces_of sync ws), pieces-few 0 false (reading sync ws), chunks-few (reading sync ws), listed-few)

  pub chunks_fit : any_past (chunk_numbers (reading sync ws)) ≡ false
  unfolding chunk_numbers
  chunks_fit = each_fits 0 5 _ (λ s. omega (arith, often-few (λ (e : Entry). eqb (sort e.header) s) (reading sync ws), chunks-few (reading sync ws), listed-few))

  pub packets-fit : any_past (packet_numbers ws (science_places sync ws)) ≡ false
  unfolding packet_numbers
  packets-fit = each_fits 1 15 _ (λ t. omega (arith, often-few (sound_of ws t) (science_places sync ws), places-few (reading sync ws), listed-few))

  pub units-fit : any_past (unit_numbers (units_of ws (images (reading sync ws)))) ≡ false
  unfolding unit_numbers
  units-fit = each_fits 0 4 _ (λ k. omega (arith, many-few k (units_of ws (images (reading sync ws))), units-few ws (reading sync ws), listed-few))
