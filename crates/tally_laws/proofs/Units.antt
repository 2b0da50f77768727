-- The units of the listed image chunks: each has 9 to 264 words, as a listed image chunk has a legal size. So the judge refuses none of them for its length,
-- and what becomes of a unit is what is found of it.
use mathlib.Core.Path.{◌≡◌, refl, ap, ◌∙◌}
use mathlib.Core.Bool.{Bool, true, false, cond}
use mathlib.Core.List.{List, [], ◌∷◌}
use mathlib.Core.Logic.{inl, inr}
use Prim.Native.Nat.{ℕ, zero, suc, ◌-◌, ◌≤◌, ◌<◌}
use native.Mathlib.Omega.{arith}
use native.Mathlib.Numerals.{add-one}
use lib.ListN.{length, get_or, drop}
use lib.Seq.{get_or-drop}
use lib.Dec.{eqb}
use borrow.Author.Tests.{le-leb}
use Rattle.base.specs.Refusal.{answer, wrong_parity}
use Rattle.base.proofs.Booleans.{and_right, by-test}
use Rattle.base.proofs.Refused.{answer-either}
use Rattle.parity.specs.declared.Judged.{Judged}
use Rattle.parity.specs.Unit.{Finding, sound, parity_bit, data_bit, neither, finding, is_neither, judge_verdict, judge_reply, refused, named}
use Rattle.parity_units.specs.Replies.{outcome_of, how_many}
use Rattle.parity_units.proofs.Split.{Fair, fair-append}
use Rattle.chunk.specs.declared.Entry.{Entry}
use Rattle.chunk.specs.Header.{size, kind, image_size, confirmed}
use Rattle.chunk.specs.Reading.{reading, left_at, listed_at}
use Rattle.chunk.proofs.Steps.{confirmed-bounds}
use Rattle.chunk_laws.specs.Listed.{Among}
use Rattle.chunk_laws.proofs.ByPlace.{listed-place}
use Rattle.frame.specs.Picture.{payload_of, chunk_units, units_of}
use Rattle.frame.proofs.Joining.{confirmed-inside}
use Rattle.frame.proofs.Chunks.{image-size, image-fair, payload-length}
use Rattle.tally_recording.specs.Numbers.{how_often}
use Rattle.tally_recording.specs.Tally.{unit_numbers, images}
use Rattle.tally_recording.proofs.Rows.{each_same}
use Rattle.tally_recording.proofs.Bound.{many-often, images-one}
use Rattle.tally_laws.specs.Accounts.{total, image_units, finding_number}
use Rattle.tally_laws.proofs.Counting.{all-counted}

-- ---- outcomes

-- what becomes of a unit
abbrev outcome : List ℕ → ℕ
outcome u = outcome_of (judge_reply u)

outcome-small : (u : List ℕ) → outcome u < 4
unfolding judge_reply
outcome-small u =
    answer-either (λ (r : Judged). outcome_of r < 4) (judge_verdict u) refused (named (finding u) (length u - 8)) (by-refusal (eqb (judge_verdict u) 0))
    (λ z. by-finding (finding u))
  where
    by-refusal : (b : Bool) → cond b 0 3 < 4
    by-refusal true = omega arith
    by-refusal false = omega arith

    by-finding : (f : Finding) → outcome_of (named f (length u - 8)) < 4
    by-finding sound = omega arith
    by-finding (parity_bit w b) = omega arith
    by-finding (data_bit w b) = omega arith
    by-finding neither = omega arith

pub units-counted : (us : List (List ℕ)) → total (unit_numbers us) ≡ length us
unfolding unit_numbers
units-counted us =
    ap total (each_same 0 4 (λ k. how_many k us) (λ k. how_often (λ (u : List ℕ). eqb (outcome u) k) us) (λ k a b. many-often k us))
    ∙ all-counted 0 4 outcome (λ u. (omega arith, omega (arith, outcome-small u))) us

-- a unit of 9 to 264 words
found-so : (u : List ℕ) → 9 ≤ length u → length u ≤ 264 → outcome u ≡ finding_number (finding u)
unfolding judge_reply judge_verdict answer
found-so u l m = rw (le-leb 9 (length u) l, le-leb (length u) 264 m) (by-finding (finding u))
  where
    by-finding : (f : Finding) → outcome_of (answer (cond (is_neither f) wrong_parity 0) refused (named f (length u - 8))) ≡ finding_number f
    by-finding sound = refl
    by-finding (parity_bit w b) = refl
    by-finding (data_bit w b) = refl
    by-finding neither = refl

fair-found : (us : List (List ℕ)) → Fair us → (i : ℕ) → i < length us → outcome (get_or us i []) ≡ finding_number (finding (get_or us i []))
fair-found [] f i h = absurd (omega arith)
fair-found (u ∷ us) f zero h = found-so u f.0 f.1
fair-found (u ∷ us) f (suc i) h = fair-found us f.2 i (omega arith)

-- ---- the units of the listed chunks

listed-fair : (sync : ℕ) (ws : List ℕ) (e : Entry) → Among e (reading sync ws) → eqb (kind e.header) 0 ≡ true → Fair (chunk_units ws e)
unfolding listed_at
listed-fair sync ws e m k =
    let p : ℕ = e.position.0 in
    let t = listed-place sync ws e m in
    let w : e.header ≡ get_or (drop p ws) 1 0 = t.1 in
    let v : e.header ≡ get_or ws (suc p) 0 = w ∙ get_or-drop p ws 1 0 ∙ ap (λ (i : ℕ). get_or ws i 0) (add-one p) in
    let c : confirmed sync (drop p ws) ≡ true = and_right (eqb (left_at sync 0 ws p) 0) _ t.0 in
    let b = confirmed-bounds sync ws p (confirmed-inside sync ws p c) c in
    let l : length (payload_of ws e) ≡ size e.header = payload-length ws e (omega (arith, b.0, ap size v)) in
    let i : image_size (size e.header) ≡ true = rw w (image-size sync (drop p ws) c (rw (← w) k)) in
    image-fair (payload_of ws e) (ap image_size l ∙ i)

all_fair : (ws : List ℕ) (es : List Entry) → ((e : Entry) → Among e es → eqb (kind e.header) 0 ≡ true → Fair (chunk_units ws e)) → Fair (units_of ws (images es))
unfolding units_of images
all_fair ws [] h = tt
all_fair ws (e ∷ es) h =
    let more : Fair (units_of ws (images es)) = all_fair ws es (λ f m. h f (inr m)) in
    by-test (eqb (kind e.header) 0)
    (λ k. rw (images-one e es true k) (fair-append (chunk_units ws e) (units_of ws (images es)) (h e (inl refl) k) more))
    (λ k. rw (images-one e es false k) more)

pub units-found : (sync : ℕ) (ws : List ℕ) (i : ℕ) → i < length (image_units sync ws)
    → outcome (get_or (image_units sync ws) i []) ≡ finding_number (finding (get_or (image_units sync ws) i []))
units-found sync ws = fair-found (image_units sync ws) (all_fair ws (reading sync ws) (listed-fair sync ws))
