-- Skipped words are those at places inside no listed chunk: with `left` words of a chunk in hand at the place `at`, the places that are covered are
-- the next `left` and those inside the chunks that are listed from there on.
use mathlib.Core.Path.{◌≡◌, refl, sym, ap, ◌∙◌}
use mathlib.Core.Bool.{Bool, true, false, ◌||◌}
use mathlib.Core.List.{List, [], ◌∷◌}
use Prim.Native.Nat.{ℕ, zero, suc, ◌+◌, ◌≤◌, ◌<◌}
use native.Mathlib.Omega.{arith}
use native.Mathlib.Nat.{zero-add}
use native.Mathlib.Numerals.{one-add}
use lib.ListN.{length, get_or}
use lib.Dec.{ltb}
use borrow.Author.Tests.{lt-ltb, le-ltb, le-leb, lt-leb}
use Rattle.base.proofs.Booleans.{by-test}
use Rattle.base.specs.Limit.{recording_limit}
use Rattle.base.specs.Refusal.{verdict}
use Rattle.base.proofs.Refused.{answer-yes}
use Rattle.chunk.specs.Header.{size, span, confirmed}
use Rattle.chunk.specs.Reading.{listed, reading, skipped_from, skipped}
use Rattle.chunk.proofs.Steps.{listed-one, skipped-one}
use Rattle.chunk.proofs.Accounting.{accounted}
use Rattle.chunk_reading.specs.declared.Survey.{Survey}
use Rattle.chunk_reading.specs.Counting.{survey_causes, refused}
use Rattle.chunk_laws.specs.Outside.{covered, failing, outside, SkippedByPlace}

-- no chunk that is listed from `at` on covers a place before it
none_before : (sync p at left : ℕ) (ws : List ℕ) → p < at → covered (listed sync at left ws) p ≡ false
unfolding covered listed
none_before sync p at left [] h = refl
none_before sync p at (suc left) (w ∷ ws) h = none_before sync p (suc at) left ws (omega arith)
none_before sync p at zero (w ∷ ws) h =
    let h' : p < suc at = omega arith in
    by-test (confirmed sync (w ∷ ws))
    (λ e. rw (listed-one sync at w ws true e, lt-leb at p h) (none_before sync p (suc at) (suc (size (get_or ws 0 0))) ws h'))
    (λ e. rw (listed-one sync at w ws false e) (none_before sync p (suc at) 0 ws h'))

-- the places that are covered from `at` on, as a test
abbrev Covers : (ℕ → Bool) → ℕ → ℕ → ℕ → List ℕ → Type 0
Covers f sync at left ws = (p : ℕ) → at ≤ p → f p ≡ ltb p (at + left) || covered (listed sync at left ws) p

at-covered : (f : ℕ → Bool) (at n : ℕ) → f at ≡ true → failing f at (suc n) ≡ failing f (suc at) n
at-covered f at n e = rw e (zero-add (failing f (suc at) n))

at-missed : (f : ℕ → Bool) (at n : ℕ) → f at ≡ false → failing f at (suc n) ≡ suc (failing f (suc at) n)
at-missed f at n e = rw e (one-add (failing f (suc at) n))

count-failing : (f : ℕ → Bool) (sync at left : ℕ) (ws : List ℕ) → Covers f sync at left ws → failing f at (length ws) ≡ skipped_from sync left ws
unfolding listed skipped_from covered
count-failing f sync at left [] k = refl
count-failing f sync at (suc left) (w ∷ ws) k =
    at-covered f at (length ws) (k at (omega arith) ∙ rw (lt-ltb at (at + suc left) (omega arith)))
    ∙ count-failing f sync (suc at) left ws (λ p h. k p (omega arith) ∙ ap (λ (n : ℕ). ltb p n || covered (listed sync (suc at) left ws) p) (omega arith))
count-failing f sync at zero (w ∷ ws) k =
    let past : (p : ℕ) → at ≤ p → f p ≡ covered (listed sync at 0 (w ∷ ws)) p = λ p h. k p h ∙ rw (le-ltb p (at + 0) (omega arith)) in
    let h : ℕ = get_or ws 0 0 in
    let n : at + span h ≡ suc at + suc (size h) = omega arith in
    by-test (confirmed sync (w ∷ ws))
    (λ e.
    at-covered f at (length ws)
    (past at (omega arith) ∙ rw (listed-one sync at w ws true e, le-leb at at (omega arith), lt-ltb at (at + span h) (omega arith)))
    ∙ count-failing f sync (suc at) (suc (size h)) ws (λ p l. past p (omega arith) ∙ rw (listed-one sync at w ws true e, le-leb at p (omega arith), n))
    ∙ sym (skipped-one sync w ws true e))
    (λ e.
    at-missed f at (length ws) (past at (omega arith) ∙ rw (listed-one sync at w ws false e) (none_before sync at (suc at) 0 ws (omega arith)))
    ∙ ap suc (count-failing f sync (suc at) 0 ws (λ p l. past p (omega arith) ∙ rw (listed-one sync at w ws false e, le-ltb p (suc at + 0) (omega arith))))
    ∙ sym (skipped-one sync w ws false e))

skipped-outside : (sync : ℕ) (ws : List ℕ) → outside (reading sync ws) (length ws) ≡ skipped sync ws
skipped-outside sync ws = count-failing (covered (reading sync ws)) sync 0 0 ws (λ p h. rw (le-ltb p 0 (omega arith)))

pub skipped-by-place : SkippedByPlace
skipped-by-place sync ws = record {
  by_place = sym (skipped-outside sync ws);
  accounts = accounted sync ws;
  surveyed = λ short.
      ap (λ (s : Survey). s.skipped.0) (answer-yes (verdict (survey_causes ws)) refused _ (rw (le-ltb recording_limit (length ws) short)))
      ∙ sym (skipped-outside sync ws);
}
