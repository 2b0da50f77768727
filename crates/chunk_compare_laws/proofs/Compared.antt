-- A recording and itself: every pair has the same words. The other order: the pairs are the same, and so are the causes, since it does not matter which
-- recording is too long. How many: as many pairs as the shorter list has chunks.
use Rattle.std.proofs.Common.{Option, None}
use mathlib.Core.Path.{◌≡◌, refl, ap, ap₂, ◌∙◌}
use mathlib.Core.Bool.{Bool, true, false, cond, or_comm}
use mathlib.Core.List.{List, [], ◌∷◌}
use mathlib.Core.Logic.{◌⊎◌, inl, inr}
use Prim.Native.Nat.{ℕ, ◌-◌, min}
use native.Mathlib.Omega.{arith}
use native.Mathlib.Decide.{dec_lt}
use lib.ListN.{length, replicate}
use lib.Dec.{ltb, eqb}
use Rattle.base.specs.Limit.{too_long}
use Rattle.base.specs.Refusal.{wrong_length, no_room, verdict, answer}
use Rattle.base.proofs.Refused.{answer-yes}
use Rattle.base_room.specs.Room.{put}
use Rattle.chunk.specs.Reading.{reading}
use Rattle.chunk_reading.specs.declared.Survey.{Survey}
use Rattle.chunk_reading.specs.Counting.{survey_causes, survey_of, survey_reply}
use Rattle.base.specs.declared.Words.{Words}
use Rattle.chunk_compare.specs.declared.Compared.{Compared}
use Rattle.chunk_compare.specs.Pairs.{pairs_of, pair_numbers}
use Rattle.chunk_compare.specs.Compare.{pair_count, compare_causes, compare_of, compared, refused, compare_reply, compare_room}
use Rattle.chunk_compare.proofs.Lengths.{paired-length}
use Rattle.chunk_compare_laws.specs.Compared.{exchanged, ItselfIsSame, ComparedInEitherOrder, PairsAreCounted}
use Rattle.chunk_compare_laws.proofs.Pairs.{paired-itself, numbers-same, paired-exchanged}
use Rattle.chunk_compare_laws.proofs.Call.{accepted-reply, accepted-short, told-numbers}
use Rattle.chunk_compare_laws.proofs.Entries.{entries-say-answers}

-- ---- a recording and itself

-- as many pairs as chunks, and nothing is left over
itself-reply : (sync : ℕ) (a : List ℕ) → compare_of sync a a ≡ compared 0 (length (reading sync a)) 0 0
itself-reply sync a =
    let n : pair_count sync a a ≡ length (reading sync a) = paired-length a a (reading sync a) (reading sync a) ∙ omega arith in
    let none : length (reading sync a) - pair_count sync a a ≡ 0 = omega arith in
    cc

pub itself-is-same : ItselfIsSame
itself-is-same sync a list z =
    let same : pairs_of sync a a ≡ replicate (length (reading sync a)) None = paired-itself a (reading sync a) in
    record {
      reply = accepted-reply sync a a list z ∙ itself-reply sync a;
      entries = told-numbers sync a a list z ∙ ap pair_numbers same ∙ numbers-same (length (reading sync a));
      says = entries-say-answers sync a a list z ∙ same;
    }

-- ---- the other order

-- of a refusal nothing is left over, so it is the same after the exchange
answer-exchanged : (v : ℕ) (r : Compared) → answer v refused (exchanged r) ≡ exchanged (answer v refused r)
unfolding answer
answer-exchanged v r = by_cases (eqb v 0)
  where
    by_cases : (t : Bool) → cond t (exchanged r) (refused v) ≡ exchanged (cond t r (refused v))
    by_cases true = refl
    by_cases false = refl

module _ (sync : ℕ) (a b : List ℕ) where
  same-pairs : pairs_of sync b a ≡ pairs_of sync a b
  same-pairs = paired-exchanged a b (reading sync a) (reading sync b)

  same-verdict : (entries : ℕ) → verdict (compare_causes sync b a entries) ≡ verdict (compare_causes sync a b entries)
  same-verdict entries =
      ap₂ (λ (t : Bool) (ps : List (Option Words)). verdict ((wrong_length, t) ∷ (no_room, ltb entries (length ps)) ∷ [])) (or_comm (too_long b) (too_long a)) same-pairs

  -- what is left over changes places
  same_left : compare_of sync b a ≡ exchanged (compare_of sync a b)
  same_left = ap (λ (ps : List (Option Words)). compared 0 (length ps) (length (reading sync b) - length ps) (length (reading sync a) - length ps)) same-pairs

  exchanged-reply : (entries : ℕ) → compare_reply sync b a entries ≡ exchanged (compare_reply sync a b entries)
  unfolding compare_reply
  exchanged-reply entries =
      ap₂ (λ (v : ℕ) (r : Compared). answer v refused r) (same-verdict entries) same_left
      ∙ answer-exchanged (verdict (compare_causes sync a b entries)) (compare_of sync a b)

  exchanged-room : (list : List ℕ) → compare_room sync b a list ≡ compare_room sync a b list
  unfolding compare_room
  exchanged-room list = ap₂ (λ (v : ℕ) (ps : List (Option Words)). answer v (λ x. list) (put (pair_numbers ps) 0 list)) (same-verdict (length list)) same-pairs

pub compared-in-either-order : ComparedInEitherOrder
compared-in-either-order sync a b = record { reply = exchanged-reply sync a b; room = exchanged-room sync a b }

-- ---- how many

-- the survey of a recording within the limit
survey-given : (sync : ℕ) (ws : List ℕ) → too_long ws ≡ false → survey_reply sync ws ≡ survey_of sync ws
survey-given sync ws h = answer-yes (verdict (survey_causes ws)) _ (survey_of sync ws) (rw h)

-- what is left of two numbers after the smaller is taken from both
one_left : (n m k : ℕ) → k ≡ min n m → (n - k ≡ 0) ⊎ (m - k ≡ 0)
one_left n m k e = elim (dec_lt n m) as (λ x. (n - k ≡ 0) ⊎ (m - k ≡ 0)) [ yes h ↦ inl (omega arith) | no h ↦ inr (omega arith) ]

pub pairs-are-counted : PairsAreCounted
pairs-are-counted sync a b list z =
    let n = paired-length a b (reading sync a) (reading sync b) in
    let given-a : survey_reply sync a ≡ survey_of sync a = survey-given sync a (accepted-short sync a b list z).0 in
    let given-b : survey_reply sync b ≡ survey_of sync b = survey-given sync b (accepted-short sync a b list z).1 in
    let in-a : (survey_reply sync a).chunks ≡ length (reading sync a) = ap (λ (x : Survey). x.chunks) given-a in
    let in_b : (survey_reply sync b).chunks ≡ length (reading sync b) = ap (λ (x : Survey). x.chunks) given-b in
    rw (accepted-reply sync a b list z) (record {
      surveyed = (ap (λ (x : Survey). x.refusal) given-a, ap (λ (x : Survey). x.refusal) given-b);
      first = omega arith;
      second = omega arith;
      most = omega arith;
      one_ends = one_left (length (reading sync a)) (length (reading sync b)) (pair_count sync a b) n;
    })
