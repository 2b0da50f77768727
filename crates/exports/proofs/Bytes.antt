-- Every part of a reply about a unit is below 256, so that the four bytes of the number are the four parts: the first row or column that differs is 64 at
-- the most, and a data bit that is found lies in the unit.
use mathlib.Core.Path.{◌≡◌, refl, sym, subst}
use mathlib.Core.Bool.{Bool, true, false, cond, ◌&&◌}
use mathlib.Core.List.{List, [], ◌∷◌}
use Prim.Native.Nat.{ℕ, zero, suc, ◌+◌, ◌-◌, ◌*◌, ◌/◌, ◌%◌, ◌<◌, ◌≤◌}
use native.Mathlib.Omega.{arith}
use lib.Dec.{ltb, eqb}
use lib.ListN.{length}
use borrow.Author.Tests.{ltb-true}
use Rattle.base.specs.Refusal.{Causes, verdict, answer}
use Rattle.base.proofs.Booleans.{and_left, and_right}
use Rattle.base.proofs.Refused.{answer-either, spared}
use Rattle.parity.specs.declared.Case.{Case}
use Rattle.parity.specs.declared.Judged.{Judged}
use Rattle.parity.specs.Unit.{Finding, sound, parity_bit, data_bit, neither, row_differs, column_differs, sum_all, first_of, five_cases, finding, not_unit, case_number, reply, named, refused, judge_causes, judge_verdict, judge_reply, check_causes, check_verdict, check_reply}
use Rattle.parity.proofs.Judging.{between}
use Rattle.exports.specs.Reply.{in_bytes, Says, BytesSayTheReply}

-- each part is a byte
pub record Small (j : Judged) : Type 0 where
  pub refusal : j.refusal < 256
  pub case : case_number j.case < 256
  pub bit : j.bit < 256
  pub word : j.word.0 < 256

small-reply : {v : ℕ} {s : Case} {w b n : ℕ} → v < 256 → case_number s < 256 → w < 256 → b < 256 → Small (reply v s w b n)
small-reply p q r t = record { refusal = p; case = q; bit = t; word = r }

-- ---- what is found

first-le : (n : ℕ) (f : ℕ → ℕ) → first_of n f ≤ n
unfolding first_of
first-le zero f = omega arith
first-le (suc n) f = by_first (eqb (f 0) 0) (first-le n (λ i. f (suc i)))
  where
    by_first : (t : Bool) → first_of n (λ i. f (suc i)) ≤ n → elim t [ true ↦ suc (first_of n (λ i. f (suc i))) | false ↦ 0 ] ≤ suc n
    by_first true h = omega arith
    by_first false h = omega arith

module _ (k : ℕ) (most : k ≤ 256) where
  either : (t : Bool) (f g : Finding) → (t ≡ true → Small (named f k)) → Small (named g k) → Small (named (cond t f g) k)
  either true f g p q = p refl
  either false f g p q = q

  module _ (R C row column : ℕ) (h : row ≤ 64) (i : column ≤ 64) where
    abbrev word : ℕ
    word = 4 * row + column / 16

    small_cases : Small (named (five_cases R C row column k) k)
    unfolding five_cases
    small_cases =
        either (eqb R 0 && eqb C 0) sound _ (λ _. small-reply (omega arith) (omega arith) (omega arith) (omega arith))
        (either (eqb R 1 && eqb C 0) (parity_bit (row / 16) (15 - row % 16)) _
        (λ _. small-reply (omega arith) (omega arith) (omega arith) (omega arith))
        (either (eqb R 0 && eqb C 1) (parity_bit (4 + column / 16) (15 - column % 16)) _
        (λ _. small-reply (omega arith) (omega arith) (omega arith) (omega arith))
        (either (eqb R 1 && eqb C 1 && ltb word k) (data_bit word (15 - column % 16)) neither
        (λ e.
        let below = ltb-true word k (and_right (eqb R 1 && eqb C 1) (ltb word k) e) in
        small-reply (omega arith) (omega arith) (omega (arith, below)) (omega arith))
        (small-reply (omega arith) (omega arith) (omega arith) (omega arith)))))

small-finding : (u : List ℕ) → length u - 8 ≤ 256 → Small (named (finding u) (length u - 8))
unfolding finding
small-finding u h =
    small_cases (length u - 8) h (sum_all 64 (row_differs u)) (sum_all 64 (column_differs u)) (first_of 64 (row_differs u)) (first_of 64 (column_differs u))
    (first-le 64 (row_differs u)) (first-le 64 (column_differs u))

-- ---- what is replied

-- each cause's number is a byte; `refl` shows it of a list that is written out
abbrev bytes : Causes → Bool
bytes [] = true
bytes (c ∷ cs) = ltb c.0 256 && bytes cs

small-verdict : (cs : Causes) → bytes cs ≡ true → verdict cs < 256
small-verdict [] e = omega arith
small-verdict ((n, true) ∷ cs) e = ltb-true n 256 (and_left (ltb n 256) (bytes cs) e)
small-verdict ((n, false) ∷ cs) e = small-verdict cs (and_right (ltb n 256) (bytes cs) e)

-- by causes of which one is that the length is no unit's
small-answer : (u : List ℕ) (cs : Causes) → bytes cs ≡ true → (verdict cs ≡ 0 → not_unit (length u) ≡ false)
    → Small (answer (verdict cs) refused (named (finding u) (length u - 8)))
small-answer u cs e h =
    answer-either Small (verdict cs) refused _ (small-reply (small-verdict cs e) (omega arith) (omega arith) (omega arith))
    (λ z. small-finding u (omega (arith, (between 9 264 (length u) (h z)).1)))

pub small-judged : (u : List ℕ) → Small (judge_reply u)
unfolding judge_reply judge_verdict
small-judged u = small-answer u (judge_causes u) refl (λ z. (spared (judge_causes u) refl z).0)

pub small-checked : (u : List ℕ) (m : ℕ) → Small (check_reply u m)
unfolding check_reply check_verdict
small-checked u m = small-answer u (check_causes u m) refl (λ z. (spared (check_causes u m) refl z).0)

-- the word of a reply, as the calls have it
pub judged-word : {j : Judged} (u : List ℕ) → j ≡ judge_reply u → j.word.0 < 256
judged-word u e = (subst Small (sym e) (small-judged u)).word

pub checked-word : {j : Judged} (u : List ℕ) (m : ℕ) → j ≡ check_reply u m → j.word.0 < 256
checked-word u m e = (subst Small (sym e) (small-checked u m)).word

pub ruleset small = (judged-word, checked-word)

-- ---- the number

says : (j : Judged) → Small j → Says j
unfolding in_bytes
says j s = record { refusal = omega arith; case = omega arith; bit = omega arith; word = omega arith }

pub bytes-say-the-reply : BytesSayTheReply
unfolding in_bytes
bytes-say-the-reply =
    record {
      judged = λ u. says (judge_reply u) (small-judged u);
      checked = λ u m. says (check_reply u m) (small-checked u m);
      example = refl;
    }
