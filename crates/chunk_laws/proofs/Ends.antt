-- The header check by its two tests, whether a chunk is confirmed and whether it ends with the words: of a chunk that is confirmed and does not, a legal
-- header stands at its end, and where one stands there words are left. The mark of an entry follows from its place (`Marks` of the crate `chunk`), and
-- after a chunk that ends with the recording no words are left to list another in.
use mathlib.Core.Path.{◌≡◌, refl, sym, ap, ◌∙◌}
use mathlib.Core.Bool.{Bool, true, false, cond, true≢false}
use mathlib.Core.List.{List, [], ◌∷◌, ◌++◌}
use mathlib.Core.Logic.{inl, inr}
use Prim.Native.Nat.{ℕ, zero, suc, ◌+◌, ◌≤◌}
use native.Mathlib.Omega.{arith}
use lib.ListN.{length, get_or, drop, length-drop, length-append, drop_of_length-le}
use lib.Dec.{eqb}
use borrow.Author.Tests.{eqb-true, eq-eqb, ne_eqb}
use Rattle.base.proofs.Booleans.{and_right, or_cases, by-test}
use Rattle.chunk.specs.declared.Entry.{Entry}
use Rattle.chunk.specs.Header.{size, span, headed, ends, confirmed, at_end, check_at}
use Rattle.chunk.specs.Reading.{entry, listed, reading}
use Rattle.chunk.proofs.Headers.{headed-parts}
use Rattle.chunk.proofs.Steps.{listed-on, listed-one, past}
use Rattle.chunk.proofs.Marks.{Marked, reading-marked}
use Rattle.chunk_laws.specs.Listed.{Among}
use Rattle.chunk_laws.specs.Ends.{answered, ThreeWays, MarkFollowsFromPlace}

-- ---- three ways

module _ (sync : ℕ) (ws : List ℕ) where
  abbrev end : ℕ
  end = span (get_or ws 1 0)

  -- the number, by the two tests
  by_tests : (b m : Bool) → confirmed sync ws ≡ b → at_end ws ≡ m → answered sync ws ≡ cond b (cond m 2 1) 0
  unfolding check_at
  by_tests true true c e = rw (c, e)
  by_tests true false c e = rw (c, e)
  by_tests false m c e = rw c

  header-follows : confirmed sync ws ≡ true → at_end ws ≡ false → headed sync (drop end ws) ≡ true
  unfolding confirmed ends at_end
  header-follows c m = elim (or_cases (eqb end (length ws)) (headed sync (drop end ws)) (and_right (headed sync ws) _ c)) as (λ x. headed sync (drop end ws) ≡ true) [
    | inl z ↦ absurd (true≢false (sym z ∙ m))
    | inr z ↦ z
  ]

  words_left : headed sync (drop end ws) ≡ true → at_end ws ≡ false
  unfolding at_end
  words_left h = ne_eqb end (length ws) (λ e. omega (arith, (headed-parts sync (drop end ws) h).1, length-drop end ws))

  pub checked-three-ways : ThreeWays sync ws
  unfolding at_end
  checked-three-ways =
      by-test (confirmed sync ws)
      (λ c. by-test (at_end ws) (at-the-end c) (followed-on c))
      (λ c.
      let z : answered sync ws ≡ 0 = by_tests false (at_end ws) c refl in
      record {
        none = (λ n. c, λ n. z);
        followed = (λ n. absurd (omega (arith, n, z)), λ n. absurd (true≢false (sym n.0 ∙ c)));
        ending = (λ n. absurd (omega (arith, n, z)), λ n. absurd (true≢false (sym n.0 ∙ c)));
        most = omega (arith, z);
      })
    where
      at-the-end : confirmed sync ws ≡ true → at_end ws ≡ true → ThreeWays sync ws
      at-the-end c m =
          let z : answered sync ws ≡ 2 = by_tests true true c m in
          record {
            none = (λ n. absurd (omega (arith, n, z)), λ n. absurd (true≢false (sym c ∙ n)));
            followed = (λ n. absurd (omega (arith, n, z)), λ n. absurd (true≢false (sym m ∙ words_left n.1)));
            ending = (λ n. (c, eqb-true end (length ws) m), λ n. z);
            most = omega (arith, z);
          }

      followed-on : confirmed sync ws ≡ true → at_end ws ≡ false → ThreeWays sync ws
      followed-on c m =
          let z : answered sync ws ≡ 1 = by_tests true false c m in
          record {
            none = (λ n. absurd (omega (arith, n, z)), λ n. absurd (true≢false (sym c ∙ n)));
            followed = (λ n. (c, header-follows c m), λ n. z);
            ending = (λ n. absurd (omega (arith, n, z)), λ n. absurd (true≢false (sym (eq-eqb end (length ws) n.1) ∙ m)));
            most = omega (arith, z);
          }

-- ---- the mark

marked-among : (n : ℕ) (es : List Entry) → Marked n es → (e : Entry) → Among e es → e.end ≡ eqb (past e) n
marked-among n [] m e h = absurd h
marked-among n (f ∷ es) m e (inl z) = rw z m.0
marked-among n (f ∷ es) m e (inr h) = marked-among n es m.1 e h

mark-follows : (sync : ℕ) (ws : List ℕ) (e : Entry) → Among e (reading sync ws) → e.end ≡ eqb (past e) (length ws)
mark-follows sync ws e h = marked-among (length ws) (reading sync ws) (reading-marked sync ws) e h

-- what is left of a chunk that ends with the words is all of them
listed-to-end : (sync at : ℕ) (ws : List ℕ) (left : ℕ) → left ≡ length ws → listed sync at left ws ≡ []
unfolding listed
listed-to-end sync at ws left e =
    let all : length ws ≤ left = omega arith in
    listed-on sync at left ws (omega arith) ∙ ap (listed sync (at + left) 0) (drop_of_length-le ws all)

last-listed : (sync at left : ℕ) (ws : List ℕ) (before : List Entry) (e : Entry) (after : List Entry) → listed sync at left ws ≡ before ++ e ∷ after
    → e.end ≡ true → after ≡ []
unfolding listed at_end
last-listed sync at left [] before e after q m = absurd (omega (arith, ap length q, length-append before (e ∷ after)))
last-listed sync at (suc left) (w ∷ ws) before e after q m = last-listed sync (suc at) left ws before e after q m
last-listed sync at zero (w ∷ ws) before e after q m =
    by-test (confirmed sync (w ∷ ws))
    (λ c. by_first before (sym (listed-one sync at w ws true c) ∙ q) (λ es r. last-listed sync (suc at) (suc (size (get_or ws 0 0))) ws es e after r m))
    (λ c. last-listed sync (suc at) 0 ws before e after (sym (listed-one sync at w ws false c) ∙ q) m)
  where
    by_first : (before : List Entry) → entry at (get_or ws 0 0) (at_end (w ∷ ws)) ∷ listed sync (suc at) (suc (size (get_or ws 0 0))) ws ≡ before ++ e ∷ after
        → ((es : List Entry) → listed sync (suc at) (suc (size (get_or ws 0 0))) ws ≡ es ++ e ∷ after → after ≡ []) → after ≡ []
    by_first [] r more =
        let z : eqb (span (get_or ws 0 0)) (suc (length ws)) ≡ true = ap (λ (es : List Entry). (get_or es 0 e).end) r ∙ m in
        sym (ap (drop 1) r) ∙ listed-to-end sync (suc at) ws (suc (size (get_or ws 0 0))) (omega (arith, eqb-true (span (get_or ws 0 0)) (suc (length ws)) z))
    by_first (b ∷ es) r more = more es (ap (drop 1) r)

pub mark-follows-from-place : MarkFollowsFromPlace
mark-follows-from-place sync ws = record {
  follows = mark-follows sync ws;
  last = λ before e after q m. last-listed sync 0 0 ws before e after q m;
  nothing_after = λ e h m.
      let all : length ws ≤ past e = omega (arith, eqb-true (past e) (length ws) (sym (mark-follows sync ws e h) ∙ m)) in
      drop_of_length-le ws all;
}
