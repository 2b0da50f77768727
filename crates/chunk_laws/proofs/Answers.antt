-- The answers of the header check by the words that it looks at: `Ends` has them of the words from the place on, and `Headers` of the crate `chunk` what
-- stands at a place. The answers of the search by its steps (`Steps` there).
use mathlib.Core.Path.{◌≡◌, refl, sym, ap, ◌∙◌}
use mathlib.Core.Bool.{Bool, true, cond, ◌&&◌, ◌||◌}
use mathlib.Core.List.{List, [], ◌∷◌}
use Prim.Native.Nat.{ℕ, suc, ◌+◌, ◌≤◌, ◌<◌}
use native.Mathlib.Omega.{arith}
use native.Mathlib.Numerals.{add-one}
use Rattle.std.specs.Prelude.{Option, Some, None}
use native.Mathlib.Decide.{dec_lt}
use lib.ListN.{length, get_or, drop, length-drop}
use lib.Seq.{get_or-drop, drop-drop}
use lib.Dec.{eqb}
use borrow.Author.Tests.{eqb-true, eq-eqb}
use Rattle.base.proofs.Booleans.{and_left, and_right, and_both, or_right}
use Rattle.base.specs.declared.Words.{Words}
use Rattle.chunk.specs.declared.Entry.{Entry}
use Rattle.chunk.specs.Header.{size, span, legal, headed, confirmed}
use Rattle.chunk.specs.Reading.{next_from}
use Rattle.chunk.proofs.Headers.{headed_by_words, headed-inside, confirmed-by-end}
use Rattle.chunk.proofs.Steps.{stepped, ended}
use Rattle.chunk_laws.specs.Answers.{HeaderAt, FollowedAt, EndingAt, checked, CheckTells, FindsFirst, SearchTells}
use Rattle.chunk_laws.specs.Ends.{ThreeWays}
use Rattle.chunk_laws.proofs.Ends.{checked-three-ways}

-- ---- the header check

module _ (sync : ℕ) (ws : List ℕ) where
  header-there : (p : ℕ) → HeaderAt sync ws p → headed sync (drop p ws) ≡ true
  header-there p h =
      headed_by_words sync ws p (omega (arith, h.0))
      ∙ rw (add-one p) (and_both (eqb (get_or ws p 0) sync) _ (eq-eqb (get_or ws p 0) sync h.1) h.2)

  header-only : (p : ℕ) → headed sync (drop p ws) ≡ true → HeaderAt sync ws p
  header-only p e =
      let inside : p + 1 < length ws = headed-inside sync ws p e in
      let two : eqb (get_or ws p 0) sync && legal (get_or ws (suc p) 0) ≡ true = rw (← add-one p) (sym (headed_by_words sync ws p inside) ∙ e) in
      (omega arith, eqb-true (get_or ws p 0) sync (and_left (eqb (get_or ws p 0) sync) _ two), and_right (eqb (get_or ws p 0) sync) _ two)

  module _ (p : ℕ) where
    abbrev end : ℕ
    end = p + span (get_or ws (suc p) 0)

    by_end : headed sync (drop p ws) ≡ true → confirmed sync (drop p ws) ≡ eqb end (length ws) || headed sync (drop end ws)
    by_end e = confirmed-by-end sync ws p end e (rw (add-one p) (omega arith))

    -- the words from p on
    word-there : get_or (drop p ws) 1 0 ≡ get_or ws (suc p) 0
    word-there = get_or-drop p ws 1 0 ∙ ap (λ (n : ℕ). get_or ws n 0) (add-one p)

    end-there : drop (span (get_or (drop p ws) 1 0)) (drop p ws) ≡ drop end ws
    end-there = drop-drop (span (get_or (drop p ws) 1 0)) p ws ∙ ap (λ (w : ℕ). drop (p + span w) ws) word-there

    ways : ThreeWays sync (drop p ws)
    ways = checked-three-ways sync (drop p ws)

    header_of : confirmed sync (drop p ws) ≡ true → HeaderAt sync ws p
    unfolding confirmed
    header_of c = header-only p (and_left (headed sync (drop p ws)) _ c)

    -- a chunk that ends in another legal header, or with the recording
    chunk-followed : FollowedAt sync ws p → confirmed sync (drop p ws) ≡ true
    chunk-followed (h, f) = by_end (header-there p h) ∙ or_right (eqb end (length ws)) _ (header-there end f)

    chunk-ending : EndingAt sync ws p → confirmed sync (drop p ws) ≡ true
    chunk-ending (h, e) = by_end (header-there p h) ∙ ap (λ (b : Bool). b || headed sync (drop end ws)) (eq-eqb end (length ws) e)

    only-followed : checked sync ws p ≡ 1 → FollowedAt sync ws p
    only-followed e = let t = ways.followed.0 e in (header_of t.0, header-only end (ap (headed sync) (sym end-there) ∙ t.1))

    only_ending : checked sync ws p ≡ 2 → EndingAt sync ws p
    only_ending e =
        let t = ways.ending.0 e in
        let h : HeaderAt sync ws p = header_of t.0 in
        (h, omega (arith, h.0, t.1, length-drop p ws, ap size word-there))

pub check-tells : CheckTells
check-tells sync ws p =
    let t = ways sync ws p in
    record {
      followed = λ h. t.followed.1 (chunk-followed sync ws p h, ap (headed sync) (end-there sync ws p) ∙ header-there sync ws _ h.1);
      only_followed = only-followed sync ws p;
      ending = λ h. t.ending.1 (chunk-ending sync ws p h, omega (arith, h.0.0, h.1, length-drop p ws, ap size (word-there sync ws p)));
      only_ending = only_ending sync ws p;
      elsewhere = λ f e. by_number (checked sync ws p) t.most (λ n. f (only-followed sync ws p n)) (λ n. e (only_ending sync ws p n));
    }
  where
    by_number : (n : ℕ) → n ≤ 2 → (n ≡ 1 → ⊥) → (n ≡ 2 → ⊥) → n ≡ 0
    by_number n l one two = elim (dec_lt n 1) as (λ x. n ≡ 0) [
      | yes h ↦ omega arith
      | no h ↦ elim (dec_lt n 2) as (λ x. n ≡ 0) [
        | yes k ↦ absurd (one (omega arith))
        | no k ↦ absurd (two (omega arith))
      ]
    ]

-- ---- the search

pub search-tells : SearchTells
search-tells sync ws p = by_answer (next_from sync ws p) refl
  where
    by_answer : (f : Option (Entry × Words)) → next_from sync ws p ≡ f → FindsFirst sync ws p
    by_answer None e = let l = (ended sync ws p e).lists in record { number = rw (e, l); values = rw (e, l) }
    by_answer (Some (c, next)) e =
        let s = stepped sync ws p c next e in
        record { number = rw (e, s.lists); values = rw (e, s.lists) (ap (λ (n : ℕ). c.position.0 ∷ c.header ∷ cond c.end 1 0 ∷ n ∷ []) s.end) }
