-- Demand 3 for lists. A chunk that begins before the stretch and reaches into it ends where a chunk of the stretch begins, or with the stretch. From
-- there on the reading stands at each place as it stands in the stretch alone (`in_step`), so it lists the same chunks (`listed_same`) and the list
-- goes on alike (`list_same`). Such a chunk has 8,186 words at the most, of which one at the least lies before the stretch.
use mathlib.Core.Path.{◌≡◌, refl, sym, ap, ◌∙◌}
use mathlib.Core.Bool.{true}
use mathlib.Core.List.{List, [], ◌∷◌, ◌++◌}
use mathlib.Core.Logic.{◌⊎◌, inl, inr}
use Prim.Native.Nat.{ℕ, zero, suc, ◌+◌, ◌-◌, ◌≤◌, ◌<◌}
use native.Mathlib.Omega.{arith}
use native.Mathlib.Decide.{dec_lt}
use lib.ListN.{length, get_or, drop}
use lib.Seq.{drop-append-add, drop-append_seam}
use lib.Dec.{eqb}
use borrow.Author.Tests.{eqb-true}
use Rattle.base.proofs.Booleans.{and_left, and_right, by-test}
use Rattle.chunk.specs.Header.{size, span, legal, headed, ends, confirmed}
use Rattle.chunk.specs.Reading.{entry, reading, left_at, listed_at}
use Rattle.chunk.proofs.Headers.{legal-bounds, headed-parts, ends-within}
use Rattle.chunk.proofs.Steps.{left_split, left-on}
use Rattle.chunk.proofs.Moved.{listed-moved}
use Rattle.chunk_laws.specs.Stretch.{Laid, words, offset, empty, whole, whole_row, clean}
use Rattle.chunk_laws.specs.Listed.{Among}
use Rattle.chunk_laws.specs.Resync.{from, moved, ReadAsAlone}
use Rattle.chunk_laws.proofs.ByPlace.{left_end, reading-from, place-listed, listed-place}
use Rattle.chunk_laws.proofs.Rows.{whole-legal, lists-row, row-mark, ends-step, ends-past, row_first, row-after, row_at, words-parts, row_listed}
use Rattle.chunk_laws.proofs.Stretch.{unbroken, clean-unbroken, unbroken-row, unbroken-after, not-inside, ends-at-boundary}

-- ---- a chunk in hand

-- What is known of the words left of a chunk that is listed: they are few, and there are none or they end where a chunk can.
abbrev Held : ℕ → ℕ → List ℕ → Type 0
Held sync left ws = (left ≤ 8185) × ((left ≡ 0) ⊎ (ends sync left ws ≡ true))

held-length : (sync left : ℕ) (ws : List ℕ) → Held sync left ws → left ≤ length ws
held-length sync left ws (few, inl z) = omega arith
held-length sync left ws (few, inr e) = ends-within sync left ws e

held_next : (sync w : ℕ) (ws : List ℕ) → confirmed sync (w ∷ ws) ≡ true → Held sync (suc (size (get_or ws 0 0))) ws
unfolding confirmed
held_next sync w ws e =
    let l : legal (get_or ws 0 0) ≡ true = (headed-parts sync (w ∷ ws) (and_left (headed sync (w ∷ ws)) _ e)).2 in
    (omega (arith, legal-bounds (get_or ws 0 0) l), inr (sym (ends-step sync (suc (size (get_or ws 0 0))) w ws) ∙ and_right (headed sync (w ∷ ws)) _ e))

held_at : (sync left p : ℕ) (ws : List ℕ) → Held sync left ws → Held sync (left_at sync left ws p) (drop p ws)
unfolding left_at
held_at sync left zero ws h = h
held_at sync left (suc p) [] h = (omega arith, inl refl)
held_at sync (suc left) (suc p) (w ∷ ws) (few, inl z) = absurd (omega arith)
held_at sync (suc left) (suc p) (w ∷ ws) (few, inr e) = held_at sync left p ws (omega arith, inr (sym (ends-step sync left w ws) ∙ e))
held_at sync zero (suc p) (w ∷ ws) h =
    by-test (confirmed sync (w ∷ ws))
    (λ e. rw e (held_at sync (suc (size (get_or ws 0 0))) p ws (held_next sync w ws e)))
    (λ e. rw e (held_at sync 0 p ws (omega arith, inl refl)))

-- ---- the stretch after the words `a`, by place

-- how many words of the stretch belong to a chunk that begins before it
abbrev pub lost : ℕ → List ℕ → List Laid → ℕ
lost sync a cs = left_at sync 0 (a ++ words sync cs) (length a)

module _ (sync : ℕ) (a : List ℕ) (cs : List Laid) (k : unbroken sync cs ≡ true) where
  held : Held sync (lost sync a cs) (words sync cs)
  held = rw drop-append_seam at (held_at sync 0 (length a) (a ++ words sync cs) (omega arith, inl refl))

  pub lost-few : lost sync a cs ≤ 8185
  lost-few = held.0

  -- alone, no words are left of a chunk where the lost ones end
  ends-at-chunk : left_at sync 0 (words sync cs) (lost sync a cs) ≡ 0
  unfolding left_at
  ends-at-chunk = elim held.1 as (λ x. left_at sync 0 (words sync cs) (lost sync a cs) ≡ 0) [
    | inl z ↦ ap (λ (n : ℕ). left_at sync 0 (words sync cs) n) z
    | inr e ↦ ends-at-boundary sync cs k (lost sync a cs) e
  ]

  -- past the lost words the reading stands at each place as in the stretch alone
  pub in_step : (q : ℕ) → lost sync a cs ≤ q → left_at sync 0 (a ++ words sync cs) (length a + q) ≡ left_at sync 0 (words sync cs) q
  in_step q h =
      let s : List ℕ = words sync cs in
      let l : ℕ = lost sync a cs in
      let n : q ≡ l + (q - l) = omega arith in
      let after : (left : ℕ) → left_at sync left s l ≡ 0 → left_at sync left s q ≡ left_at sync 0 (drop l s) (q - l) = λ left z.
      ap (λ (x : ℕ). left_at sync left s x) n ∙ left_split sync left l (q - l) s ∙ ap (λ (x : ℕ). left_at sync x (drop l s) (q - l)) z in
      left_split sync 0 (length a) q (a ++ s)
      ∙ ap (λ (x : List ℕ). left_at sync l x q) (drop-append_seam a s)
      ∙ after l (left_end sync l s)
      ∙ sym (after 0 ends-at-chunk)

  -- and so a chunk is listed at the same places, and the list from there on is the same
  pub listed_same : (q : ℕ) → lost sync a cs ≤ q → listed_at sync (a ++ words sync cs) (length a + q) ≡ listed_at sync (words sync cs) q
  unfolding listed_at
  listed_same q h = rw (in_step q h, drop-append-add a (words sync cs) q)

  pub list_same : (q : ℕ) → lost sync a cs ≤ q
      → from (length a + q) (reading sync (a ++ words sync cs)) ≡ moved (length a) (from q (reading sync (words sync cs)))
  list_same q h =
      let s : List ℕ = words sync cs in
      reading-from sync (length a + q) (a ++ s)
      ∙ rw (in_step q h, drop-append-add a s q, listed-moved sync (length a) q (left_at sync 0 s q) (drop q s), reading-from sync q s)

  -- ---- and so the stretch is read as it is read alone

  -- a chunk that is listed in the stretch begins past the lost words
  pub listed-late : (q : ℕ) → listed_at sync (a ++ words sync cs) (length a + q) ≡ true → lost sync a cs ≤ q
  unfolding listed_at
  listed-late q h =
      let s : List ℕ = words sync cs in
      let l : ℕ = lost sync a cs in
      let z : left_at sync 0 (a ++ s) (length a + q) ≡ 0 = eqb-true _ 0 (and_left (eqb (left_at sync 0 (a ++ s) (length a + q)) 0) _ h) in
      let z' : left_at sync l s q ≡ 0 = ap (λ (x : List ℕ). left_at sync l x q) (sym (drop-append_seam a s)) ∙ sym (left_split sync 0 (length a) q (a ++ s)) ∙ z in
      elim (dec_lt q l) as (λ x. l ≤ q) [
        | yes p ↦ omega (arith, z', left-on sync l q s (omega arith) (held-length sync l s held))
        | no p ↦ omega arith
      ]

  -- no chunk of the stretch is lost in part: one that begins in the lost words ends in them
  lost-whole : (before : List Laid) (c : Laid) (after : List Laid) → cs ≡ before ++ c ∷ after → offset sync before < lost sync a cs
      → offset sync before + span c.header ≤ lost sync a cs
  lost-whole before c after e h =
      let l : ℕ = lost sync a cs in
      let m : ℕ = l - offset sync before in
      let n : l ≡ offset sync before + m = omega arith in
      let k' : unbroken sync (c ∷ after) ≡ true = unbroken-after sync before (c ∷ after) (rw e at k) in
      elim held.1 as (λ x. offset sync before + span c.header ≤ l) [
        | inl z ↦ omega arith
        | inr f ↦
            let f' : ends sync m (words sync (c ∷ after)) ≡ true =
            sym (ends-past sync m (words sync before) (words sync (c ∷ after)))
            ∙ ap (ends sync (offset sync before + m)) (sym (ap (words sync) e ∙ words-parts sync before (c ∷ after)))
            ∙ ap (λ (x : ℕ). ends sync x (words sync cs)) (sym n) ∙ f in
            elim (dec_lt m (span c.header)) as (λ x. offset sync before + span c.header ≤ l) [
              | yes d ↦ absurd (not-inside sync c after k' m (omega arith) d f')
              | no d ↦ omega arith
            ]
      ]

  -- A chunk that begins 8,175 words or more after the stretch's start is listed: it would end 8,186 words or more after it.
  pub chunk-listed : (before : List Laid) (c : Laid) (after : List Laid) → cs ≡ before ++ c ∷ after → 8175 ≤ offset sync before
      → Among (entry (length a + offset sync before) c.header (empty after)) (reading sync (a ++ words sync cs))
  chunk-listed before c after e h =
      let p : ℕ = offset sync before in
      let s : List ℕ = words sync cs in
      let row : whole_row (before ++ c ∷ after) ≡ true = rw e at (unbroken-row sync cs k) in
      let own : whole c ≡ true = row_first c after (row-after before (c ∷ after) row) in
      let sized : 9 ≤ size c.header = (legal-bounds c.header (whole-legal c own)).0 in
      let far : lost sync a cs ≤ p = elim (dec_lt p (lost sync a cs)) as (λ x. lost sync a cs ≤ p) [
        | yes d ↦ absurd (omega (arith, sized, lost-whole before c after e d, lost-few))
        | no d ↦ omega arith
      ] in
      let there : listed_at sync (a ++ s) (length a + p) ≡ true =
      listed_same p far ∙ ap (λ (l : List Laid). listed_at sync (words sync l) p) e ∙ row_listed sync before c after row in
      rw (drop-append-add a s p, row_at sync before (c ∷ after) e, row-mark sync c after own) at (place-listed sync (length a + p) (a ++ s) there)

  pub read-as-alone : ReadAsAlone sync a cs
  read-as-alone = record {
    alone = lists-row sync 0 cs (unbroken-row sync cs k);
    late = λ before c after e h. chunk-listed before c after e (omega arith);
    onward = λ before c after e end h.
        list_same (offset sync before) (listed-late (offset sync before) (listed-place sync (a ++ words sync cs) _ h).0);
  }

-- Demand 3 for lists, in the mission's words: the stretch is clean.
pub clean-read-as-alone : (sync : ℕ) (a : List ℕ) (cs : List Laid) → clean sync cs ≡ true → ReadAsAlone sync a cs
clean-read-as-alone sync a cs k = read-as-alone sync a cs (clean-unbroken sync cs k)
