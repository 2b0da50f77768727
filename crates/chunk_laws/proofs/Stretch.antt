-- A stretch in whose chunks no legal header begins: a chunk that ends in it ends where one of its own begins or with the stretch, and there no words
-- are left of a chunk when the stretch is read alone. A clean stretch is such a one.
use mathlib.Core.Path.{◌≡◌, refl, sym, ap, ◌∙◌}
use mathlib.Core.Bool.{Bool, true, false, not, ◌&&◌, false≢true}
use mathlib.Core.List.{List, [], ◌∷◌, ◌++◌}
use mathlib.Core.Logic.{inl, inr}
use Prim.Native.Nat.{ℕ, zero, suc, ◌+◌, ◌-◌, ◌<◌}
use native.Mathlib.Omega.{arith}
use native.Mathlib.Numerals.{one-add}
use native.Mathlib.Decide.{dec_lt}
use lib.ListN.{length, drop, length-append}
use lib.Seq.{drop-drop}
use lib.Dec.{eqb}
use borrow.Author.Tests.{eqb-true, not-true}
use Rattle.base.proofs.Booleans.{and_left, and_right, or_cases, and_both}
use Rattle.chunk.specs.Header.{size, span, legal, headed, ends}
use Rattle.chunk.specs.Reading.{left_at}
use Rattle.chunk_laws.specs.Stretch.{Laid, words, offset, whole, whole_row, lacks, clean}
use Rattle.chunk_laws.proofs.Rows.{whole_length, ends-past, left-rest}

-- no legal header begins at one of the first n of these words
unfoldable pub headless : ℕ → ℕ → List ℕ → Bool
headless sync zero ws = true
headless sync (suc n) ws = not (headed sync ws) && headless sync n (drop 1 ws)

-- Less than a clean stretch is enough: whole chunks, inside none of which a legal header begins, though the sync word may stand there.
unfoldable pub unbroken : ℕ → List Laid → Bool
unbroken sync [] = true
unbroken sync (c ∷ cs) = whole c && headless sync (suc (length c.payload)) (c.header ∷ (c.payload ++ words sync cs)) && unbroken sync cs

-- ---- legal headers

headed-sync : (sync w : ℕ) (ws : List ℕ) → eqb w sync ≡ false → headed sync (w ∷ ws) ≡ false
unfolding headed
headed-sync sync w [] e = refl
headed-sync sync w (h ∷ ws) e = ap (λ (b : Bool). b && legal h) e

-- ---- the mission's condition gives the weaker one

headless-at : (sync n : ℕ) (ws : List ℕ) → headless sync n ws ≡ true → (i : ℕ) → i < n → headed sync (drop i ws) ≡ false
unfolding headless
headless-at sync zero ws k i h = absurd (omega arith)
headless-at sync (suc n) ws k zero h = not-true (headed sync ws) (and_left (not (headed sync ws)) _ k)
headless-at sync (suc n) ws k (suc i) h =
    rw (← one-add i, ← drop-drop i 1 ws) (headless-at sync n (drop 1 ws) (and_right (not (headed sync ws)) _ k) i (omega arith))

lacks-headless : (sync : ℕ) (xs ws : List ℕ) → lacks sync xs ≡ true → headless sync (length xs) (xs ++ ws) ≡ true
unfolding lacks headless
lacks-headless sync [] ws k = refl
lacks-headless sync (x ∷ xs) ws k =
    rw (headed-sync sync x (xs ++ ws) (not-true (eqb x sync) (and_left (not (eqb x sync)) _ k)))
    (lacks-headless sync xs ws (and_right (not (eqb x sync)) _ k))

pub clean-unbroken : (sync : ℕ) (cs : List Laid) → clean sync cs ≡ true → unbroken sync cs ≡ true
unfolding clean unbroken
clean-unbroken sync [] k = refl
clean-unbroken sync (c ∷ cs) k =
    let own : Bool = whole c && lacks sync (c.header ∷ c.payload) in
    let t : own ≡ true = and_left own _ k in
    and_both (whole c && headless sync (suc (length c.payload)) (c.header ∷ (c.payload ++ words sync cs))) _
    (and_both (whole c) _ (and_left (whole c) _ t) (lacks-headless sync (c.header ∷ c.payload) (words sync cs) (and_right (whole c) _ t)))
    (clean-unbroken sync cs (and_right own _ k))

-- ---- what a stretch with no header inside its chunks has

first-whole : (sync : ℕ) (c : Laid) (cs : List Laid) → unbroken sync (c ∷ cs) ≡ true → whole c ≡ true
unfolding unbroken
first-whole sync c cs k = and_left (whole c) _ (and_left (whole c && _) _ k)

rest-unbroken : (sync : ℕ) (c : Laid) (cs : List Laid) → unbroken sync (c ∷ cs) ≡ true → unbroken sync cs ≡ true
unfolding unbroken
rest-unbroken sync c cs k = and_right (whole c && headless sync (suc (length c.payload)) (c.header ∷ (c.payload ++ words sync cs))) _ k

pub unbroken-row : (sync : ℕ) (cs : List Laid) → unbroken sync cs ≡ true → whole_row cs ≡ true
unfolding whole_row
unbroken-row sync [] k = refl
unbroken-row sync (c ∷ cs) k = and_both (whole c) _ (first-whole sync c cs k) (unbroken-row sync cs (rest-unbroken sync c cs k))

pub unbroken-after : (sync : ℕ) (before after : List Laid) → unbroken sync (before ++ after) ≡ true → unbroken sync after ≡ true
unbroken-after sync [] after k = k
unbroken-after sync (c ∷ before) after k = unbroken-after sync before after (rest-unbroken sync c (before ++ after) k)

-- no chunk ends inside the first chunk of the stretch
pub not-inside : (sync : ℕ) (c : Laid) (cs : List Laid) → unbroken sync (c ∷ cs) ≡ true → (n : ℕ) → 0 < n → n < span c.header
    → ends sync n (words sync (c ∷ cs)) ≡ true → ⊥
unfolding unbroken ends
not-inside sync c cs k zero some few e = absurd (omega arith)
not-inside sync c cs k (suc i) some few e =
    let n : length c.payload ≡ size c.header = whole_length c (first-whole sync c cs k) in
    let inner : List ℕ = c.header ∷ (c.payload ++ words sync cs) in
    let free : headless sync (suc (length c.payload)) inner ≡ true = and_right (whole c) _ (and_left (whole c && _) _ k) in
    elim (or_cases (eqb (suc i) (offset sync (c ∷ cs))) (headed sync (drop i inner)) e) as (λ x. ⊥) [
      | inl z ↦ omega (arith, eqb-true (suc i) (offset sync (c ∷ cs)) z, length-append c.payload (words sync cs))
      | inr z ↦ false≢true (sym (headless-at sync _ inner free i (omega arith)) ∙ z)
    ]

-- past the first chunk it ends in the rest
ends-rest : (sync : ℕ) (c : Laid) (cs : List Laid) → whole c ≡ true → (k : ℕ)
    → ends sync (span c.header + k) (words sync (c ∷ cs)) ≡ ends sync k (words sync cs)
ends-rest sync c cs t k =
    ap (λ (n : ℕ). ends sync n (words sync (c ∷ cs))) (omega (arith, whole_length c t)) ∙ ends-past sync k (sync ∷ c.header ∷ c.payload) (words sync cs)

-- where a chunk ends in the stretch, no words are left of one that is listed when the stretch is read alone
pub ends-at-boundary : (sync : ℕ) (cs : List Laid) → unbroken sync cs ≡ true → (n : ℕ) → ends sync n (words sync cs) ≡ true
    → left_at sync 0 (words sync cs) n ≡ 0
unfolding left_at
ends-at-boundary sync [] k zero e = refl
ends-at-boundary sync [] k (suc n) e = refl
ends-at-boundary sync (c ∷ cs) k zero e = refl
ends-at-boundary sync (c ∷ cs) k (suc i) e =
    elim (dec_lt (suc i) (span c.header)) as (λ x. left_at sync 0 (words sync (c ∷ cs)) (suc i) ≡ 0) [
      | yes h ↦ absurd (not-inside sync c cs k (suc i) (omega arith) h e)
      | no h ↦
          let m : ℕ = suc i - span c.header in
          let n : suc i ≡ span c.header + m = omega arith in
          let e' : ends sync m (words sync cs) ≡ true = sym (ends-rest sync c cs (first-whole sync c cs k) m) ∙ (rw n at e) in
          ap (λ (x : ℕ). left_at sync 0 (words sync (c ∷ cs)) x) n
          ∙ left-rest sync c cs (unbroken-row sync (c ∷ cs) k) m ∙ ends-at-boundary sync cs (rest-unbroken sync c cs k) m e'
    ]
