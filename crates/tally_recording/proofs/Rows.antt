-- Rows of numbers: their sums place by place, a row with one place raised by one, and rows of which no number passes the largest.
use mathlib.Core.Path.{◌≡◌, refl, sym, ap, ap₂, ◌∙◌}
use mathlib.Core.Bool.{Bool, false, cond}
use mathlib.Core.List.{List, [], ◌∷◌, ◌++◌}
use Prim.Native.Nat.{ℕ, zero, suc, ◌+◌, ◌≤◌, ◌<◌}
use native.Mathlib.Omega.{arith}
use native.Mathlib.Nat.{add_assoc, add-zero}
use lib.ListN.{length, get_or, set}
use lib.Dec.{eqb, ltb}
use borrow.Author.Tests.{eq-eqb, ne_eqb, ltb-false, le-ltb}
use Rattle.base.proofs.Booleans.{or-false}
use Rattle.tally_recording.specs.Numbers.{how_often, each, sums, largest, any_past}

-- ---- how often

pub often-append : {A : Type 0} (test : A → Bool) (xs ys : List A) → how_often test (xs ++ ys) ≡ how_often test xs + how_often test ys
unfolding how_often
often-append test [] ys = omega arith
often-append test (x ∷ xs) ys = ap (λ (n : ℕ). cond (test x) 1 0 + n) (often-append test xs ys) ∙ sym (add_assoc (cond (test x) 1 0) (how_often test xs) (how_often test ys))

-- ---- a number for each

pub each-length : (from n : ℕ) (f : ℕ → ℕ) → length (each from n f) ≡ n
unfolding each
each-length from zero f = refl
each-length from (suc n) f = ap suc (each-length (suc from) n f)

pub each_same : (from n : ℕ) (f g : ℕ → ℕ) → ((k : ℕ) → from ≤ k → k < from + n → f k ≡ g k) → each from n f ≡ each from n g
unfolding each
each_same from zero f g e = refl
each_same from (suc n) f g e =
    ap₂ (λ (x : ℕ) (xs : List ℕ). x ∷ xs) (e from (omega arith) (omega arith)) (each_same (suc from) n f g (λ k a b. e k (omega arith) (omega arith)))

pub each-place : (from n : ℕ) (f : ℕ → ℕ) (i : ℕ) → i < n → get_or (each from n f) i 0 ≡ f (from + i)
unfolding each
each-place from zero f i h = absurd (omega arith)
each-place from (suc n) f zero h = ap f (sym (add-zero from))
each-place from (suc n) f (suc i) h = let m : suc from + i ≡ from + suc i = omega arith in each-place (suc from) n f i (omega arith) ∙ ap f m

-- ---- sums

pub sums-length : (a b : List ℕ) → length a ≡ length b → length (sums a b) ≡ length a
unfolding sums
sums-length [] b h = refl
sums-length (m ∷ a) [] h = absurd (omega arith)
sums-length (m ∷ a) (n ∷ b) h = ap suc (sums-length a b (omega arith))

pub sums-place : (a b : List ℕ) → length a ≡ length b → (i : ℕ) → get_or (sums a b) i 0 ≡ get_or a i 0 + get_or b i 0
unfolding sums
sums-place [] [] h i = refl
sums-place [] (n ∷ b) h i = absurd (omega arith)
sums-place (m ∷ a) [] h i = absurd (omega arith)
sums-place (m ∷ a) (n ∷ b) h zero = refl
sums-place (m ∷ a) (n ∷ b) h (suc i) = sums-place a b (omega arith) i

pub sums-assoc : (a b c : List ℕ) → sums (sums a b) c ≡ sums a (sums b c)
unfolding sums
sums-assoc [] b c = refl
sums-assoc (l ∷ a) [] c = refl
sums-assoc (l ∷ a) (m ∷ b) [] = refl
sums-assoc (l ∷ a) (m ∷ b) (n ∷ c) = ap₂ (λ (x : ℕ) (xs : List ℕ). x ∷ xs) (add_assoc l m n) (sums-assoc a b c)

pub sums-each : (from n : ℕ) (f g : ℕ → ℕ) → sums (each from n f) (each from n g) ≡ each from n (λ k. f k + g k)
unfolding sums each
sums-each from zero f g = refl
sums-each from (suc n) f g = ap (λ (xs : List ℕ). (f from + g from) ∷ xs) (sums-each (suc from) n f g)

-- with zeros a row stays as it is
with-zeros : (a : List ℕ) (from : ℕ) → sums a (each from (length a) (λ k. 0)) ≡ a
unfolding sums each
with-zeros [] from = refl
with-zeros (n ∷ a) from = ap₂ (λ (x : ℕ) (xs : List ℕ). x ∷ xs) (add-zero n) (with-zeros a (suc from))

pub sums-zeros : (a : List ℕ) (from n : ℕ) → length a ≡ n → sums a (each from n (λ k. 0)) ≡ a
sums-zeros a from n h = ap (λ (m : ℕ). sums a (each from m (λ k. 0))) (sym h) ∙ with-zeros a from

-- zeros with a row are the row
pub zeros-sums : (from n : ℕ) (f : ℕ → ℕ) → sums (each from n (λ k. 0)) (each from n f) ≡ each from n f
zeros-sums from n f = sums-each from n (λ k. 0) f ∙ each_same from n (λ k. 0 + f k) f (λ k a b. omega arith)

-- ---- one place raised by one

raised : (a : List ℕ) (from i : ℕ) (g : ℕ → ℕ) → i < length a
    → sums (set a i (get_or a i 0 + 1)) (each from (length a) g) ≡ sums a (each from (length a) (λ k. cond (eqb (from + i) k) 1 0 + g k))
unfolding sums each
raised [] from i g h = absurd (omega arith)
raised (n ∷ a) from zero g h =
    ap₂ (λ (x : ℕ) (xs : List ℕ). x ∷ xs) (rw (eq-eqb (from + 0) from (add-zero from)) (omega arith))
    (ap (sums a) (each_same (suc from) (length a) g (λ k. cond (eqb (from + 0) k) 1 0 + g k)
    (λ k l m. rw (ne_eqb (from + 0) k (λ z. omega arith)) (omega arith))))
raised (n ∷ a) from (suc i) g h =
    let m : suc from + i ≡ from + suc i = omega arith in
    ap₂ (λ (x : ℕ) (xs : List ℕ). x ∷ xs) (rw (ne_eqb (from + suc i) from (λ z. omega arith)) (omega arith))
    (raised a (suc from) i g (omega arith) ∙ ap (λ (j : ℕ). sums a (each (suc from) (length a) (λ k. cond (eqb j k) 1 0 + g k))) m)

-- what is counted at x, of the n from `from` on, raises its place
pub counted-at : (a : List ℕ) (from n x i : ℕ) (g : ℕ → ℕ) → length a ≡ n → from + i ≡ x → i < n
    → sums (set a i (get_or a i 0 + 1)) (each from n g) ≡ sums a (each from n (λ k. cond (eqb x k) 1 0 + g k))
counted-at a from n x i g h e l =
    ap (λ (m : ℕ). sums (set a i (get_or a i 0 + 1)) (each from m g)) (sym h)
    ∙ raised a from i g (omega arith)
    ∙ ap₂ (λ (m y : ℕ). sums a (each from m (λ k. cond (eqb y k) 1 0 + g k))) h e

-- ---- no number past the largest

pub none-past : (a : List ℕ) → any_past a ≡ false → (i : ℕ) → get_or a i 0 ≤ largest
unfolding any_past
none-past [] h i = omega arith
none-past (n ∷ a) h zero = ltb-false largest n (or-false (ltb largest n) (any_past a) h).0
none-past (n ∷ a) h (suc i) = none-past a (or-false (ltb largest n) (any_past a) h).1 i

-- the first of two rows, where the sums do not pass it
pub front_fits : (a b : List ℕ) → length a ≡ length b → any_past (sums a b) ≡ false → any_past a ≡ false
unfolding sums any_past
front_fits [] b h e = refl
front_fits (m ∷ a) [] h e = absurd (omega arith)
front_fits (m ∷ a) (n ∷ b) h e =
    let p = or-false (ltb largest (m + n)) (any_past (sums a b)) e in
    let q : m ≤ largest = omega (arith, ltb-false largest (m + n) p.0) in
    rw (le-ltb largest m q) (front_fits a b (omega arith) p.1)

pub each_fits : (from n : ℕ) (f : ℕ → ℕ) → ((k : ℕ) → f k ≤ largest) → any_past (each from n f) ≡ false
unfolding each any_past
each_fits from zero f h = refl
each_fits from (suc n) f h = rw (le-ltb largest (f from) (h from)) (each_fits (suc from) n f h)

-- the place of what is counted at x is below the largest, where the sums with it do not pass it
pub place-fits : (a : List ℕ) (from n x i : ℕ) (g : ℕ → ℕ) → length a ≡ n → from + i ≡ x → i < n
    → any_past (sums a (each from n (λ k. cond (eqb x k) 1 0 + g k))) ≡ false → get_or a i 0 + 1 ≤ largest
place-fits a from n x i g h e l none =
    let row : List ℕ = each from n (λ k. cond (eqb x k) 1 0 + g k) in
    let one : ◌≡◌ {A = ℕ} (cond (eqb x (from + i)) 1 0) 1 = rw (eq-eqb x (from + i) (sym e)) in
    omega (arith, sums-place a row (h ∙ sym (each-length from n _)) i, each-place from n (λ k. cond (eqb x k) 1 0 + g k) i l, one, none-past (sums a row) none i)

-- ---- a row written out

-- the first n numbers of a row
abbrev pub places : ℕ → List ℕ → List ℕ
places n ns = each 0 n (λ i. get_or ns i 0)

spread : (ns : List ℕ) (from : ℕ) (f : ℕ → ℕ) → ((i : ℕ) → f (from + i) ≡ get_or ns i 0) → each from (length ns) f ≡ ns
unfolding each
spread [] from f e = refl
spread (n ∷ ns) from f e =
    ap₂ (λ (x : ℕ) (xs : List ℕ). x ∷ xs) (ap f (sym (add-zero from)) ∙ e 0)
    (spread ns (suc from) f (λ i. let m : suc from + i ≡ from + suc i = omega arith in ap f m ∙ e (suc i)))

pub all-places : (ns : List ℕ) (n : ℕ) → length ns ≡ n → places n ns ≡ ns
all-places ns n h = ap (λ (m : ℕ). places m ns) (sym h) ∙ spread ns 0 (λ i. get_or ns i 0) (λ i. let m : 0 + i ≡ i = omega arith in ap (λ (j : ℕ). get_or ns j 0) m)
