-- A payload unit by unit: its chunks of 264 words are its units. How many data words there are follows from the length alone.
use mathlib.Core.Path.{◌≡◌, refl, sym, ap, ap₂, ◌∙◌}
use mathlib.Core.Bool.{Bool, true, false, cond, ◌||◌, false≢true, or_assoc}
use mathlib.Core.List.{List, [], ◌∷◌, ◌++◌, append_assoc, append-nil}
use mathlib.Core.Logic.{◌⊎◌, inl, inr}
use Prim.Native.Nat.{ℕ, zero, suc, ◌+◌, ◌-◌, ◌*◌, ◌/◌, ◌%◌, ◌≤◌, ◌<◌, min}
use native.Mathlib.Omega.{arith}
use native.Mathlib.Nat.{add_assoc}
use lib.ListN.{length, take, drop, length-take, length-drop, length-set, length-append, drop_of_length-le}
use lib.Seq.{take_all, take_at, drop_at}
use lib.Dec.{leb, eqb}
use borrow.Author.Tests.{leb-true, leb-false, le-leb, eqb-true, eqb-false}
use Rattle.std.proofs.lemmas.Bool.{cases_lt}
use Rattle.std.proofs.lemmas.List.{nil_from_length}
use Rattle.base.proofs.Booleans.{or-false}
use Rattle.base.proofs.Refused.{answer-yes, answer-no}
use Rattle.base.specs.Refusal.{wrong_parity}
use Rattle.parity.specs.Unit.{Finding, sound, parity_bit, data_bit, neither, finding, flipped, repaired, unit_data, is_neither, judge_verdict}
use Rattle.parity_units.specs.Split.{parts, units_in, any_damaged, joined_data, given, given_data, data_words, data_words_in}

-- in nothing there are no units
pub units-end : (rest : List ℕ) → length rest ≡ 0 → units_in rest ≡ []
unfolding parts
units-end rest h = ap units_in (nil_from_length rest h)

-- the next of the chunks of 264 words is the first unit, and the units of what is left follow it
pub units-next : (rest unit more : List ℕ) → rest ≡ unit ++ more → length unit ≡ min 264 (length rest) → 0 < length rest
    → units_in rest ≡ unit ∷ units_in more
unfolding parts
units-next rest unit more e u some =
    let l : length rest ≡ length unit + length more = ap length e ∙ length-append unit more in
    let n : (length rest + 263) / 264 ≡ suc ((length more + 263) / 264) = omega arith in
    ap (λ (k : ℕ). parts k rest) n ∙ ap₂ (λ (x y : List ℕ). x ∷ parts ((length more + 263) / 264) y) (first l (cases_lt (length rest) 264)) (after l (cases_lt (length rest) 264))
  where
    first : length rest ≡ length unit + length more → (length rest < 264) ⊎ (264 ≤ length rest) → take 264 rest ≡ unit
    first l (inl short) =
        let none : more ≡ [] = nil_from_length more (omega arith) in
        take_all 264 rest (omega arith) ∙ e ∙ ap (λ (m : List ℕ). unit ++ m) none ∙ append-nil unit
    first l (inr long) = ap (take 264) e ∙ take_at unit more 264 (omega arith)

    after : length rest ≡ length unit + length more → (length rest < 264) ⊎ (264 ≤ length rest) → drop 264 rest ≡ more
    after l (inl short) = (let few : length rest ≤ 264 = omega arith in drop_of_length-le rest few) ∙ sym (nil_from_length more (omega arith))
    after l (inr long) = ap (drop 264) e ∙ drop_at unit more 264 (omega arith)

-- ---- data words

parts-words : (n : ℕ) (p : List ℕ) → length p ≤ 264 * n → 264 * n < length p + 264 → data_words (parts n p) ≡ data_words_in (length p)
unfolding parts data_words
parts-words zero p h k = omega arith
parts-words (suc n) p h k =
    let l : length (drop 264 p) ≡ length p - 264 = length-drop 264 p in
    let m : length (take 264 p) ≡ min 264 (length p) = length-take 264 p in
    by_length (λ a b. parts-words n (drop 264 p) a b) l m (leb 264 (length p)) refl
  where
    by_length : (length (drop 264 p) ≤ 264 * n → 264 * n < length (drop 264 p) + 264 → data_words (parts n (drop 264 p)) ≡ data_words_in (length (drop 264 p)))
        → length (drop 264 p) ≡ length p - 264 → length (take 264 p) ≡ min 264 (length p)
        → (b : Bool) → leb 264 (length p) ≡ b → (length (take 264 p) - 8) + data_words (parts n (drop 264 p)) ≡ data_words_in (length p)
    by_length more l m true e =
        let g : 264 ≤ length p = leb-true 264 (length p) e in
        omega (arith, more (omega arith) (omega arith))
    by_length more l m false e =
        let g : length p < 264 = leb-false 264 (length p) e in
        let z : n ≡ 0 = omega arith in
        let y : data_words (parts n (drop 264 p)) ≡ 0 = rw z in
        omega arith

-- the data words of a payload, by its length
pub data-words : (p : List ℕ) → data_words (units_in p) ≡ data_words_in (length p)
data-words p = parts-words ((length p + 263) / 264) p (omega arith) (omega arith)

-- the data words of a unit
pub data-length : (u : List ℕ) → length (unit_data u) ≡ length u - 8
unfolding unit_data flipped
data-length u = by-finding (finding u) ∙ length-drop 8 u
  where
    by-finding : (f : Finding) → length (repaired f (drop 8 u)) ≡ length (drop 8 u)
    by-finding sound = refl
    by-finding (parity_bit w b) = refl
    by-finding (data_bit w b) = length-set (drop 8 u) w _
    by-finding neither = refl

pub joined_length : (us : List (List ℕ)) → length (joined_data us) ≡ data_words us
unfolding joined_data data_words
joined_length [] = refl
joined_length (u ∷ us) = length-append (unit_data u) (joined_data us) ∙ ap₂ ◌+◌ (data-length u) (joined_length us)

-- what a unit gives is no more than its data
pub given-length : (u : List ℕ) → length (given u) ≤ length u - 8
given-length u = by-verdict (eqb (judge_verdict u) 0) refl
  where
    by-verdict : (b : Bool) → eqb (judge_verdict u) 0 ≡ b → length (given u) ≤ length u - 8
    by-verdict true e = omega (arith, ap length (answer-yes (judge_verdict u) (λ v. []) (unit_data u) (eqb-true (judge_verdict u) 0 e)), data-length u)
    by-verdict false e = omega (arith, ap length (answer-no (judge_verdict u) (λ v. []) (unit_data u) (eqb-false (judge_verdict u) 0 e)))

pub given-words : (us : List (List ℕ)) → length (given_data us) ≤ data_words us
unfolding given_data data_words
given-words [] = omega arith
given-words (u ∷ us) = omega (arith, length-append (given u) (given_data us), given-length u, given-words us)

-- ---- the units of two payloads

pub damaged-append : (us vs : List (List ℕ)) → any_damaged (us ++ vs) ≡ any_damaged us || any_damaged vs
unfolding any_damaged
damaged-append [] vs = refl
damaged-append (u ∷ us) vs =
    ap (λ (b : Bool). eqb (judge_verdict u) wrong_parity || b) (damaged-append us vs)
    ∙ sym (or_assoc (eqb (judge_verdict u) wrong_parity) (any_damaged us) (any_damaged vs))

pub given-append : (us vs : List (List ℕ)) → given_data (us ++ vs) ≡ given_data us ++ given_data vs
unfolding given_data
given-append [] vs = refl
given-append (u ∷ us) vs = ap (λ (d : List ℕ). given u ++ d) (given-append us vs) ∙ sym (append_assoc (given u) (given_data us) (given_data vs))

pub words_append : (us vs : List (List ℕ)) → data_words (us ++ vs) ≡ data_words us + data_words vs
unfolding data_words
words_append [] vs = omega arith
words_append (u ∷ us) vs = ap (λ (n : ℕ). length u - 8 + n) (words_append us vs) ∙ sym (add_assoc (length u - 8) (data_words us) (data_words vs))

-- ---- a payload whose last unit has 9 words at the least: the units that are not damaged are accepted, and give all their data

-- a unit of 9 to 264 words
abbrev pub Fair : List (List ℕ) → Type 0
Fair [] = Unit {0}
Fair (u ∷ us) = (9 ≤ length u) × (length u ≤ 264) × Fair us

pub fair-append : (us vs : List (List ℕ)) → Fair us → Fair vs → Fair (us ++ vs)
fair-append [] vs f g = g
fair-append (u ∷ us) vs f g = (f.0, f.1, fair-append us vs f.2 g)

parts-fair : (n : ℕ) (p : List ℕ) → length p ≤ 264 * n → 264 * n ≤ length p + 255 → Fair (parts n p)
unfolding parts
parts-fair zero p h k = tt
parts-fair (suc n) p h k =
    let l : length (drop 264 p) ≡ length p - 264 = length-drop 264 p in
    let m : length (take 264 p) ≡ min 264 (length p) = length-take 264 p in
    (omega arith, omega arith, parts-fair n (drop 264 p) (omega arith) (omega arith))

-- a last unit that is whole, or has 9 words at the least
pub units-fair : (p : List ℕ) → (length p % 264 ≡ 0) ⊎ (9 ≤ length p % 264) → Fair (units_in p)
units-fair p (inl z) = parts-fair ((length p + 263) / 264) p (omega arith) (omega arith)
units-fair p (inr z) = parts-fair ((length p + 263) / 264) p (omega arith) (omega arith)

undamaged-accepted : (u : List ℕ) → 9 ≤ length u → length u ≤ 264 → eqb (judge_verdict u) wrong_parity ≡ false → judge_verdict u ≡ 0
unfolding judge_verdict
undamaged-accepted u l m = rw (le-leb 9 (length u) l, le-leb (length u) 264 m) (by-finding (is_neither (finding u)))
  where
    by-finding : (b : Bool) → eqb (cond b wrong_parity 0) wrong_parity ≡ false → cond b wrong_parity 0 ≡ 0
    by-finding false e = refl
    by-finding true e = absurd (false≢true (sym e))

pub given-all : (us : List (List ℕ)) → Fair us → any_damaged us ≡ false → given_data us ≡ joined_data us
unfolding any_damaged given_data joined_data
given-all [] f d = refl
given-all (u ∷ us) f d =
    let b = or-false (eqb (judge_verdict u) wrong_parity) (any_damaged us) d in
    ap₂ (λ (x y : List ℕ). x ++ y) (answer-yes (judge_verdict u) (λ v. []) (unit_data u) (undamaged-accepted u f.0 f.1 b.0)) (given-all us f.2 b.1)
