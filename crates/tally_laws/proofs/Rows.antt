-- Sums of rows and of tallies, place by place: they may be taken in any order, no recording adds nothing, and a sum is never below its parts. So a tally of
-- thirty numbers is one row, and the sum of two tallies is the sum of the two rows.
use mathlib.Core.Path.{◌≡◌, refl, sym, ap, ap₂, ◌∙◌}
use mathlib.Core.Bool.{true, false, false≢true}
use mathlib.Core.List.{List, [], ◌∷◌}
use Prim.Native.Nat.{ℕ, suc, ◌+◌, ◌≤◌, ◌<◌}
use native.Mathlib.Omega.{arith}
use native.Mathlib.Nat.{add_assoc, add_comm, add-zero}
use lib.ListN.{length, get_or, length-append}
use lib.Dec.{ltb}
use borrow.Author.Tests.{ltb-true}
use Rattle.base.proofs.Booleans.{by-test}
use Rattle.tally_recording.specs.declared.Tally.{Tally}
use Rattle.tally_recording.specs.Numbers.{each, sums, largest, any_past}
use Rattle.tally_recording.specs.Tally.{empty_tally}
use Rattle.tally_recording.proofs.Rows.{sums-assoc, sums-zeros, sums-length, sums-place, front_fits}
use Rattle.tally_counts.specs.Numbers.{Rows, numbers_of, plus}
use Rattle.tally_counts.proofs.Thirty.{sums-numbers}

-- ---- rows

sums-comm : (a b : List ℕ) → sums a b ≡ sums b a
unfolding sums
sums-comm [] [] = refl
sums-comm [] (y ∷ b) = refl
sums-comm (x ∷ a) [] = refl
sums-comm (x ∷ a) (y ∷ b) = ap₂ (λ (n : ℕ) (l : List ℕ). n ∷ l) (add_comm x y) (sums-comm a b)

-- ---- a number past the largest

-- it stands at a place of the row
pub record PastAt (ns : List ℕ) : Type 0 where
  pub place : ℕ
  pub there : place < length ns
  pub past : largest < get_or ns place 0

pub past-place : (ns : List ℕ) → any_past ns ≡ true → PastAt ns
unfolding any_past
past-place [] e = absurd (false≢true e)
past-place (n ∷ ns) e =
    by-test (ltb largest n)
    (λ t. record { place = 0; there = omega arith; past = ltb-true largest n t })
    (λ t. let r = past-place ns (rw t at e) in record { place = suc r.place; there = omega (arith, r.there); past = r.past })

-- where every place fits none is past
pub places-fit : (ns : List ℕ) → ((i : ℕ) → i < length ns → get_or ns i 0 ≤ largest) → any_past ns ≡ false
places-fit ns h =
    by-test (any_past ns)
    (λ t. let r = past-place ns t in absurd (omega (arith, r.past, h r.place r.there)))
    (λ t. t)

-- ---- tallies

pub plus_assoc : (t u v : Tally) → plus (plus t u) v ≡ plus t (plus u v)
unfolding plus
plus_assoc t u v = simp (add_assoc, sums-assoc)

pub plus_comm : (t u : Tally) → plus t u ≡ plus u t
unfolding plus
plus_comm t u =
    cc (
      add_comm t.recordings u.recordings,
      add_comm t.words u.words,
      add_comm t.skipped u.skipped,
      sums-comm t.chunks u.chunks,
      add_comm t.complete u.complete,
      add_comm t.cut u.cut,
      add_comm t.strays u.strays,
      sums-comm t.packets u.packets,
      sums-comm t.units u.units,
    )

-- the last two of three in the other order
pub plus-exchanged : (t u v : Tally) → plus (plus t u) v ≡ plus (plus t v) u
plus-exchanged t u v = plus_assoc t u v ∙ ap (plus t) (plus_comm u v) ∙ sym (plus_assoc t v u)

pub plus-empty : (t : Tally) → Rows t → plus t empty_tally ≡ t
unfolding plus each
plus-empty t r =
    simp (add-zero, sums-zeros t.chunks 0 5 r.five, sums-zeros t.packets 0 15 r.fifteen, sums-zeros t.units 0 4 r.four)

-- ---- their rows

pub rows-plus : (t u : Tally) → Rows t → Rows u → Rows (plus t u)
unfolding plus
rows-plus t u r s = record {
  five = sums-length t.chunks u.chunks (r.five ∙ sym s.five) ∙ r.five;
  fifteen = sums-length t.packets u.packets (r.fifteen ∙ sym s.fifteen) ∙ r.fifteen;
  four = sums-length t.units u.units (r.four ∙ sym s.four) ∙ r.four;
}

-- ---- their thirty numbers

pub thirty : (t : Tally) → Rows t → length (numbers_of t) ≡ 30
unfolding numbers_of
thirty t r = simp length-append (omega (arith, r.five, r.fifteen, r.four))

pub plus-at : (t u : Tally) (i : ℕ) → Rows t → Rows u → get_or (numbers_of (plus t u)) i 0 ≡ get_or (numbers_of t) i 0 + get_or (numbers_of u) i 0
plus-at t u i r s = rw (← sums-numbers t u r s) (sums-place (numbers_of t) (numbers_of u) (thirty t r ∙ sym (thirty u s)) i)

-- a sum that fits has parts that fit
pub plus-fits : (t u : Tally) → Rows t → Rows u → any_past (numbers_of (plus t u)) ≡ false → any_past (numbers_of t) ≡ false
plus-fits t u r s e = front_fits (numbers_of t) (numbers_of u) (thirty t r ∙ sym (thirty u s)) (ap any_past (sums-numbers t u r s) ∙ e)
