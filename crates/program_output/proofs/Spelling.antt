-- The digits that `io::decimal` gives are those of `decimal`. Both go by the last digit; the fewest digits that hold a number are one for a number below
-- ten, and one more than for a tenth of it otherwise.
use mathlib.Core.Path.{◌≡◌, refl, ap, ap₂, ◌∙◌}
use mathlib.Core.Bool.{Bool, true, false}
use mathlib.Core.List.{List, [], ◌∷◌, ◌++◌}
use Prim.Native.Nat.{ℕ, zero, suc, ◌+◌, ◌-◌, ◌/◌, ◌%◌, ◌^◌, ◌≤◌, ◌<◌}
use native.Mathlib.Omega.{arith}
use native.Mathlib.Numerals.{unary_clauses}
use native.Mathlib.Nat.{mod-lt, one-le-pow, pow-le-pow_right}
use lib.Dec.{ltb, lit<}
use borrow.Author.Tests.{lt-ltb, le-ltb, ltb-true, ltb-false}
use Rattle.io.specs.Digits.{hex_digit_ascii, last_digits, IsDigitCount}
use Rattle.program_output.specs.Output.{digits_within, decimal}

-- the last digit
last : (n : ℕ) → hex_digit_ascii (n % 10) ≡ 48 + n % 10
last n = rw (lt-ltb (n % 10) 10 (mod-lt n (lit< tt)))

within : (most k n : ℕ) → k < most → n < 10 ^ suc k → (0 < k → 10 ^ k ≤ n) → last_digits 10 (suc k) n ≡ digits_within most n
within zero k n h top low = absurd (omega arith)
within (suc most) zero n h top low =
    let one : n < 10 = omega (arith, top) in
    let same : n % 10 ≡ n = omega arith in
    rw (lt-ltb n 10 one, digits_within) (ap (λ (d : ℕ). d ∷ []) (last n ∙ ap (λ (m : ℕ). 48 + m) same))
within (suc most) (suc k) n h top low =
    let least : 10 ^ suc k ≤ n = low (omega arith) in
    let some : 0 < 10 ^ k = one-le-pow k 10 (lit< tt) in
    let more : 10 ≤ n = omega arith in
    rw (le-ltb n 10 more, digits_within)
    (ap₂ (λ (front : List ℕ) (d : ℕ). front ++ (d ∷ [])) (within most k (n / 10) (omega arith) (omega (arith, top)) (λ z. omega (arith, least))) (last n))

-- a number of 64 bits has 20 digits at the most
few : (n k : ℕ) → n < 2 ^ 64 → IsDigitCount 10 1 n k → k ≤ 20
few n k h f = by-test (ltb 20 k) refl
  where
    by-test : (b : Bool) → ltb 20 k ≡ b → k ≤ 20
    by-test false e = ltb-false 20 k e
    by-test true e =
        let l : 20 < k = ltb-true 20 k e in
        let m : 20 ≤ k - 1 = omega arith in
        let p : 10 ^ 20 ≤ 10 ^ (k - 1) = pow-le-pow_right {n = 10} (lit< tt) {i = 20} {j = k - 1} m in
        let q : 10 ^ (k - 1) ≤ n = f.2 (omega arith) in
        absurd (omega arith)

pub spelled : (n k : ℕ) → n < 2 ^ 64 → IsDigitCount 10 1 n k → last_digits 10 k n ≡ decimal n
unfolding decimal
spelled n zero h f = absurd (omega (arith, f.0))
spelled n (suc k) h f = within 20 k n (few n (suc k) h f) f.1 (λ some. simp unary_clauses at (f.2 (omega arith)))
