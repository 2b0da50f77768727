-- Two linear functions are equal below 2 ^ k where one computed test finds them equal at the k powers of two; and the shapes of
-- which the code's lines are made are linear.
use mathlib.Core.Path.{◌≡◌, subst, sym}
use mathlib.Core.Bool.{Bool}
use Prim.Native.Nat.{ℕ, ◌*◌, ◌/◌, ◌%◌, ◌^◌, ◌<◌}
use lib.Dec.{T, eqb, eqb→eq}
use lib.ListN.{replicate, length-replicate}
use Rattle.base.specs.Xor.{◌xor◌}
use Rattle.base.proofs.Every.{at, every}
use Rattle.base.proofs.Linear.{Linear, shr, shl-in, same, plus, agree}

abbrev pub equal_at : (ℕ → ℕ) → (ℕ → ℕ) → ℕ → ℕ → Bool
equal_at f g i x = eqb (f (2 ^ i)) (g (2 ^ i))

pub by-powers : (f g : ℕ → ℕ) → Linear f → Linear g → (k : ℕ) → T (every (equal_at f g) 0 (replicate k 0)) → (n : ℕ) → n < 2 ^ k → f n ≡ g n
by-powers f g hf hg k t =
    agree f g hf hg k
    (λ i h.
    eqb→eq (f (2 ^ i)) (g (2 ^ i))
    (at (equal_at f g) (replicate k 0) t i (subst (λ (m : ℕ). i < m) (sym (length-replicate k 0)) h)))

-- with a shift to the right
pub and_shr : (f : ℕ → ℕ) → Linear f → (k : ℕ) → Linear (λ x. f x xor x / 2 ^ k)
and_shr f hf k = plus f (λ x. x / 2 ^ k) hf (shr k)

pub and-shl : (f : ℕ → ℕ) → Linear f → (width k : ℕ) → Linear (λ x. f x xor x * 2 ^ k % 2 ^ width)
and-shl f hf width k = plus f (λ x. x * 2 ^ k % 2 ^ width) hf (shl-in width k)

-- what a quotient leaves below: times the polynomial, without its top bit
abbrev pub rest : ℕ → ℕ → ℕ
rest width q = q xor q * 2 ^ 5 % 2 ^ width xor q * 2 ^ 12 % 2 ^ width

pub rest-linear : (width : ℕ) → Linear (rest width)
rest-linear width = and-shl (λ q. q xor q * 2 ^ 5 % 2 ^ width) (and-shl (λ q. q) same width 5) width 12
