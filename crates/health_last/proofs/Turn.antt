-- Times compared: the cases of the rule, by how far the one time lies after the other.
use Rattle.std.proofs.Common.{◌≡◌, ℕ, ◌<◌, ◌≤◌, ◌⊎◌, inl, inr, arith, eq-eqb, ne_eqb, le-leb}
use borrow.Author.Tests.{lt-leb}
use Rattle.health_last.specs.Last.{ahead, newer}

module _ (s h : ℕ) where
  pub half : ahead s h ≡ 32768 → newer s h ≡ 0
  unfolding newer
  half e = rw (eq-eqb (ahead s h) 32768 e)

  pub after : 1 ≤ ahead s h → ahead s h ≤ 32767 → newer s h ≡ 2
  unfolding newer
  after a b = rw (ne_eqb (ahead s h) 32768 (λ z. omega (arith, a, b, z)), le-leb 1 (ahead s h) a, le-leb (ahead s h) 32767 b)

  pub not_after : (ahead s h ≡ 0) ⊎ (32768 < ahead s h) → newer s h ≡ 1
  unfolding newer
  not_after (inl e) = rw (ne_eqb (ahead s h) 32768 (λ z. omega (arith, e, z)), lt-leb 1 (ahead s h) (omega (arith, e)))
  not_after (inr k) =
      rw (
        ne_eqb (ahead s h) 32768 (λ z. omega (arith, k, z)),
        le-leb 1 (ahead s h) (omega (arith, k)),
        lt-leb (ahead s h) 32767 (omega (arith, k)),
      )
