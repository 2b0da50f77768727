-- The later of two places; the last place of two rows, which is the second's, if it has one; and of a row, by its first place and the others.
use Rattle.std.proofs.Common.{◌≡◌, ℕ, Bool, true, false, cond, ◌⊎◌, Option, Some, None, List, [], ◌∷◌, ◌++◌, sym, refl, ap, ◌∙◌, inl, inr, arith}
use Rattle.base.specs.declared.Words.{Words}
use Rattle.health_last.specs.Packets.{found_at, nowhere, later, last_where}

pub later-none : (s : Option Words) → later s None ≡ s
later-none (Some p) = refl
later-none None = refl

pub later-assoc : (a b c : Option Words) → later (later a b) c ≡ later a (later b c)
later-assoc (Some p) b c = refl
later-assoc None b c = refl

pub last-append : (f : ℕ → Bool) (a b : List ℕ) → last_where f (a ++ b) ≡ later (last_where f b) (last_where f a)
unfolding last_where
last-append f [] b = sym (later-none (last_where f b))
last-append f (p ∷ a) b =
    ap (λ (s : Option Words). later s (cond (f p) (Some (record { 0 = p })) None)) (last-append f a b)
    ∙ later-assoc (last_where f b) (last_where f a) (cond (f p) (Some (record { 0 = p })) None)

-- the place that is found is the last of the others or, where the test holds for none of these, the first
pub last-cases : (f : ℕ → Bool) (q : ℕ) (ps : List ℕ) (p : ℕ) → last_where f (q ∷ ps) ≡ found_at p
    → (last_where f ps ≡ found_at p) ⊎ ((q ≡ p) × (f q ≡ true) × (last_where f ps ≡ nowhere))
unfolding last_where
last-cases f q ps p e = by_cases (last_where f ps) refl (f q) refl e
  where
    by_cases : (s : Option Words) → last_where f ps ≡ s → (b : Bool) → f q ≡ b → later s (cond b (found_at q) nowhere) ≡ found_at p
        → (last_where f ps ≡ found_at p) ⊎ ((q ≡ p) × (f q ≡ true) × (last_where f ps ≡ nowhere))
    by_cases (Some r) es b eb e = inl (es ∙ e)
    by_cases None es true eb e = let k : ◌≡◌ {A = Words} (record { 0 = q }) (record { 0 = p }) = cc in inr (ap (λ (w : Words). w.0) k, eb, es)
    by_cases None es false eb e = let z : ◌≡◌ {A = ℕ} 0 1 = cc in absurd (omega arith)

-- nothing is found only where the test holds neither for the first nor for one of the others
pub none-cases : (f : ℕ → Bool) (q : ℕ) (ps : List ℕ) → last_where f (q ∷ ps) ≡ nowhere → (f q ≡ false) × (last_where f ps ≡ nowhere)
unfolding last_where
none-cases f q ps e = by_cases (last_where f ps) refl (f q) refl e
  where
    by_cases : (s : Option Words) → last_where f ps ≡ s → (b : Bool) → f q ≡ b → later s (cond b (found_at q) nowhere) ≡ nowhere
        → (f q ≡ false) × (last_where f ps ≡ nowhere)
    by_cases (Some r) es b eb e = let z : ◌≡◌ {A = ℕ} 0 1 = cc in absurd (omega arith)
    by_cases None es true eb e = let z : ◌≡◌ {A = ℕ} 0 1 = cc in absurd (omega arith)
    by_cases None es false eb e = (eb, es)

pub nothing-in-none : (f : ℕ → Bool) (p : ℕ) → last_where f [] ≡ found_at p → ⊥
unfolding last_where
nothing-in-none f p e = let z : ◌≡◌ {A = ℕ} 0 1 = cc in omega arith
