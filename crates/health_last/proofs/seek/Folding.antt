-- A fold over an iterator by a closure that stays as it is: what holds at the start and is kept by each turn holds at the end.
use Rattle.std.proofs.Common.{List, [], ◌∷◌, Option, Some, None, subst, sym, ap, refl, ◌∙◌, ◌≡◌}
use Rattle.std.specs.Fn.{Mut, Called, Takes}
use Rattle.std.specs.List.{FoldsTo}
use Rattle.std.specs.Iterator.{Yields, FoldTurn, CallableInFold, FoldsItems}

module _ {S A F B : Type 0} (steps : S → Option A → S → Type 0) {g : Mut F (B × (A × Unit {0})) B} {f : F} (Kept : S → B → Type 0)
    (keeps : (s t : S) (a b : B) (x : A) (f' : F) → Kept s a → steps s (Some x) t → Called g f (a, (x, tt)) b f' → Kept t b × (f' ≡ f)) where
  kept : (xs : List A) (s t : S) (p q : F × B) → p.0 ≡ f → Kept s p.1 → Yields steps s xs t → FoldsTo {P = F × B} (FoldTurn g) p xs q → Kept t q.1 × (q.0 ≡ f)
  kept [] s t p q same j y e =
      (subst (λ (u : S). Kept u q.1) y (subst (λ (a : B). Kept s a) (ap (λ (r : F × B). r.1) e) j), sym (ap (λ (r : F × B). r.0) e) ∙ same)
  kept (x ∷ xs) s t p q same j y e =
      let k = keeps s y.0 p.1 e.0.1 x e.0.0 j y.1 (subst (λ (h : F). Called g h (p.1, (x, tt)) e.0.1 e.0.0) same e.1) in
      kept xs y.0 t e.0 q k.1 k.0 y.2 e.2

  -- the closure may be called at each turn
  pub folds_callable : ((s t : S) (a : B) (x : A) → Kept s a → steps s (Some x) t → Takes g f (a, (x, tt))) → {s : S} {a : B} → Kept s a → CallableInFold steps g s f a
  folds_callable takes {s} {a} j =
      record {
        at = λ xs t q x u y r e.
            let k = kept xs s t (f, a) q refl j y r in
            subst (λ (h : F). Takes g h (q.1, (x, tt))) (sym k.1) (takes t u q.1 x k.0 e);
      }

-- the iterator has come to its end
pub folds_end : {S A F B : Type 0} (steps : S → Option A → S → Type 0) {g : Mut F (B × (A × Unit {0})) B} {s : S} {f : F} {a r : B} → FoldsItems steps g s f a r
    → (Kept : S → B → Type 0)
    → ((s t : S) (a b : B) (x : A) (f' : F) → Kept s a → steps s (Some x) t → Called g f (a, (x, tt)) b f' → Kept t b × (f' ≡ f))
    → Kept s a → (t : S) × (u : S) × Kept t r × steps t None u
folds_end steps {g = g} {s = s} {f = f} {a = a} {r = r} e Kept keeps j =
    let d = e.2.1 in
    (d.0, e.2.0, (kept steps Kept keeps e.0 s d.0 (f, a) (e.1, r) refl j d.1 e.3).0, d.2)
