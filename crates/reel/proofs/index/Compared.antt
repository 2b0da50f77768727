-- The loop that compares: the rest of the entries against the rest of the chunks gives the whole answer.
use mathlib.Core.Path.{◌≡◌, sym, ap, ◌∙◌}
use mathlib.Core.Bool.{Bool, true, false, ◌&&◌, and-true}
use mathlib.Core.List.{List, [], ◌∷◌}
use Prim.Native.Nat.{ℕ, ◌<◌}
use native.Mathlib.Omega.{arith}
use lib.ListN.{length, get_or, take, drop, length-take}
use lib.Dec.{eqb}
use Rattle.base.proofs.Booleans.{by-test}
use Rattle.chunk.specs.declared.Entry.{Entry}
use Rattle.chunk.specs.Reading.{reading}
use Rattle.chunk.proofs.Steps.{listed_from, Next, Last}
use Rattle.reel.specs.Layout.{entry_width, entry_words, index_words}
use Rattle.reel.specs.Reading.{same_words}
use Rattle.reel.proofs.Same.{same_true, same_none, same-append}

-- two words and an entry's, one by one
pub pair-told : (ws : List ℕ) (e : Entry) → length ws ≡ 2 → eqb (get_or ws 0 0) e.position.0 && eqb (get_or ws 1 0) e.header ≡ same_words ws (entry_words e)
unfolding same_words
pair-told [] e l = absurd (omega arith)
pair-told (x ∷ []) e l = absurd (omega arith)
pair-told (x ∷ y ∷ []) e l = ap (λ (b : Bool). eqb x e.position.0 && b) (sym (and-true (eqb y e.header)))
pair-told (x ∷ y ∷ z ∷ ws) e l = absurd (omega arith)

-- the rest of the words, compared with the chunks from a place on
pub record Compared (sync : ℕ) (ws index : List ℕ) (from : ℕ) (rest : List ℕ) : Type 0 where
  pub same : same_words rest (index_words (listed_from sync ws from)) ≡ same_words index (index_words (reading sync ws))

module _ (sync : ℕ) (ws index : List ℕ) where
  abbrev answer : Bool
  answer = same_words index (index_words (reading sync ws))

  module _ (from : ℕ) (rest : List ℕ) (k : Compared sync ws index from rest) where
    module _ (e : Entry) (n : ℕ) (s : Next sync ws from e n) where
      first_entry : same_words (take entry_width rest) (entry_words e) && same_words (drop entry_width rest) (index_words (listed_from sync ws n)) ≡ answer
      unfolding index_words
      first_entry =
          sym (same-append rest (entry_words e) (index_words (listed_from sync ws n))) ∙ sym (ap (λ (l : List Entry). same_words rest (index_words l)) s.lists) ∙ k.same

      by-first : {b : Bool} → same_words (take entry_width rest) (entry_words e) ≡ b → b && same_words (drop entry_width rest) (index_words (listed_from sync ws n)) ≡ answer
      by-first z = sym (ap (λ (b : Bool). b && same_words (drop entry_width rest) (index_words (listed_from sync ws n))) z) ∙ first_entry

      pub too-few : length rest < 2 → false ≡ answer
      too-few h = by-first (by-test (same_words (take entry_width rest) (entry_words e)) (λ t. absurd (short t)) (λ f. f))
        where
          short : same_words (take entry_width rest) (entry_words e) ≡ true → ⊥
          short t =
              let l : length (take entry_width rest) ≡ 2 = ap length (same_true (take entry_width rest) (entry_words e) t) in
              omega (arith, simp length-take at l)

      module _ (words : List ℕ) (there : words ≡ take entry_width rest) where
        pub entry-differs : same_words words (entry_words e) ≡ false → false ≡ answer
        entry-differs z = by-first (ap (λ (l : List ℕ). same_words l (entry_words e)) (sym there) ∙ z)

        pub entry-compared : same_words words (entry_words e) ≡ true → (behind : List ℕ) → behind ≡ drop entry_width rest → Compared sync ws index n behind
        entry-compared z behind b =
            record {
              same =
                  ap (λ (l : List ℕ). same_words l (index_words (listed_from sync ws n))) b
                  ∙ by-first (ap (λ (l : List ℕ). same_words l (entry_words e)) (sym there) ∙ z);
            }

    pub all-compared : Last sync ws from → eqb (length rest) 0 ≡ answer
    unfolding index_words
    all-compared n = sym (same_none rest) ∙ sym (ap (λ (l : List Entry). same_words rest (index_words l)) n.lists) ∙ k.same
