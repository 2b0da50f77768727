-- Positions counted from another place: moved by as many words, the same chunks join a frame, for only the distances between positions are looked at.
use mathlib.Core.Path.{◌≡◌, refl, sym, ap, ◌∙◌}
use mathlib.Core.Bool.{Bool, true, false, ◌&&◌}
use mathlib.Core.List.{List, [], ◌∷◌}
use Prim.Native.Nat.{ℕ, ◌+◌}
use native.Mathlib.Omega.{arith}
use native.Mathlib.Nat.{add_assoc}
use lib.Dec.{eqb}
use borrow.Author.Tests.{eq-eqb, ne_eqb, eqb-true, eqb-false}
use Rattle.chunk.specs.declared.Entry.{Entry}
use Rattle.chunk.specs.Header.{span}
use Rattle.chunk.specs.Reading.{listed_words}
use Rattle.chunk.specs.Moved.{moved_entry, moved}
use Rattle.frame.specs.Shape.{continues, full, joining}
use Rattle.frame.proofs.Joining.{joining-one}

pub shifted : (n p q : ℕ) → eqb (n + p) (n + q) ≡ eqb p q
shifted n p q = by_place (eqb p q) refl
  where
    by_place : (b : Bool) → eqb p q ≡ b → eqb (n + p) (n + q) ≡ b
    by_place true e = eq-eqb (n + p) (n + q) (ap (λ (m : ℕ). n + m) (eqb-true p q e))
    by_place false e = ne_eqb (n + p) (n + q) (λ z. eqb-false p q e (omega arith))

pub joining-moved : (n end : ℕ) (all : Bool) (es : List Entry) → joining (n + end) all (moved n es) ≡ moved n (joining end all es)
unfolding joining
joining-moved n end all [] = refl
joining-moved n end all (e ∷ es) = by-join (all && eqb e.position.0 end && continues e.header) refl (λ a. joining-moved n (end + span e.header) a es)
  where
    same : (b : Bool) → all && eqb e.position.0 end && continues e.header ≡ b → all && eqb (n + e.position.0) (n + end) && continues e.header ≡ b
    same b j = ap (λ (x : Bool). all && x && continues e.header) (shifted n e.position.0 end) ∙ j

    by-join : (b : Bool) → all && eqb e.position.0 end && continues e.header ≡ b
        → ((a : Bool) → joining (n + (end + span e.header)) a (moved n es) ≡ moved n (joining (end + span e.header) a es))
        → joining (n + end) all (moved n (e ∷ es)) ≡ moved n (joining end all (e ∷ es))
    by-join true j more =
        let f : Entry = moved_entry n e in
        joining-one (n + end) all f (moved n es) true (same true j)
        ∙ ap (λ (m : ℕ). f ∷ joining m (full e.header) (moved n es)) (add_assoc n end (span e.header))
        ∙ ap (λ (l : List Entry). f ∷ l) (more (full e.header))
        ∙ ap (moved n) (sym (joining-one end all e es true j))
    by-join false j more =
        joining-one (n + end) all (moved_entry n e) (moved n es) false (same false j)
        ∙ ap (moved n) (sym (joining-one end all e es false j))

pub words-moved : (n : ℕ) (es : List Entry) → listed_words (moved n es) ≡ listed_words es
unfolding listed_words
words-moved n [] = refl
words-moved n (e ∷ es) = ap (λ (m : ℕ). span e.header + m) (words-moved n es)
