-- Positions counted from another place: moved by as many words, the same chunks are frames and strays, and the next of them is the same.
use mathlib.Core.Path.{◌≡◌, refl, sym, ap, ap₂, ◌∙◌}
use mathlib.Core.Bool.{Bool, true, false, ◌&&◌}
use mathlib.Core.List.{List, [], ◌∷◌, ◌++◌}
use Prim.Native.Nat.{ℕ, ◌+◌}
use native.Mathlib.Nat.{add_assoc}
use lib.ListN.{length, drop}
use lib.Seq.{drop-append-add}
use lib.Dec.{eqb}
use Rattle.std.specs.Prelude.{Some}
use Rattle.chunk.specs.declared.Entry.{Entry}
use Rattle.chunk.specs.Header.{span}
use Rattle.chunk.specs.Reading.{listed}
use Rattle.chunk.specs.Moved.{moved_entry, moved}
use Rattle.chunk.proofs.Moved.{listed-moved}
use Rattle.frame.specs.declared.Description.{Description}
use Rattle.frame.specs.declared.Piece.{Piece}
use Rattle.frame.specs.Shape.{starts, continues, full, frame_words}
use Rattle.frame.specs.Described.{described}
use Rattle.frame.specs.Pieces.{frames_and_strays, pieces_from, frame_there, first_piece, next_piece}
use Rattle.frame.proofs.Stepping.{pick, pieces-one}
use Rattle.frame.proofs.Moved.{shifted}
use Rattle.frame_laws.specs.Resync.{moved_piece}

-- ---- frames and strays

-- where no frame is in hand it does not matter where one would end
none-held : (end : ℕ) (es : List Entry) → frames_and_strays end false es ≡ frames_and_strays 0 false es
unfolding frames_and_strays
none-held end [] = refl
none-held end (e ∷ es) = refl

pub pieces-moved : (n end : ℕ) (all : Bool) (es : List Entry) → frames_and_strays (n + end) all (moved n es) ≡ moved n (frames_and_strays end all es)
unfolding frames_and_strays
pieces-moved n end all [] = refl
pieces-moved n end all (e ∷ es) =
    let h : ℕ = e.header in
    pieces-one (n + end) all (moved_entry n e) (moved n es) (continues h) _ (starts h) refl (ap (λ (b : Bool). all && b) (shifted n e.position.0 end)) refl
    ∙ picks (continues h) (all && eqb e.position.0 end) (starts h) (λ m a. pieces-moved n m a es)
    ∙ ap (moved n) (sym (pieces-one end all e es (continues h) _ (starts h) refl refl refl))
  where
    picks : (c j s : Bool) → ((m : ℕ) (a : Bool) → frames_and_strays (n + m) a (moved n es) ≡ moved n (frames_and_strays m a es))
        → pick (n + end) all (moved_entry n e) (moved n es) c j s ≡ moved n (pick end all e es c j s)
    picks true true s more =
        ap (λ (m : ℕ). frames_and_strays m (full e.header) (moved n es)) (add_assoc n end (span e.header))
        ∙ more (end + span e.header) (full e.header)
    picks true false s more = ap (λ (l : List Entry). moved_entry n e ∷ l) (sym (none-held (n + 0) (moved n es)) ∙ more 0 false)
    picks false j true more =
        ap (λ (l : List Entry). moved_entry n e ∷ l)
        (ap (λ (m : ℕ). frames_and_strays m (full e.header) (moved n es)) (add_assoc n e.position.0 (span e.header))
        ∙ more (e.position.0 + span e.header) (full e.header))
    picks false j false more = sym (none-held (n + 0) (moved n es)) ∙ more 0 false

-- where none is in hand
pub free_moved : (n : ℕ) (es : List Entry) → frames_and_strays 0 false (moved n es) ≡ moved n (frames_and_strays 0 false es)
free_moved n es = sym (none-held (n + 0) (moved n es)) ∙ pieces-moved n 0 false es

-- ---- the next of them, after the words `a`

module _ (sync : ℕ) (a s : List ℕ) where
  frame-moved : (p : ℕ) → Some (frame_there sync (a ++ s) (length a + p)) ≡ moved_piece (length a) (Some (frame_there sync s p))
  frame-moved p =
      let d : drop (length a + p) (a ++ s) ≡ drop p s = drop-append-add a s p in
      ap₂ (λ (x : Description) (n : ℕ). Some (Piece.Frame (record { 0 = length a + p }) x (record { 0 = n }))) (ap (described sync) d)
      (ap (λ (v : List ℕ). length a + p + frame_words sync v) d ∙ add_assoc (length a) p (frame_words sync (drop p s)))

  first-moved : (es : List Entry) → first_piece sync (a ++ s) (moved (length a) es) ≡ moved_piece (length a) (first_piece sync s es)
  unfolding first_piece
  first-moved [] = refl
  first-moved (e ∷ es) = by-start (starts e.header) refl
    where
      by-start : (b : Bool) → starts e.header ≡ b
          → first_piece sync (a ++ s) (moved (length a) (e ∷ es)) ≡ moved_piece (length a) (first_piece sync s (e ∷ es))
      by-start true z = rw (z, first_piece) (frame-moved e.position.0)
      by-start false z =
          rw (z, first_piece) (ap (λ (n : ℕ). Some (Piece.Stray (moved_entry (length a) e) (record { 0 = n })))
          (add_assoc (length a) e.position.0 (span e.header)))

  pub pieces-from-moved : (p : ℕ) → pieces_from sync (a ++ s) (length a + p) ≡ moved (length a) (pieces_from sync s p)
  pieces-from-moved p =
      ap (λ (v : List ℕ). frames_and_strays 0 false (listed sync (length a + p) 0 v)) (drop-append-add a s p)
      ∙ ap (frames_and_strays 0 false) (listed-moved sync (length a) p 0 (drop p s))
      ∙ free_moved (length a) (listed sync p 0 (drop p s))

  pub next-moved : (p : ℕ) → next_piece sync (a ++ s) (length a + p) ≡ moved_piece (length a) (next_piece sync s p)
  next-moved p = ap (first_piece sync (a ++ s)) (pieces-from-moved p) ∙ first-moved (pieces_from sync s p)
