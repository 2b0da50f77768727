-- A chunk's payload and its data words, from its header word alone.
use mathlib.Core.Path.{◌≡◌, ap, ◌∙◌}
use mathlib.Core.Bool.{true, cond, ◌&&◌}
use mathlib.Core.List.{List, ◌∷◌}
use mathlib.Core.Logic.{inl, inr, ⊎_elim}
use Prim.Native.Nat.{ℕ, ◌+◌, ◌%◌, ◌≤◌}
use native.Mathlib.Omega.{arith}
use lib.ListN.{length, get_or, drop, length-take, length-drop}
use lib.Dec.{eqb, leb}
use borrow.Author.Tests.{eqb-true, leb-true}
use Rattle.base.proofs.Booleans.{and_left, and_right, or_cases}
use Rattle.chunk.specs.declared.Entry.{Entry}
use Rattle.chunk.specs.Header.{size, kind, span, image_size, health_size, legal_size, legal, headed, ends, confirmed}
use Rattle.chunk.proofs.Headers.{headed-parts}
use Rattle.parity_units.specs.Split.{units_in, data_words, data_words_in}
use Rattle.parity_units.proofs.Split.{data-words, words_append, Fair, units-fair}
use Rattle.frame.specs.Picture.{payload_of, chunk_units, units_of}

-- an image chunk that is confirmed has a legal size for its kind
pub image-size : (sync : ℕ) (ws : List ℕ) → confirmed sync ws ≡ true → eqb (kind (get_or ws 1 0)) 0 ≡ true → image_size (size (get_or ws 1 0)) ≡ true
unfolding confirmed legal legal_size
image-size sync ws e i =
    let h : ℕ = get_or ws 1 0 in
    let l : legal h ≡ true = (headed-parts sync ws (and_left (headed sync ws) (ends sync (span h) ws) e)).2 in
    let s : legal_size (kind h) (size h) ≡ true = and_left (legal_size (kind h) (size h)) _ l in
    rw i at (and_right (leb 1 (size h) && leb (size h) 8190) (cond (eqb (kind h) 0) (image_size (size h)) (health_size (size h))) s)

-- a payload of a legal image size splits into units of 9 to 264 words
pub image-fair : (p : List ℕ) → image_size (length p) ≡ true → Fair (units_in p)
image-fair p i =
    units-fair p
    (⊎_elim (λ z. inl (eqb-true (length p % 264) 0 z)) (λ z. inr (leb-true 9 (length p % 264) z)) (or_cases (eqb (length p % 264) 0) (leb 9 (length p % 264)) i))

-- the payload of a chunk that lies within the words
pub payload-length : (ws : List ℕ) (e : Entry) → e.position.0 + span e.header ≤ length ws → length (payload_of ws e) ≡ size e.header
payload-length ws e w = omega (arith, length-take (size e.header) (drop (e.position.0 + 2) ws), length-drop (e.position.0 + 2) ws)

-- one chunk more
pub data-more : (ws : List ℕ) (e : Entry) (es : List Entry) → e.position.0 + span e.header ≤ length ws
    → data_words (units_of ws (e ∷ es)) ≡ data_words_in (size e.header) + data_words (units_of ws es)
unfolding units_of
data-more ws e es w =
    words_append (chunk_units ws e) (units_of ws es)
    ∙ ap (λ (n : ℕ). n + data_words (units_of ws es)) (data-words (payload_of ws e) ∙ ap data_words_in (payload-length ws e w))
