-- A message goes by in blocks, and bytes go by as words, two to a word.
use mathlib.Core.Path.{◌≡◌, refl, sym, ap, ap₂, ◌∙◌}
use mathlib.Core.List.{List, [], ◌∷◌, foldl}
use Prim.Native.Nat.{ℕ, zero, suc, ◌+◌, ◌*◌, ◌/◌, ◌%◌, ◌<◌, ◌≤◌}
use native.Mathlib.Numerals.{add-one}
use native.Mathlib.Omega.{arith}
use lib.ListN.{length, get_or, take, drop, take-append-drop, length-drop}
use lib.Seq.{drop-cons}
use Rattle.std.proofs.lemmas.List.{take-take}
use Rattle.std.specs.Simd.{first_chunks}
use Rattle.base.specs.Number.{word}
use Rattle.crc.specs.Crc.{crc_step, crc_over, crc_words, crc_bytes}
use Rattle.crc_division.specs.Blocks.{lanes, after_block}
use Rattle.crc_division.specs.Folding.{high_lanes, after_high}
use Rattle.crc.proofs.Lanes.{pairs_of}
use Rattle.crc.proofs.Laws.{word_bytes, crc-append}

-- a block x, turned round to y
pub turned_round : (x y : ℕ) {r s : ℕ} → r ≡ s → high_lanes y ≡ lanes x → after_high r y ≡ after_block s x
unfolding after_high after_block
turned_round x y = ap₂ crc_words

-- ---- bytes as words

abbrev twice : ℕ → ℕ
twice zero = zero
twice (suc k) = suc (suc (twice k))

-- all of them
by-pairs : (k r : ℕ) (bytes : List ℕ) → length bytes ≡ twice k → ((i : ℕ) → get_or bytes i 0 < 256) → crc_words r (pairs_of bytes) ≡ crc_bytes r bytes
by-pairs zero r [] n h = refl
by-pairs zero r (x ∷ bytes) n h = absurd (omega (arith, n))
by-pairs (suc k) r [] n h = refl
by-pairs (suc k) r (x ∷ []) n h = absurd (omega (arith, n))
by-pairs (suc k) r (x ∷ y ∷ bytes) n h =
    by-pairs k (crc_step 16 r (word x y)) bytes (omega (arith, n)) (λ i. h (suc (suc i)))
    ∙ ap (λ (s : ℕ). crc_bytes s bytes) (word_bytes r x y (h 1))

-- the first k words
some-pairs : (k r : ℕ) (bytes : List ℕ) → twice k ≤ length bytes → ((i : ℕ) → get_or bytes i 0 < 256)
    → crc_words r (take k (pairs_of bytes)) ≡ crc_bytes r (take (twice k) bytes)
some-pairs zero r bytes n h = refl
some-pairs (suc k) r [] n h = absurd (omega (arith, n))
some-pairs (suc k) r (x ∷ []) n h = absurd (omega (arith, n))
some-pairs (suc k) r (x ∷ y ∷ bytes) n h =
    some-pairs k (crc_step 16 r (word x y)) bytes (omega (arith, n)) (λ i. h (suc (suc i)))
    ∙ ap (λ (s : ℕ). crc_bytes s (take (twice k) bytes)) (word_bytes r x y (h 1))

twice-is : (k : ℕ) → twice k ≡ 2 * k
twice-is zero = refl
twice-is (suc k) = omega (arith, twice-is k)

-- of a block of eight bytes, packed
module _ (x : ℕ) (bytes : List ℕ) (n : length bytes ≡ 8) (fits : (i : ℕ) → get_or bytes i 0 < 256) (e : high_lanes x ≡ pairs_of bytes) where
  pub eight-bytes : (r : ℕ) → after_high r x ≡ crc_bytes r bytes
  unfolding after_high
  eight-bytes r = ap (crc_words r) e ∙ by-pairs 4 r bytes n fits

  pub first-bytes : (r k : ℕ) → k ≤ 4 → crc_words r (take k (high_lanes x)) ≡ crc_bytes r (take (2 * k) bytes)
  first-bytes r k h =
      let t : twice k ≡ 2 * k = twice-is k in
      ap (λ (l : List ℕ). crc_words r (take k l)) e ∙ some-pairs k r bytes (omega (arith, t, n)) fits ∙ ap (λ (j : ℕ). crc_bytes r (take j bytes)) t

-- ---- blocks

-- a message's k blocks of n elements
by-blocks : (width n k r : ℕ) (m : List ℕ) → length m ≤ k * n → foldl (crc_over width) r (first_chunks n k m) ≡ crc_over width r m
by-blocks width n zero r [] h = refl
by-blocks width n zero r (x ∷ m) h = absurd (omega (arith, h))
by-blocks width n (suc k) r m h =
    by-blocks width n k (crc_over width r (take n m)) (drop n m) (omega (arith, length-drop n m, h))
    ∙ sym (crc-append width r (take n m) (drop n m)) ∙ ap (crc_over width r) (take-append-drop n m)

-- after the elements before whole blocks and the first block of these, the other blocks take the register to the message's
begun : (width n start s j : ℕ) (m next : List ℕ) (rest : List (List ℕ)) → length m ≤ j + length m / n * n
    → next ∷ rest ≡ first_chunks n (length m / n) (drop j m) → s ≡ crc_over width (crc_over width start (take j m)) next
    → foldl (crc_over width) s rest ≡ crc_over width start m
begun width n start s j m next rest h e p =
    ap (λ (r : ℕ). foldl (crc_over width) r rest) p
    ∙ ap (foldl (crc_over width) (crc_over width start (take j m))) e
    ∙ by-blocks width n (length m / n) (crc_over width start (take j m)) (drop j m) (omega (arith, length-drop j m, h))
    ∙ sym (crc-append width start (take j m) (drop j m)) ∙ ap (crc_over width start) (take-append-drop j m)

pub words-begun : (start s k x y : ℕ) (m first next : List ℕ) (blocks rest : List (List ℕ)) → k ≡ length m % 4 → first ≡ take 4 m
    → blocks ≡ next ∷ rest → blocks ≡ first_chunks 4 (length m / 4) (drop (length m % 4) m) → high_lanes x ≡ first → high_lanes y ≡ next
    → s ≡ after_high (crc_words start (take k (high_lanes x))) y → foldl crc_words s rest ≡ crc_words start m
unfolding after_high
words-begun start s k x y m first next blocks rest ek ef eb e ex ey p =
    let j = length m % 4 in
    let head : take k (high_lanes x) ≡ take j m = ap₂ take ek (ex ∙ ef) ∙ take-take j 4 m (omega arith) in
    begun 16 4 start s j m next rest (omega arith) (sym eb ∙ e) (p ∙ ap₂ (λ (l b : List ℕ). crc_words (crc_words start l) b) head ey)

-- of bytes, of which there are an even number
pub bytes-begun : (r s k x y : ℕ) (m first next : List ℕ) (blocks rest : List (List ℕ)) → length m % 2 ≡ 0 → k ≡ length m % 8 → first ≡ take 8 m
    → blocks ≡ next ∷ rest → blocks ≡ first_chunks 8 (length m / 8) (drop (length m % 8) m)
    → ((r k : ℕ) → k ≤ 4 → crc_words r (take k (high_lanes x)) ≡ crc_bytes r (take (2 * k) first)) → ((r : ℕ) → after_high r y ≡ crc_bytes r next)
    → s ≡ after_high (crc_words r (take (k / 2) (high_lanes x))) y → foldl crc_bytes s rest ≡ crc_bytes r m
bytes-begun r s k x y m first next blocks rest even ek ef eb e ex ey p =
    let j = length m % 8 in
    let head : crc_words r (take (k / 2) (high_lanes x)) ≡ crc_bytes r (take j m) =
    ex r (k / 2) (omega (arith, ek))
    ∙ ap₂ (λ (n : ℕ) (l : List ℕ). crc_bytes r (take n l)) (omega (arith, ek, even)) ef
    ∙ ap (crc_bytes r) (take-take j 8 m (omega arith))
    in
    begun 8 8 r s j m next rest (omega arith) (sym eb ∙ e) (p ∙ ap (λ (q : ℕ). after_high q y) head ∙ ey (crc_bytes r (take j m)))

-- the bytes before a place, and then those after it
pub in_turn : (start r n : ℕ) (m front rest : List ℕ) → front ≡ take n m → rest ≡ drop n m → r ≡ crc_bytes start front → crc_bytes r rest ≡ crc_bytes start m
in_turn start r n m front rest ef er e =
    ap₂ crc_bytes (e ∙ ap (crc_bytes start) ef) er ∙ sym (crc-append 8 start (take n m) (drop n m)) ∙ ap (crc_bytes start) (take-append-drop n m)

-- one block more
pub block-more : (width r s i : ℕ) (z : ℕ) (bs : List (List ℕ)) (d : List ℕ) → i < length bs → s ≡ crc_over width r (get_or bs i d)
    → foldl (crc_over width) r (drop i bs) ≡ z → foldl (crc_over width) s (drop (i + 1) bs) ≡ z
block-more width r s i z bs d h e inv =
    ap (λ (x : ℕ). foldl (crc_over width) x (drop (i + 1) bs)) e ∙ ap (λ (n : ℕ). foldl (crc_over width) (crc_over width r (get_or bs i d)) (drop n bs)) (add-one i)
    ∙ ap (foldl (crc_over width) r) (sym (drop-cons bs i d h)) ∙ inv
