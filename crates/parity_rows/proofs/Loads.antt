-- Rows as they are loaded, first word lowest. Words the other way round go through exclusive-or and have as many ones; so the sums of
-- loaded rows, their columns turned round once at the end, are those of the rows. Row r of the data in fours has the words from 4r on.
use mathlib.Core.Path.{◌≡◌, refl, sym, ap, ap₂, ◌∙◌}
use mathlib.Core.List.{List, []}
use Prim.Native.Nat.{ℕ, zero, suc, ◌+◌, ◌-◌, ◌*◌, ◌/◌, ◌%◌, ◌^◌, ◌<◌}
use native.Mathlib.Nat.{mod-lt, mod-eq_of_lt, add-zero}
use native.Mathlib.Omega.{arith}
use lib.Dec.{lit<}
use lib.Pow.{low}
use lib.ListN.{get_or, take, drop}
use lib.Bits.{xor_block}
use lib.Count.{ones, ones_cat}
use Rattle.std.specs.Simd.{first_chunks}
use Rattle.std.proofs.lemmas.List.{get_or-take, get_or-drop, drop-drop}
use Rattle.base.specs.Xor.{◌xor◌}
use Rattle.base.specs.Number.{low_word}
use Rattle.base.proofs.Linear as linear
use Rattle.base.proofs.Linear.{Linear, shr, after}
use Rattle.parity_rows.specs.declared.Sums.{Sums}
use Rattle.parity_rows.specs.Parity.{number, bit_from, sums}
use Rattle.parity_rows.specs.ByRows.{pack, loaded, exchanged, one_more, row_of}
use Rattle.parity_rows.proofs.Words.{packed}

word_lt : (x : ℕ) → low_word x < 65536
word_lt x = mod-lt x (lit< tt)

lane : (k : ℕ) → Linear (λ x. low_word (x / 2 ^ k))
lane k = after (λ x. x / 2 ^ k) low_word (shr k) (linear.low 16)

pack-linear : (a b c d e f g h : ℕ) → b < 65536 → c < 65536 → d < 65536 → f < 65536 → g < 65536 → h < 65536
    → pack (a xor e) (b xor f) (c xor g) (d xor h) ≡ pack a b c d xor pack e f g h
unfolding pack
pack-linear a b c d e f g h hb hc hd hf hg hh =
    sym (xor_block 16 ((a * 2 ^ 16 + b) * 2 ^ 16 + c) ((e * 2 ^ 16 + f) * 2 ^ 16 + g) d h hd hh
    ∙ ap (λ (x : ℕ). x * 2 ^ 16 + (d xor h))
    (xor_block 16 (a * 2 ^ 16 + b) (e * 2 ^ 16 + f) c g hc hg
    ∙ ap (λ (x : ℕ). x * 2 ^ 16 + (c xor g)) (xor_block 16 a e b f hb hf)))

pub exchanged-linear : Linear exchanged
exchanged-linear x y =
    ap₂ (λ (a b : ℕ). pack a b (low_word ((x xor y) / 2 ^ 32)) (low_word ((x xor y) / 2 ^ 48))) (linear.low 16 x y) (lane 16 x y)
    ∙ ap₂ (λ (c d : ℕ). pack (low_word x xor low_word y) (low_word (x / 2 ^ 16) xor low_word (y / 2 ^ 16)) c d) (lane 32 x y) (lane 48 x y)
    ∙ pack-linear _ _ _ _ _ _ _ _ (word_lt _) (word_lt _) (word_lt _) (word_lt _) (word_lt _) (word_lt _)

module _ (a b c d : ℕ) (ha : a < 65536) (hb : b < 65536) (hc : c < 65536) (hd : d < 65536) where
  turn : exchanged (pack d c b a) ≡ pack a b c d
  unfolding pack
  turn =
      let n = ((d * 2 ^ 16 + c) * 2 ^ 16 + b) * 2 ^ 16 + a in
      let past-a : n / 2 ^ 16 ≡ (d * 2 ^ 16 + c) * 2 ^ 16 + b = omega arith in
      let past-b : n / 2 ^ 32 ≡ d * 2 ^ 16 + c = omega arith in
      let past-c : n / 2 ^ 48 ≡ d = omega arith in
      ap₂ (λ (x y : ℕ). pack x y (n / 2 ^ 32 % 2 ^ 16) (n / 2 ^ 48 % 2 ^ 16))
      (low ((d * 2 ^ 16 + c) * 2 ^ 16 + b) 16 ha)
      (ap low_word past-a ∙ low (d * 2 ^ 16 + c) 16 hb)
      ∙ ap₂ (pack a b) (ap low_word past-b ∙ low d 16 hc) (ap low_word past-c ∙ mod-eq_of_lt hd)

  ones-pack : ones (pack a b c d) ≡ ones a + ones b + ones c + ones d
  unfolding pack
  ones-pack =
      ones_cat 16 ((a * 2 ^ 16 + b) * 2 ^ 16 + c) d hd
      ∙ ap (λ (n : ℕ). n + ones d) (ones_cat 16 (a * 2 ^ 16 + b) c hc ∙ ap (λ (n : ℕ). n + ones c) (ones_cat 16 a b hb))

as_many : (a b c d : ℕ) → a < 65536 → b < 65536 → c < 65536 → d < 65536 → ones (pack d c b a) ≡ ones (pack a b c d)
as_many a b c d ha hb hc hd =
    let e : ones d + ones c + ones b + ones a ≡ ones a + ones b + ones c + ones d = omega arith in
    ones-pack d c b a hd hc hb ha ∙ e ∙ sym (ones-pack a b c d ha hb hc hd)

-- ---- in fours

fours : (d : List ℕ) (k r : ℕ) → r < k → get_or (first_chunks 4 k d) r [] ≡ take 4 (drop (4 * r) d)
fours d zero r h = absurd (omega (arith, h))
fours d (suc k) zero h = refl
fours d (suc k) (suc r) h =
    let e : 4 + 4 * r ≡ 4 * suc r = omega arith in
    fours (drop 4 d) k r (omega (arith, h)) ∙ ap (take 4) (drop-drop (4 * r) 4 d ∙ ap (λ (n : ℕ). drop n d) e)

-- the row of four is what stands at its place
pub loaded-four : (d : List ℕ) (m k r : ℕ) → r < m → r < k → loaded (get_or (take m (first_chunks 4 k d)) r []) 0 ≡ loaded d (4 * r)
loaded-four d m k r hm hk =
    ap (λ (x : List ℕ). loaded x 0) (get_or-take m (first_chunks 4 k d) r [] hm ∙ fours d k r hk)
    ∙ ap₂ (λ (x y : ℕ). pack x y (get_or (take 4 (drop (4 * r) d)) 1 0) (get_or (take 4 (drop (4 * r) d)) 0 0)) (word 3 (omega arith)) (word 2 (omega arith))
    ∙ ap₂ (pack (get_or d (4 * r + 3) 0) (get_or d (4 * r + 2) 0)) (word 1 (omega arith)) (word 0 (omega arith) ∙ ap (λ (n : ℕ). get_or d n 0) (add-zero (4 * r)))
  where
    word : (i : ℕ) → i < 4 → get_or (take 4 (drop (4 * r) d)) i 0 ≡ get_or d (4 * r + i) 0
    word i h = get_or-take 4 (drop (4 * r) d) i 0 h ∙ get_or-drop (4 * r) d i 0

-- ---- of data

module _ (ws : List ℕ) (fits : (i : ℕ) → get_or ws i 0 < 65536) (w : ℕ) where
  straight : pack (get_or ws w 0) (get_or ws (w + 1) 0) (get_or ws (w + 2) 0) (get_or ws (w + 3) 0) ≡ number 64 (bit_from ws w)
  straight = packed ws w _ _ _ _ fits refl refl refl refl

  pub turned-load : exchanged (loaded ws w) ≡ number 64 (bit_from ws w)
  turned-load = turn _ _ _ _ (fits w) (fits (w + 1)) (fits (w + 2)) (fits (w + 3)) ∙ straight

  ones-load : ones (loaded ws w) ≡ ones (number 64 (bit_from ws w))
  ones-load = as_many _ _ _ _ (fits w) (fits (w + 1)) (fits (w + 2)) (fits (w + 3)) ∙ ap ones straight

-- the sums, their columns turned round
abbrev pub turned : Sums → Sums
turned s = sums s.rows (exchanged s.columns)

-- a loaded row more is a row more
pub turned_more : (d : List ℕ) → ((i : ℕ) → get_or d i 0 < 65536) → (s : Sums) (r : ℕ) {x : ℕ} → x ≡ loaded d (4 * r)
    → turned (one_more s x r) ≡ one_more (turned s) (row_of d r) r
turned_more d fits s r e =
    ap (λ (x : ℕ). turned (one_more s x r)) e
    ∙ ap₂ sums
    (ap (λ (n : ℕ). s.rows xor n % 2 * 2 ^ (63 - r)) (ones-load d fits (4 * r)))
    (exchanged-linear s.columns (loaded d (4 * r)) ∙ ap (λ (n : ℕ). exchanged s.columns xor n) (turned-load d fits (4 * r)))
