-- The exclusive-or of words at places apart is their sum, and the sum's digits are the words.
use mathlib.Core.Path.{◌≡◌, ap, ◌∙◌}
use mathlib.Core.List.{List, [], ◌∷◌}
use Prim.Native.Nat.{ℕ, ◌+◌, ◌*◌, ◌/◌, ◌%◌, ◌^◌, ◌<◌, ◌≤◌}
use native.Mathlib.Omega.{arith}
use lib.Dec.{lit≤}
use lib.ListN.{length, get_or}
use lib.Pow.{shl_exact, low, high}
use lib.Bits.{xor_comm, xor_shifted}
use mir.Syntax.{w64}
use Rattle.std.specs.Int.{from_be_bytes}
use Rattle.base.specs.Xor.{◌xor◌}
use Rattle.base.specs.Number as number
use Rattle.crc_division.specs.Folding.{high_lanes}

-- one word more, at place k
put : (k x y : ℕ) → k + 16 ≤ 64 → x < 2 ^ k → y < 65536 → x xor y * 2 ^ k % 2 ^ 64 ≡ y * 2 ^ k + x
put k x y p hx hy = ap (λ (n : ℕ). x xor n) (shl_exact 16 k 64 hy (omega arith)) ∙ xor_comm x (y * 2 ^ k) ∙ xor_shifted y k x hx

-- the word at place k of a sum
word : (k over w under : ℕ) {n : ℕ} → n ≡ (over * 2 ^ 16 + w) * 2 ^ k + under → under < 2 ^ k → w < 65536 → n / 2 ^ k % 2 ^ 16 ≡ w
word k over w under e h hw = ap (λ (n : ℕ). n / 2 ^ k % 2 ^ 16) e ∙ ap (λ (n : ℕ). n % 2 ^ 16) (high (over * 2 ^ 16 + w) k h) ∙ low over 16 hw

digits : (a b c d : ℕ) → a < 65536 → b < 65536 → c < 65536 → d < 65536
    → high_lanes (a * 2 ^ 48 + (b * 2 ^ 32 + (c * 2 ^ 16 + d))) ≡ a ∷ b ∷ c ∷ d ∷ []
digits a b c d ha hb hc hd =
    let n = a * 2 ^ 48 + (b * 2 ^ 32 + (c * 2 ^ 16 + d)) in
    let ed : n ≡ (a * 2 ^ 32 + b * 2 ^ 16 + c) * 2 ^ 16 + d = omega arith in
    cc (
      ap (λ (m : ℕ). m % 2 ^ 16) ed ∙ low (a * 2 ^ 32 + b * 2 ^ 16 + c) 16 hd,
      word 16 (a * 2 ^ 16 + b) c d {n = n} (omega arith) hd hc,
      word 32 a b (c * 2 ^ 16 + d) {n = n} (omega arith) (omega arith) hb,
      word 48 0 a (b * 2 ^ 32 + (c * 2 ^ 16 + d)) {n = n} (omega arith) (omega arith) ha,
    )

-- four words
pub packed : (words : List ℕ) → length words ≡ 4 → get_or words 0 0 < 65536 → get_or words 1 0 < 65536 → get_or words 2 0 < 65536 → get_or words 3 0 < 65536
    → high_lanes (get_or words 3 0 xor get_or words 2 0 * 2 ^ 16 % 2 ^ 64 xor get_or words 1 0 * 2 ^ 32 % 2 ^ 64 xor get_or words 0 0 * 2 ^ 48 % 2 ^ 64) ≡ words
packed (a ∷ b ∷ c ∷ d ∷ []) n ha hb hc hd =
    ap high_lanes
    (ap (λ (x : ℕ). x xor b * 2 ^ 32 % 2 ^ 64 xor a * 2 ^ 48 % 2 ^ 64) (put 16 d c (lit≤ tt) hd hc)
    ∙ ap (λ (x : ℕ). x xor a * 2 ^ 48 % 2 ^ 64) (put 32 (c * 2 ^ 16 + d) b (lit≤ tt) (omega arith) hb)
    ∙ put 48 (b * 2 ^ 32 + (c * 2 ^ 16 + d)) a (lit≤ tt) (omega arith) ha)
    ∙ digits a b c d ha hb hc hd
packed [] n ha hb hc hd = absurd (omega (arith, n))
packed (a ∷ []) n ha hb hc hd = absurd (omega (arith, n))
packed (a ∷ b ∷ []) n ha hb hc hd = absurd (omega (arith, n))
packed (a ∷ b ∷ c ∷ []) n ha hb hc hd = absurd (omega (arith, n))
packed (a ∷ b ∷ c ∷ d ∷ e ∷ words) n ha hb hc hd = absurd (omega (arith, n))

-- bytes as words, two to a word, the high one first
abbrev pub pairs_of : List ℕ → List ℕ
pairs_of [] = []
pairs_of (x ∷ []) = []
pairs_of (x ∷ y ∷ bytes) = number.word x y ∷ pairs_of bytes

-- eight bytes
pub packed-bytes : (x : ℕ) (bytes : List ℕ) → length bytes ≡ 8 → ((i : ℕ) → get_or bytes i 0 < 256) → x ≡ from_be_bytes w64 bytes
    → high_lanes x ≡ pairs_of bytes
packed-bytes x (a ∷ b ∷ c ∷ d ∷ e ∷ f ∷ g ∷ h ∷ []) n fits p =
    let ha : a < 256 = fits 0 in
    let hb : b < 256 = fits 1 in
    let hc : c < 256 = fits 2 in
    let hd : d < 256 = fits 3 in
    let he : e < 256 = fits 4 in
    let hf : f < 256 = fits 5 in
    let hg : g < 256 = fits 6 in
    let hh : h < 256 = fits 7 in
    let q : x ≡ number.word a b * 2 ^ 48 + (number.word c d * 2 ^ 32 + (number.word e f * 2 ^ 16 + number.word g h)) = omega (arith, p) in
    ap high_lanes q
    ∙ digits (number.word a b) (number.word c d) (number.word e f) (number.word g h) (omega arith) (omega arith) (omega arith) (omega arith)
packed-bytes x [] n fits p = absurd (omega (arith, n))
packed-bytes x (a ∷ []) n fits p = absurd (omega (arith, n))
packed-bytes x (a ∷ b ∷ []) n fits p = absurd (omega (arith, n))
packed-bytes x (a ∷ b ∷ c ∷ []) n fits p = absurd (omega (arith, n))
packed-bytes x (a ∷ b ∷ c ∷ d ∷ []) n fits p = absurd (omega (arith, n))
packed-bytes x (a ∷ b ∷ c ∷ d ∷ e ∷ []) n fits p = absurd (omega (arith, n))
packed-bytes x (a ∷ b ∷ c ∷ d ∷ e ∷ f ∷ []) n fits p = absurd (omega (arith, n))
packed-bytes x (a ∷ b ∷ c ∷ d ∷ e ∷ f ∷ g ∷ []) n fits p = absurd (omega (arith, n))
packed-bytes x (a ∷ b ∷ c ∷ d ∷ e ∷ f ∷ g ∷ h ∷ i ∷ bytes) n fits p = absurd (omega (arith, n))
