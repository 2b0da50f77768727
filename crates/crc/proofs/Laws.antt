-- Laws of messages. A message's CRC goes on from its first part's. A word is its two bytes.
use mathlib.Core.Path.{◌≡◌, refl, sym, ap, ◌∙◌}
use mathlib.Core.List.{List, [], ◌∷◌, ◌++◌, foldl-append}
use Prim.Native.Nat.{ℕ, ◌*◌, ◌/◌, ◌%◌, ◌^◌, ◌<◌}
use native.Mathlib.Nat.{mod-lt, div-add-mod'}
use native.Mathlib.Omega.{arith}
use lib.Dec.{lit<}
use lib.Bits.{xor_shifted}
use Rattle.base.specs.Xor.{◌xor◌}
use Rattle.base.specs.Number.{word}
use Rattle.base.proofs.XorLaws.{xor_assoc}
use Rattle.base.proofs.Linear.{shl-in}
use Rattle.crc_division.proofs.Powers.{by-powers}
use Rattle.crc_division.proofs.Linear.{bits-linear, word-step}
use Rattle.crc.specs.Crc.{crc_bit, crc_bits, crc_step, crc_over, crc_words, crc_bytes, bytes_of}

-- two messages in a row
pub crc-append : (width r : ℕ) (m n : List ℕ) → crc_over width r (m ++ n) ≡ crc_over width (crc_over width r m) n
crc-append width r m n = foldl-append (crc_step width) r m n

-- ---- a word is its two bytes

-- the low byte waits eight bits below the top
waits : (l : ℕ) → l < 256 → crc_bits 8 l ≡ l * 256
unfolding crc_bit
waits l h = by-powers (crc_bits 8) (λ n. n * 2 ^ 8 % 2 ^ 16) (bits-linear 8) (shl-in 16 8) 8 tt l h ∙ omega arith

-- a word is its two bytes, the high one first
pub word_bytes : (r h l : ℕ) → l < 256 → crc_step 16 r (word h l) ≡ crc_step 8 (crc_step 8 r h) l
unfolding crc_step
word_bytes r h l b =
    ap (crc_step 16 r) (sym (xor_shifted h 8 l b))
    ∙ word-step r (h * 256 xor l)
    ∙ ap (crc_bits 16) (sym (xor_assoc r (h * 256) l))
    ∙ bits-linear 16 (r xor h * 256) l
    ∙ ap (λ (n : ℕ). crc_bits 16 (r xor h * 256) xor crc_bits 8 n) (waits l b)
    ∙ sym (bits-linear 8 (crc_bits 8 (r xor h * 256)) (l * 256))

pub words-bytes : (r : ℕ) (m : List ℕ) → crc_words r m ≡ crc_bytes r (bytes_of m)
words-bytes r [] = refl
words-bytes r (w ∷ m) =
    words-bytes (crc_step 16 r w) m
    ∙ ap (λ (n : ℕ). crc_bytes n (bytes_of m))
    (ap (crc_step 16 r) (sym (div-add-mod' w 256))
    ∙ word_bytes r (w / 256) (w % 256) (mod-lt w (lit< tt)))
