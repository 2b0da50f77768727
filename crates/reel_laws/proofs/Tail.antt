-- A recording with any entries and a trailer after it: what the trailer tells. One that tells of another length does not agree; one that tells of
-- the recording's own is accepted exactly if the entries are those of a fresh reading.
use mathlib.Core.Path.{◌≡◌, refl, sym, ap, ap₂, ◌∙◌}
use mathlib.Core.Bool.{Bool, true, false, ◌&&◌}
use mathlib.Core.List.{List, ◌++◌, append_assoc}
use Prim.Native.Nat.{ℕ, ◌+◌, ◌*◌, ◌-◌, ◌≤◌}
use native.Mathlib.Omega.{arith}
use lib.ListN.{length, get_or, take, drop, length-append}
use lib.Seq.{get_or-append-add, take_at, drop_at}
use borrow.Author.Tests.{eq-eqb, ne_eqb, le-leb}
use Rattle.base.specs.Limit.{reel_limit}
use Rattle.chunk.specs.declared.Entry.{Entry}
use Rattle.chunk.specs.Reading.{reading}
use Rattle.reel.specs.Layout.{entry_width, trailer_width, edition, index_words, reel_crc, trailer, tail_words, reel_words}
use Rattle.reel.specs.Reading.{same_words, count_of, n_of, crc_of, edition_of, recording_of, index_of, trailer_agrees, index_agrees, accepted}
use Rattle.reel.proofs.OnReel.{index-length}

-- the trailer tells of n words
module _ (ws : List ℕ) (n : ℕ) (es : List Entry) where
  abbrev pub tailed : List ℕ
  tailed = ws ++ tail_words n es

  abbrev index : List ℕ
  index = index_words es

  abbrev end : List ℕ
  end = trailer index (length es) n

  front_length : length (ws ++ index) ≡ length ws + entry_width * length es
  front_length = length-append ws index ∙ ap (λ (m : ℕ). length ws + m) (index-length es)

  split : tailed ≡ ws ++ index ++ end
  unfolding tail_words
  split = sym (append_assoc ws index end)

  pub tailed-length : length tailed ≡ reel_words (length ws) (length es)
  tailed-length = omega (arith, ap length split, length-append (ws ++ index) end, front_length)

  -- the trailer's words, counted from the end
  at-end : (k i : ℕ) → k + i ≡ trailer_width → get_or tailed (length tailed - k) 0 ≡ get_or end i 0
  at-end k i e =
      let m : length tailed - k ≡ length (ws ++ index) + i = omega (arith, tailed-length, front_length) in
      ap₂ (λ (l : List ℕ) (j : ℕ). get_or l j 0) split m ∙ get_or-append-add (ws ++ index) end i 0

  pub tailed-count : count_of tailed ≡ length es
  tailed-count = at-end 4 0 refl

  pub tailed-n : n_of tailed ≡ n
  tailed-n = at-end 3 1 refl

  tailed-crc : crc_of tailed ≡ reel_crc index (length es) n
  tailed-crc = at-end 2 2 refl

  tailed-edition : edition_of tailed ≡ edition
  tailed-edition = at-end 1 3 refl

  -- it tells of another length
  pub other-length-disagrees : (length ws ≡ n → ⊥) → trailer_agrees tailed ≡ false
  unfolding trailer_agrees
  other-length-disagrees h =
      simp (ne_eqb (length tailed) (reel_words (n_of tailed) (count_of tailed)) (λ z. h (omega (arith, z, tailed-length, tailed-n, tailed-count))))

-- it tells of the recording's own
module _ (ws : List ℕ) (es : List Entry) where
  abbrev own : List ℕ
  own = tailed ws (length ws) es

  own-recording : recording_of own ≡ ws
  own-recording = ap (λ (m : ℕ). take m own) (tailed-n ws (length ws) es) ∙ take_at ws (tail_words (length ws) es) (length ws) refl

  own-index : index_of own ≡ index_words es
  unfolding tail_words
  own-index =
      ap₂ (λ (m k : ℕ). take (entry_width * k) (drop m own)) (tailed-n ws (length ws) es) (tailed-count ws (length ws) es)
      ∙ ap (take (entry_width * length es)) (drop_at ws (tail_words (length ws) es) (length ws) refl)
      ∙ take_at (index_words es) (trailer (index_words es) (length es) (length ws)) (entry_width * length es) (index-length es)

  own-agrees : trailer_agrees own ≡ true
  unfolding trailer_agrees
  own-agrees =
      let n : n_of own ≡ length ws = tailed-n ws (length ws) es in
      let count : count_of own ≡ length es = tailed-count ws (length ws) es in
      ap₂ ◌&&◌
      (ap₂ ◌&&◌ (eq-eqb (length own) (reel_words (n_of own) (count_of own)) (tailed-length ws (length ws) es ∙ sym (ap₂ reel_words n count)))
      (eq-eqb (edition_of own) edition (tailed-edition ws (length ws) es)))
      (eq-eqb (crc_of own) (reel_crc (index_of own) (count_of own) (n_of own))
      (tailed-crc ws (length ws) es ∙ sym (ap₂ (reel_crc (index_of own)) count n ∙ ap (λ (l : List ℕ). reel_crc l (length es) (length ws)) own-index)))

  pub own-accepted : (sync : ℕ) → length ws ≤ reel_limit → accepted sync own ≡ same_words (index_words es) (index_words (reading sync ws))
  unfolding index_agrees
  own-accepted sync h =
      ap (λ (b : Bool). b && index_agrees sync own) (ap₂ ◌&&◌ own-agrees (le-leb (n_of own) reel_limit (omega (arith, tailed-n ws (length ws) es))))
      ∙ ap₂ same_words own-index (ap (λ (l : List ℕ). index_words (reading sync l)) own-recording)
