-- The trailer of a reel that is read: what stands at the reel's end, and the tests one after the other.
use mathlib.Core.Path.{◌≡◌, sym, ap, ap₂, ◌∙◌}
use mathlib.Core.Bool.{Bool, true, false, cond, ◌&&◌, and-false, false≢true}
use mathlib.Core.List.{List, [], ◌∷◌, ◌++◌}
use Prim.Native.Nat.{ℕ, ◌+◌, ◌*◌, ◌-◌, ◌≤◌, ◌<◌}
use native.Mathlib.Omega.{arith}
use lib.ListN.{length, take, drop, get_or}
use lib.Seq.{take-add, drop-drop}
use lib.Dec.{ltb, eqb}
use borrow.Author.Tests.{eq-eqb, ne_eqb, lt-ltb, le-ltb, ltb-true, ltb-false}
use Rattle.std.proofs.Common.{Option, Some, None}
use Rattle.base.proofs.Booleans.{by-test}
use Rattle.crc.specs.Crc.{crc_words, crc_start}
use Rattle.reel.specs.Layout.{entry_width, trailer_width, edition, pointers, reel_crc, reel_words}
use Rattle.reel.specs.Reading.{count_of, n_of, crc_of, edition_of, index_of, trailer_agrees}
use Rattle.reel.specs.declared.trailer.Trailer.{Trailer}
use Rattle.reel.specs.Within.{told_by, trailer_of}
use Rattle.reel.proofs.OnReel.{two-words}

-- ---- the trailer by the last four words

module _ (r : List ℕ) where
  pub none-there : length r < trailer_width → None ≡ trailer_of r
  unfolding trailer_of
  none-there h = rw (lt-ltb (length r) trailer_width h)

  pub one-there : trailer_width ≤ length r → Some (told_by r) ≡ trailer_of r
  unfolding trailer_of
  one-there h = rw (le-ltb (length r) trailer_width h)

  some : Option Trailer → Bool
  some None = false
  some (Some t) = true

  the : Option Trailer → Trailer
  the None = told_by r
  the (Some t) = t

  -- and back: what is known where there is none, and where there is one
  pub too-few : None ≡ trailer_of r → length r < trailer_width
  unfolding trailer_of some
  too-few e =
      by-test (ltb (length r) trailer_width) (ltb-true (length r) trailer_width)
      (λ n. absurd (false≢true (ap some (e ∙ ap (λ (b : Bool). cond b None (Some (told_by r))) n))))

  pub enough : {t : Trailer} → Some t ≡ trailer_of r → trailer_width ≤ length r
  unfolding trailer_of some
  enough e =
      by-test (ltb (length r) trailer_width)
      (λ y. absurd (false≢true (sym (ap some (e ∙ ap (λ (b : Bool). cond b None (Some (told_by r))) y)))))
      (ltb-false (length r) trailer_width)

  pub told : {t : Trailer} → Some t ≡ trailer_of r → t ≡ told_by r
  unfolding the
  told e = ap the (e ∙ sym (one-there (enough e)))

  pub told-n : {t : Trailer} → Some t ≡ trailer_of r → t.n ≡ n_of r
  told-n e = ap (λ (x : Trailer). x.n) (told e)

  pub told-count : {t : Trailer} → Some t ≡ trailer_of r → t.count ≡ count_of r
  told-count e = ap (λ (x : Trailer). x.count) (told e)

-- ---- the tests

module _ (r : List ℕ) (h : length r ≡ reel_words (n_of r) (count_of r)) where
  -- the entries and the trailer's first two words, as they stand
  covered-words : take (n_of r + entry_width * count_of r + 2 - n_of r) (drop (n_of r) r) ≡ index_of r ++ pointers (count_of r) (n_of r)
  covered-words =
      let n : ℕ = n_of r in
      let c : ℕ = count_of r in
      let k : n + entry_width * c + 2 - n ≡ entry_width * c + 2 = omega arith in
      let a : n + entry_width * c ≡ length r - 4 = omega arith in
      let b : length r - 4 + 1 ≡ length r - 3 = omega arith in
      ap (λ (m : ℕ). take m (drop n r)) k ∙ take-add (entry_width * c) 2 (drop n r)
      ∙ ap (λ (l : List ℕ). index_of r ++ take 2 l) (drop-drop (entry_width * c) n r ∙ ap (λ (m : ℕ). drop m r) a)
      ∙ ap (λ (l : List ℕ). index_of r ++ l) (two-words r (length r - 4) (omega arith) ∙ ap (λ (m : ℕ). count_of r ∷ get_or r m 0 ∷ []) b)

module _ (r : List ℕ) (t : Trailer) (e : Some t ≡ trailer_of r) where
  pub wrong-length : (t.n + entry_width * t.count + trailer_width ≡ length r → ⊥) → false ≡ trailer_agrees r
  unfolding trailer_agrees
  wrong-length z = simp (ne_eqb (length r) (reel_words (n_of r) (count_of r)) (λ k. z (omega (arith, told-n r e, told-count r e))))

  module _ (l : t.n + entry_width * t.count + trailer_width ≡ length r) where
    pub wrong-edition : (t.edition ≡ edition → ⊥) → false ≡ trailer_agrees r
    unfolding trailer_agrees
    wrong-edition z = simp (ne_eqb (edition_of r) edition (λ k. z (ap (λ (x : Trailer). x.edition) (told r e) ∙ k)), and-false)

    pub right-crc : t.edition ≡ edition → (y : ℕ) → y ≡ crc_words crc_start (take (t.n + entry_width * t.count + 2 - t.n) (drop t.n r)) → eqb t.crc y ≡ trailer_agrees r
    unfolding trailer_agrees
    right-crc is y ey =
        let k : length r ≡ reel_words (n_of r) (count_of r) = omega (arith, told-n r e, told-count r e) in
        let w : y ≡ reel_crc (index_of r) (count_of r) (n_of r) =
        ey ∙ ap₂ (λ (a b : ℕ). crc_words crc_start (take (a + entry_width * b + 2 - a) (drop a r))) (told-n r e) (told-count r e) ∙ ap (crc_words crc_start) (covered-words r k) in
        let f : edition_of r ≡ edition = sym (ap (λ (x : Trailer). x.edition) (told r e)) ∙ is in
        ap₂ eqb (ap (λ (x : Trailer). x.crc) (told r e)) w
        ∙ sym (ap₂ (λ (a b : Bool). a && b && eqb (crc_of r) (reel_crc (index_of r) (count_of r) (n_of r))) (eq-eqb (length r) (reel_words (n_of r) (count_of r)) k) (eq-eqb (edition_of r) edition f))

pub ruleset found = (none-there, one-there)

pub ruleset tests = (wrong-length, wrong-edition, right-crc)
