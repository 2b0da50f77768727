-- The reel as a whole, read: one refusal after the other, and what is left is accepted.
use mathlib.Core.Path.{◌≡◌, refl, sym, ap, ap₂, ◌∙◌}
use mathlib.Core.Bool.{Bool, true, false, ◌&&◌}
use mathlib.Core.List.{List}
use Prim.Native.Nat.{ℕ, ◌*◌, ◌+◌, ◌-◌, ◌≤◌, ◌<◌}
use native.Mathlib.Omega.{arith}
use lib.Dec.{eqb}
use lib.Seq.{length-take-le}
use Rattle.std.proofs.Common.{Some, None}
use lib.ListN.{length, take, drop}
use borrow.Author.Tests.{eqb-true, lt-ltb, le-ltb, lt-leb, le-leb}
use Rattle.base.proofs.Booleans.{and_left}
use Rattle.base.specs.Limit.{reel_limit}
use Rattle.base.specs.Refusal.{wrong_length, wrong_reel, answer}
use Rattle.chunk.specs.Reading.{reading}
use Rattle.reel.specs.declared.Reel.{Reel}
use Rattle.reel.specs.declared.trailer.Trailer.{Trailer}
use Rattle.reel.specs.Layout.{entry_width, trailer_width, edition, index_words, reel_crc, reel_words, reel_least, reel_most}
use Rattle.reel.specs.Within.{trailer_of}
use Rattle.reel.proofs.trailer.Agreeing.{too-few, enough, told-n, told-count}
use Rattle.reel.specs.Reading.{same_words, n_of, count_of, crc_of, edition_of, recording_of, index_of, trailer_agrees, index_agrees, accepted, read_reply, told, refused}

-- where the trailer agrees, the reel has the words that it tells of
pub agrees-length : (r : List ℕ) → trailer_agrees r ≡ true → length r ≡ reel_words (n_of r) (count_of r)
unfolding trailer_agrees
agrees-length r e =
    let t : eqb (length r) (reel_words (n_of r) (count_of r)) && eqb (edition_of r) edition ≡ true = and_left _ (eqb (crc_of r) (reel_crc (index_of r) (count_of r) (n_of r))) e in
    eqb-true (length r) (reel_words (n_of r) (count_of r)) (and_left _ (eqb (edition_of r) edition) t)

module _ (sync : ℕ) (r : List ℕ) where
  pub too-short-refused : (v : Reel) → v ≡ refused wrong_length → length r < reel_least → v ≡ read_reply sync r
  unfolding read_reply answer
  too-short-refused v e h = e ∙ sym (simp (lt-ltb (length r) reel_least h))

  pub too-long-refused : (v : Reel) → v ≡ refused wrong_length → reel_most < length r → v ≡ read_reply sync r
  unfolding read_reply answer
  too-long-refused v e h = e ∙ sym (simp (le-ltb (length r) reel_least (omega arith), lt-ltb reel_most (length r) h))

  module _ (low : reel_least ≤ length r) (high : length r ≤ reel_most) where
    pub not-accepted-refused : (v : Reel) → v ≡ refused wrong_reel → accepted sync r ≡ false → v ≡ read_reply sync r
    unfolding read_reply answer
    not-accepted-refused v e a = e ∙ sym (simp (le-ltb (length r) reel_least low, le-ltb reel_most (length r) high, a))

    pub accepted-read : (n count : ℕ) → n ≡ n_of r → count ≡ count_of r → accepted sync r ≡ true → told 0 n count ≡ read_reply sync r
    unfolding read_reply answer
    accepted-read n count en ec a = ap₂ (told 0) en ec ∙ sym (simp (le-ltb (length r) reel_least low, le-ltb reel_most (length r) high, a))

  pub trailer-not-accepted : trailer_agrees r ≡ false → accepted sync r ≡ false
  trailer-not-accepted t = rw t

  module _ (t : trailer_agrees r ≡ true) (n : ℕ) (en : n ≡ n_of r) where
    pub n-not-accepted : reel_limit < n → accepted sync r ≡ false
    n-not-accepted h = rw (t, lt-leb (n_of r) reel_limit (omega arith))

    -- the entries as they stand between the recording and the trailer
    entries-agree : (b : Bool) → b ≡ same_words (take (length r - trailer_width - n) (drop n r)) (index_words (reading sync (take n r))) → b ≡ index_agrees sync r
    unfolding index_agrees
    entries-agree b e =
        let k : length r - trailer_width - n_of r ≡ entry_width * count_of r = omega (arith, agrees-length r t) in
        e ∙ ap (λ (m : ℕ). same_words (take (length r - trailer_width - m) (drop m r)) (index_words (reading sync (take m r)))) en
        ∙ ap (λ (m : ℕ). same_words (take m (drop (n_of r) r)) (index_words (reading sync (recording_of r)))) k

    module _ (h : n ≤ reel_limit) (b : Bool) (e : b ≡ same_words (take (length r - trailer_width - n) (drop n r)) (index_words (reading sync (take n r)))) where
      pub accepted-by-entries : accepted sync r ≡ b
      accepted-by-entries = rw (t, le-leb (n_of r) reel_limit (omega arith)) (sym (entries-agree b e))

-- ---- by the trailer that is found

module _ (sync : ℕ) (r : List ℕ) where
  pub no-trailer : None ≡ trailer_of r → refused wrong_length ≡ read_reply sync r
  no-trailer e = too-short-refused sync r _ refl (too-few r e)

  module _ (t : Trailer) (e : Some t ≡ trailer_of r) where
    pub long : reel_most < length r → refused wrong_length ≡ read_reply sync r
    long h = too-long-refused sync r _ refl h

    module _ (high : length r ≤ reel_most) where
      pub disagreeing : trailer_agrees r ≡ false → refused wrong_reel ≡ read_reply sync r
      disagreeing a = not-accepted-refused sync r (enough r e) high _ refl (trailer-not-accepted sync r a)

      module _ (a : trailer_agrees r ≡ true) where
        -- the recording and the entries stand before it
        pub within : t.n + trailer_width ≤ length r
        within = omega (arith, told-n r e, agrees-length r a)

        pub recording-length : length (take t.n r) ≡ t.n
        recording-length = length-take-le t.n r (omega (arith, within))

        pub above-limit : reel_limit < t.n → refused wrong_reel ≡ read_reply sync r
        above-limit h = not-accepted-refused sync r (enough r e) high _ refl (n-not-accepted sync r a t.n (told-n r e) h)

        module _ (h : t.n ≤ reel_limit) (b : Bool) (q : b ≡ same_words (take (length r - trailer_width - t.n) (drop t.n r)) (index_words (reading sync (take t.n r)))) where
          pub other-entries : b ≡ false → refused wrong_reel ≡ read_reply sync r
          other-entries f = not-accepted-refused sync r (enough r e) high _ refl (accepted-by-entries sync r a t.n (told-n r e) h b q ∙ f)

          pub same-entries : b ≡ true → told 0 t.n t.count ≡ read_reply sync r
          same-entries f = accepted-read sync r (enough r e) high t.n t.count (told-n r e) (told-count r e) (accepted-by-entries sync r a t.n (told-n r e) h b q ∙ f)

pub ruleset reader = (no-trailer, long, disagreeing, within, recording-length, above-limit, other-entries, same-entries)
