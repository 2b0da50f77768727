-- Lent room after a write, and a part of a lent slice: two writes end to end are one.
use mathlib.Core.Path.{◌≡◌, refl, sym, ap, ap₂, ◌∙◌}
use mathlib.Core.Bool.{Bool, true, false, cond}
use mathlib.Core.List.{List, ◌++◌, append_assoc}
use Prim.Native.Nat.{ℕ, ◌+◌, ◌-◌, ◌≤◌, ◌<◌}
use native.Mathlib.Nat.{zero-add}
use native.Mathlib.Omega.{arith}
use lib.ListN.{length, take, drop, length-append, length-drop}
use lib.Seq.{take_at, drop_at, drop-drop, length-take-le, take_all}
use lib.Dec.{leb}
use Rattle.std.proofs.Math.Seq.{paste}
use Rattle.std.proofs.lemmas.List.Edits.{paste_none, paste_more, paste_all, length-paste}
use borrow.Author.Tests.{le-leb, lt-leb, leb-true}
use Rattle.base.specs.Refusal.{answer, settled}
use Rattle.base.proofs.Refused.{answer-yes, settled-refusal, settled-length}
use Rattle.base_room.specs.Room.{put}

module _ {A : Type 0} where
  pub put-fits : (s : List A) (at : ℕ) (d : List A) → at + length s ≤ length d → put s at d ≡ take at d ++ s ++ drop (at + length s) d
  unfolding put
  put-fits s at d h = rw (le-leb (at + length s) (length d) h)

  pub put-none : (s : List A) (at : ℕ) (d : List A) → length d < at + length s → put s at d ≡ d
  unfolding put
  put-none s at d h = rw (lt-leb (at + length s) (length d) h)

  -- what has been written, with what is before it
  front : (s : List A) (at : ℕ) (d : List A) → at ≤ length d → length (take at d ++ s) ≡ at + length s
  front s at d h = length-append (take at d) s ∙ ap (λ (n : ℕ). n + length s) (length-take-le at d h)

  pub put-length : (s : List A) (at : ℕ) (d : List A) → length (put s at d) ≡ length d
  unfolding put
  put-length s at d = go (leb (at + length s) (length d)) refl
    where
      go : (b : Bool) → leb (at + length s) (length d) ≡ b → length (cond b (take at d ++ s ++ drop (at + length s) d) d) ≡ length d
      go true e =
          let h : at + length s ≤ length d = leb-true (at + length s) (length d) e in
          omega (arith, length-append (take at d ++ s) (drop (at + length s) d), front s at d (omega arith), length-drop (at + length s) d)
      go false e = refl

  -- two writes end to end are one
  pub put-put : (s t : List A) (at : ℕ) (d : List A) → at + length s + length t ≤ length d → put t (at + length s) (put s at d) ≡ put (s ++ t) at d
  put-put s t at d h =
      let p : List A = take at d ++ s in
      let r : List A = drop (at + length s) d in
      let n : length p ≡ at + length s = front s at d (omega arith) in
      let l : length (p ++ r) ≡ length d = ap length (sym (put-fits s at d (omega arith))) ∙ put-length s at d in
      let k : length (s ++ t) ≡ length s + length t = length-append s t in
      let e : at + length s + length t ≡ at + length (s ++ t) = omega arith in
      ap (put t (at + length s)) (put-fits s at d (omega arith))
      ∙ put-fits t (at + length s) (p ++ r) (omega arith)
      ∙ ap (λ (x : List A). x ++ t ++ drop (at + length s + length t) (p ++ r)) (take_at p r (at + length s) n)
      ∙ ap (λ (x : List A). p ++ t ++ x) (sym (drop-drop (length t) (at + length s) (p ++ r)) ∙ ap (drop (length t)) (drop_at p r (at + length s) n) ∙ drop-drop (length t) (at + length s) d)
      ∙ ap (λ (x : List A). x ++ drop (at + length s + length t) d) (append_assoc (take at d) s t)
      ∙ ap (λ (m : ℕ). take at d ++ (s ++ t) ++ drop m d) e
      ∙ sym (put-fits (s ++ t) at d (omega arith))

  -- a copy of all of `s` from the place on, element by element
  pub put-pasted : (s : List A) (at n : ℕ) (d : List A) → at + length s ≤ length d → n ≡ length s → paste d at s n ≡ put s at d
  put-pasted s at n d h e =
      paste_all d at s n e
      ∙ ap (λ (m : ℕ). take at d ++ (s ++ drop (at + m) d)) e
      ∙ sym (append_assoc (take at d) s (drop (at + length s) d))
      ∙ sym (put-fits s at d h)

  -- one written to the front, and then the other after it
  pub put-both : (s t d one both : List A) → length s + length t ≤ length d → one ≡ put s 0 d → both ≡ put t (length s) one → both ≡ put (s ++ t) 0 d
  put-both s t d one both h e f =
      f ∙ ap (put t (length s)) e ∙ ap (λ (n : ℕ). put t n (put s 0 d)) (sym (zero-add (length s))) ∙ put-put s t 0 d (omega arith)

  pub put-both_none : (s t d : List A) → length d < length s + length t → d ≡ put (s ++ t) 0 d
  put-both_none s t d h = sym (put-none (s ++ t) 0 d (omega (arith, length-append s t)))

  -- what was written to the front of the room stands there
  pub put_front : (n : ℕ) (s d : List A) → length s ≡ n → n ≤ length d → take n (put s 0 d) ≡ s
  put_front n s d l h = ap (take n) (put-fits s 0 d (omega arith)) ∙ take_at s (drop (0 + length s) d) n l

-- what a writer that accepts left at the front of the room, as many words as it answers, is what it writes
pub writer-left : (v n : ℕ) (s room : List ℕ) → length s ≡ n → n ≤ length room → (settled v n).refusal ≡ 0
    → take (settled v n).length.0 (answer v (λ x. room) (put s 0 room)) ≡ s
writer-left v n s room l h z =
    let e : v ≡ 0 = sym (settled-refusal v n) ∙ z in
    ap₂ take (settled-length v n e) (answer-yes v (λ x. room) (put s 0 room) e) ∙ put_front n s room l h

-- a part from a place on is what stands there up to the end
pub to_end : (n : ℕ) (ws : List ℕ) → take (length ws - n) (drop n ws) ≡ drop n ws
to_end n ws = take_all (length ws - n) (drop n ws) (omega (arith, length-drop n ws))

pub ruleset put_laws = (put-pasted, put-none, put-both, put-both_none, paste_none, paste_more, length-paste)
