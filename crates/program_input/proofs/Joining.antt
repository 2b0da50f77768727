-- The words of bytes, one after the other, and the room on both ways out.
use mathlib.Core.Path.{◌≡◌, refl, sym, ap, ◌∙◌}
use mathlib.Core.Bool.{Bool, true, false, cond, ◌||◌}
use mathlib.Core.List.{List, [], ◌∷◌}
use Prim.Native.Nat.{ℕ, zero, suc, ◌+◌, ◌*◌, ◌/◌, ◌%◌, ◌≤◌, ◌<◌}
use native.Mathlib.Nat.{zero-add}
use native.Mathlib.Omega.{arith}
use lib.ListN.{length, get_or, set}
use lib.Seq.{paste, take-length}
use lib.Dec.{ltb, eqb}
use borrow.Author.Tests.{ltb-false, eqb-false}
use Rattle.std.specs.Simd.{first_chunks}
use Rattle.base.specs.Number.{word}
use Rattle.base.specs.Refusal.{verdict, answer}
use Rattle.base_room.specs.Room.{put}
use Rattle.base.specs.declared.Written.{Written}
use Rattle.base.proofs.Booleans.{or-false}
use Rattle.base.proofs.Refused.{spared, answer-no, answer-yes, settled-refusal, settled-length}
use Rattle.base_room.proofs.RoomLaws.{put-fits, put-length}
use Rattle.std.proofs.lemmas.List.Edits.{paste_more}
use Rattle.program_input.specs.Input.{words_of, words_causes, words_reply, words_room}

pub words-length : (bytes : List ℕ) → length (words_of bytes) ≡ length bytes / 2
unfolding words_of
words-length [] = refl
words-length (h ∷ []) = omega arith
words-length (h ∷ l ∷ bytes) = omega (arith, words-length bytes)

-- the i-th word is made of the i-th pair of bytes
pub word-at : (bytes : List ℕ) (k i : ℕ) → i < k → 2 * k ≤ length bytes
    → get_or (words_of bytes) i 0 ≡ word (get_or (get_or (first_chunks 2 k bytes) i []) 0 0) (get_or (get_or (first_chunks 2 k bytes) i []) 1 0)
unfolding words_of
word-at bytes zero i h l = absurd (omega arith)
word-at [] (suc k) i h l = absurd (omega arith)
word-at (b ∷ []) (suc k) i h l = absurd (omega arith)
word-at (b ∷ c ∷ bytes) (suc k) zero h l = refl
word-at (b ∷ c ∷ bytes) (suc k) (suc i) h l = word-at bytes k i (omega arith) (omega arith)

-- one turn of the loop
pub joined : (bytes room₀ : List ℕ) (pairs : List (List ℕ)) (i w : ℕ) → pairs ≡ first_chunks 2 (length bytes / 2) bytes → i < length bytes / 2
    → length bytes / 2 ≤ length room₀ → w ≡ word (get_or (get_or pairs i []) 0 0) (get_or (get_or pairs i []) 1 0)
    → set (paste room₀ 0 (words_of bytes) i) i w ≡ paste room₀ 0 (words_of bytes) (i + 1)
joined bytes room₀ pairs i w p h fit e =
    let l : length (words_of bytes) ≡ length bytes / 2 = words-length bytes in
    let made : get_or (words_of bytes) i 0 ≡ w =
    word-at bytes (length bytes / 2) i h (omega arith)
    ∙ sym (e ∙ ap (λ (ps : List (List ℕ)). word (get_or (get_or ps i []) 0 0) (get_or (get_or ps i []) 1 0)) p) in
    ap (λ (k : ℕ). set (paste room₀ 0 (words_of bytes) i) k w) (sym (zero-add i))
    ∙ rw made at (paste_more room₀ 0 (words_of bytes) i 0 (omega arith) (omega arith))

module _ (bytes : List ℕ) (most : ℕ) (room : List ℕ) (r : Written) (e : r ≡ words_reply (length bytes) most (length room)) where
  number : r.refusal ≡ verdict (words_causes (length bytes) most (length room))
  unfolding words_reply
  number = ap (λ (x : Written). x.refusal) e ∙ settled-refusal (verdict (words_causes (length bytes) most (length room))) (length bytes / 2)

  pub untouched : (r.refusal ≡ 0 → ⊥) → room ≡ words_room bytes most room
  unfolding words_room
  untouched h = sym (answer-no _ _ _ (λ z. h (number ∙ z)))

  module _ (z : r.refusal ≡ 0) where
    pub fits : length bytes / 2 ≤ length room
    fits =
        ltb-false (length room) (length bytes / 2) (spared (words_causes (length bytes) most (length room)) refl (sym number ∙ z)).1.0

    pub written : paste room 0 (words_of bytes) (length bytes / 2) ≡ words_room bytes most room
    unfolding words_room
    written =
        let l : length (words_of bytes) ≡ length bytes / 2 = words-length bytes in
        let front : 0 + length (words_of bytes) ≤ length room = omega (arith, fits) in
        rw (sym l, take-length) (sym (put-fits (words_of bytes) 0 room front))
        ∙ sym (answer-yes _ _ _ (sym number ∙ z))

pub room-length : (bytes : List ℕ) (most : ℕ) (room : List ℕ) → length (words_room bytes most room) ≡ length room
unfolding words_room answer
room-length bytes most room = by-test (eqb (verdict (words_causes (length bytes) most (length room))) 0)
  where
    by-test : (b : Bool) → length (cond b (put (words_of bytes) 0 room) room) ≡ length room
    by-test true = put-length (words_of bytes) 0 room
    by-test false = refl

-- an input that is taken has a word at the least, and no more than the room
pub accepted-length : (n most m : ℕ) (r : Written) → r ≡ words_reply n most m → r.refusal ≡ 0 → (1 ≤ r.length.0) × (r.length.0 ≤ m)
unfolding words_reply
accepted-length n most m r e z =
    let v : ℕ = verdict (words_causes n most m) in
    let none : v ≡ 0 = sym (ap (λ (x : Written). x.refusal) e ∙ settled-refusal v (n / 2)) ∙ z in
    let l : r.length.0 ≡ n / 2 = ap (λ (x : Written). x.length.0) e ∙ settled-length v (n / 2) none in
    let spare = spared (words_causes n most m) refl none in
    let low = (or-false (eqb (n % 2) 1 || eqb n 0) (ltb (2 * (1 + most)) n) spare.0).0 in
    let tests = or-false (eqb (n % 2) 1) (eqb n 0) low in
    let fit : n / 2 ≤ m = ltb-false m (n / 2) spare.1.0 in
    (omega (arith, eqb-false (n % 2) 1 tests.0, eqb-false n 0 tests.1), omega arith)

-- and its words end within the room
pub accepted : (bytes : List ℕ) (most : ℕ) (room written : List ℕ) (r : Written) → r ≡ words_reply (length bytes) most (length room)
    → written ≡ words_room bytes most room → r.refusal ≡ 0 → (1 ≤ r.length.0) × (r.length.0 ≤ length written)
accepted bytes most room written r e w z =
    let h = accepted-length (length bytes) most (length room) r e z in
    (h.0, omega (arith, h.1, ap length w ∙ room-length bytes most room))
