-- The checker's room: untouched on a refusal, else the data as they stand, or with the data bit that was hit flipped back.
use mathlib.Core.Path.{◌≡◌, refl, sym, ap, ap₂, ◌∙◌}
use mathlib.Core.List.{List, ◌++◌}
use Prim.Native.Nat.{ℕ, ◌+◌, ◌-◌, ◌*◌, ◌%◌, ◌^◌, ◌<◌, ◌≤◌}
use native.Mathlib.Nat.{one-mul}
use native.Mathlib.Omega.{arith}
use lib.Dec.{lit<}
use lib.Pow.{shl_exact}
use lib.ListN.{length, get_or, take, drop, set, length-drop, length-set, get_or-append}
use lib.Seq.{set-append_left}
use borrow.Author.Tests.{ltb-false}
use Rattle.base.specs.Xor.{◌xor◌}
use Rattle.base_room.specs.Room.{put}
use Rattle.base.proofs.Refused.{answer-no, answer-yes, spared}
use Rattle.base_room.proofs.RoomLaws.{put-fits, put-length, to_end}
use Rattle.parity.specs.declared.Case.TheVariants.{Sound, ParityBit, DataBit}
use Rattle.parity.specs.declared.Judged.{Judged}
use Rattle.parity.specs.Unit.{Finding, sound, parity_bit, data_bit, neither, flipped, finding, named, repaired, unit_data, check_causes, check_verdict, check_reply, check_room}
use Rattle.parity.proofs.Cases.{Within, data-within}
use Rattle.parity.proofs.Judging.{between, checked-refusal}

-- a bit is flipped in the room as in the words that were put there
flip-put : (d room : List ℕ) (w b : ℕ) → w < length d → length d ≤ length room → flipped (put d 0 room) w b ≡ put (flipped d w b) 0 room
unfolding flipped
flip-put d room w b h fits =
    let t : List ℕ = drop (0 + length d) room in
    let x : ℕ = get_or d w 0 xor 2 ^ b in
    ap (λ (s : List ℕ). set s w (get_or s w 0 xor 2 ^ b)) (put-fits d 0 room (omega arith))
    ∙ ap (λ (y : ℕ). set (d ++ t) w (y xor 2 ^ b)) (get_or-append d t 0 w h)
    ∙ set-append_left d t w x h
    ∙ ap (λ (m : ℕ). set d w x ++ drop (0 + m) room) (sym (length-set d w x))
    ∙ sym (put-fits (set d w x) 0 room (omega (arith, length-set d w x)))

-- from the case of a reply: only a data bit changes the data, in the word and the bit that it names
module _ (d : List ℕ) (k : ℕ) (r : Judged) where
  other-case-stands : (f : Finding) → r ≡ named f k → (r.case ≡ DataBit → ⊥) → repaired f d ≡ d
  other-case-stands sound p h = refl
  other-case-stands (parity_bit w b) p h = refl
  other-case-stands (data_bit w b) p h = absurd (h (ap (λ (s : Judged). s.case) p))
  other-case-stands neither p h = refl

  data-bit-flips : (f : Finding) → Within k f → r ≡ named f k → r.case ≡ DataBit
      → (r.word.0 < k) × (r.bit < 16) × (repaired f d ≡ flipped d r.word.0 r.bit)
  data-bit-flips sound i p h = let e : Sound ≡ DataBit = sym (ap (λ (s : Judged). s.case) p) ∙ h in absurd (cc)
  data-bit-flips (parity_bit w b) i p h = let e : ParityBit ≡ DataBit = sym (ap (λ (s : Judged). s.case) p) ∙ h in absurd (cc)
  data-bit-flips (data_bit w b) i p h =
      let q : r.word.0 ≡ w = ap (λ (s : Judged). s.word.0) p in
      let t : r.bit ≡ b = ap (λ (s : Judged). s.bit) p in
      (omega (arith, i.0), omega (arith, i.1), ap₂ (λ (x y : ℕ). flipped d x y) (sym q) (sym t))
  data-bit-flips neither i p h = let e : Sound ≡ DataBit = sym (ap (λ (s : Judged). s.case) p) ∙ h in absurd (cc)

module _ (u room : List ℕ) (r : Judged) (e : r ≡ check_reply u (length room)) where
  reply-number : r.refusal ≡ check_verdict u (length room)
  reply-number = ap (λ (s : Judged). s.refusal) e ∙ checked-refusal u (length room)

  pub untouched : (r.refusal ≡ 0 → ⊥) → room ≡ check_room u room
  unfolding check_room
  untouched h = sym (answer-no _ _ _ (λ z. h (reply-number ∙ z)))

  module _ (z : r.refusal ≡ 0) where
    reply-named : r ≡ named (finding u) (length u - 8)
    unfolding check_reply
    reply-named = e ∙ answer-yes _ _ _ (sym reply-number ∙ z)

    pub unit-length : (9 ≤ length u) × (length u ≤ 264)
    unfolding check_verdict
    unit-length = between 9 264 (length u) (spared (check_causes u (length room)) refl (sym reply-number ∙ z)).0

    data-fit : length (drop 8 u) ≤ length room
    unfolding check_verdict
    data-fit = omega (arith, length-drop 8 u, ltb-false (length room) (length u - 8) (spared (check_causes u (length room)) refl (sym reply-number ∙ z)).1.1.0)

    data-flipped : r.case ≡ DataBit → (r.word.0 < length u - 8) × (r.bit < 16) × (unit_data u ≡ flipped (drop 8 u) r.word.0 r.bit)
    unfolding unit_data
    data-flipped = data-bit-flips (drop 8 u) (length u - 8) r (finding u) (data-within u) reply-named

    pub bit-in-word : r.case ≡ DataBit → r.bit < 16
    bit-in-word h = (data-flipped h).1

    pub word-below-256 : r.case ≡ DataBit → r.word.0 < 256
    word-below-256 h = omega (arith, (data-flipped h).0, unit-length.1)

    module _ (room₁ : List ℕ) (p : room₁ ≡ put (take (length u - 8) (drop 8 u)) 0 room) where
      data-put : room₁ ≡ put (drop 8 u) 0 room
      data-put = p ∙ ap (λ (s : List ℕ). put s 0 room) (to_end 8 u)

      accepted-room : put (unit_data u) 0 room ≡ check_room u room
      unfolding check_room
      accepted-room = sym (answer-yes _ _ _ (sym reply-number ∙ z))

      pub data-as-they-stand : (r.case ≡ DataBit → ⊥) → room₁ ≡ check_room u room
      unfolding unit_data
      data-as-they-stand h =
          data-put ∙ ap (λ (s : List ℕ). put s 0 room) (sym (other-case-stands (drop 8 u) (length u - 8) r (finding u) reply-named h)) ∙ accepted-room

      pub word-in-room : r.case ≡ DataBit → r.word.0 < length room₁
      word-in-room h = omega (arith, (data-flipped h).0, data-fit, length-drop 8 u, ap length p ∙ put-length (take (length u - 8) (drop 8 u)) 0 room)

      pub data-repaired : r.case ≡ DataBit → set room₁ r.word.0 (get_or room₁ r.word.0 0 xor 1 * 2 ^ r.bit % 2 ^ 16) ≡ check_room u room
      unfolding flipped
      data-repaired h =
          let w = r.word.0 in
          ap₂ (λ (s : List ℕ) (x : ℕ). set s w (get_or s w 0 xor x)) data-put (shl_exact 1 r.bit 16 (lit< tt) (omega (arith, bit-in-word h)) ∙ one-mul (2 ^ r.bit))
          ∙ flip-put (drop 8 u) room w r.bit (omega (arith, (data-flipped h).0, length-drop 8 u)) data-fit
          ∙ ap (λ (s : List ℕ). put s 0 room) (sym (data-flipped h).2)
          ∙ accepted-room
