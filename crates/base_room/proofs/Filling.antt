-- A room that is filled end to end, part by part: what is left to write, from the place so far on, gives the whole answer.
use mathlib.Core.Path.{◌≡◌, refl, sym, ap, ap₂, ◌∙◌}
use mathlib.Core.List.{List, [], ◌++◌, append_assoc, append-nil}
use Prim.Native.Nat.{ℕ, ◌+◌, ◌-◌, ◌≤◌}
use native.Mathlib.Omega.{arith}
use native.Mathlib.Nat.{add-zero}
use lib.ListN.{length, take, drop, length-append, length-drop, take-append-drop, drop_of_length-le}
use lib.Seq.{take_all, drop-drop}
use borrow.Rule.Slice.PartMut.{put_mid}
use Rattle.base_room.specs.Room.{put}
use Rattle.base_room.proofs.RoomLaws.{put-fits, put-length, put-put}

-- the end of the room from a place on, lent and given back with the words at its front
pub put-lent : (s : List ℕ) (at : ℕ) (d : List ℕ) → at + length s ≤ length d → (end : List ℕ) → end ≡ put s 0 (take (length d - at) (drop at d))
    → put_mid at (length d - at) d end ≡ put s at d
put-lent s at d h end e =
    let l : length (drop at d) ≡ length d - at = length-drop at d in
    let n : length d ≤ at + (length d - at) = omega arith in
    let m : at + (0 + length s) ≡ at + length s = omega arith in
    ap₂ (λ (x y : List ℕ). take at d ++ (x ++ y))
    (e ∙ ap (put s 0) (take_all (length d - at) (drop at d) (omega arith)) ∙ put-fits s 0 (drop at d) (omega arith)
    ∙ ap (λ (r : List ℕ). s ++ r) (drop-drop (0 + length s) at d ∙ ap (λ (k : ℕ). drop k d) m))
    (drop-drop (length d - at) at d ∙ drop_of_length-le d n)
    ∙ ap (λ (r : List ℕ). take at d ++ r) (append-nil (s ++ drop (at + length s) d))
    ∙ sym (append_assoc (take at d) s (drop (at + length s) d)) ∙ sym (put-fits s at d h)

-- nothing is written
pub put-nothing : (at : ℕ) (d : List ℕ) → at ≤ length d → put [] at d ≡ d
put-nothing at d h =
    put-fits [] at d (omega arith) ∙ ap₂ (λ (x y : List ℕ). x ++ y) (append-nil (take at d)) (ap (λ (k : ℕ). drop k d) (add-zero at))
    ∙ take-append-drop at d

pub record Filled (all room₀ : List ℕ) (from : ℕ) (rest room : List ℕ) (at : ℕ) : Type 0 where
  pub fits : at + length rest ≤ length room
  pub long : length room ≡ length room₀
  pub ends : at + length rest ≡ from + length all
  pub left : put rest at room ≡ put all from room₀

module _ (all room₀ : List ℕ) (from : ℕ) where
  pub filled_none : from + length all ≤ length room₀ → Filled all room₀ from all room₀ from
  filled_none h = record { fits = h; long = refl; ends = refl; left = refl }

  module _ (rest room : List ℕ) (at : ℕ) (k : Filled all room₀ from rest room at) where
    pub filled_more : (part more : List ℕ) → rest ≡ part ++ more → (room₁ : List ℕ) → room₁ ≡ put part at room → (at₁ : ℕ) → at₁ ≡ at + length part
        → Filled all room₀ from more room₁ at₁
    filled_more part more e room₁ p at₁ q =
        let n : length rest ≡ length part + length more = ap length e ∙ length-append part more in
        let l : length room₁ ≡ length room = ap length p ∙ put-length part at room in
        record {
          fits = omega (arith, k.fits);
          long = l ∙ k.long;
          ends = omega (arith, k.ends);
          left =
              ap (λ (i : ℕ). put more i room₁) q ∙ ap (put more (at + length part)) p ∙ put-put part more at room (omega (arith, k.fits))
              ∙ ap (λ (r : List ℕ). put r at room) (sym e) ∙ k.left;
        }

    pub filled-all : rest ≡ [] → (room ≡ put all from room₀) × (at ≡ from + length all)
    filled-all e =
        let n : length rest ≡ 0 = ap length e in (
          sym (put-nothing at room (omega (arith, k.fits))) ∙ ap (λ (r : List ℕ). put r at room) (sym e) ∙ k.left,
          omega (arith, k.ends),
        )
