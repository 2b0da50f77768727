-- Sound packets: their verdict is 0, and they have 32 words.
use mathlib.Core.Path.{◌≡◌, refl, sym, ◌∙◌}
use mathlib.Core.Bool.{Bool, true, false, cond, not, ◌&&◌}
use mathlib.Core.List.{List}
use Prim.Native.Nat.{ℕ, ◌+◌, ◌<◌}
use native.Mathlib.Omega.{arith}
use lib.ListN.{length, take, drop, length-take, length-drop}
use lib.Dec.{eqb}
use borrow.Author.Tests.{ne_eqb, eqb-true, not-false}
use Rattle.base.proofs.Booleans.{and_left}
use Rattle.base.specs.Refusal.{verdict}
use Rattle.base.proofs.Refused.{spared}
use Rattle.health.specs.Packet.{sound_packet, crc_right, permitted_type, type_of_packet}
use Rattle.health.specs.Reading.{read_causes, judge_causes}

none-holds : (a b c : Bool) → eqb (cond (not a) 1 (cond (not b) 5 (cond (not c) 7 0))) 0 ≡ a && b && c
none-holds true true true = refl
none-holds true true false = refl
none-holds true false c = refl
none-holds false b c = refl

-- the reader refuses exactly what is not sound
pub sound_verdict : (p : List ℕ) → eqb (verdict (read_causes p)) 0 ≡ sound_packet p
unfolding sound_packet
sound_verdict p = none-holds (eqb (length p) 32) (crc_right p) (permitted_type (type_of_packet p))

pub not-long : (p : List ℕ) → (length p ≡ 32 → ⊥) → sound_packet p ≡ false
unfolding sound_packet
not-long p h = simp (ne_eqb (length p) 32 h)

pub sound-long : (p : List ℕ) → sound_packet p ≡ true → length p ≡ 32
unfolding sound_packet
sound-long p e =
    let long = eqb (length p) 32 in
    eqb-true (length p) 32 (and_left long (crc_right p) (and_left (long && crc_right p) (permitted_type (type_of_packet p)) e))

-- a verdict of 0 is given to 32 words alone
pub judged-long : (odd : Bool) (p : List ℕ) {v : ℕ} → v ≡ verdict (judge_causes p odd) → v ≡ 0 → length p ≡ 32
judged-long odd p e z = eqb-true (length p) 32 (not-false (eqb (length p) 32) (spared (judge_causes p odd) refl (sym e ∙ z)).0)

-- a verdict of 0 is given to what is the reader's own alone
pub judged-own : (own : Bool) (p : List ℕ) {v : ℕ} → v ≡ verdict (judge_causes p (not own)) → v ≡ 0 → own ≡ true
judged-own own p e z = not-false own (spared (judge_causes p (not own)) refl (sym e ∙ z)).1.1.0

-- a part that reaches past the end has fewer words
pub none_there : (ws : List ℕ) (at : ℕ) → length ws < at + 32 → sound_packet (take 32 (drop at ws)) ≡ false
none_there ws at h = not-long _ (λ e. omega (arith, e, length-take 32 (drop at ws), length-drop at ws))
