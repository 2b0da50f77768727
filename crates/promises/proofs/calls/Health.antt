-- Each contract is the tie itself; each refusal is the first arm of `answer`, and the number stands in both arms.
use Prim.Native.Nat.{ℕ}
use mathlib.Core.Path.{◌≡◌, refl, ap, ◌∙◌}
use mathlib.Core.Bool.{false}
use mathlib.Core.List.{List, []}
use Rattle.base.specs.Refusal.{settled}
use Rattle.base.proofs.Refused.{answer-no, settled-refusal, answer-number}
use Rattle.health.specs.declared.packet.Packet.{Packet}
use Rattle.health.specs.Reading.{read_reply}
use Rattle.health.specs.Writing.{write_room}
use Rattle.health_observation.specs.declared.Observed.{Observed}
use Rattle.health_observation.specs.Observation.{observation_reply}
use Rattle.health_checksums.specs.Checksums.{checksums_reply}
use Rattle.health_upsets.specs.declared.UpsetTable.{UpsetTable}
use Rattle.health_upsets.specs.Upsets.{upsets_reply}
use Rattle.health_last.specs.declared.Place.{Place}
use Rattle.health_last.specs.Last as last
use Rattle.health_last.proofs.Placed.{newest-accepted}
use Rattle.promises.specs.Ties.{Determined, Answers}
use Rattle.promises.specs.calls.Health as calls
use Rattle.promises.proofs.Ties.{determined, answers, both}

pub judge : Answers calls.judge
judge = answers calls.judge (λ κs a. tt) (λ κs a x e p. p) (λ κs a. refl) (λ κs a h. refl) λ κs a. refl

pub sound-at : Determined calls.sound_at
sound-at = determined calls.sound_at (λ κs a. tt) λ κs a x e p. p

pub read-packet : Answers calls.read_packet
unfolding read_reply
read-packet =
    answers calls.read_packet (λ κs a. tt) (λ κs a x e p. p) (λ κs a. refl) (λ κs a h. answer-no _ _ _ h)
    λ κs a. answer-number (λ (x : Packet). x.refusal) _ _ _ refl (λ z. refl)

pub write-packet : Answers calls.write_packet
unfolding settled write_room
write-packet =
    answers calls.write_packet (λ κs a. tt) (λ κs a x e p. both p) (λ κs a. refl) (λ κs a h. both (answer-no _ _ _ h, answer-no _ _ _ h))
    λ κs a. settled-refusal _ _

pub observation : Answers calls.observation
unfolding observation_reply
observation =
    answers calls.observation (λ κs a. tt) (λ κs a x e p. p) (λ κs a. refl) (λ κs a h. answer-no _ _ _ h)
    λ κs a. answer-number (λ (x : Observed). x.refusal) _ _ _ refl (λ z. refl)

pub checksums-refusal : Answers calls.checksums_refusal
checksums-refusal = answers calls.checksums_refusal (λ κs a. tt) (λ κs a x e p. p) (λ κs a. refl) (λ κs a h. refl) λ κs a. refl

pub checksums : Answers calls.checksums
unfolding checksums_reply
checksums = answers calls.checksums (λ κs a. tt) (λ κs a x e p. p) (λ κs a. refl) (λ κs a h. answer-no _ _ _ h) λ κs a. tt

pub upsets : Answers calls.upsets
unfolding upsets_reply
upsets =
    answers calls.upsets (λ κs a. tt) (λ κs a x e p. p) (λ κs a. refl) (λ κs a h. answer-no _ _ _ h)
    λ κs a. answer-number (λ (x : UpsetTable). x.refusal) _ _ _ refl (λ z. refl)

pub last-place : Answers calls.last_place
unfolding last.last_place_reply
last-place =
    answers calls.last_place (λ κs a. tt) (λ κs a x e p. p) (λ κs a. refl) (λ κs a h. answer-no _ _ _ h)
    λ κs a. answer-number (λ (x : Place). x.refusal) _ _ _ refl (λ z. newest-accepted _ _ _ _)

-- where nothing is shown, no part of a recording is
no_part : (v : ℕ) (science health : List ℕ) → last.part_at (last.place v 0 0 false) science health ≡ []
unfolding last.part_at
no_part v science health = refl

pub last-packet : Answers calls.last_packet
unfolding last.last_place_reply
last-packet =
    answers calls.last_packet (λ κs a. tt) (λ κs a x e p. p) (λ κs a. refl)
    (λ κs (science, (_, (health, _))) h.
    ap (λ (s : Place). last.part_at s science.now health.now) (answer-no _ _ _ h) ∙ no_part _ science.now health.now)
    λ κs a. tt
