-- Each contract is the tie itself; each refusal is the number of the reply that refuses; and the highest byte or word is the reply's refusal.
use Prim.Native.Nat.{ℕ}
use mathlib.Core.Path.{◌≡◌, refl, ap, ◌∙◌}
use lib.ListN.{length}
use Rattle.base.specs.Refusal.{settled}
use Rattle.base.proofs.Refused.{answer-no, answer-number, settled-refusal}
use Rattle.parity.specs.Unit as unit
use Rattle.parity.proofs.Judging.{judged-refusal, checked-refusal}
use Rattle.chunk_reading.specs.declared.Survey.{Survey}
use Rattle.chunk_outline.specs.declared.Runs.{Runs}
use Rattle.chunk_outline.specs.Outline.{outline_reply}
use Rattle.frame.specs.Described.{described}
use Rattle.frame_reading.specs.declared.Frame.{Frame}
use Rattle.frame_reading.specs.Replies as frame
use Rattle.reel.specs.declared.Reel.{Reel}
use Rattle.reel.specs.Reading as reel
use Rattle.reel_writing.specs.Writing as reels
use Rattle.health_last.specs.declared.Place.{Place}
use Rattle.health_last.specs.Last.{last_place_reply}
use Rattle.health_last.proofs.Placed.{newest-accepted}
use Rattle.space_packet.specs.declared.Sent.{Sent}
use Rattle.space_packet.specs.Reply as packet
use Rattle.command_reading.specs.declared.Command.{Command}
use Rattle.command_reading.specs.Reading as reading
use Rattle.command_writing.specs.Writing as writing
use Rattle.exports.specs.Reply.{in_bytes}
use Rattle.exports.specs.Answer as says
use Rattle.exports.proofs.Bytes.{bytes-say-the-reply}
use Rattle.exports.proofs.Words.{words-say-the-answer}
use Rattle.promises.specs.Ties.{Determined, Answers}
use Rattle.promises.specs.calls.Exports as calls
use Rattle.promises.proofs.Ties.{determined, answers, both}

pub judge-unit : Answers calls.judge_unit
unfolding unit.judge_reply unit.judge_verdict
judge-unit =
    answers calls.judge_unit (λ κs a. tt) (λ κs a x e p. p) (λ κs a. refl) (λ κs a h. ap in_bytes (answer-no _ _ _ h))
    λ κs (unit, _). (bytes-say-the-reply.judged unit.now).refusal ∙ judged-refusal unit.now

pub check-unit : Answers calls.check_unit
unfolding unit.check_reply unit.check_room unit.check_verdict
check-unit =
    answers calls.check_unit (λ κs a. tt) (λ κs a x e p. both p) (λ κs a. refl)
    (λ κs a h. both (ap in_bytes (answer-no _ _ _ h), answer-no _ _ _ h))
    λ κs (unit, (room, _)).
    (bytes-say-the-reply.checked unit.now (length room.now)).refusal ∙ checked-refusal unit.now (length room.now)

-- ---- the answers of four words

-- the highest word of an answer is its number
refusal-said : (v a b c : ℕ) → says.refusal_of (says.in_words v a b c) ≡ v
refusal-said v a b c = (words-say-the-answer.answer v a b c).refusal

pub crc-words : Determined calls.crc_words
crc-words = determined calls.crc_words (λ κs a. tt) λ κs a x e p. p

pub crc-bytes : Determined calls.crc_bytes
crc-bytes = determined calls.crc_bytes (λ κs a. tt) λ κs a x e p. p

pub write-unit : Answers calls.write_unit
unfolding settled unit.write_reply unit.write_room unit.write_verdict says.written
write-unit =
    answers calls.write_unit (λ κs a. tt) (λ κs a x e p. both p) (λ κs a. refl) (λ κs a h. both (ap says.written (answer-no _ _ _ h), answer-no _ _ _ h))
    λ κs a. refusal-said _ _ _ _ ∙ settled-refusal _ _

pub survey : Answers calls.survey
unfolding says.surveyed
survey =
    answers calls.survey (λ κs a. tt) (λ κs a x e p. p) (λ κs a. refl) (λ κs a h. ap says.surveyed (answer-no _ _ _ h))
    λ κs a. refusal-said _ _ _ _ ∙ answer-number (λ (x : Survey). x.refusal) _ _ _ refl (λ z. refl)

pub outline : Answers calls.outline
unfolding outline_reply says.outlined
outline =
    answers calls.outline (λ κs a. tt) (λ κs a x e p. p) (λ κs a. refl) (λ κs a h. ap says.outlined (answer-no _ _ _ h))
    λ κs a. refusal-said _ _ _ _ ∙ answer-number (λ (x : Runs). x.refusal) _ _ _ refl (λ z. refl)

pub read-frame : Answers calls.read_frame
unfolding frame.read_reply frame.read_room described says.framed
read-frame =
    answers calls.read_frame (λ κs a. tt) (λ κs a x e p. both p) (λ κs a. refl) (λ κs a h. both (ap says.framed (answer-no _ _ _ h), answer-no _ _ _ h))
    λ κs a. refusal-said _ _ _ _ ∙ answer-number (λ (x : Frame). x.refusal) _ _ _ refl (λ z. refl)

pub write-reel : Answers calls.write_reel
unfolding settled reels.write_reply reels.write_room says.written
write-reel =
    answers calls.write_reel (λ κs a. tt) (λ κs a x e p. both p) (λ κs a. refl) (λ κs a h. both (ap says.written (answer-no _ _ _ h), answer-no _ _ _ h))
    λ κs a. refusal-said _ _ _ _ ∙ settled-refusal _ _

pub read-reel : Answers calls.read_reel
unfolding reel.read_reply says.reeled
read-reel =
    answers calls.read_reel (λ κs a. tt) (λ κs a x e p. p) (λ κs a. refl) (λ κs a h. ap says.reeled (answer-no _ _ _ h))
    λ κs a. refusal-said _ _ _ _ ∙ answer-number (λ (x : Reel). x.refusal) _ _ _ refl (λ z. refl)

pub last-place : Answers calls.last_place
unfolding last_place_reply says.placed
last-place =
    answers calls.last_place (λ κs a. tt) (λ κs a x e p. p) (λ κs a. refl) (λ κs a h. ap says.placed (answer-no _ _ _ h))
    λ κs a. refusal-said _ _ _ _ ∙ answer-number (λ (x : Place). x.refusal) _ _ _ refl (λ z. newest-accepted _ _ _ _)

pub read-packet : Answers calls.read_packet
unfolding says.packet_reply says.packet_room
read-packet =
    answers calls.read_packet (λ κs a. tt) (λ κs a x e p. both p) (λ κs a. refl) (λ κs a h. both (answer-no _ _ _ h, answer-no _ _ _ h))
    λ κs a. answer-number says.refusal_of _ _ _ (refusal-said _ _ _ _) (λ z. refusal-said _ _ _ _)

pub read-command : Answers calls.read_command
unfolding reading.read_reply reading.given says.commanded says.fields_after
read-command =
    answers calls.read_command (λ κs a. tt) (λ κs a x e p. both p) (λ κs a. refl)
    (λ κs (_, (_, (_, (fields, _)))) h.
    let e = answer-no _ _ _ h in
    both (ap says.commanded e, ap (λ (c : Command). says.fields_after c fields.now) e ∙ answer-no _ _ _ h))
    λ κs a. refusal-said _ _ _ _ ∙ answer-number (λ (x : Command). x.refusal) _ _ _ refl (λ z. refl)

pub write-command : Answers calls.write_command
unfolding packet.settled writing.write_reply writing.write_room says.sent
write-command =
    answers calls.write_command (λ κs a. tt) (λ κs a x e p. both p) (λ κs a. refl) (λ κs a h. both (ap says.sent (answer-no _ _ _ h), answer-no _ _ _ h))
    λ κs a. refusal-said _ _ _ _ ∙ answer-number (λ (x : Sent). x.refusal) _ _ _ refl (λ z. refl)
