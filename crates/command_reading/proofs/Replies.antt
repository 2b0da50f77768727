-- The reader's reply on its two ways out: refused by the arguments or the total, or with the whole packet looked at.
use mathlib.Core.Path.{◌≡◌, refl, sym, ap, ◌∙◌}
use mathlib.Core.Bool.{Bool, false, cond}
use mathlib.Core.List.{List, []}
use Prim.Native.Nat.{ℕ, ◌-◌, ◌≤◌}
use native.Mathlib.Omega.{arith}
use lib.ListN.{length, take, drop}
use Rattle.base.specs.Refusal.{Causes, verdict, wrong_header, wrong_crc}
use Rattle.base.proofs.Refused.{verdict-front, cause-by-parts, verdict-kept, verdict-further, answer-no, answer-yes, answer-number}
use Rattle.space_packet.specs.Header.{header_wrong, crc_wrong}
use Rattle.command.specs.declared.Fields.{Fields}
use Rattle.command_reading.specs.declared.Command.{Command}
use Rattle.command.specs.Layout.{packet_id, fields_in}
use Rattle.command_catalogue.specs.Rules.{asked_wrong, judge_causes}
use Rattle.command.specs.Asking.{first_causes, last_causes}
use Rattle.command.proofs.Verdicts.{argument-right, total-within, judged-last}
use Rattle.command_reading.specs.Reading.{command, refused, packet_causes, read_causes, given, read_reply, further_reply}

-- ---- the verdict on a packet

pub packet-by-causes : (c m : ℕ) (f : Fields) (bs : List ℕ) → asked_wrong c m ≡ false → {o s r : ℕ} {h k : Bool}
    → o ≡ verdict (judge_causes c m f.command_type f.qualifier f.address f.«data» (take (length bs - 2 - 12) (drop 12 bs)))
    → h ≡ header_wrong packet_id bs → k ≡ crc_wrong bs → s ≡ cond k wrong_crc o → r ≡ cond h wrong_header s → r ≡ verdict (packet_causes c m f bs)
packet-by-causes c m f bs asked eo eh ek es er =
    let l : length bs - 2 - 12 ≡ length bs - 14 = omega arith in
    let judged = eo ∙ judged-last c m f (take (length bs - 2 - 12) (drop 12 bs)) asked ∙ ap (λ (n : ℕ). verdict (last_causes c m f (take n (drop 12 bs)))) l in
    er ∙ cause-by-parts wrong_header eh (es ∙ cause-by-parts wrong_crc ek judged)

-- ---- the replies

-- a refused reply is the same whatever it would have given
refused-alike : (v : ℕ) (f g : Fields) (m n : ℕ) → (v ≡ 0 → ⊥) → given v f m ≡ given v g n
unfolding given
refused-alike v f g m n h = answer-no v _ _ h ∙ sym (answer-no v _ _ h)

pub given-refusal : (v : ℕ) (f : Fields) (n : ℕ) → (given v f n).refusal ≡ v
unfolding given
given-refusal v f n = answer-number (λ (r : Command). r.refusal) v refused (command 0 f n) refl (λ z. refl)

module _ (c m : ℕ) (bs : List ℕ) where
  abbrev early : Causes
  early = first_causes (asked_wrong c m) c (length bs)

  abbrev late : Causes
  late = packet_causes c m (fields_in bs) bs

  module _ {a : Bool} {v : ℕ} (ea : a ≡ asked_wrong c m) (ev : v ≡ verdict (first_causes a c (length bs))) where
    e : v ≡ verdict early
    e = ev ∙ ap (λ (b : Bool). verdict (first_causes b c (length bs))) ea

    -- what is left where neither the arguments nor the total are refused
    pub asked-within : v ≡ 0 → (asked_wrong c m ≡ false) × (14 ≤ length bs)
    asked-within z = (argument-right (asked_wrong c m) c (length bs) (sym e ∙ z), (total-within (asked_wrong c m) c (length bs) (sym e ∙ z)).0)

    -- refused by the arguments or the total
    pub refused-at-first : (v ≡ 0 → ⊥) → (f : Fields) {r : Command} → r ≡ given v f 0 → r ≡ read_reply c m bs
    unfolding read_reply
    refused-at-first h f is =
        is ∙ refused-alike v f (fields_in bs) 0 (length bs - 14) h
        ∙ ap (λ (x : ℕ). given x (fields_in bs) (length bs - 14)) (e ∙ sym (verdict-kept early late (λ z. h (e ∙ z))))

    -- looked at whole
    pub read_whole : v ≡ 0 → {w : ℕ} {f : Fields} {r : Command} → f ≡ fields_in bs → w ≡ verdict (packet_causes c m f bs) → r ≡ given w f (length bs - 14)
        → r ≡ read_reply c m bs
    unfolding read_reply
    read_whole z {w} {f} ef ew is =
        is ∙ ap (λ (x : Fields). given w x (length bs - 14)) ef
        ∙ ap (λ (x : ℕ). given x (fields_in bs) (length bs - 14))
        (ew ∙ ap (λ (x : Fields). verdict (packet_causes c m x bs)) ef ∙ sym (verdict-further early late refl (sym e ∙ z)))

  -- ---- what the reply's number says, for the further bytes

  module _ {r : Command} (e : r ≡ read_reply c m bs) where
    pub reply-number : r.refusal ≡ verdict (read_causes c m bs)
    unfolding read_reply
    reply-number = ap (λ (x : Command). x.refusal) e ∙ given-refusal _ _ _

    pub accepted-within : r.refusal ≡ 0 → 14 ≤ length bs
    accepted-within z = (total-within (asked_wrong c m) c (length bs) (verdict-front early late (sym reply-number ∙ z))).0

    pub no-further : (r.refusal ≡ 0 → ⊥) → [] ≡ further_reply c m bs
    unfolding further_reply
    no-further h = sym (answer-no _ _ _ (λ z. h (reply-number ∙ z)))

    pub further-part : r.refusal ≡ 0 → take (length bs - 2 - 12) (drop 12 bs) ≡ further_reply c m bs
    unfolding further_reply
    further-part z =
        let l : length bs - 2 - 12 ≡ length bs - 14 = omega arith in
        ap (λ (k : ℕ). take k (drop 12 bs)) l ∙ sym (answer-yes _ _ _ (sym reply-number ∙ z))

pub ruleset reader = (asked-within, refused-at-first, read_whole)

pub ruleset further_bytes = (accepted-within, no-further, further-part)
