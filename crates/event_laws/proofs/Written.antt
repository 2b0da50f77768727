-- What the writer leaves in the room is the packet of the layout, which the readers accept: the head comes back, each used slot, and nothing for the others.
use mathlib.Core.Path.{◌≡◌, refl, sym, ap, ap₂, subst, ◌∙◌}
use mathlib.Core.List.{List}
use Prim.Native.Nat.{ℕ, ◌≤◌, ◌<◌}
use native.Mathlib.Omega.{arith}
use lib.ListN.{length, get_or}
use Rattle.base.specs.Refusal.{verdict}
use Rattle.space_packet.proofs.Replies.{packet-left}
use Rattle.event.specs.declared.Head.{Head}
use Rattle.event.specs.declared.Slot.{Slot}
use Rattle.std.proofs.Common.{Some}
use Rattle.event.specs.Layout.{slot_count, head_in, slot_at, empty_slot, event_bytes}
use Rattle.event.specs.Time.{event_at}
use Rattle.event_reading.specs.Reading.{head_causes, slot_causes, head_given, slot_given, event_given}
use Rattle.event_writing.specs.Writing.{write_causes, write_reply, write_room}
use Rattle.event_writing.proofs.Replies.{reply-number, sequence-fits, count-fits, slots-right, packet-fits}
use Rattle.event_laws.specs.Written.{written, Used, Unused, ComesBack, EventsComeBack}
use Rattle.event_laws.proofs.Answers.{head-given, slot-judged, slot-given, event-given, slot-used, slot-unused, event-used, event-unused}
use Rattle.event_laws.proofs.Packet.{head-back, packet-length, slot-stood, packet-accepted}

-- ---- any packet that is accepted, in which these stand

module _ (bs : List ℕ) (h : Head) (ss : List Slot) (z : verdict (head_causes bs) ≡ 0) (back : head_in bs ≡ h) where
  count-back : (head_in bs).count ≡ h.count
  count-back = ap (λ (x : Head). x.count) back

  module _ (few : h.count ≤ slot_count) (stood : (i : ℕ) → i < h.count → slot_at bs i ≡ get_or ss i empty_slot) (i : ℕ) where
    used-back : i < h.count → Used bs h.start (get_or ss i empty_slot) i
    used-back k =
        let within : i < slot_count = omega arith in
        let below : i < (head_in bs).count = omega (arith, count-back) in
        let accepted : verdict (slot_causes bs i) ≡ 0 = slot-judged bs i within z in
        record {
          slot = slot-given bs i accepted ∙ ap (slot_given 0) (slot-used bs i within below ∙ ap Some (stood i k));
          event =
              event-given bs i accepted
              ∙ ap (event_given 0)
              (event-used bs i within below
              ∙ ap₂ (λ (g : Head) (s : Slot). Some (event_at g.start s)) back (stood i k));
        }

    unused-back : h.count ≤ i → i < slot_count → Unused bs i
    unused-back k within =
        let past : i < (head_in bs).count → ⊥ = λ b. omega (arith, b, count-back) in
        let accepted : verdict (slot_causes bs i) ≡ 0 = slot-judged bs i within z in
        record {
          slot = slot-given bs i accepted ∙ ap (slot_given 0) (slot-unused bs i past);
          event = event-given bs i accepted ∙ ap (event_given 0) (event-unused bs i past);
        }

  pub comes_back : h.count ≤ slot_count → ((i : ℕ) → i < h.count → slot_at bs i ≡ get_or ss i empty_slot) → ComesBack bs h ss
  comes_back few stood = record { head = head-given bs z ∙ ap (head_given 0) back; used = used-back few stood; unused = unused-back few stood }

-- ---- the packet that is written

module _ (h : Head) (ss : List Slot) (room : List ℕ) (long : length ss ≡ slot_count) (z : (write_reply h ss (length room)).refusal ≡ 0) where
  few : h.count ≤ slot_count
  few = count-fits h ss room refl z

  -- what stands in the room
  pub written-is-packet : written h ss room ≡ event_bytes h ss
  unfolding write_reply write_room
  written-is-packet =
      packet-left (verdict (write_causes h ss (length room))) 280 (event_bytes h ss) room (packet-length h ss long few) (packet-fits h ss room refl z)
      (sym (reply-number h ss room refl) ∙ z)

  packet-back : ComesBack (event_bytes h ss) h ss
  packet-back =
      let right = slots-right h ss room refl z in
      let fits = sequence-fits h ss room refl z in
      comes_back (event_bytes h ss) h ss (packet-accepted h ss long few right fits) (head-back h ss fits) few (slot-stood h ss long few right)

pub events-come-back : EventsComeBack
events-come-back h ss room long z = subst (λ (bs : List ℕ). ComesBack bs h ss) (sym (written-is-packet h ss room long z)) (packet-back h ss room long z)
