-- The used slots of a packet are those below its count, if it is accepted. The time of a used one: its sixteenths are few enough for an exact cast and an
-- exact quotient, for a packet is of bytes. What `event_in` tells is what the reader of events replies where it accepts.
use mathlib.Core.Path.{◌≡◌, refl, sym, ap, ap₂, subst, ◌∙◌}
use mathlib.Core.Bool.{true, false, true≢false}
use mathlib.Core.List.{List}
use Prim.Native.Nat.{ℕ, ◌+◌, ◌≤◌, ◌<◌, ◌^◌}
use native.Mathlib.Nat.{le_of_lt}
use native.Mathlib.Omega.{arith}
use lib.Dec.{ltb}
use lib.Ieee.{Float, binary64}
use borrow.Author.Tests.{ltb-true, ltb-false}
use Rattle.base.specs.Refusal.{verdict}
use Rattle.base.proofs.Booleans.{by-test}
use Rattle.space_packet.specs.Layout.{AreBytes}
use Rattle.event.specs.declared.Head.{Head}
use Rattle.std.proofs.Common.{Some}
use Rattle.event.specs.Layout.{slot_count, slot_place, head_in, slot_at}
use Rattle.event.specs.Time.{sixteenths, seconds, slot_time_number, event_at}
use Rattle.event.proofs.Exact.{cast-exact, halved}
use Rattle.event_reading.specs.declared.SlotReply.{SlotReply}
use Rattle.event_reading.specs.declared.EventReply.{EventReply}
use Rattle.event_reading.specs.Reading.{head_causes, slot_causes, slot_given, event_given, head_reply, slot_reply, event_reply}
use Rattle.event_laws.specs.Times.{Exactly, Timed, TimesAreExact, EventInAgrees}
use Rattle.event_laws.proofs.Answers.{head-number, event-number, slot-judged, slot-within, packet-judged, slot-given, slot-refused, slot-used, slot-unused, event-given, event-refused, event-used, event-unused, by-verdict, accepted-count, head-as-read, count-as-read}

-- the sixteenths of a packet of bytes are below 2 ^ 53
few-sixteenths : (bs : List ℕ) → AreBytes bs → (i : ℕ) → sixteenths (head_in bs).start (slot_at bs i) < 2 ^ 53
few-sixteenths bs bytes i =
    let at : ℕ = slot_place i in
    omega (arith, bytes 14, bytes 15, bytes 16, bytes 17, bytes (at + 1), bytes (at + 1 + 1), bytes (at + 1 + 1 + 1))

-- so the time is exact
exactly : (n : ℕ) → n < 2 ^ 53 → Exactly n (seconds n)
unfolding seconds
exactly n h = record { whole = cast-exact binary64 n (le_of_lt h); divided = refl; value = halved n h }

-- ---- which slots are used

module _ (bs : List ℕ) (i : ℕ) where
  -- the reply for a slot that is below the count of an accepted packet, and for one that is not
  reply-below : verdict (slot_causes bs i) ≡ 0 → i < (head_in bs).count → slot_reply bs i ≡ slot_given 0 (Some (slot_at bs i))
  reply-below z h = slot-given bs i z ∙ ap (slot_given 0) (slot-used bs i (slot-within bs i z) h)

  reply-past : verdict (slot_causes bs i) ≡ 0 → (i < (head_in bs).count → ⊥) → (slot_reply bs i).used ≡ false
  reply-past z n = ap (λ (r : SlotReply). r.used) (slot-given bs i z ∙ ap (slot_given 0) (slot-unused bs i n))

  -- a refused one is not used
  reply-refused : (verdict (slot_causes bs i) ≡ 0 → ⊥) → (slot_reply bs i).used ≡ false
  reply-refused n = ap (λ (r : SlotReply). r.used) (slot-refused bs i n)

  is_below : (head_reply bs).refusal ≡ 0 → i < (head_reply bs).head.count → (slot_reply bs i).used ≡ true
  is_below z h =
      let v : verdict (head_causes bs) ≡ 0 = sym (head-number bs) ∙ z in
      let below : i < (head_in bs).count = omega (arith, h, count-as-read bs v) in
      let few : (head_in bs).count ≤ slot_count = accepted-count bs v in
      ap (λ (r : SlotReply). r.used) (reply-below (slot-judged bs i (omega arith) v) below)

  is-past : (head_reply bs).head.count ≤ i → (slot_reply bs i).used ≡ false
  is-past h = by-verdict bs i (λ z. reply-past z (λ b. omega (arith, b, h, count-as-read bs (packet-judged bs i z)))) reply-refused

  -- and one that is used is below the count of an accepted packet
  is-used : (slot_reply bs i).used ≡ true → (verdict (slot_causes bs i) ≡ 0) × (i < (head_in bs).count)
  is-used u = by-verdict bs i (λ z. (z, accepted z)) (λ n. absurd (true≢false (sym u ∙ reply-refused n)))
    where
      accepted : verdict (slot_causes bs i) ≡ 0 → i < (head_in bs).count
      accepted z = by-test (ltb i (head_in bs).count) (λ t. ltb-true _ _ t) (λ f. absurd (true≢false (sym u ∙ reply-past z (λ b. omega (arith, b, ltb-false i (head_in bs).count f)))))

-- ---- their times

module _ (bs : List ℕ) (i : ℕ) where
  used-time : AreBytes bs → (slot_reply bs i).used ≡ true → Timed bs i
  used-time bytes u =
      let z : verdict (slot_causes bs i) ≡ 0 = (is-used bs i u).0 in
      let h : i < (head_in bs).count = (is-used bs i u).1 in
      let n : ℕ = sixteenths (head_in bs).start (slot_at bs i) in
      let t : Float = seconds n in
      let said : sixteenths (head_reply bs).head.start (slot_reply bs i).slot ≡ n =
      ap₂ (λ (x : Head) (r : SlotReply). sixteenths x.start r.slot) (head-as-read bs (packet-judged bs i z)) (reply-below bs i z h)
      in
      let e : event_reply bs i ≡ event_given 0 (Some (event_at (head_in bs).start (slot_at bs i))) =
      event-given bs i z ∙ ap (event_given 0) (event-used bs i (slot-within bs i z) h)
      in
      record {
        number = ap (λ (r : EventReply). slot_time_number r.time) e;
        has = rw e refl;
        exact =
            subst (λ (m : ℕ). Exactly m (event_reply bs i).event.time) (sym said)
            (subst (λ (r : EventReply). Exactly n r.event.time) (sym e) (exactly n (few-sixteenths bs bytes i)));
      }

  unused-time : (slot_reply bs i).used ≡ false → slot_time_number (event_reply bs i).time ≡ 0
  unused-time u = by-verdict bs i accepted (λ n. ap (λ (r : EventReply). slot_time_number r.time) (event-refused bs i n))
    where
      accepted : verdict (slot_causes bs i) ≡ 0 → slot_time_number (event_reply bs i).time ≡ 0
      accepted z =
          let past : i < (head_in bs).count → ⊥ = λ b. true≢false (sym (ap (λ (r : SlotReply). r.used) (reply-below bs i z b)) ∙ u) in
          ap (λ (r : EventReply). slot_time_number r.time) (event-given bs i z ∙ ap (event_given 0) (event-unused bs i past))

pub times-are-exact : TimesAreExact
times-are-exact = record { below = is_below; past = is-past; used = used-time; unused = unused-time }

pub event-in-agrees : EventInAgrees
event-in-agrees bs i z =
    let e = event-given bs i (sym (event-number bs i) ∙ z) in
    (sym (ap (λ (r : EventReply). r.time) e), sym (ap (λ (r : EventReply). r.event) e))
