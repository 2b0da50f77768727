-- FORMAT, "Event packets": which slots are used, that the time of a used one is exact, and that `event_in` tells what the reader of events replies.
use Rattle.std.specs.Prelude.{ℕ, ◌≤◌, ◌<◌, ◌≡◌, true, false, List, pos, Float}
use Rattle.std.specs.Float.{binary64}
use Rattle.std.specs.Float.Ieee.{div, of_int}
use Rattle.std.specs.Float.Ieee.Exact.{HasValue}
use Rattle.space_packet.specs.Layout.{AreBytes}
use Rattle.event.specs.Time.{sixteenths, sixteen, slot_time_number, slot_time_has, event_in}
use Rattle.event_reading.specs.Reading.{time_of, event_or_zeros, head_reply, slot_reply, event_reply}

-- A time t of n sixteenths. The float of n is n itself, and t is that float divided by the float of 16: it is finite, not negative, and n / 16 itself.
pub record Exactly (n : ℕ) (t : Float) : Type 0 where
  pub whole : HasValue (of_int binary64 (pos n)) false n 1
  pub divided : t ≡ div binary64 (of_int binary64 (pos n)) sixteen
  pub value : HasValue t false n 16

-- The slot has a time, the event record has the same, and it is the exact time of what the head and the slot say.
pub record Timed (bs : List ℕ) (i : ℕ) : Type 0 where
  pub number : slot_time_number (event_reply bs i).time ≡ 1
  pub has : slot_time_has (event_reply bs i).time (event_reply bs i).event.time
  pub exact : Exactly (sixteenths (head_reply bs).head.start (slot_reply bs i).slot) (event_reply bs i).event.time

pub record TimesAreExact : Type 0 where
  -- the slots below the count of an accepted packet are used, and no others
  pub below : (bs : List ℕ) (i : ℕ) → (head_reply bs).refusal ≡ 0 → i < (head_reply bs).head.count → (slot_reply bs i).used ≡ true
  pub past : (bs : List ℕ) (i : ℕ) → (head_reply bs).head.count ≤ i → (slot_reply bs i).used ≡ false
  -- one that is used has an exact time, and one that is not has none
  pub used : (bs : List ℕ) (i : ℕ) → AreBytes bs → (slot_reply bs i).used ≡ true → Timed bs i
  pub unused : (bs : List ℕ) (i : ℕ) → (slot_reply bs i).used ≡ false → slot_time_number (event_reply bs i).time ≡ 0

-- `event_in` agrees with `read_event` where that accepts
abbrev pub EventInAgrees : Type 0
EventInAgrees = (bs : List ℕ) (i : ℕ) → (event_reply bs i).refusal ≡ 0
    → (time_of (event_in bs i) ≡ (event_reply bs i).time) × (event_or_zeros (event_in bs i) ≡ (event_reply bs i).event)
