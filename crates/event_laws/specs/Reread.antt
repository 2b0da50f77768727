-- FORMAT, "Event packets": a packet that is accepted, written again from what is read of it. It answers the same.
use Rattle.std.specs.Prelude.{ℕ, ◌*◌, ◌≤◌, ◌≡◌, List, ◌++◌, length, take, drop}
use Rattle.space_packet.specs.Layout.{AreBytes}
use Rattle.event.specs.declared.Head.{Head}
use Rattle.event.specs.declared.Slot.{Slot}
use Rattle.event.specs.Layout.{packet_bytes, slot_count, slot_place, slots_by}
use Rattle.event_reading.specs.Reading.{head_reply, slot_reply, event_reply}
use Rattle.event_writing.specs.Writing.{write_reply}
use Rattle.event_laws.specs.Written.{written}

-- what is read of a packet: its head, and its 64 slots
abbrev pub head_read : List ℕ → Head
head_read bs = (head_reply bs).head

unfoldable pub slots_read : List ℕ → List Slot
slots_read bs = slots_by (λ i. (slot_reply bs i).slot) 0 slot_count

-- The bytes that are looked at, the CRC aside: the header, the data type, the start second, the count, and the used slots.
abbrev pub stretch : ℕ → ℕ → List ℕ → List ℕ
stretch at n bs = take n (drop at bs)

abbrev pub looked_at : ℕ → List ℕ → List ℕ
looked_at count bs = stretch 0 6 bs ++ stretch 12 1 bs ++ stretch 14 4 bs ++ stretch 19 1 bs ++ stretch (slot_place 0) (4 * count) bs

-- written again
abbrev pub again : List ℕ → List ℕ → List ℕ
again bs room = written (head_read bs) (slots_read bs) room

-- two packets answer the same: of the head, and at every slot
pub record AnswerAlike (bs cs : List ℕ) : Type 0 where
  pub head : head_reply cs ≡ head_reply bs
  pub slot : (i : ℕ) → slot_reply cs i ≡ slot_reply bs i
  pub event : (i : ℕ) → event_reply cs i ≡ event_reply bs i

-- and their bytes are the same where the first is looked at
pub record Alike (bs cs : List ℕ) : Type 0 where
  pub head : head_reply cs ≡ head_reply bs
  pub slot : (i : ℕ) → slot_reply cs i ≡ slot_reply bs i
  pub event : (i : ℕ) → event_reply cs i ≡ event_reply bs i
  pub bytes : looked_at (head_read bs).count cs ≡ looked_at (head_read bs).count bs

abbrev pub EventsWrittenAgain : Type 0
EventsWrittenAgain = (bs room : List ℕ) → AreBytes bs → packet_bytes ≤ length room → (head_reply bs).refusal ≡ 0
    → ((write_reply (head_read bs) (slots_read bs) (length room)).refusal ≡ 0) × Alike bs (again bs room)
