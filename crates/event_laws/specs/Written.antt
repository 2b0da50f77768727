-- FORMAT, "Event packets": what the writer writes, the readers give back. Of the replies, and of what the writer leaves in the room.
use Rattle.std.specs.Prelude.{ℕ, ◌<◌, ◌≤◌, ◌≡◌, Some, None, List, length, get_or, take}
use Rattle.event.specs.declared.Head.{Head}
use Rattle.event.specs.declared.Slot.{Slot}
use Rattle.event.specs.Layout.{slot_count, empty_slot}
use Rattle.event.specs.Time.{event_at}
use Rattle.event_reading.specs.Reading.{head_given, slot_given, event_given, head_reply, slot_reply, event_reply}
use Rattle.event_writing.specs.Writing.{write_reply, write_room}

-- what the writer left in the room: as many bytes as it replied
abbrev pub written : Head → List Slot → List ℕ → List ℕ
written h ss room = take (write_reply h ss (length room)).length.0 (write_room h ss room)

-- the readers' replies for a slot that is used
pub record Used (bs : List ℕ) (start : ℕ) (s : Slot) (i : ℕ) : Type 0 where
  pub slot : slot_reply bs i ≡ slot_given 0 (Some s)
  pub event : event_reply bs i ≡ event_given 0 (Some (event_at start s))

-- and for one that is not
pub record Unused (bs : List ℕ) (i : ℕ) : Type 0 where
  pub slot : slot_reply bs i ≡ slot_given 0 None
  pub event : event_reply bs i ≡ event_given 0 None

-- The head comes back, each used slot with its time, and nothing for the others.
pub record ComesBack (bs : List ℕ) (h : Head) (ss : List Slot) : Type 0 where
  pub head : head_reply bs ≡ head_given 0 h
  pub used : (i : ℕ) → i < h.count → Used bs h.start (get_or ss i empty_slot) i
  pub unused : (i : ℕ) → h.count ≤ i → i < slot_count → Unused bs i

abbrev pub EventsComeBack : Type 0
EventsComeBack = (h : Head) (ss : List Slot) (room : List ℕ) → length ss ≡ slot_count → (write_reply h ss (length room)).refusal ≡ 0
    → ComesBack (written h ss room) h ss
