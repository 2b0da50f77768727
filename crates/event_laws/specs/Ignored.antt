-- FORMAT, "Event packets": what is ignored in reading. Whatever stands in the bytes that are not looked at, and in the slots that are not used, no reply
-- changes.
use Rattle.std.specs.Prelude.{ℕ, min, ◌≡◌, false, List, length}
use Rattle.space_packet.specs.Header.{crc_wrong}
use Rattle.event.specs.Layout.{packet_bytes, slot_count, head_in}
use Rattle.event_laws.specs.Reread.{looked_at, AnswerAlike}

-- the 280 bytes of a packet, with the right CRC in the last two
pub record Intact (bs : List ℕ) : Type 0 where
  pub whole : length bs ≡ packet_bytes
  pub crc : crc_wrong bs ≡ false

-- How many slots are used: those below the count, and no more than there are. Where the count says more, the packet is refused whatever the slots hold.
abbrev pub used_slots : List ℕ → ℕ
used_slots bs = min (head_in bs).count slot_count

-- Two such packets with the same bytes wherever they are looked at answer the same, each with the other's number where they are refused.
abbrev pub IgnoredBytesChangeNothing : Type 0
IgnoredBytesChangeNothing =
    (bs cs : List ℕ) → Intact bs → Intact cs → looked_at (used_slots bs) cs ≡ looked_at (used_slots bs) bs → AnswerAlike bs cs
