-- FORMAT, "Answers to C code": an answer is one number of four words, the refusal and then three parts.
use Rattle.std.specs.Prelude.{ℕ, ◌+◌, ◌-◌, ◌*◌, ◌/◌, ◌^◌, ◌<◌, ◌≡◌, Bool, cond, List, [], ◌∷◌, ◌++◌, length, ltb}
use Rattle.base.specs.Number.{word, high_byte, low_byte, low_word}
use Rattle.base.specs.Refusal.{Causes, verdict, answer, no_room}
use Rattle.base.specs.declared.Written.{Written}
use Rattle.base_room.specs.Room.{put}
use Rattle.chunk_reading.specs.declared.Survey.{Survey}
use Rattle.chunk_outline.specs.declared.Runs.{Runs}
use Rattle.frame_reading.specs.declared.Frame.{Frame}
use Rattle.reel.specs.declared.Reel.{Reel}
use Rattle.health_last.specs.declared.Place.{Place}
use Rattle.health.specs.Packet.{body_width, type_of_packet, packet_time, packet_words}
use Rattle.health.specs.Reading.{read_causes}
use Rattle.command.specs.declared.Fields.{Fields}
use Rattle.command_reading.specs.declared.Command.{Command}
use Rattle.space_packet.specs.declared.Sent.{Sent}

-- a refusal and three parts as one number of four words, from the highest; of a part it is the low word
unfoldable pub in_words : ℕ → ℕ → ℕ → ℕ → ℕ
in_words v a b c = ((v * 65536 + low_word a) * 65536 + low_word b) * 65536 + low_word c

-- a flag is worth n where it is set
abbrev pub flag : Bool → ℕ → ℕ
flag b n = cond b n 0

-- ---- the reply of each call as its answer

unfoldable pub written : Written → ℕ
written w = in_words w.refusal w.length.0 0 0

unfoldable pub surveyed : Survey → ℕ
surveyed s = in_words s.refusal s.chunks s.skipped.0 (flag s.end 1)

unfoldable pub outlined : Runs → ℕ
outlined r = in_words r.refusal r.image r.health 0

-- the third part of a frame: 4 for complete and 8 for the mark stand above its camera
unfoldable pub framed : Frame → ℕ
framed f = in_words f.refusal f.chunks f.length.0 (f.camera + (flag f.complete 4 + flag f.end 8))

unfoldable pub reeled : Reel → ℕ
reeled r = in_words r.refusal r.n.0 r.entries 0

unfoldable pub placed : Place → ℕ
placed p = in_words p.refusal p.recording p.at.0 (flag p.end 1)

unfoldable pub commanded : Command → ℕ
commanded c = in_words c.refusal c.further.0 0 0

unfoldable pub sent : Sent → ℕ
sent s = in_words s.refusal s.length.0 0 0

-- ---- a packet p, whose 29 words go to a room of m words

-- the packet reader's causes, and then too small a room
abbrev pub packet_causes : List ℕ → ℕ → Causes
packet_causes p m = read_causes p ++ (no_room, ltb m body_width) ∷ []

unfoldable pub packet_reply : List ℕ → ℕ → ℕ
packet_reply p m = answer (verdict (packet_causes p m)) (λ v. in_words v 0 0 0) (in_words 0 (type_of_packet p) (packet_time p) 0)

unfoldable pub packet_room : List ℕ → List ℕ → List ℕ
packet_room p room = answer (verdict (packet_causes p (length room))) (λ v. room) (put (packet_words p) 0 room)

-- ---- the fields of a command as one number of four words, from the highest: the sequence count, the type and the qualifier, the address, the data

unfoldable pub packed : Fields → ℕ
packed f = ((f.sequence * 65536 + word f.command_type f.qualifier) * 65536 + f.address) * 65536 + f.«data»

unfoldable pub unpacked : ℕ → Fields
unpacked n =
    record {
      sequence = low_word (n / 2 ^ 48);
      command_type = high_byte (low_word (n / 2 ^ 32));
      qualifier = low_byte (low_word (n / 2 ^ 32));
      address = low_word (n / 2 ^ 16);
      «data» = low_word n;
    }

-- the fields n that a command reader is lent, after it has answered c: as they were where it refuses
unfoldable pub fields_after : Command → ℕ → ℕ
fields_after c n = answer c.refusal (λ v. n) (packed c.fields)

-- ---- what the words of a number say

abbrev pub refusal_of : ℕ → ℕ
refusal_of n = n / 2 ^ 48

-- part 1, 2 or 3
abbrev pub part_of : ℕ → ℕ → ℕ
part_of i n = low_word (n / 2 ^ (48 - 16 * i))

-- no word of an answer runs into the next
pub record Says (v a b c n : ℕ) : Type 0 where
  pub refusal : refusal_of n ≡ v
  pub first : part_of 1 n ≡ low_word a
  pub second : part_of 2 n ≡ low_word b
  pub third : part_of 3 n ≡ low_word c

-- the widths of the fields
pub record Wide (f : Fields) : Type 0 where
  pub sequence : f.sequence < 65536
  pub type : f.command_type < 256
  pub qualifier : f.qualifier < 256
  pub address : f.address < 65536
  pub word : f.«data» < 65536

-- an answer says its parts, and the number of a command's fields gives them back; and FORMAT's examples: the frame, and the fields of the PATCH
pub record WordsSayTheAnswer : Type 0 where
  pub answer : (v a b c : ℕ) → Says v a b c (in_words v a b c)
  pub fields : (f : Fields) → Wide f → unpacked (packed f) ≡ f
  pub frame : in_words 0 1 6 (1 + (4 + 8)) ≡ 0x000000010006000D
  pub patch : packed (record { sequence = 6; command_type = 2; qualifier = 1; address = 0x1F40; «data» = 3 }) ≡ 0x000602011F400003
