-- FORMAT, "Health packets": what the packet reader answers.
use Rattle.std.specs.Prelude.{ℕ, Bool, not, List, [], ◌∷◌, length, replicate, eqb}
use Rattle.base.specs.Size.{packet_width}
use Rattle.base.specs.Refusal.{Causes, verdict, answer, wrong_length, wrong_crc, unspecified}
use Rattle.health.specs.declared.packet.Packet.{Packet}
use Rattle.health.specs.Packet.{body_width, type_of_packet, packet_time, packet_words, crc_right, permitted_type}

-- The causes of every reader of a packet p: not of 32 words; another CRC; a type word or field with an unspecified value.
abbrev pub judge_causes : List ℕ → Bool → Causes
judge_causes p odd = (wrong_length, not (eqb (length p) packet_width)) ∷ (wrong_crc, not (crc_right p)) ∷ (unspecified, odd) ∷ []

-- the packet reader takes any sound packet
abbrev pub read_causes : List ℕ → Causes
read_causes p = judge_causes p (not (permitted_type (type_of_packet p)))

abbrev pub packet_of : ℕ → ℕ → ℕ → List ℕ → Packet
packet_of v t s ws = record { refusal = v; packet_type = t; time = s; words = ws }

abbrev pub refused : ℕ → Packet
refused v = packet_of v 0 0 (replicate body_width 0)

-- type, time and the 29 words of a sound packet
unfoldable pub read_reply : List ℕ → Packet
read_reply p = answer (verdict (read_causes p)) refused (packet_of 0 (type_of_packet p) (packet_time p) (packet_words p))
