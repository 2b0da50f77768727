-- FORMAT, "Health packets": what the packet writer answers and writes.
use Rattle.std.specs.Prelude.{ℕ, Bool, not, List, [], ◌∷◌, length, eqb, ltb}
use Rattle.base.specs.Size.{packet_width}
use Rattle.base.specs.Refusal.{Causes, verdict, answer, settled, wrong_argument, wrong_length, no_room}
use Rattle.base_room.specs.Room.{put}
use Rattle.base.specs.declared.Written.{Written}
use Rattle.crc.specs.Crc.{crc_words, crc_start}
use Rattle.health.specs.Packet.{body_width, permitted_type}

-- the writer takes every permitted type
abbrev pub writable_type : ℕ → Bool
writable_type = permitted_type

-- the CRC covers all words of the packet but itself
unfoldable pub written_crc : ℕ → ℕ → List ℕ → ℕ
written_crc t s ws = crc_words crc_start (t ∷ s ∷ ws)

-- a packet of this type, time and words
abbrev pub packet_from : ℕ → ℕ → List ℕ → List ℕ
packet_from t s ws = t ∷ written_crc t s ws ∷ s ∷ ws

-- a type that is not permitted; n words that are not 29; less room than 32 words
abbrev pub write_causes : ℕ → ℕ → ℕ → Causes
write_causes t n room = (wrong_argument, not (writable_type t)) ∷ (wrong_length, not (eqb n body_width)) ∷ (no_room, ltb room packet_width) ∷ []

abbrev pub write_verdict : ℕ → ℕ → ℕ → ℕ
write_verdict t n room = verdict (write_causes t n room)

abbrev pub write_reply : ℕ → ℕ → ℕ → Written
write_reply t n room = settled (write_verdict t n room) packet_width

-- the room after the call: as it was on a refusal
unfoldable pub write_room : ℕ → ℕ → List ℕ → List ℕ → List ℕ
write_room t s ws room = answer (write_verdict t (length ws) (length room)) (λ v. room) (put (packet_from t s ws) 0 room)
