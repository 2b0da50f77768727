-- What the writer writes is sound, for its CRC is the packet's, so the reader gives its parts back; and of a packet that is accepted the writer makes the same CRC.
use mathlib.Core.Path.{◌≡◌, refl, sym, ap, ap₂, ◌∙◌}
use mathlib.Core.Bool.{Bool, true, false, cond}
use mathlib.Core.List.{List, [], ◌∷◌}
use Prim.Native.Nat.{ℕ, ◌+◌, ◌≤◌}
use native.Mathlib.Omega.{arith}
use lib.ListN.{length, get_or, take, drop, length-drop}
use lib.Seq.{take_at}
use lib.Dec.{eqb}
use borrow.Author.Tests.{eq-eqb, eqb-true, not-false, le-ltb, ltb-false}
use Rattle.base.specs.Refusal.{verdict, answer}
use Rattle.base.proofs.Refused.{Spared, spared, answer-yes, settled-refusal, settled-length}
use Rattle.base_room.proofs.RoomLaws.{put-fits}
use Rattle.health.specs.Packet.{type_of_packet, packet_time, packet_words, packet_crc, crc_right, permitted_type, sound_packet}
use Rattle.health.specs.Reading.{read_causes, packet_of, refused, read_reply}
use Rattle.health.specs.Writing.{writable_type, written_crc, packet_from, write_causes, write_verdict, write_room}
use Rattle.health.proofs.Sound.{sound_verdict}
use Rattle.health_laws.specs.Written.{Accepted, written, WrittenIsRead, SoundIsWritten}

module _ (t s : ℕ) (ws : List ℕ) (takes : writable_type t ≡ true) (long : length ws ≡ 29) where
  written-length : length (packet_from t s ws) ≡ 32
  written-length = omega arith

  written-is-sound : sound_packet (packet_from t s ws) ≡ true
  unfolding sound_packet packet_crc written_crc
  written-is-sound = simp (eq-eqb (length (packet_from t s ws)) 32 written-length, eq-eqb (written_crc t s ws) (written_crc t s ws) refl, takes)

-- through the lent room
module _ (t s : ℕ) (ws room : List ℕ) (a : Accepted t ws room) where
  not-refused : write_verdict t (length ws) (length room) ≡ 0
  not-refused = sym (settled-refusal (write_verdict t (length ws) (length room)) 32) ∙ a

  -- no cause of the writer's holds
  pub accepted-parts : (writable_type t ≡ true) × (length ws ≡ 29) × (32 ≤ length room)
  accepted-parts =
      let k = spared (write_causes t (length ws) (length room)) refl not-refused in
      (not-false (writable_type t) k.0, eqb-true (length ws) 29 (not-false (eqb (length ws) 29) k.1.0), ltb-false (length room) 32 k.1.1.0)

  -- what is left in the room is the packet
  pub written-packet : written t s ws room ≡ packet_from t s ws
  unfolding write_room
  written-packet =
      let p = packet_from t s ws in
      let n = written-length t s ws accepted-parts.0 accepted-parts.1 in
      ap₂ (λ (k : ℕ) (l : List ℕ). take k l) (settled-length (write_verdict t (length ws) (length room)) 32 not-refused)
      (answer-yes _ _ _ not-refused ∙ put-fits p 0 room (omega (arith, n, accepted-parts)))
      ∙ take_at p (drop (0 + length p) room) 32 n

  pub left-is-sound : sound_packet (written t s ws room) ≡ true
  left-is-sound = ap sound_packet written-packet ∙ written-is-sound t s ws accepted-parts.0 accepted-parts.1

pub written-is-read : WrittenIsRead
unfolding read_reply
written-is-read t s ws room a =
    let p = packet_from t s ws in
    let sound = written-is-sound t s ws (accepted-parts t s ws room a).0 (accepted-parts t s ws room a).1 in
    ap read_reply (written-packet t s ws room a) ∙ answer-yes (verdict (read_causes p)) _ _ (eqb-true _ 0 (sound_verdict p ∙ sound))

-- ---- a packet that the reader accepts

by_parts : (p : List ℕ) → length p ≡ 32 → get_or p 1 0 ≡ packet_crc p → packet_from (type_of_packet p) (packet_time p) (packet_words p) ≡ p
unfolding packet_crc written_crc
by_parts [] n c = absurd (omega arith)
by_parts (t ∷ []) n c = absurd (omega arith)
by_parts (t ∷ x ∷ []) n c = absurd (omega arith)
by_parts (t ∷ x ∷ s ∷ ws) n c = ap (λ (k : ℕ). t ∷ k ∷ s ∷ ws) (sym c)

module _ (p : List ℕ) (z : verdict (read_causes p) ≡ 0) where
  none : Spared (read_causes p)
  none = spared (read_causes p) refl z

  long : length p ≡ 32
  long = eqb-true (length p) 32 (not-false (eqb (length p) 32) none.0)

  same-packet : packet_from (type_of_packet p) (packet_time p) (packet_words p) ≡ p
  same-packet = by_parts p long (eqb-true (get_or p 1 0) (packet_crc p) (not-false (crc_right p) none.1.0))

  writer-accepts : (room : List ℕ) → 32 ≤ length room → Accepted (type_of_packet p) (packet_words p) room
  writer-accepts room fit =
      let t = type_of_packet p in
      let n : length (packet_words p) ≡ 29 = omega (arith, long, length-drop 3 p) in
      settled-refusal (write_verdict t (length (packet_words p)) (length room)) 32
      ∙ rw (not-false (permitted_type t) none.1.1.0, eq-eqb (length (packet_words p)) 29 n, le-ltb (length room) 32 fit)

  -- what the reader gives of it
  parts-given : read_reply p ≡ packet_of 0 (type_of_packet p) (packet_time p) (packet_words p)
  unfolding read_reply
  parts-given = answer-yes (verdict (read_causes p)) refused _ z

read_number : (p : List ℕ) → (read_reply p).refusal ≡ verdict (read_causes p)
unfolding read_reply answer
read_number p = by-test (eqb (verdict (read_causes p)) 0) refl
  where
    by-test : (b : Bool) → eqb (verdict (read_causes p)) 0 ≡ b
        → (cond b (packet_of 0 (type_of_packet p) (packet_time p) (packet_words p)) (refused (verdict (read_causes p)))).refusal ≡ verdict (read_causes p)
    by-test true e = sym (eqb-true (verdict (read_causes p)) 0 e)
    by-test false e = refl

pub sound-is-written : SoundIsWritten
sound-is-written p room z fit =
    let v : verdict (read_causes p) ≡ 0 = sym (read_number p) ∙ z in
    let a = writer-accepts p v room fit in
    rw (parts-given p v) (a, written-packet (type_of_packet p) (packet_time p) (packet_words p) room a ∙ same-packet p v)
