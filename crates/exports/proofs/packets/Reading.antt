-- What the packet reader replies, and then the room, decide what is answered and what the room holds afterwards.
use mathlib.Core.Path.{◌≡◌, refl, sym, ap, ◌∙◌}
use mathlib.Core.Bool.{cond}
use mathlib.Core.List.{List, [], ◌∷◌}
use Prim.Native.Nat.{ℕ, ◌<◌, ◌≤◌}
use native.Mathlib.Omega.{arith}
use lib.ListN.{length}
use lib.Dec.{ltb}
use borrow.Author.Tests.{lt-ltb, le-ltb}
use Rattle.base.specs.Refusal.{Causes, verdict, no_room}
use Rattle.base.proofs.Refused.{verdict-kept, verdict-further, answer-no, answer-yes, answer-number}
use Rattle.base_room.specs.Room.{put}
use Rattle.health.specs.declared.packet.Packet.{Packet}
use Rattle.health.specs.Packet.{body_width, type_of_packet, packet_time, packet_words}
use Rattle.health.specs.Reading.{read_causes, read_reply, packet_of}
use Rattle.exports.specs.Answer.{in_words, packet_causes, packet_reply, packet_room}

module _ (pk room : List ℕ) where
  abbrev room-cause : Causes
  room-cause = (no_room, ltb (length room) body_width) ∷ []

  module _ {v : ℕ} (e : v ≡ verdict (packet_causes pk (length room))) (h : v ≡ 0 → ⊥) where
    refused : in_words v 0 0 0 ≡ packet_reply pk (length room)
    unfolding packet_reply
    refused = ap (λ (x : ℕ). in_words x 0 0 0) e ∙ sym (answer-no _ _ _ (λ z. h (e ∙ z)))

    untouched : room ≡ packet_room pk room
    unfolding packet_room
    untouched = sym (answer-no _ _ _ (λ z. h (e ∙ z)))

  module _ (p : Packet) (e : p ≡ read_reply pk) where
    number : p.refusal ≡ verdict (read_causes pk)
    unfolding read_reply
    number = ap (λ (x : Packet). x.refusal) e ∙ answer-number (λ (x : Packet). x.refusal) _ _ _ refl (λ z. refl)

    by-room : p.refusal ≡ 0 → verdict (packet_causes pk (length room)) ≡ cond (ltb (length room) body_width) no_room 0
    by-room z = verdict-further (read_causes pk) room-cause refl (sym number ∙ z)

    -- the packet is refused
    module _ (h : p.refusal ≡ 0 → ⊥) where
      kept : p.refusal ≡ verdict (packet_causes pk (length room))
      kept = number ∙ sym (verdict-kept (read_causes pk) room-cause (λ z. h (number ∙ z)))

      pub not-read : in_words p.refusal 0 0 0 ≡ packet_reply pk (length room)
      not-read = refused kept h

      pub not-stored : room ≡ packet_room pk room
      not-stored = untouched kept h

    module _ (z : p.refusal ≡ 0) where
      -- the room is too small
      module _ (h : length room < body_width) where
        narrow : no_room ≡ verdict (packet_causes pk (length room))
        narrow = sym (by-room z ∙ rw (lt-ltb (length room) body_width h))

        pub too-small : in_words no_room 0 0 0 ≡ packet_reply pk (length room)
        too-small = refused narrow (λ n. omega arith)

        pub left-small : room ≡ packet_room pk room
        left-small = untouched narrow (λ n. omega arith)

      -- neither
      module _ (h : body_width ≤ length room) where
        read : p ≡ packet_of 0 (type_of_packet pk) (packet_time pk) (packet_words pk)
        unfolding read_reply
        read = e ∙ answer-yes _ _ _ (sym number ∙ z)

        accepted : verdict (packet_causes pk (length room)) ≡ 0
        accepted = by-room z ∙ rw (le-ltb (length room) body_width h)

        pub is-read : in_words 0 p.packet_type p.time 0 ≡ packet_reply pk (length room)
        unfolding packet_reply
        is-read = ap (λ (x : Packet). in_words 0 x.packet_type x.time 0) read ∙ sym (answer-yes _ _ _ accepted)

        pub stored : {after : List ℕ} → after ≡ put p.words 0 room → after ≡ packet_room pk room
        unfolding packet_room
        stored is = is ∙ ap (λ (x : Packet). put x.words 0 room) read ∙ sym (answer-yes _ _ _ accepted)

pub ruleset reader = (not-read, not-stored, too-small, left-small, is-read, stored)
