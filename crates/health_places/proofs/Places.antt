-- A packet by its place: its type is the word there, so that word alone tells whether the packet is of a type. The packets of a chunk by its kind.
use mathlib.Core.Path.{◌≡◌, sym, ap, ◌∙◌}
use mathlib.Core.Bool.{Bool, false, ◌&&◌}
use mathlib.Core.List.{List, []}
use Prim.Native.Nat.{ℕ, ◌+◌, ◌/◌}
use native.Mathlib.Nat.{add-zero}
use lib.ListN.{get_or, take, drop}
use lib.Seq.{get_or-take, get_or-drop}
use lib.Dec.{lit<, eqb}
use borrow.Author.Tests.{eq-eqb, ne_eqb}
use Rattle.chunk.specs.declared.Entry.{Entry}
use Rattle.chunk.specs.Header.{kind, size}
use Rattle.health.specs.Packet.{type_of_packet, sound_packet}
use Rattle.health_places.specs.Packets.{packet_places, chunk_places, sound_of}

-- the type of the packet at a place is the word there
pub type_at : (ws : List ℕ) (p : ℕ) → type_of_packet (take 32 (drop p ws)) ≡ get_or ws p 0
type_at ws p = get_or-take 32 (drop p ws) 0 0 (lit< tt) ∙ get_or-drop p ws 0 0 ∙ ap (λ (n : ℕ). get_or ws n 0) (add-zero p)

module _ (t : ℕ) (ws : List ℕ) (p : ℕ) where
  -- so another word there is another type, whatever else is asked of the packet
  pub untyped : (get_or ws p 0 ≡ t → ⊥) → (b : Bool) → eqb (type_of_packet (take 32 (drop p ws))) t && b ≡ false
  untyped h b = simp (ne_eqb _ t (λ e. h (sym (type_at ws p) ∙ e)))

  pub typed : get_or ws p 0 ≡ t → (b : Bool) → eqb (type_of_packet (take 32 (drop p ws))) t && b ≡ b
  typed h b = simp (eq-eqb _ t (type_at ws p ∙ h))

  pub other-type : (get_or ws p 0 ≡ t → ⊥) → sound_of ws t p ≡ false
  unfolding sound_of
  other-type h = untyped h (sound_packet (take 32 (drop p ws)))

  pub own-type : get_or ws p 0 ≡ t → sound_of ws t p ≡ sound_packet (take 32 (drop p ws))
  unfolding sound_of
  own-type h = typed h (sound_packet (take 32 (drop p ws)))

module _ (e : Entry) where
  pub no-packets : (kind e.header ≡ 1 → ⊥) → chunk_places e ≡ []
  unfolding chunk_places
  no-packets h = simp (ne_eqb (kind e.header) 1 h)

  pub chunk-packets : kind e.header ≡ 1 → chunk_places e ≡ packet_places (size e.header / 32) (e.position.0 + 2)
  unfolding chunk_places
  chunk-packets h = simp (eq-eqb (kind e.header) 1 h)
