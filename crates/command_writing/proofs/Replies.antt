-- The writer's reply on its three ways out, and the room: as it was on a refusal, else the head and the further bytes, sealed.
use mathlib.Core.Path.{◌≡◌, refl, sym, ap, ◌∙◌}
use mathlib.Core.Bool.{Bool, false, cond, ◌||◌}
use mathlib.Core.List.{List, [], ◌∷◌, ◌++◌}
use Prim.Native.Nat.{ℕ, ◌+◌, ◌-◌, ◌≤◌, ◌<◌}
use lib.Dec.{ltb}
use lib.ListN.{length}
use borrow.Author.Tests.{ltb-true, ltb-false, not-false}
use Rattle.base.specs.Number.{high_byte, low_byte}
use Rattle.base.specs.Refusal.{Causes, verdict, no_room}
use Rattle.base_room.specs.Room.{put}
use Rattle.base.proofs.Booleans.{or-false}
use Rattle.base.proofs.Refused.{Spared, spared, verdict-front, verdict-kept, verdict-further, answer-no, answer-yes}
use Rattle.space_packet.specs.declared.Sent.{Sent}
use Rattle.space_packet.specs.Layout.{laid}
use Rattle.space_packet.specs.Header.{sealed}
use Rattle.space_packet.specs.Reply.{settled}
use Rattle.space_packet.proofs.Replies.{settled-refusal, refused-alike}
use Rattle.command.specs.declared.Fields.{Fields}
use Rattle.command.specs.Layout.{widths, head_of, command_bytes}
use Rattle.command_catalogue.specs.Rules.{asked_wrong, judge_causes}
use Rattle.command.specs.Asking.{first_causes, last_causes}
use Rattle.command.proofs.Verdicts.{argument-right, total-within, judged-last}
use Rattle.command_writing.specs.Writing.{count_wrong, write_causes, write_reply, write_room}

-- ---- the head

-- each field in its bytes, one after the other
pub head-by-bytes : (f : Fields) (total : ℕ) {i j s t l m a b d e : ℕ} → i ≡ high_byte 0x13EE → j ≡ low_byte 0x13EE → s ≡ high_byte (49152 + f.sequence)
    → t ≡ low_byte (49152 + f.sequence) → l ≡ high_byte (total - 7) → m ≡ low_byte (total - 7) → a ≡ high_byte f.address → b ≡ low_byte f.address
    → d ≡ high_byte f.«data» → e ≡ low_byte f.«data»
    → ◌≡◌ {A = List ℕ} (i ∷ j ∷ s ∷ t ∷ l ∷ m ∷ f.command_type ∷ f.qualifier ∷ a ∷ b ∷ d ∷ e ∷ []) (laid widths (head_of total f))
head-by-bytes f total ei ej es et el em ea eb ed ee = cc

-- ---- the reply

module _ (c m : ℕ) (f : Fields) (xs : List ℕ) (room : ℕ) where
  abbrev early : Causes
  early = first_causes (asked_wrong c m || count_wrong f) c (14 + length xs)

  abbrev late : Causes
  late = last_causes c m f xs

  abbrev last : Causes
  last = (no_room, ltb room (14 + length xs)) ∷ []

  reply-by-verdict : {v : ℕ} → verdict (write_causes c m f xs room) ≡ v → {r : Sent} → r ≡ settled v (14 + length xs) → r ≡ write_reply c m f xs room
  unfolding write_reply
  reply-by-verdict e is = is ∙ ap (λ (x : ℕ). settled x (14 + length xs)) (sym e)

  module _ {a : Bool} {v : ℕ} (ea : a ≡ asked_wrong c m) (ev : v ≡ verdict (first_causes (a || count_wrong f) c (14 + length xs))) where
    first-verdict : verdict early ≡ v
    first-verdict = sym (ev ∙ ap (λ (b : Bool). verdict (first_causes (b || count_wrong f) c (14 + length xs))) ea)

    -- refused by the arguments or the total
    pub refused-at-first : (v ≡ 0 → ⊥) → {r : Sent} → r ≡ settled v 0 → r ≡ write_reply c m f xs room
    refused-at-first h is =
        let s : verdict (early ++ late) ≡ v = verdict-kept early late (λ z. h (sym first-verdict ∙ z)) ∙ first-verdict in
        reply-by-verdict (verdict-kept (early ++ late) last (λ z. h (sym s ∙ z)) ∙ s) (is ∙ refused-alike v 0 (14 + length xs) h)

    module _ (z : v ≡ 0) {w : ℕ} (ew : w ≡ verdict (judge_causes c m f.command_type f.qualifier f.address f.«data» xs)) where
      asked-right : asked_wrong c m ≡ false
      asked-right = (or-false (asked_wrong c m) (count_wrong f) (argument-right (asked_wrong c m || count_wrong f) c (14 + length xs) (first-verdict ∙ z))).0

      asked : verdict (early ++ late) ≡ w
      asked = verdict-further early late refl (first-verdict ∙ z) ∙ sym (ew ∙ judged-last c m f xs asked-right)

      -- refused by the fields or the further bytes
      pub refused-by-fields : (w ≡ 0 → ⊥) → {r : Sent} → r ≡ settled w 0 → r ≡ write_reply c m f xs room
      refused-by-fields h is = reply-by-verdict (verdict-kept (early ++ late) last (λ y. h (sym asked ∙ y)) ∙ asked) (is ∙ refused-alike w 0 (14 + length xs) h)

      -- the room is left to look at
      pub settled-by-room : w ≡ 0 → {u : ℕ} {r : Sent} → u ≡ cond (ltb room (14 + length xs)) no_room 0 → r ≡ settled u (14 + length xs) → r ≡ write_reply c m f xs room
      settled-by-room y eu is = reply-by-verdict (verdict-further (early ++ late) last refl (asked ∙ y) ∙ sym eu) is

pub ruleset planned = (refused-at-first, refused-by-fields, settled-by-room)

-- ---- the room

module _ (c m : ℕ) (f : Fields) (xs room : List ℕ) {r : Sent} (e : r ≡ write_reply c m f xs (length room)) where
  pub reply-number : r.refusal ≡ verdict (write_causes c m f xs (length room))
  unfolding write_reply
  reply-number = ap (λ (x : Sent). x.refusal) e ∙ settled-refusal _ _

  pub untouched : (r.refusal ≡ 0 → ⊥) → room ≡ write_room c m f xs room
  unfolding write_room
  untouched h = sym (answer-no _ _ _ (λ z. h (reply-number ∙ z)))

  module _ (z : r.refusal ≡ 0) where
    none : Spared (write_causes c m f xs (length room))
    none = spared (write_causes c m f xs (length room)) refl (sym reply-number ∙ z)

    pub command-fits : (f.sequence < 16384) × (14 + length xs ≤ 227) × (14 + length xs ≤ length room)
    command-fits = (
      ltb-true _ _ (not-false _ (or-false (asked_wrong c m) _ none.0).1),
      (total-within (asked_wrong c m || count_wrong f) c (14 + length xs)
          (verdict-front (early c m f xs (length room)) (late c m f xs (length room) ++ last c m f xs (length room)) (sym reply-number ∙ z))).1,
      ltb-false _ _ none.1.1.1.1.1.1.0,
    )

    -- the head and the further bytes, sealed, are the command
    pub stored : {h d : List ℕ} → h ≡ laid widths (head_of (14 + length xs) f) → d ≡ put (sealed (h ++ xs)) 0 room → d ≡ write_room c m f xs room
    unfolding write_room command_bytes
    stored eh is = is ∙ ap (λ (l : List ℕ). put (sealed (l ++ xs)) 0 room) eh ∙ sym (answer-yes _ _ _ (sym reply-number ∙ z))

pub ruleset writer = (untouched, command-fits, stored)
