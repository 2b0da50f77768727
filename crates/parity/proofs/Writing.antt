-- The writer's room: untouched on a refusal, else the parity words and the data, end to end.
use mathlib.Core.Path.{◌≡◌, sym, ap, ◌∙◌}
use mathlib.Core.List.{List, ◌++◌}
use Prim.Native.Nat.{ℕ, ◌+◌}
use lib.ListN.{length}
use Rattle.base.specs.declared.Written.{Written}
use Rattle.base_room.specs.Room.{put}
use Rattle.base.proofs.Refused.{answer-no, answer-yes, settled-refusal}
use Rattle.parity_rows.specs.Parity.{parity_words}
use Rattle.parity.specs.Unit.{unit_of, write_verdict, write_reply, write_room}

module _ (d room : List ℕ) (r : Written) (e : r ≡ write_reply (length d) (length room)) where
  reply-number : r.refusal ≡ write_verdict (length d) (length room)
  unfolding write_reply
  reply-number = ap (λ (x : Written). x.refusal) e ∙ settled-refusal (write_verdict (length d) (length room)) (8 + length d)

  pub untouched : (r.refusal ≡ 0 → ⊥) → room ≡ write_room d room
  unfolding write_room
  untouched h = sym (answer-no _ _ _ (λ z. h (reply-number ∙ z)))

  pub stored : r.refusal ≡ 0 → (p room₁ : List ℕ) → p ≡ parity_words d → room₁ ≡ put (p ++ d) 0 room → room₁ ≡ write_room d room
  unfolding write_room unit_of
  stored z p room₁ ep e₁ = e₁ ∙ ap (λ (x : List ℕ). put (x ++ d) 0 room) ep ∙ sym (answer-yes _ _ _ (sym reply-number ∙ z))
