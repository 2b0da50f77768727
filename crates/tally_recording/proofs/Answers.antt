-- The reply of one recording by its cause, and from what the two passes count.
use mathlib.Core.Path.{◌≡◌, ap₂, ◌∙◌}
use mathlib.Core.Bool.{true, false}
use mathlib.Core.List.{List}
use Prim.Native.Nat.{ℕ}
use lib.ListN.{length}
use Rattle.base.specs.Limit.{too_long}
use Rattle.base.specs.Refusal.{wrong_length, answer}
use Rattle.tally_recording.specs.declared.Tally.{Tally}
use Rattle.tally_recording.specs.declared.chunks.Listed.{Listed}
use Rattle.tally_recording.specs.declared.pieces.Framed.{Framed}
use Rattle.tally_recording.specs.Tally.{tally_of}
use Rattle.tally_recording.specs.Replies.{counted, refused, of_reply}
use Rattle.tally_recording.specs.Walk.{listed_of, framed_of}

module _ (sync : ℕ) (ws : List ℕ) where
  pub of_refused : too_long ws ≡ true → refused wrong_length ≡ of_reply sync ws
  unfolding of_reply answer
  of_refused t = rw t

  pub taken : too_long ws ≡ false → counted 0 (tally_of sync ws) ≡ of_reply sync ws
  unfolding of_reply answer
  taken t = rw t

  -- the tally of what the two passes count
  abbrev joined : Listed → Framed → Tally
  joined l f =
      record {
        recordings = 1;
        words = length ws;
        skipped = l.skipped;
        chunks = l.chunks;
        complete = f.complete;
        cut = f.cut;
        strays = f.strays;
        packets = l.packets;
        units = l.units;
      }

  pub of_taken : too_long ws ≡ false → (l : Listed) → l ≡ listed_of sync ws → (f : Framed) → f ≡ framed_of sync ws → counted 0 (joined l f) ≡ of_reply sync ws
  unfolding tally_of
  of_taken t l e f g = ap₂ (λ (x : Listed) (y : Framed). counted 0 (joined x y)) e g ∙ taken t
