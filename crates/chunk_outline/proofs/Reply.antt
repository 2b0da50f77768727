-- The outline's reply in its cases: a refusal, and the runs of all the chunks, counted from the end of the first.
use mathlib.Core.Path.{◌≡◌, sym, ap, ◌∙◌}
use mathlib.Core.Bool.{true, false}
use mathlib.Core.List.{List}
use Prim.Native.Nat.{ℕ}
use Rattle.base.specs.Limit.{too_long}
use Rattle.base.specs.Refusal.{wrong_length, answer}
use Rattle.chunk.specs.declared.Entry.{Entry}
use Rattle.chunk.specs.Header.{kind}
use Rattle.chunk.specs.Reading.{reading}
use Rattle.chunk.proofs.Steps.{Next, Last}
use Rattle.chunk_outline.specs.Runs.{runs, count_kind}
use Rattle.chunk_outline.specs.Outline.{counted, refused, outline_reply}
use Rattle.chunk_outline.specs.Within.{runs_on}
use Rattle.chunk_outline.proofs.run.Going.{runs-from}

module _ (sync : ℕ) (ws : List ℕ) where
  pub too-long-refused : too_long ws ≡ true → refused wrong_length ≡ outline_reply sync ws
  unfolding outline_reply answer
  too-long-refused h = rw h

  pub runs-counted : too_long ws ≡ false → (image health : ℕ) → image ≡ count_kind 0 (runs (reading sync ws)) → health ≡ count_kind 1 (runs (reading sync ws))
      → counted 0 image health ≡ outline_reply sync ws
  unfolding outline_reply answer
  runs-counted l image health i h = rw (l, i, h)

  -- the runs from the first chunk on are all of them
  pub runs-all : (e : Entry) (n : ℕ) → Next sync ws 0 e n → (own : ℕ) → kind e.header ≡ own → (k : ℕ)
      → runs_on k own sync ws n ≡ count_kind k (runs (reading sync ws))
  runs-all e n s own i k = ap (λ (o : ℕ). runs_on k o sync ws n) (sym i) ∙ sym (runs-from sync ws 0 e n s k)

  pub runs_none : Last sync ws 0 → (k : ℕ) → 0 ≡ count_kind k (runs (reading sync ws))
  unfolding runs count_kind
  runs_none l k = sym (ap (λ (es : List Entry). count_kind k (runs es)) l.lists)
