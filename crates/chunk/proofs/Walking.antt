-- The walk over the chunks in steps of the search: a turn gives the chunk found from the place where the walk stands, and the walk goes on past it.
use Rattle.std.proofs.Common.{◌≡◌, ℕ, List, Some, None, sym, ap₂, ◌∙◌}
use Rattle.base.specs.declared.Words.{Words}
use Rattle.chunk.specs.declared.Entry.{Entry}
use Rattle.chunk.specs.declared.walk.Chunks.{Chunks}
use Rattle.chunk.specs.Reading.{next_from}
use Rattle.chunk.specs.Walk.{chunks_step}
use Rattle.chunk.proofs.Steps.{Next, Last, stepped, ended}

-- a walk over the chunks of these words
pub record Walks (sync : ℕ) (ws : List ℕ) (s : Chunks) : Type 0 where
  pub same-words : s.words.now ≡ ws
  pub same-sync : s.sync ≡ sync

-- A turn with a chunk: the search from the place of the walk finds it, and the walk goes on past it.
pub record Turn (sync : ℕ) (ws : List ℕ) (s : Chunks) (e : Entry) (n : Words) (t : Chunks) : Type 0 where
  pub next : Next sync ws s.at.0 e n.0
  pub on : Walks sync ws t
  pub past : t.at ≡ n

module _ (sync : ℕ) (ws : List ℕ) (s t : Chunks) (w : Walks sync ws s) where
  same-search : next_from s.sync s.words.now s.at.0 ≡ next_from sync ws s.at.0
  same-search = ap₂ (λ (y : ℕ) (x : List ℕ). next_from y x s.at.0) w.same-sync w.same-words

  pub turn : (e : Entry) (n : Words) → chunks_step s (Some (e, n)) t → Turn sync ws s e n t
  turn e n c =
      record {
        next = stepped sync ws s.at.0 e n (sym same-search ∙ sym c.found);
        on = record { same-words = c.words ∙ w.same-words; same-sync = c.sync ∙ w.same-sync };
        past = c.past;
      }

  -- the last turn: the search finds none
  pub turned : chunks_step s None t → Last sync ws s.at.0
  turned c = ended sync ws s.at.0 (sym same-search ∙ sym c.found)
