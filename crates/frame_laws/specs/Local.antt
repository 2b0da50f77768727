-- FORMAT, "Frames": a frame is a matter of its own words. No skipped word lies inside it, a continuation after a skipped word joins nothing and is stray, and
-- no word from before its first chunk or after its last is in its data.
use Rattle.std.specs.Prelude.{ℕ, suc, ◌+◌, ◌≡◌, true, false, List, [], ◌∷◌, ◌++◌, map, take, drop}
use Rattle.chunk.specs.declared.Entry.{Entry}
use Rattle.chunk.specs.Header.{span, confirmed}
use Rattle.chunk.specs.Reading.{entry, reading, listed_words}
use Rattle.chunk_laws.specs.Outside.{covered}
use Rattle.frame.specs.Shape.{continues, frame_chunks, frame_words}
use Rattle.frame.specs.Picture.{frame_units}
use Rattle.frame.specs.Pieces.{frames_and_strays, pieces_of}
use Rattle.frame_reading.specs.Replies.{no_frame}

-- chunks that stand end to end from a place on
abbrev pub EndToEnd : ℕ → List Entry → Type 0
EndToEnd at [] = Unit {0}
EndToEnd at (e ∷ es) = (e.position.0 ≡ at) × EndToEnd (at + span e.header) es

-- chunks by their positions and header words alone
abbrev pub unmarked : List Entry → List Entry
unmarked es = map (λ (e : Entry). entry e.position.0 e.header false) es

-- What holds of the frame at the front of these words.
pub record Local (sync : ℕ) (ws : List ℕ) : Type 0 where
  -- its chunks stand end to end: no skipped word lies inside it
  pub end_to_end : EndToEnd 0 (frame_chunks sync ws)
  -- where no chunk is confirmed at the end of its first chunks, it has no others: what comes after a skipped word joins nothing
  pub stops : (n : ℕ) → confirmed sync (drop (listed_words (take (suc n) (frame_chunks sync ws))) ws) ≡ false
      → take (suc n) (frame_chunks sync ws) ≡ frame_chunks sync ws
  -- its own words alone have the same chunks and the same units, and so the same data; but of these words the last chunk is the end, so it has the mark
  pub same_chunks : unmarked (frame_chunks sync (take (frame_words sync ws) ws)) ≡ unmarked (frame_chunks sync ws)
  pub same_units : frame_units sync (take (frame_words sync ws) ws) ≡ frame_units sync ws

-- every frame of a recording: of each listed chunk that starts one
abbrev pub FramesLocal : Type 0
FramesLocal = (sync : ℕ) (ws : List ℕ) (p : ℕ) → no_frame sync ws p ≡ false → Local sync (drop p ws)

-- A listed continuation is stray where the word before it is skipped, or none is before it: the frames and strays of the recording are those of the chunks
-- before it, the continuation, and those of the chunks after it. So it is in no frame, whatever stands before it.
abbrev pub StrayAfterGap : Type 0
StrayAfterGap =
    (sync : ℕ) (ws : List ℕ) (before : List Entry) (e : Entry) (after : List Entry) → reading sync ws ≡ before ++ e ∷ after → continues e.header ≡ true
    → ((k : ℕ) → e.position.0 ≡ suc k → covered (reading sync ws) k ≡ false)
    → pieces_of sync ws ≡ frames_and_strays 0 false before ++ e ∷ frames_and_strays 0 false after
