-- FORMAT, "Reel": what the writer answers and writes.
use Rattle.std.specs.Prelude.{ℕ, List, [], ◌∷◌, length, ltb}
use Rattle.base.specs.Limit.{reel_limit}
use Rattle.base.specs.Refusal.{Causes, wrong_length, no_room, verdict, answer, settled}
use Rattle.base_room.specs.Room.{put}
use Rattle.base.specs.declared.Written.{Written}
use Rattle.chunk.specs.Reading.{reading}
use Rattle.reel.specs.Layout.{reel_words, reel_of}

-- the words of the recording's reel
abbrev pub reel_length : ℕ → List ℕ → ℕ
reel_length sync ws = reel_words (length ws) (length (reading sync ws))

-- a recording above the limit, then a room of m words that is too small for the reel
abbrev pub write_causes : ℕ → List ℕ → ℕ → Causes
write_causes sync ws m = (wrong_length, ltb reel_limit (length ws)) ∷ (no_room, ltb m (reel_length sync ws)) ∷ []

-- The reply: the words of the reel.
unfoldable pub write_reply : ℕ → List ℕ → ℕ → Written
write_reply sync ws m = settled (verdict (write_causes sync ws m)) (reel_length sync ws)

-- The room afterwards: the reel at its front and every other word as it was; a refusal alters nothing.
unfoldable pub write_room : ℕ → List ℕ → List ℕ → List ℕ
write_room sync ws room = answer (verdict (write_causes sync ws (length room))) (λ v. room) (put (reel_of sync ws) 0 room)
