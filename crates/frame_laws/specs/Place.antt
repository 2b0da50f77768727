-- FORMAT, "Frames": the law of place. What the calls for a frame say at a listed place they say at place 0 of the words from there on. So a program that steps
-- through the frames of a recording, and judges or reads each from its own first word on, goes through the recording once.
use Rattle.std.specs.Prelude.{ℕ, ◌≤◌, ◌≡◌, true, List, length, drop}
use Rattle.base.specs.Limit.{recording_limit}
use Rattle.chunk.specs.Reading.{listed_at}
use Rattle.frame_laws.specs.Resync.{SameFrame}

abbrev pub FramesByPlace : Type 0
FramesByPlace = (sync : ℕ) (ws : List ℕ) (p : ℕ) → length ws ≤ recording_limit → listed_at sync ws p ≡ true → SameFrame sync (drop p ws) 0 ws p
