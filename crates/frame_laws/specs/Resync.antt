-- FORMAT, "The three demands": demand 3 for frames. After any words, every frame that starts in a listed chunk of a clean stretch is that of the stretch alone,
-- asked for by its place, and come to by going through the recording.
use Rattle.std.specs.Prelude.{ℕ, ◌+◌, ◌≡◌, Bool, true, List, ◌∷◌, ◌++◌, length, Option, Some, None}
use Rattle.chunk.specs.Reading.{entry, reading}
use Rattle.chunk_laws.specs.Stretch.{Laid, words, offset}
use Rattle.chunk_laws.specs.Listed.{Among}
use Rattle.chunk_laws.specs.Resync.{from, moved_entry, moved}
use Rattle.frame.specs.declared.Piece.{Piece}
use Rattle.frame.specs.Shape.{starts}
use Rattle.frame.specs.Pieces.{pieces_of, next_piece}
use Rattle.frame_reading.specs.Replies.{at_reply, judge_reply, read_reply, read_room}

-- Each call for a frame answers at the place p of a recording what it answers at the place q of another, mark included, and leaves the same data in the room.
pub record SameFrame (sync : ℕ) (ws : List ℕ) (p : ℕ) (vs : List ℕ) (q : ℕ) : Type 0 where
  pub described : at_reply sync ws p ≡ at_reply sync vs q
  pub judges : judge_reply sync ws p ≡ judge_reply sync vs q
  pub replies : (m : ℕ) → read_reply sync ws p m ≡ read_reply sync vs q m
  pub gives : (room : List ℕ) → read_room sync ws p room ≡ read_room sync vs q room

-- After the words `a` every frame that starts in a listed chunk of the stretch `cs` is that of the stretch alone, its position moved by the words of `a`.
abbrev pub FramesAsAlone : ℕ → List ℕ → List Laid → Type 0
FramesAsAlone sync a cs =
    (before : List Laid) (c : Laid) (after : List Laid) → cs ≡ before ++ c ∷ after → (end : Bool)
    → Among (entry (length a + offset sync before) c.header end) (reading sync (a ++ words sync cs))
    → SameFrame sync (a ++ words sync cs) (length a + offset sync before) (words sync cs) (offset sync before)

-- a frame or stray with its places moved on by n words; its mark stays
abbrev pub moved_piece : ℕ → Option Piece → Option Piece
moved_piece n None = None
moved_piece n (Some (Piece.Frame p d end)) = Some (Piece.Frame (record { 0 = n + p.0 }) d (record { 0 = n + end.0 }))
moved_piece n (Some (Piece.Stray e end)) = Some (Piece.Stray (moved_entry n e) (record { 0 = n + end.0 }))

-- Going through the stretch `cs` after the words `a`, a frame or stray at a time.
pub record StepsAsAlone (sync : ℕ) (a : List ℕ) (cs : List Laid) : Type 0 where
  -- from each place of the stretch, and so from each of its listed chunks and from each place to go on from, the next is that of the stretch alone
  pub next : (q : ℕ) → next_piece sync (a ++ words sync cs) (length a + q) ≡ moved_piece (length a) (next_piece sync (words sync cs) q)
  -- from each of its listed chunks that starts a frame, and so from the first, the frames and strays of the recording are those of the stretch alone
  pub onward : (before : List Laid) (c : Laid) (after : List Laid) → cs ≡ before ++ c ∷ after → (end : Bool)
      → Among (entry (length a + offset sync before) c.header end) (reading sync (a ++ words sync cs)) → starts c.header ≡ true
      → from (length a + offset sync before) (pieces_of sync (a ++ words sync cs))
      ≡ moved (length a) (from (offset sync before) (pieces_of sync (words sync cs)))
