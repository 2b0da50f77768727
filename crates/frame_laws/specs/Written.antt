-- FORMAT, "The three demands": demand 2 for frames. A frame that is written chunk by chunk, with its observation packet after it, is complete and gives its data back.
use Rattle.std.specs.Prelude.{ℕ, suc, ◌+◌, ◌%◌, ◌≤◌, ◌≡◌, Bool, true, false, ◌&&◌, List, [], ◌∷◌, ◌++◌, length, leb, eqb}
use Rattle.base_room.specs.Room.{put}
use Rattle.base.specs.Limit.{recording_limit}
use Rattle.base.specs.Size.{parity_width, unit_width}
use Rattle.chunk_laws.specs.Stretch.{Laid, words, offset, empty, whole_row}
use Rattle.chunk_laws.specs.Written.{WriterCall, Accepted, recorded}
use Rattle.parity_laws.specs.Units.{Hold}
use Rattle.health_laws.specs.Written as packet
use Rattle.frame.specs.Shape.{observes}
use Rattle.frame_reading.specs.Replies.{frame, at_reply, judge_reply, read_reply, read_room}

-- lists joined
unfoldable pub joined : List (List ℕ) → List ℕ
joined [] = []
joined (l ∷ ls) = l ++ joined ls

-- a row of units: each of 264 words, the last one possibly shorter, of 9 at the least
unfoldable pub unit_row : List (List ℕ) → Bool
unit_row [] = false
unit_row (u ∷ []) = leb (suc parity_width) (length u) && leb (length u) unit_width
unit_row (u ∷ v ∷ us) = eqb (length u) unit_width && unit_row (v ∷ us)

-- every chunk is a row of units
unfoldable pub unit_rows : List (List (List ℕ)) → Bool
unit_rows [] = true
unit_rows (us ∷ uss) = unit_row us && unit_rows uss

-- there is a chunk, and all but the last are a multiple of 264
unfoldable pub full_but_last : List (List (List ℕ)) → Bool
full_but_last [] = false
full_but_last (us ∷ []) = true
full_but_last (us ∷ vs ∷ uss) = eqb (length (joined us) % unit_width) 0 && full_but_last (vs ∷ uss)

-- all units of a frame, in order
abbrev pub all_units : List (List (List ℕ)) → List (List ℕ)
all_units [] = []
all_units (us ∷ uss) = us ++ all_units uss

-- ---- calls of the chunk writer

-- An image chunk of a frame: its units, which joined are the payload, and the room that the writer was lent for it.
pub record Image : Type 0 where
  pub units : List (List ℕ)
  pub room : List ℕ

-- the units of these chunks, chunk by chunk
abbrev pub image_units : List Image → List (List (List ℕ))
image_units [] = []
image_units (i ∷ is) = i.units ∷ image_units is

-- The calls that wrote a frame and the health chunk after it: the first has the camera, those after it are continuations.
abbrev pub frame_calls : ℕ → List Image → WriterCall → List WriterCall
frame_calls cam [] health = health ∷ []
frame_calls cam (i ∷ is) health = record { kind = 0; camera = cam; payload = joined i.units; room = i.room } ∷ frame_calls 0 is health

-- A frame of a camera, and after it a health chunk whose first packet observes the camera. Its units hold the data `ds`: as they were
-- written, or as they arrived, for a chunk whose units were hit has the words that the writer would have left for the units as they are then.
pub record WrittenFrame (cam : ℕ) (images : List Image) (health : WriterCall) (ds : List (List ℕ)) : Type 0 where
  pub of_camera : 1 ≤ cam
  pub units : unit_rows (image_units images) ≡ true
  pub full : full_but_last (image_units images) ≡ true
  pub closing : health.kind ≡ 1
  pub observed : observes health.payload cam ≡ true
  pub accepted : Accepted (frame_calls cam images health)
  pub hold : Hold (all_units (image_units images)) ds

-- the words of a recording: what these calls left, after the chunks `before` and with the chunks `after` after it
abbrev pub recording_of : ℕ → ℕ → List Laid → List Image → WriterCall → List Laid → List ℕ
recording_of sync cam before images health after = words sync before ++ (recorded sync (frame_calls cam images health) ++ words sync after)

-- ---- what comes back

-- The frame of n chunks at the place p comes back: it is complete, has the mark `end`, and its data, in a room that has as many words at the least, are
-- `ds` joined.
pub record ComesBack (sync cam p n : ℕ) (end : Bool) (ws : List ℕ) (ds : List (List ℕ)) : Type 0 where
  pub described : at_reply sync ws p ≡ frame 0 cam n true (length (joined ds)) end
  pub judges : judge_reply sync ws p ≡ frame 0 cam n true (length (joined ds)) end
  pub replies : (m : ℕ) → length (joined ds) ≤ m → read_reply sync ws p m ≡ frame 0 cam n true (length (joined ds)) end
  pub gives : (room : List ℕ) → length (joined ds) ≤ length room → read_room sync ws p room ≡ put (joined ds) 0 room

-- Every such frame comes back, in every recording of whole chunks that is not too long; with the mark exactly where no chunk follows the health chunk.
abbrev pub FramesComeBack : Type 0
FramesComeBack =
    (sync cam : ℕ) (before : List Laid) (images : List Image) (health : WriterCall) (after : List Laid) (ds : List (List ℕ))
    → WrittenFrame cam images health ds → whole_row before ≡ true → whole_row after ≡ true
    → length (recording_of sync cam before images health after) ≤ recording_limit
    → ComesBack sync cam (offset sync before) (length images) (empty after) (recording_of sync cam before images health after) ds

-- The observation packet of a camera closes its frame: as the packet writer left it, with any time and words that it accepts, and whatever packets come after.
abbrev pub ObservationCloses : Type 0
ObservationCloses = (cam time : ℕ) (ws room packets : List ℕ) → packet.Accepted (3 + cam) ws room
    → observes (packet.written (3 + cam) time ws room ++ packets) cam ≡ true
