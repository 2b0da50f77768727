-- FORMAT, "Chunks" and "The three demands": what the writer wrote is given back by the calls that read, alone and in rows.
use Rattle.std.specs.Prelude.{ℕ, ◌+◌, ◌≤◌, ◌≡◌, not, List, [], ◌∷◌, ◌++◌, map, length, take}
use Rattle.base.specs.Limit.{recording_limit}
use Rattle.base.specs.declared.Written.{Written}
use Rattle.chunk.specs.declared.Entry.{Entry}
use Rattle.chunk.specs.Reading.{entry}
use Rattle.chunk_reading.specs.declared.Heading.{Heading}
use Rattle.chunk_reading.specs.Counting.{surveyed, survey_reply}
use Rattle.chunk_reading.specs.Place.{heading, heading_of, at_reply, payload_reply}
use Rattle.chunk_writing.specs.Writing.{header_word, write_reply, write_room}
use Rattle.chunk_register.specs.Register.{entered, list_reply, list_room}
use Rattle.chunk_laws.specs.Stretch.{empty}

-- ---- calls of the writer

-- A call of the writer: what it was given, and the room that it was lent.
pub record WriterCall : Type 0 where
  pub kind : ℕ
  pub camera : ℕ
  pub payload : List ℕ
  pub room : List ℕ

-- the writer's reply
abbrev pub reply : WriterCall → Written
reply c = write_reply c.kind c.camera (length c.payload) (length c.room)

-- the words that it left at the front of the room, as many as it replied
abbrev pub written : ℕ → WriterCall → List ℕ
written sync c = take (reply c).length.0 (write_room sync c.kind c.camera c.payload c.room)

-- every one of these calls was accepted
abbrev pub Accepted : List WriterCall → Type 0
Accepted [] = Unit {0}
Accepted (c ∷ cs) = ((reply c).refusal ≡ 0) × Accepted cs

-- the words that these calls left, end to end
abbrev pub recorded : ℕ → List WriterCall → List ℕ
recorded sync [] = []
recorded sync (c ∷ cs) = written sync c ++ recorded sync cs

-- ---- what the calls that read give back

-- the kind, the camera and the size of a written chunk; it ends with the recording where none of these is written after it
abbrev pub told : WriterCall → List WriterCall → Heading
told c after = heading 0 c.kind c.camera (length c.payload) (empty after)

-- of each
abbrev pub all_told : List WriterCall → List Heading
all_told [] = []
all_told (c ∷ cs) = told c cs ∷ all_told cs

-- the calls for a place give each chunk back, the first at the place p and each other where the one before it ends
abbrev pub GivenAt : ℕ → List ℕ → ℕ → List WriterCall → Type 0
GivenAt sync ws p [] = Unit {0}
GivenAt sync ws p (c ∷ cs) = (at_reply sync ws p ≡ told c cs) × (payload_reply sync ws p ≡ c.payload) × GivenAt sync ws (p + (reply c).length.0) cs

-- the entry of each chunk, at the same places: the last alone has the mark
abbrev pub entries_at : ℕ → List WriterCall → List Entry
entries_at p [] = []
entries_at p (c ∷ cs) = entry p (header_word c.kind c.camera (length c.payload)) (empty cs) ∷ entries_at (p + (reply c).length.0) cs

-- The words of a recording give back what these calls wrote.
pub record GivenBack (sync : ℕ) (ws : List ℕ) (cs : List WriterCall) : Type 0 where
  -- the survey counts the chunks, and no skipped word; where there is a chunk, one ends with the recording
  pub survey : survey_reply sync ws ≡ surveyed 0 (length cs) 0 (not (empty cs))
  -- the calls for a place give kind, camera, size, mark and payload of each
  pub each : GivenAt sync ws 0 cs
  -- a register of enough entries gets one for each, and its other entries are as they were
  pub register : (register : List Entry) → length cs ≤ length register
      → (list_reply sync ws (length register) ≡ surveyed 0 (length cs) 0 (not (empty cs))) × (list_room sync ws register ≡ entered (entries_at 0 cs) register)
  -- which say kind, camera, size and mark of each
  pub headers : map (λ (e : Entry). heading_of e.header e.end) (entries_at 0 cs) ≡ all_told cs

-- a written chunk alone is given back
abbrev pub WrittenAlone : Type 0
WrittenAlone = (sync : ℕ) (c : WriterCall) → (reply c).refusal ≡ 0 → GivenBack sync (written sync c) (c ∷ [])

-- and so is a row of written chunks, of any length within the limit of a recording
abbrev pub WrittenInRows : Type 0
WrittenInRows = (sync : ℕ) (cs : List WriterCall) → Accepted cs → length (recorded sync cs) ≤ recording_limit → GivenBack sync (recorded sync cs) cs
