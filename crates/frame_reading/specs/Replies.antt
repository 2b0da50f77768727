-- FORMAT, "Frames": what the calls for an asked frame answer.
use Rattle.std.specs.Prelude.{ℕ, Bool, false, not, ◌&&◌, List, [], ◌∷◌, ◌++◌, length, drop, get_or, ltb}
use Rattle.base.specs.Refusal.{Causes, verdict, answer, wrong_length, nothing_there, frame_cut, wrong_parity, no_room}
use Rattle.base_room.specs.Room.{put}
use Rattle.base.specs.Limit.{too_long}
use Rattle.chunk.specs.Reading.{listed_at}
use Rattle.parity_units.specs.Split.{any_damaged}
use Rattle.frame.specs.declared.Description.{Description}
use Rattle.frame.specs.Shape.{starts, complete}
use Rattle.frame.specs.Picture.{frame_units, frame_length, frame_data}
use Rattle.frame.specs.Described.{described}
use Rattle.frame_reading.specs.declared.Frame.{Frame}

abbrev pub frame : ℕ → ℕ → ℕ → Bool → ℕ → Bool → Frame
frame v cam n all len end = record { refusal = v; camera = cam; chunks = n; complete = all; length = record { 0 = len }; end = end }

abbrev pub refused : ℕ → Frame
refused v = frame v 0 0 false 0 false

-- what is said of a frame, as a reply that refuses nothing
abbrev pub told : Description → Frame
told d = frame 0 d.camera d.chunks d.complete d.length.0 d.end

-- no listed chunk that starts a frame stands at the place
abbrev pub no_frame : ℕ → List ℕ → ℕ → Bool
no_frame sync ws p = not (listed_at sync ws p && starts (get_or (drop p ws) 1 0))

-- what a frame is
abbrev pub at_causes : ℕ → List ℕ → ℕ → Causes
at_causes sync ws p = (wrong_length, too_long ws) ∷ (nothing_there, no_frame sync ws p) ∷ []

unfoldable pub at_reply : ℕ → List ℕ → ℕ → Frame
at_reply sync ws p = answer (verdict (at_causes sync ws p)) refused (told (described sync (drop p ws)))

-- whether its data can be had: it is complete, and no unit of it is refused
abbrev pub judge_causes : ℕ → List ℕ → ℕ → Causes
judge_causes sync ws p =
    at_causes sync ws p ++ (frame_cut, not (complete sync (drop p ws))) ∷ (wrong_parity, any_damaged (frame_units sync (drop p ws))) ∷ []

unfoldable pub judge_reply : ℕ → List ℕ → ℕ → Frame
judge_reply sync ws p = answer (verdict (judge_causes sync ws p)) refused (told (described sync (drop p ws)))

-- its data, in a room of m words
abbrev pub read_causes : ℕ → List ℕ → ℕ → ℕ → Causes
read_causes sync ws p m = judge_causes sync ws p ++ (no_room, ltb m (frame_length sync (drop p ws))) ∷ []

unfoldable pub read_reply : ℕ → List ℕ → ℕ → ℕ → Frame
read_reply sync ws p m = answer (verdict (read_causes sync ws p m)) refused (told (described sync (drop p ws)))

-- the room after the call: the joined data at its front and every other word as it was
unfoldable pub read_room : ℕ → List ℕ → ℕ → List ℕ → List ℕ
read_room sync ws p room = answer (verdict (read_causes sync ws p (length room))) (λ v. room) (put (frame_data sync (drop p ws)) 0 room)
