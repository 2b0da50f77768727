-- FORMAT, "The tally": no number of a recording's tally is made up; each is accounted for by what is listed.
use Rattle.std.specs.Prelude.{ℕ, ◌+◌, ◌-◌, ◌≤◌, ◌<◌, ◌≡◌, cond, List, [], ◌∷◌, length, get_or, drop}
use Rattle.base.specs.Limit.{recording_limit}
use Rattle.parity.specs.Unit.{Finding, sound, parity_bit, data_bit, neither, finding, judge_reply}
use Rattle.parity_units.specs.Replies.{outcome_of}
use Rattle.chunk.specs.declared.Entry.{Entry}
use Rattle.chunk.specs.Reading.{reading, listed_words}
use Rattle.chunk_reading.specs.Counting.{survey_reply}
use Rattle.health_places.specs.Packets.{science_places}
use Rattle.frame.specs.Shape.{starts, frame_chunks}
use Rattle.frame.specs.Picture.{units_of}
use Rattle.frame.specs.Pieces.{pieces_of}
use Rattle.tally_recording.specs.declared.Tally.{Tally}
use Rattle.tally_recording.specs.Tally.{images, tally_of}

-- the sum of a row
unfoldable pub total : List ℕ → ℕ
total [] = 0
total (n ∷ ns) = n + total ns

-- the chunks that join the frames among these frames and strays: of each frame its chunks, less the one that starts it
unfoldable pub joined_in : ℕ → List ℕ → List Entry → ℕ
joined_in sync ws [] = 0
joined_in sync ws (e ∷ es) = cond (starts e.header) (length (frame_chunks sync (drop e.position.0 ws)) - 1) 0 + joined_in sync ws es

-- the units of the listed image chunks
abbrev pub image_units : ℕ → List ℕ → List (List ℕ)
image_units sync ws = units_of ws (images (reading sync ws))

-- where a unit is counted by what is found of it: sound, a parity bit hit, repaired, not repairable
abbrev pub finding_number : Finding → ℕ
finding_number sound = 0
finding_number (parity_bit w b) = 1
finding_number (data_bit w b) = 2
finding_number neither = 3

-- With t the tally of a recording.
pub record AccountsOf (sync : ℕ) (ws : List ℕ) (t : Tally) : Type 0 where
  -- every word is skipped or stands in a listed chunk
  pub words : t.words ≡ t.skipped + listed_words (reading sync ws)
  -- every listed chunk is counted once
  pub chunks : total t.chunks ≡ length (reading sync ws)
  -- and a survey of the recording, where it is within the limit, counts as many
  pub surveyed : length ws ≤ recording_limit → ((survey_reply sync ws).chunks ≡ total t.chunks) × ((survey_reply sync ws).skipped.0 ≡ t.skipped)
  -- every image chunk of camera 1 to 3 starts a frame, which is complete or cut
  pub frames : t.complete + t.cut ≡ get_or t.chunks 1 0 + get_or t.chunks 2 0 + get_or t.chunks 3 0
  -- every image chunk of camera 0 is a stray or joins a frame
  pub continuations : t.strays + joined_in sync ws (pieces_of sync ws) ≡ get_or t.chunks 0 0
  -- every unit of the image chunks is counted once
  pub units : total t.units ≡ length (image_units sync ws)
  -- by what is found of it: none is refused for its length, so those counted last are exactly those that cannot be repaired
  pub by_finding : (i : ℕ) → i < length (image_units sync ws)
      → outcome_of (judge_reply (get_or (image_units sync ws) i [])) ≡ finding_number (finding (get_or (image_units sync ws) i []))
  -- no packet of the health chunks is counted twice
  pub packets : total t.packets ≤ length (science_places sync ws)

abbrev pub Accounts : ℕ → List ℕ → Type 0
Accounts sync ws = AccountsOf sync ws (tally_of sync ws)

abbrev pub EveryNumberIsAccountedFor : Type 0
EveryNumberIsAccountedFor = (sync : ℕ) (ws : List ℕ) → Accounts sync ws
