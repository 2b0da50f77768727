-- FORMAT, "Chunks" and "Refusal numbers": what is answered of a place of a recording.
use Rattle.std.specs.Prelude.{ℕ, Bool, false, not, List, [], ◌∷◌, ◌++◌, get_or, take, drop}
use Rattle.base.specs.Refusal.{Causes, nothing_there, verdict, answer}
use Rattle.chunk.specs.Header.{header_width, size, camera, kind, at_end}
use Rattle.chunk.specs.Reading.{listed_at}
use Rattle.chunk_reading.specs.declared.Heading.{Heading}
use Rattle.chunk_reading.specs.Counting.{survey_causes}

-- a place where no chunk is listed is 2, in a recording that can be read
abbrev pub at_causes : ℕ → List ℕ → ℕ → Causes
at_causes sync ws place = survey_causes ws ++ (nothing_there, not (listed_at sync ws place)) ∷ []

abbrev pub heading : ℕ → ℕ → ℕ → ℕ → Bool → Heading
heading v k c n end = record { refusal = v; kind = k; camera = c; size = record { 0 = n }; end = end }

-- a refusal has zeros and no mark
abbrev pub refused : ℕ → Heading
refused v = heading v 0 0 0 false

-- the fields of a header word, with the mark
abbrev pub heading_of : ℕ → Bool → Heading
heading_of h end = heading 0 (kind h) (camera h) (size h) end

-- the chunk at a place: kind, camera and size, marked where it ends with the recording
abbrev pub at_reply : ℕ → List ℕ → ℕ → Heading
at_reply sync ws place = answer (verdict (at_causes sync ws place)) refused (heading_of (get_or (drop place ws) 1 0) (at_end (drop place ws)))

-- the payload of the chunk at a place: the words after its header, as many as it says; none on a refusal
abbrev pub payload_reply : ℕ → List ℕ → ℕ → List ℕ
payload_reply sync ws place =
    answer (verdict (at_causes sync ws place)) (λ v. []) (take (size (get_or (drop place ws) 1 0)) (drop header_width (drop place ws)))
