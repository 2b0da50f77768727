-- FORMAT, "Health packets": the newest packet of a type. Of the last sound packets of the two recordings the newer is shown.
use Rattle.std.specs.Prelude.{ℕ, ◌+◌, ◌-◌, ◌%◌, Bool, false, cond, not, ◌&&◌, ◌||◌, Option, Some, None, List, [], ◌∷◌, ◌++◌, length, ◌==◌, nat_le}
use Rattle.base.specs.declared.Words.{Words}
use Rattle.base.specs.Size.{packet_width}
use Rattle.base.specs.Limit.{too_long, health_limit}
use Rattle.base.specs.Refusal.{Causes, verdict, answer, wrong_argument, wrong_length, nothing_there}
use Rattle.health.specs.Packet.{packet_at, packet_time}
use Rattle.health_places.specs.Packets.{science_places, health_places, sound_of}
use Rattle.health_last.specs.declared.Recording.{Recording}
use Rattle.health_last.specs.declared.Recording.TheVariants.{Science, Health}
use Rattle.health_last.specs.declared.Place.{Place}
use Rattle.health_last.specs.Packets.{science_end, last_where}

abbrev pub in_science : ℕ → List ℕ → ℕ → Option Words
in_science sync science t = last_where (sound_of science t) (science_places sync science)

abbrev pub in_health : List ℕ → ℕ → Option Words
in_health health t = last_where (sound_of health t) (health_places health)

abbrev pub place : ℕ → ℕ → ℕ → Bool → Place
place v recording at end = record { refusal = v; recording = recording; at = record { 0 = at }; end = end }

-- a refusal has zeros and no mark
abbrev pub refused : ℕ → Place
refused v = place v 0 0 false

-- how far the time h lies after the time s, modulo 65,536
abbrev pub ahead : ℕ → ℕ → ℕ
ahead s h = (h + (65536 - s)) % 65536

-- Which of two packets is newer, of time s in the science recording or of time h in the health recording: the health recording's (2) where its time lies 1 to
-- 32,767 after the other; neither (0) where the two are exactly 32,768 apart; else the science recording's (1), at equal times too.
unfoldable pub newer : ℕ → ℕ → ℕ
newer s h = cond (ahead s h == 32768) 0 (cond (nat_le 1 (ahead s h) && nat_le (ahead s h) 32767) 2 1)

-- the numbers of the recordings, 0 for neither
abbrev pub recording_number : Option Recording → ℕ
recording_number None = 0
recording_number (Some Science) = 1
recording_number (Some Health) = 2

-- the time of the packet that was found; 0 where none was, which decides nothing
unfoldable pub time_at : List ℕ → Option Words → ℕ
time_at ws (Some p) = packet_time (packet_at ws p.0)
time_at ws None = 0

-- the place of what was found in a recording, with its mark; no recording and no mark where nothing was
unfoldable pub place_in : ℕ → Option Words → Bool → Place
place_in recording (Some p) end = place 0 recording p.0 end
place_in recording None end = place 0 0 0 false

-- The rule for which packet is shown. Where both recordings have one it is that of recording n, the newer, and none where n is 0. Where one has none it is
-- the other's, whatever its time. A packet of the science recording has the mark `end`, one of the health recording, which has no chunks, has none.
unfoldable pub shown : Option Words → Bool → Option Words → ℕ → Place
shown (Some p) end (Some q) n = cond (n == 1) (place_in 1 (Some p) end) (cond (n == 2) (place_in 2 (Some q) false) (place 0 0 0 false))
shown (Some p) end None n = place_in 1 (Some p) end
shown None end s n = place_in 2 s false

-- what is shown: the last packet of each recording, by place, is found, and these two are compared
unfoldable pub newest : ℕ → List ℕ → List ℕ → ℕ → Place
newest sync science health t =
    let a = in_science sync science t in
    let b = in_health health t in
    shown a (science_end sync science a) b (newer (time_at science a) (time_at health b))

-- types 1 to 15 can be asked for
abbrev pub asked_type : ℕ → Bool
asked_type t = nat_le 1 t && nat_le t 15

-- a health recording has a multiple of 32 words, at most 32,768
abbrev pub health_length : ℕ → Bool
health_length n = n % packet_width == 0 && nat_le n health_limit

-- a type that cannot be asked for; either recording too long, or the health recording no packets back to back
abbrev pub argument_causes : List ℕ → List ℕ → ℕ → Causes
argument_causes science health t =
    (wrong_argument, not (asked_type t)) ∷ (wrong_length, too_long science || not (health_length (length health))) ∷ []

-- these, and last that nothing is shown: neither recording has a packet, or the two are exactly half a turn apart
abbrev pub last_causes : ℕ → List ℕ → List ℕ → ℕ → Causes
last_causes sync science health t =
    argument_causes science health t ++ (nothing_there, ((newest sync science health t).recording == 0)) ∷ []

-- which recording the packet is shown of, its place there, and whether it stands in a chunk that ends with the science recording
unfoldable pub last_place_reply : ℕ → List ℕ → List ℕ → ℕ → Place
last_place_reply sync science health t =
    answer (verdict (last_causes sync science health t)) refused (newest sync science health t)

-- the 32 words at a place of one of the two; no words where nothing is shown
unfoldable pub part_at : Place → List ℕ → List ℕ → List ℕ
part_at s science health =
    cond (s.recording == 1) (packet_at science s.at.0) (cond (s.recording == 2) (packet_at health s.at.0) [])

abbrev pub last_packet_reply : ℕ → List ℕ → List ℕ → ℕ → List ℕ
last_packet_reply sync science health t = part_at (last_place_reply sync science health t) science health
