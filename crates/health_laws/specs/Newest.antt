-- FORMAT, "Health packets", the newest packet of a type: how the times of two packets are compared, and what is shown of two recordings.
use Rattle.std.specs.Prelude.{ℕ, ◌+◌, ◌%◌, ◌≤◌, ◌<◌, ◌≡◌, true, false, List, [], ◌∷◌, ◌++◌, ◌⊎◌}
use Rattle.base.specs.Refusal.{verdict}
use Rattle.health.specs.Packet.{packet_at, type_of_packet, packet_time, sound_packet}
use Rattle.health_last.specs.Packets.{science_end, found_at, nowhere}
use Rattle.health_last.specs.Last.{in_science, in_health, place, ahead, newer, argument_causes, last_place_reply, last_packet_reply}
use Rattle.chunk_laws.specs.Stretch.{empty}
use Rattle.chunk_laws.specs.Written.{recorded}
use Rattle.health_laws.specs.Recordings.{Packet, left, packets, none_of, Carrier, calls, all_carried}

-- ---- two times

-- exchanged, if they differ, the newer is still the newer, and half a turn is half a turn
abbrev pub NewerExchanged : Type 0
NewerExchanged = (s h : ℕ) → s < 65536 → h < 65536 → (s ≡ h → ⊥)
    → ((newer s h ≡ 2 → newer h s ≡ 1) × (newer h s ≡ 1 → newer s h ≡ 2))
    × ((newer s h ≡ 0 → newer h s ≡ 0) × (newer h s ≡ 0 → newer s h ≡ 0))

-- the counter has no epoch: where it stood at 0 does not matter, nor whether it turned between the two
abbrev pub NewerWithoutEpoch : Type 0
NewerWithoutEpoch = (s h c : ℕ) → s < 65536 → h < 65536 → newer ((s + c) % 65536) ((h + c) % 65536) ≡ newer s h

-- ---- two recordings

-- the type and the lengths are right
abbrev pub RightlyAsked : List ℕ → List ℕ → ℕ → Type 0
RightlyAsked science health t = verdict (argument_causes science health t) ≡ 0

-- how far the packet at q of the health recording lies after the packet at p of the science recording
abbrev pub apart : List ℕ → List ℕ → ℕ → ℕ → ℕ
apart science health p q = ahead (packet_time (packet_at science p)) (packet_time (packet_at health q))

module _ (sync : ℕ) (science health : List ℕ) (t : ℕ) where
  -- both calls show the packet at this place of the science recording, with its mark, or of the health recording, or refuse with 2
  abbrev pub ScienceShown : ℕ → Type 0
  ScienceShown p = (last_place_reply sync science health t ≡ place 0 1 p (science_end sync science (found_at p)))
      × (last_packet_reply sync science health t ≡ packet_at science p)

  abbrev pub HealthShown : ℕ → Type 0
  HealthShown q = (last_place_reply sync science health t ≡ place 0 2 q false) × (last_packet_reply sync science health t ≡ packet_at health q)

  abbrev pub NothingShown : Type 0
  NothingShown = (last_place_reply sync science health t ≡ place 2 0 0 false) × (last_packet_reply sync science health t ≡ [])

  -- both recordings have a packet of the type, the last at p and at q
  abbrev pub BothFound : ℕ → ℕ → Type 0
  BothFound p q = (in_science sync science t ≡ found_at p) × (in_health health t ≡ found_at q)

  pub record NewestShown : Type 0 where
    -- never stale: of two packets the one that is shown is the newer, or at equal times the science recording's
    pub never_stale : (p q : ℕ) → BothFound p q → (last_place_reply sync science health t).refusal ≡ 0
        → (ScienceShown p × ((apart science health p q ≡ 0) ⊎ (32768 < apart science health p q)))
        ⊎ (HealthShown q × (1 ≤ apart science health p q) × (apart science health p q ≤ 32767))
    -- exactly half a turn apart nothing is shown, and otherwise one of them is
    pub half_a_turn : (p q : ℕ) → BothFound p q → RightlyAsked science health t → apart science health p q ≡ 32768 → NothingShown
    pub one_of_two : (p q : ℕ) → BothFound p q → RightlyAsked science health t → (apart science health p q ≡ 32768 → ⊥)
        → (last_place_reply sync science health t).refusal ≡ 0
    -- where one recording has none the other's is shown, whatever its time; where neither has one, nothing is
    pub only_science : (p : ℕ) → in_science sync science t ≡ found_at p → in_health health t ≡ nowhere → RightlyAsked science health t → ScienceShown p
    pub only_health : (q : ℕ) → in_science sync science t ≡ nowhere → in_health health t ≡ found_at q → RightlyAsked science health t → HealthShown q
    pub neither : in_science sync science t ≡ nowhere → in_health health t ≡ nowhere → RightlyAsked science health t → NothingShown
    -- what is shown is a sound packet of the asked type
    pub sound : (last_place_reply sync science health t).refusal ≡ 0
        → (sound_packet (last_packet_reply sync science health t) ≡ true) × (type_of_packet (last_packet_reply sync science health t) ≡ t)

abbrev pub NewestIsShown : Type 0
NewestIsShown = (sync : ℕ) (science health : List ℕ) (t : ℕ) → NewestShown sync science health t

-- ---- two recordings made of written packets

-- A science recording of written chunks, in which p is the last packet of its type.
pub record ScienceWith (p : Packet) : Type 0 where
  pub before : List Carrier
  pub carrier : Carrier
  pub after : List Carrier
  pub earlier : List Packet
  pub later : List Packet
  pub carries : carrier.carried ≡ earlier ++ p ∷ later
  pub last : none_of p.type (later ++ all_carried after) ≡ true

abbrev pub science_words : ℕ → {p : Packet} → ScienceWith p → List ℕ
science_words sync r = recorded sync (calls (r.before ++ r.carrier ∷ r.after))

-- A health recording of written packets, in which q is the last of its type.
pub record HealthWith (q : Packet) : Type 0 where
  pub before : List Packet
  pub after : List Packet
  pub last : none_of q.type after ≡ true

abbrev pub health_words : {q : Packet} → HealthWith q → List ℕ
health_words {q} r = packets (r.before ++ q ∷ r.after)

-- Of the two last packets of a type the newer comes back as it was written, and nothing where neither is. It has the mark exactly where it stands in
-- the last chunk of the science recording.
abbrev pub NewestComesBack : Type 0
NewestComesBack = (sync : ℕ) (p q : Packet) (a : ScienceWith p) (b : HealthWith q) → q.type ≡ p.type
    → RightlyAsked (science_words sync a) (health_words b) p.type
    → (newer p.time q.time ≡ 1 → (last_packet_reply sync (science_words sync a) (health_words b) p.type ≡ left p)
    × ((last_place_reply sync (science_words sync a) (health_words b) p.type).end ≡ empty a.after))
    × (newer p.time q.time ≡ 2 → (last_packet_reply sync (science_words sync a) (health_words b) p.type ≡ left q)
    × ((last_place_reply sync (science_words sync a) (health_words b) p.type).end ≡ false))
    × (newer p.time q.time ≡ 0 → NothingShown sync (science_words sync a) (health_words b) p.type)
