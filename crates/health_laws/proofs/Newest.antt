-- How far each of two different times lies after the other adds up to a whole turn, so where the one is less than half a turn the other is more. What is shown
-- follows, case by case, from what was found in each recording: of two packets the number of the newer decides, and where the arguments are right the reply
-- is a refusal only where that number is 0.
use mathlib.Core.Path.{◌≡◌, refl, sym, ap, ap₂, ◌∙◌}
use mathlib.Core.Bool.{Bool, true, false, cond, ◌&&◌}
use mathlib.Core.List.{List}
use mathlib.Core.Logic.{◌⊎◌, inl, inr}
use Prim.Native.Nat.{ℕ, ◌+◌, ◌%◌, ◌≤◌, ◌<◌}
use native.Mathlib.Omega.{arith}
use lib.ListN.{length}
use lib.Dec.{leb, eqb}
use borrow.Author.Tests.{eqb-true, eqb-false, leb-true, leb-false}
use Rattle.base.specs.Refusal.{verdict}
use Rattle.base.proofs.Booleans.{by-test}
use Rattle.base.proofs.Refused.{answer-yes, answer-number, spared}
use Rattle.chunk_laws.specs.Stretch.{empty}
use Rattle.chunk_laws.specs.Written.{recorded}
use Rattle.health.specs.Packet.{packet_at, type_of_packet, packet_time, sound_packet}
use Rattle.health_places.specs.Packets.{science_places, health_places, sound_of}
use Rattle.health_last.specs.declared.Place.{Place}
use Rattle.health_last.specs.Packets.{science_end, found_at, last_where}
use Rattle.health_last.specs.Last.{in_science, in_health, place, refused, ahead, newer, time_at, place_in, shown, newest, last_causes, last_place_reply, part_at, last_packet_reply}
use Rattle.health_last.proofs.Turn.{half, after, not_after}
use Rattle.health_last.proofs.Placed.{last-holds, sound-parts, newest-accepted, newest-recording, none-refused, found-shown, of-science, of-health, science-part, health-part}
use Rattle.health_laws.specs.Newest.{NewerExchanged, NewerWithoutEpoch, RightlyAsked, ScienceShown, HealthShown, NothingShown, BothFound, NewestIsShown, ScienceWith, science_words, HealthWith, health_words, NewestComesBack}
use Rattle.health_laws.specs.Recordings.{Packet, left, packets, calls}
use Rattle.health_laws.proofs.RoundTrip.{written-packet}
use Rattle.health_laws.proofs.Recordings.{last-in-science, last-in-health, stands-in-science, stands-in-health}

-- ---- two times

module _ (s h : ℕ) where
  -- the cases of the rule are all
  by-distance : {C : Type 0} → (ahead s h ≡ 32768 → C) → (1 ≤ ahead s h → ahead s h ≤ 32767 → C) → ((ahead s h ≡ 0) ⊎ (32768 < ahead s h) → C) → C
  by-distance p q r =
      let d = ahead s h in
      by-test (eqb d 32768) (λ e. p (eqb-true d 32768 e)) λ e.
      by-test (leb 1 d) (λ a.
      by-test (leb d 32767) (λ b. q (leb-true 1 d a) (leb-true d 32767 b)) λ b. r (inr (omega (arith, eqb-false d 32768 e, leb-false d 32767 b))))
      λ a. r (inl (omega (arith, leb-false 1 d a)))

module _ (s h : ℕ) (a : s < 65536) (b : h < 65536) (d : s ≡ h → ⊥) where
  whole-turn : ahead s h + ahead h s ≡ 65536
  whole-turn = omega (arith, a, b, d)

  half-again : newer s h ≡ 0 → newer h s ≡ 0
  half-again e =
      by-distance s h (λ x. half h s (omega (arith, x, whole-turn))) (λ x y. absurd (omega (arith, sym e ∙ after s h x y))) λ x.
      absurd (omega (arith, sym e ∙ not_after s h x))

  newer-again : newer s h ≡ 2 → newer h s ≡ 1
  newer-again e =
      by-distance s h (λ x. absurd (omega (arith, sym e ∙ half s h x))) (λ x y. not_after h s (inr (omega (arith, x, y, whole-turn)))) λ x.
      absurd (omega (arith, sym e ∙ not_after s h x))

  older-again : newer s h ≡ 1 → newer h s ≡ 2
  older-again e =
      by-distance s h (λ x. absurd (omega (arith, sym e ∙ half s h x))) (λ x y. absurd (omega (arith, sym e ∙ after s h x y)))
      λ x. elim x as (λ x. newer h s ≡ 2) [
        | inl z ↦ absurd (d (omega (arith, a, b, z)))
        | inr z ↦ after h s (omega (arith, z, whole-turn)) (omega (arith, z, whole-turn))
      ]

pub newer-exchanged : NewerExchanged
newer-exchanged s h a b d =
    let back : h ≡ s → ⊥ = λ e. d (sym e) in
    ((newer-again s h a b d, older-again h s b a back), (half-again s h a b d, half-again h s b a back))

pub newer-without-epoch : NewerWithoutEpoch
unfolding newer
newer-without-epoch s h c a b =
    let same : ahead ((s + c) % 65536) ((h + c) % 65536) ≡ ahead s h = omega (arith, a, b) in
    ap (λ (d : ℕ). cond (eqb d 32768) 0 (cond (leb 1 d && leb d 32767) 2 1)) same

-- ---- two recordings

module _ (sync : ℕ) (science health : List ℕ) (t : ℕ) where
  -- where the reply is this place, the part is the packet there
  science-shown : (p : ℕ) → last_place_reply sync science health t ≡ place 0 1 p (science_end sync science (found_at p)) → ScienceShown sync science health t p
  unfolding part_at
  science-shown p e = (e, ap (λ (s : Place). part_at s science health) e)

  health-shown : (q : ℕ) → last_place_reply sync science health t ≡ place 0 2 q false → HealthShown sync science health t q
  unfolding part_at
  health-shown q e = (e, ap (λ (s : Place). part_at s science health) e)

  -- a packet that is to be shown is shown, and where none is, the reply is 2
  is-shown : RightlyAsked science health t → {s : Place} → newest sync science health t ≡ s → (s.recording ≡ 0 → ⊥)
      → last_place_reply sync science health t ≡ s
  is-shown z e h = sym (found-shown sync science t health refl z (sym e) h)

  is-nothing : RightlyAsked science health t → newest sync science health t ≡ place 0 0 0 false → NothingShown sync science health t
  unfolding part_at
  is-nothing z e =
      let k = sym (none-refused sync science t health refl z (sym e) refl) in
      (k, ap (λ (s : Place). part_at s science health) k)

  -- a reply that is no refusal is what is to be shown, and there is something
  accepted : (last_place_reply sync science health t).refusal ≡ 0
      → (last_place_reply sync science health t ≡ newest sync science health t) × ((newest sync science health t).recording ≡ 0 → ⊥)
  unfolding last_place_reply
  accepted e =
      let v = verdict (last_causes sync science health t) in
      let z : v ≡ 0 = sym (answer-number (λ (s : Place). s.refusal) v refused (newest sync science health t) refl (λ z. newest-accepted sync science t health)) ∙ e in
      (answer-yes v refused (newest sync science health t) z, eqb-false _ 0 (spared (last_causes sync science health t) refl z).1.1.0)

  -- what is to be shown, by what was found
  by-found : {a b : _} → in_science sync science t ≡ a → in_health health t ≡ b
      → newest sync science health t ≡ shown a (science_end sync science a) b (newer (time_at science a) (time_at health b))
  unfolding newest
  by-found ea eb = ap₂ (λ a b. shown a (science_end sync science a) b (newer (time_at science a) (time_at health b))) ea eb

  module _ (p q : ℕ) (both : BothFound sync science health t p q) where
    abbrev s : ℕ
    s = packet_time (packet_at science p)

    abbrev h : ℕ
    h = packet_time (packet_at health q)

    -- the mark of the science recording's
    abbrev end : Bool
    end = science_end sync science (found_at p)

    by_number : (n : ℕ) → newer s h ≡ n
        → newest sync science health t ≡ cond (eqb n 1) (place 0 1 p end) (cond (eqb n 2) (place 0 2 q false) (place 0 0 0 false))
    unfolding shown place_in time_at
    by_number n e = by-found both.0 both.1 ∙ ap (λ (n : ℕ). cond (eqb n 1) (place 0 1 p end) (cond (eqb n 2) (place 0 2 q false) (place 0 0 0 false))) e

    never-stale : (last_place_reply sync science health t).refusal ≡ 0
        → (ScienceShown sync science health t p × ((ahead s h ≡ 0) ⊎ (32768 < ahead s h))) ⊎ (HealthShown sync science health t q × (1 ≤ ahead s h) × (ahead s h ≤ 32767))
    never-stale e =
        let k = accepted e in
        by-distance s h (λ d. absurd (k.1 (ap (λ (x : Place). x.recording) (by_number 0 (half s h d)))))
        (λ c d. inr (health-shown q (k.0 ∙ by_number 2 (after s h c d)), c, d))
        λ d. inl (science-shown p (k.0 ∙ by_number 1 (not_after s h d)), d)

    one_of_two : RightlyAsked science health t → (ahead s h ≡ 32768 → ⊥) → (last_place_reply sync science health t).refusal ≡ 0
    one_of_two z k =
        by-distance s h (λ d. absurd (k d))
        (λ c d. ap (λ (x : Place). x.refusal) (is-shown z (by_number 2 (after s h c d)) (λ e. omega (arith, e))))
        λ d. ap (λ (x : Place). x.refusal) (is-shown z (by_number 1 (not_after s h d)) (λ e. omega (arith, e)))

  -- what is shown was found, and what is found is sound
  abbrev SoundShown : Type 0
  SoundShown = (sound_packet (last_packet_reply sync science health t) ≡ true) × (type_of_packet (last_packet_reply sync science health t) ≡ t)

  found-sound : (ws places : List ℕ) (at : ℕ) → last_where (sound_of ws t) places ≡ found_at at → packet_at ws at ≡ last_packet_reply sync science health t → SoundShown
  found-sound ws places at e k = let h = sound-parts t ws at (last-holds (sound_of ws t) places at e) in rw (sym k) (h.1, h.0)

  shown-sound : (last_place_reply sync science health t).refusal ≡ 0 → SoundShown
  shown-sound e =
      let k = accepted e in
      let recording = ap (λ (x : Place). x.recording) k.0 in
      let at = (last_place_reply sync science health t).at.0 in
      elim (newest-recording sync science t health) as (λ x. SoundShown) [
        | inl z ↦ absurd (k.1 z)
        | inr (inl one) ↦
            let r = recording ∙ one in
            found-sound science (science_places sync science) at (of-science sync science t health refl r) (science-part sync science t health refl r)
        | inr (inr two) ↦
            let r = recording ∙ two in
            found-sound health (health_places health) at (of-health sync science t health refl r) (health-part sync science t health refl r)
      ]

pub newest-is-shown : NewestIsShown
unfolding shown place_in
newest-is-shown sync science health t =
    record {
      never_stale = never-stale sync science health t;
      half_a_turn = λ p q both z d. is-nothing sync science health t z (by_number sync science health t p q both 0 (half _ _ d));
      one_of_two = one_of_two sync science health t;
      only_science = λ p ea eb z. science-shown sync science health t p (is-shown sync science health t z (by-found sync science health t ea eb) (λ e. omega (arith, e)));
      only_health = λ q ea eb z. health-shown sync science health t q (is-shown sync science health t z (by-found sync science health t ea eb) (λ e. omega (arith, e)));
      neither = λ ea eb z. is-nothing sync science health t z (by-found sync science health t ea eb);
      sound = shown-sound sync science health t;
    }

-- ---- two recordings made of written packets

time-left : (p : Packet) → packet_time (left p) ≡ p.time
time-left p = ap packet_time (written-packet p.type p.time p.words p.room p.accepted)

module _ (sync : ℕ) (p q : Packet) (a : ScienceWith p) (b : HealthWith q) (same : q.type ≡ p.type) where
  abbrev science : List ℕ
  science = science_words sync a

  abbrev health : List ℕ
  health = health_words b

  -- the places of the two
  abbrev i : ℕ
  i = length (recorded sync (calls a.before)) + 2 + length (packets a.earlier)

  abbrev j : ℕ
  j = length (packets b.before)

  first_found : in_science sync science p.type ≡ found_at i
  first_found = (last-in-science sync a.before a.carrier a.after a.earlier p a.later a.carries a.last).0

  first-mark : science_end sync science (found_at i) ≡ empty a.after
  first-mark = (last-in-science sync a.before a.carrier a.after a.earlier p a.later a.carries a.last).1

  second-found : in_health health p.type ≡ found_at j
  second-found = ap (in_health health) (sym same) ∙ last-in-health b.before q b.after b.last

  first-there : packet_at science i ≡ left p
  first-there = stands-in-science sync a.before a.carrier a.after a.earlier p a.later a.carries

  second-there : packet_at health j ≡ left q
  second-there = stands-in-health b.before q b.after

  by-times : (n : ℕ) → newer p.time q.time ≡ n
      → newest sync science health p.type
      ≡ cond (eqb n 1) (place 0 1 i (science_end sync science (found_at i))) (cond (eqb n 2) (place 0 2 j false) (place 0 0 0 false))
  by-times n e =
      by_number sync science health p.type i j (first_found, second-found) n
      (ap₂ newer (ap packet_time first-there ∙ time-left p) (ap packet_time second-there ∙ time-left q) ∙ e)

pub newest-comes-back : NewestComesBack
newest-comes-back sync p q a b same z =
    let s = science sync p q a b same in
    let h = health sync p q a b same in
    let t = p.type in (
      λ e.
          let k = science-shown sync s h t _ (is-shown sync s h t z (by-times sync p q a b same 1 e) (λ x. omega (arith, x))) in
          (k.1 ∙ first-there sync p q a b same, ap (λ (x : Place). x.end) k.0 ∙ first-mark sync p q a b same),
      λ e.
          let k = health-shown sync s h t _ (is-shown sync s h t z (by-times sync p q a b same 2 e) (λ x. omega (arith, x))) in
          (k.1 ∙ second-there sync p q a b same, ap (λ (x : Place). x.end) k.0),
      λ e. is-nothing sync s h t z (by-times sync p q a b same 0 e),
    )
