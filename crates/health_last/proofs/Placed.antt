-- The answer about the newest packet: what is chosen of the two places, which of the causes holds, and that a place that is shown has 32 words.
use Rattle.std.proofs.Common.{◌≡◌, ℕ, ◌+◌, get_or, lit<, get_or-take, get_or-drop, ◌≤◌, Bool, true, false, cond, eqb, ◌⊎◌, Option, Some, List, [], ◌∷◌, length, take, drop, sym, refl, ap, ◌∙◌, ap₂, inl, inr, arith, length-drop, length-take, eq-eqb, ne_eqb, eqb-true}
use borrow.Author.Tests.{eqb-false}
use Rattle.base.proofs.Booleans.{and_left, and_right}
use Rattle.base.specs.declared.Words.{Words}
use Rattle.base.specs.Refusal.{Causes, verdict, nothing_there}
use Rattle.base.proofs.Refused.{verdict-kept, verdict-further, answer-no, answer-yes}
use Rattle.health.specs.Packet.{type_of_packet, packet_time, sound_packet}
use Rattle.health.proofs.Sound.{sound-long}
use Rattle.health_places.specs.Packets.{science_places, health_places, sound_of}
use Rattle.health_last.specs.declared.Marked.{Marked}
use Rattle.health_last.specs.declared.Place.{Place}
use Rattle.health_last.specs.Packets.{science_end, found_at, last_where}
use Rattle.health_last.specs.Last.{in_science, in_health, refused, newer, time_at, shown, newest, argument_causes, last_causes, last_place_reply, part_at, last_packet_reply}
use Rattle.health_last.specs.Seek.{found_in, mark_in, Answers}
use Rattle.health_last.proofs.Later.{last-cases, nothing-in-none}
use Rattle.health_last.proofs.Shown.{shown-accepted, shown-recordings, pick-science, pick-health}

-- ---- the place that is found passes the test

pub last-holds : (f : ℕ → Bool) (ps : List ℕ) (p : ℕ) → last_where f ps ≡ found_at p → f p ≡ true
last-holds f [] p e = absurd (nothing-in-none f p e)
last-holds f (q ∷ ps) p e = elim (last-cases f q ps p e) as (λ x. f p ≡ true) [
  | inl k ↦ last-holds f ps p k
  | inr k ↦ ap f (sym k.0) ∙ k.1
]

pub sound-parts : (t : ℕ) (ws : List ℕ) (p : ℕ) → sound_of ws t p ≡ true → (type_of_packet (take 32 (drop p ws)) ≡ t) × (sound_packet (take 32 (drop p ws)) ≡ true)
unfolding sound_of
sound-parts t ws p e =
    let q = take 32 (drop p ws) in
    (eqb-true _ _ (and_left (eqb (type_of_packet q) t) (sound_packet q) e), and_right (eqb (type_of_packet q) t) (sound_packet q) e)

-- a sound packet has its 32 words
sound-within : (t : ℕ) (ws : List ℕ) (p : ℕ) → sound_of ws t p ≡ true → p + 32 ≤ length ws
sound-within t ws p e =
    let n = sound-long (take 32 (drop p ws)) (sound-parts t ws p e).1 in
    omega (arith, n, length-take 32 (drop p ws), length-drop p ws)

-- so the packet that is found has its 32 words
pub found_within : (t : ℕ) (ws places : List ℕ) {a : Option Words} → a ≡ last_where (sound_of ws t) places → (at : Words) → a ≡ Some at → at.0 + 32 ≤ length ws
found_within t ws places ea at e = sound-within t ws at.0 (last-holds (sound_of ws t) places at.0 (sym ea ∙ e))

-- its time is the word two places past its first
pub time_word : (ws : List ℕ) (p : ℕ) → packet_time (take 32 (drop p ws)) ≡ get_or ws (p + 2) 0
time_word ws p = get_or-take 32 (drop p ws) 2 0 (lit< tt) ∙ get_or-drop p ws 2 0

-- ---- the place that is chosen

module _ (sync : ℕ) (science : List ℕ) (t : ℕ) (health : List ℕ) where
  -- by what was found in the two recordings, with the mark of the science recording's
  pub chosen : (m : Option Marked) (b : Option Words) → Answers sync science t m → b ≡ in_health health t
      → shown (found_in m) (mark_in m) b (newer (time_at science (found_in m)) (time_at health b)) ≡ newest sync science health t
  unfolding newest
  chosen m b k eb =
      ap (λ (x : Bool). shown (found_in m) x b (newer (time_at science (found_in m)) (time_at health b))) k.1
      ∙ ap₂ (λ (x y : Option Words). shown x (science_end sync science (in_science sync science t)) y (newer (time_at science x) (time_at health y))) k.0 eb

  pub newest-accepted : (newest sync science health t).refusal ≡ 0
  unfolding newest
  newest-accepted = shown-accepted (in_science sync science t) _ (in_health health t) _

  -- it is in one of the two recordings, or in none
  pub newest-recording : ((newest sync science health t).recording ≡ 0) ⊎ (((newest sync science health t).recording ≡ 1) ⊎ ((newest sync science health t).recording ≡ 2))
  unfolding newest
  newest-recording = shown-recordings (in_science sync science t) _ (in_health health t) _

-- ---- the causes

module _ (sync : ℕ) (science : List ℕ) (t : ℕ) (health : List ℕ) {v : ℕ} (e : v ≡ verdict (argument_causes science health t)) where
  abbrev found : Place
  found = newest sync science health t

  abbrev arguments : Causes
  arguments = argument_causes science health t

  abbrev nothing : Causes
  nothing = (nothing_there, eqb found.recording 0) ∷ []

  pub arguments-refused : (v ≡ 0 → ⊥) → refused v ≡ last_place_reply sync science health t
  unfolding last_place_reply
  arguments-refused h =
      let k = verdict-kept arguments nothing (λ z. h (e ∙ z)) in
      ap refused (e ∙ sym k) ∙ sym (answer-no _ _ found (λ z. h (e ∙ sym k ∙ z)))

  module _ (z : v ≡ 0) {s : Place} (es : s ≡ found) where
    last-verdict : (b : Bool) → eqb s.recording 0 ≡ b → verdict (last_causes sync science health t) ≡ cond b nothing_there 0
    last-verdict b eb =
        verdict-further arguments nothing refl (sym e ∙ z)
        ∙ ap (λ (x : Bool). cond x nothing_there 0) (sym (ap (λ (x : Place). eqb x.recording 0) es) ∙ eb)

    pub none-refused : s.recording ≡ 0 → refused nothing_there ≡ last_place_reply sync science health t
    unfolding last_place_reply
    none-refused h =
        let k = last-verdict true (eq-eqb _ _ h) in
        ap refused (sym k) ∙ sym (answer-no _ _ found (λ q. absurd (omega (arith, sym k ∙ q))))

    pub found-shown : (s.recording ≡ 0 → ⊥) → s ≡ last_place_reply sync science health t
    unfolding last_place_reply
    found-shown h = es ∙ sym (answer-yes _ _ found (last-verdict false (ne_eqb _ _ h)))

-- ---- the part that is shown

module _ (sync : ℕ) (science : List ℕ) (t : ℕ) (health : List ℕ) {s : Place} (e : s ≡ last_place_reply sync science health t) where
  as-shown : (s.recording ≡ 0 → ⊥) → s ≡ newest sync science health t
  unfolding last_place_reply
  as-shown h = by_cases (eqb (verdict (last_causes sync science health t)) 0) refl
    where
      by_cases : (b : Bool) → eqb (verdict (last_causes sync science health t)) 0 ≡ b → s ≡ newest sync science health t
      by_cases true eb = e ∙ answer-yes _ _ _ (eqb-true _ _ eb)
      by_cases false eb = absurd (h (ap (λ (x : Place). x.recording) (e ∙ answer-no _ _ _ (eqb-false _ _ eb))))

  -- what is shown of a recording is the last there
  pub of-science : s.recording ≡ 1 → in_science sync science t ≡ Some s.at
  unfolding newest
  of-science h =
      let k = as-shown (λ z. omega (arith, h, z)) in
      pick-science (in_science sync science t) _ (in_health health t) _ (sym (ap (λ (x : Place). x.recording) k) ∙ h) ∙ ap (λ (x : Place). Some x.at) (sym k)

  pub of-health : s.recording ≡ 2 → in_health health t ≡ Some s.at
  unfolding newest
  of-health h =
      let k = as-shown (λ z. omega (arith, h, z)) in
      pick-health (in_science sync science t) _ (in_health health t) _ (sym (ap (λ (x : Place). x.recording) k) ∙ h) ∙ ap (λ (x : Place). Some x.at) (sym k)

  pub science-within : s.recording ≡ 1 → s.at.0 + 32 ≤ length science
  science-within h = found_within t science (science_places sync science) refl s.at (of-science h)

  pub health-within : s.recording ≡ 2 → s.at.0 + 32 ≤ length health
  health-within h = found_within t health (health_places health) refl s.at (of-health h)

  pub science-part : s.recording ≡ 1 → take 32 (drop s.at.0 science) ≡ last_packet_reply sync science health t
  unfolding part_at
  science-part h = simp (eq-eqb _ _ h) at (ap (λ (x : Place). part_at x science health) e)

  pub health-part : s.recording ≡ 2 → take 32 (drop s.at.0 health) ≡ last_packet_reply sync science health t
  unfolding part_at
  health-part h = simp (eq-eqb _ _ h, ne_eqb s.recording 1 (λ z. omega (arith, h, z))) at (ap (λ (x : Place). part_at x science health) e)

  pub no_part : (s.recording ≡ 1 → ⊥) → (s.recording ≡ 2 → ⊥) → [] ≡ last_packet_reply sync science health t
  unfolding part_at
  no_part h k = simp (ne_eqb _ _ h, ne_eqb _ _ k) at (ap (λ (x : Place). part_at x science health) e)
