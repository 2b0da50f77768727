-- What is written with the words of an observation, of checksums or of upsets is given back by the field reader: the packet is sound, its type and its
-- fields are the reader's own, and each field is found again in its words.
use mathlib.Core.Path.{◌≡◌, refl, sym, ap, ◌∙◌}
use mathlib.Core.Bool.{Bool, true, false, cond, not}
use mathlib.Core.List.{List, [], ◌∷◌, ◌++◌, map}
use Prim.Native.Nat.{ℕ, zero, suc, ◌*◌, ◌/◌, ◌%◌, ◌^◌, ◌≤◌, ◌<◌}
use native.Mathlib.Omega.{arith}
use native.Mathlib.Decide.{dec_lt}
use lib.ListN.{length, get_or, take, drop}
use lib.Seq.{take_at, drop_at, drop-drop, ext_get_or}
use lib.Dec.{eqb, leb}
use borrow.Author.Tests.{eq-eqb, le-leb}
use Rattle.base.specs.Number.{word, low_byte, bit_set}
use Rattle.base.specs.Refusal.{verdict}
use Rattle.base.proofs.Refused.{answer-yes}
use Rattle.health.specs.Packet.{packet_crc}
use Rattle.health.specs.Reading.{judge_causes}
use Rattle.health.specs.Writing.{written_crc, packet_from}
use Rattle.health_observation.specs.declared.Mode.{Mode}
use Rattle.health_observation.specs.declared.Observed.{Observed}
use Rattle.health_observation.specs.Observation.{is_observation, observation_causes, observation_of, observation_reply}
use Rattle.health_checksums.specs.Checksums.{checksums_causes, checksums_reply}
use Rattle.health_upsets.specs.declared.Upset.{Upset}
use Rattle.health_upsets.specs.Upsets.{upset, upset_at, oldest_first, upsets_causes, upsets_reply}
use Rattle.health_laws.specs.Fields.{flags_word, observation_words, observation_type, Observation, ObservationIsRead, checksum_words, ChecksumsAreRead, entry_words, upset_words, UpsetsAreRead}
use Rattle.health_laws.proofs.Modes.{mode-only}
use Rattle.health_laws.proofs.RoundTrip.{accepted-parts, written-packet}

-- a field reader refuses no packet of 29 words that are its own
judged : (t s : ℕ) (ws : List ℕ) → length ws ≡ 29 → (own : Bool) → own ≡ true → verdict (judge_causes (packet_from t s ws) (not own)) ≡ 0
unfolding packet_crc written_crc
judged t s ws long own e =
    simp (eq-eqb (length (packet_from t s ws)) 32 (omega arith), eq-eqb (written_crc t s ws) (written_crc t s ws) refl, e)

-- ---- observations

-- a flag as a number
abbrev digit : Bool → ℕ
digit flag = cond flag 1 0

digit-small : (flag : Bool) → digit flag ≤ 1
digit-small true = omega arith
digit-small false = omega arith

digit_set : (flag : Bool) (n : ℕ) → n ≡ digit flag → eqb n 1 ≡ flag
digit_set true n e = eq-eqb n 1 e
digit_set false n e = ap (λ (k : ℕ). eqb k 1) e

-- the five flags side by side, over eleven zeros
module _ (o : Observed) where
  small : (digit o.rice_en ≤ 1) × (digit o.rice_dt ≤ 1) × (digit o.flat_en ≤ 1) × (digit o.ff_led_en ≤ 1) × (digit o.st_asap ≤ 1)
  small = (digit-small o.rice_en, digit-small o.rice_dt, digit-small o.flat_en, digit-small o.ff_led_en, digit-small o.st_asap)

  rice-en : bit_set (flags_word o) 15 ≡ o.rice_en
  rice-en = digit_set o.rice_en (flags_word o / 2 ^ 15 % 2) (omega (arith, small))

  rice-dt : bit_set (flags_word o) 14 ≡ o.rice_dt
  rice-dt = digit_set o.rice_dt (flags_word o / 2 ^ 14 % 2) (omega (arith, small))

  flat-en : bit_set (flags_word o) 13 ≡ o.flat_en
  flat-en = digit_set o.flat_en (flags_word o / 2 ^ 13 % 2) (omega (arith, small))

  ff-led-en : bit_set (flags_word o) 12 ≡ o.ff_led_en
  ff-led-en = digit_set o.ff_led_en (flags_word o / 2 ^ 12 % 2) (omega (arith, small))

  st-asap : bit_set (flags_word o) 11 ≡ o.st_asap
  st-asap = digit_set o.st_asap (flags_word o / 2 ^ 11 % 2) (omega (arith, small))

  zeros-below : flags_word o % 2 ^ 11 ≡ 0
  zeros-below = omega (arith, small)

-- an observation is its fields
same-fields : (o : Observed) {refusal camera crc period exposure region : ℕ} {mode : Mode} {a b c d e : Bool} {others bins : List ℕ}
    → refusal ≡ o.refusal → camera ≡ o.camera → crc ≡ o.crc → period ≡ o.period → exposure ≡ o.exposure → mode ≡ o.mode
    → a ≡ o.rice_en → b ≡ o.rice_dt → c ≡ o.flat_en → d ≡ o.ff_led_en → e ≡ o.st_asap
    → region ≡ o.region → others ≡ o.others → bins ≡ o.bins
    → record {
      refusal = refusal;
      camera = camera;
      crc = crc;
      time = o.time;
      frame = o.frame;
      period = period;
      exposure = exposure;
      mode = mode;
      mode_word = o.mode_word;
      rice_en = a;
      rice_dt = b;
      flat_en = c;
      ff_led_en = d;
      st_asap = e;
      region = region;
      others = others;
      bins = bins;
    } ≡ o
same-fields o p q r s t u v w x y z l m n = simp (p, q, r, s, t, u, v, w, x, y, z, l, m, n)

module _ (o : Observed) (k : Observation o) where
  own-observation : is_observation (observation_type o) (flags_word o) (o.region * 2 ^ 12) ≡ true
  unfolding is_observation
  own-observation =
      let t = observation_type o in
      let r = o.region * 2 ^ 12 in
      simp (
        le-leb 4 t (omega (arith, k.camera)),
        le-leb t 6 (omega (arith, k.camera)),
        eq-eqb (flags_word o % 2 ^ 11) 0 (zeros-below o),
        le-leb (r / 2 ^ 12) 4 (omega (arith, k.region)),
        eq-eqb (r % 2 ^ 12) 0 (omega arith),
      )

  fields-again : observation_of (packet_from (observation_type o) o.time (observation_words o)) ≡ o
  fields-again =
      same-fields o (sym k.refusal) (omega arith) (sym k.crc) (omega (arith, k.exposure)) (omega (arith, k.exposure))
      (mode-only o.mode _ k.mode) (rice-en o) (rice-dt o) (flat-en o) (ff-led-en o) (st-asap o)
      (omega arith) (take_at o.others o.bins 8 k.others) (drop_at o.others o.bins 8 k.others)

pub observation-is-read : ObservationIsRead
unfolding observation_reply
observation-is-read o room k a =
    let t = observation_type o in
    let ws = observation_words o in
    ap observation_reply (written-packet t o.time ws room a)
    ∙ answer-yes (verdict (observation_causes (packet_from t o.time ws))) _ _
    (judged t o.time ws (accepted-parts t o.time ws room a).1 (is_observation t (flags_word o) (o.region * 2 ^ 12)) (own-observation o k))
    ∙ fields-again o k

-- ---- checksums

pub checksums-are-read : ChecksumsAreRead
unfolding checksums_reply
checksums-are-read s first second third rest room f g h a =
    let ws = checksum_words first second third rest in
    let p = packet_from 8 s ws in
    let e = written-packet 8 s ws room a in
    let z : verdict (checksums_causes p) ≡ 0 = judged 8 s ws (accepted-parts 8 s ws room a).1 true refl in
    let later : drop 8 ws ≡ second ++ (third ++ rest) = drop_at first _ 8 f in
    let last : drop 16 ws ≡ third ++ rest = sym (drop-drop 8 8 ws) ∙ ap (drop 8) later ∙ drop_at second _ 8 g in (
      ap (λ (q : List ℕ). verdict (checksums_causes q)) e ∙ z,
      ap checksums_reply e ∙ answer-yes (verdict (checksums_causes p)) _ _ z
          ∙ rw (later, last, take_at first (second ++ (third ++ rest)) 8 f, take_at second (third ++ rest) 8 g, take_at third rest 8 h),
    )

-- ---- upsets

-- two functions agree below n if their values do, in a row
abbrev values : {A : Type 0} → (ℕ → A) → ℕ → List A
values f zero = []
values f (suc n) = f n ∷ values f n

each : {A : Type 0} (f g : ℕ → A) (n : ℕ) → values f n ≡ values g n → (i : ℕ) → i < n → f i ≡ g i
each f g zero e i h = absurd (omega arith)
each f g (suc n) e i h =
    let first : f n ≡ g n = cc in
    let rest : values f n ≡ values g n = cc in
    elim (dec_lt i n) as (λ x. f i ≡ g i) [
      | yes l ↦ each f g n rest i l
      | no l ↦ let same : i ≡ n = omega arith in rw same first
    ]

-- a list of nine entries, one by one
abbrev nine : List Upset → List Upset
nine es = map (λ k. get_or es k (upset 0 0 0)) (0 ∷ 1 ∷ 2 ∷ 3 ∷ 4 ∷ 5 ∷ 6 ∷ 7 ∷ 8 ∷ [])

one_by_one : (es : List Upset) → length es ≡ 9 → nine es ≡ es
one_by_one es e =
    let none = upset 0 0 0 in
    ext_get_or none (nine es) es (sym e) (each (λ i. get_or (nine es) i none) (λ i. get_or es i none) 9 refl)

-- in a packet, from the one after the last filled on
turned : (t x s total w : ℕ) (es : List Upset) → length es ≡ 9 → (last : ℕ) → last < 9
    → map (upset_at (t ∷ x ∷ s ∷ total ∷ w ∷ entry_words es)) (oldest_first last) ≡ drop (suc last) es ++ take (suc last) es
turned t x s total w es e =
    rw (← one_by_one es e)
    (each (λ last. map (upset_at (t ∷ x ∷ s ∷ total ∷ w ∷ entry_words (nine es))) (oldest_first last)) (λ last. drop (suc last) (nine es) ++ take (suc last) (nine es)) 9 refl)

entry-words : (es : List Upset) → length (entry_words es) ≡ 3 * length es
entry-words [] = refl
entry-words (e ∷ es) = omega (arith, entry-words es)

pub upsets-are-read : UpsetsAreRead
unfolding upsets_reply
upsets-are-read s total spare last es room h a =
    let ws = upset_words total spare last es in
    let p = packet_from 10 s ws in
    let n = (accepted-parts 10 s ws room a).1 in
    let low : low_byte (word spare last) ≡ last = omega arith in
    let own : leb (low_byte (word spare last)) 8 ≡ true = le-leb (low_byte (word spare last)) 8 (omega arith) in
    let z : verdict (upsets_causes p) ≡ 0 = judged 10 s ws n (leb (low_byte (word spare last)) 8) own in
    ap upsets_reply (written-packet 10 s ws room a) ∙ answer-yes (verdict (upsets_causes p)) _ _ z
    ∙ rw (low, turned 10 (written_crc 10 s ws) s total (word spare last) es (omega (arith, n, entry-words es)) last (omega arith))
