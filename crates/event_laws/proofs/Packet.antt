-- What stands in a packet as the layout has it: the head at the front, slot i at byte 20 + 4 * i, and the right CRC. So the readers find nothing wrong in it.
use mathlib.Core.Path.{◌≡◌, refl, sym, ap, ap₂, ◌∙◌}
use mathlib.Core.Bool.{false, not, ◌||◌}
use mathlib.Core.List.{List, [], ◌∷◌, ◌++◌, append_assoc}
use Prim.Native.Nat.{ℕ, zero, suc, ◌+◌, ◌-◌, ◌*◌, ◌/◌, ◌%◌, ◌≤◌, ◌<◌}
use native.Mathlib.Nat.{add-zero}
use native.Mathlib.Omega.{arith}
use lib.Dec.{eqb, ltb}
use lib.ListN.{length, get_or, take, replicate, length-append, get_or-append}
use lib.Seq.{length-take-le, get_or-take}
use borrow.Author.Tests.{eq-eqb, lt-ltb, le-ltb, ltb-false}
use Rattle.base.proofs.Booleans.{or-false}
use Rattle.base.specs.Refusal.{verdict}
use Rattle.crc.specs.Crc.{crc_start, crc_bytes}
use Rattle.space_packet.specs.Layout.{word, bytes_of, laid, read_off}
use Rattle.space_packet.specs.Header.{length_field, header_wrong, crc_wrong}
use Rattle.space_packet.proofs.Laid.{read-laid}
use Rattle.space_packet.proofs.Headers.{header-tests-count, sealed-length, crc-sound}
use Rattle.event.specs.declared.Head.{Head}
use Rattle.event.specs.declared.Slot.{Slot}
use Rattle.event.specs.Layout.{packet_id, head_widths, head_numbers, head_in, slot_widths, slot_numbers, slot_from, slot_at, empty_slot, detector_wrong, slots_by, some_slot, slots_written, slots_laid, slot_bytes, body_bytes, event_bytes}
use Rattle.event_reading.specs.Reading.{contents_wrong, head_causes}
use Rattle.event_writing.specs.Writing.{slot_wrong}
use Rattle.event_writing.proofs.Slots.{slot_laid, none_passes, so-far-length, body-laid}
use Rattle.event_laws.proofs.Answers.{verdict-spared}
use Rattle.event_laws.proofs.Rows.{all_right, by_length, from_start}

-- ---- slots in a row

-- slot i stands four bytes on for each slot before it
slot-in-row : (front : List ℕ) (ss : List Slot) (rest : List ℕ) (i : ℕ) → i < length ss
    → read_off slot_widths (front ++ (slots_laid ss ++ rest)) (length front + 4 * i) ≡ slot_numbers (get_or ss i empty_slot)
slot-in-row front [] rest i h = absurd (omega arith)
slot-in-row front (s ∷ ss) rest zero h =
    ap (read_off slot_widths (front ++ (slot_laid s ++ (slots_laid ss ++ rest)))) (add-zero (length front))
    ∙ read-laid slot_widths (slot_numbers s) front (slots_laid ss ++ rest) refl
slot-in-row front (s ∷ ss) rest (suc i) h =
    let place : length front + 4 * suc i ≡ length (front ++ slot_laid s) + 4 * i = omega (arith, length-append front (slot_laid s)) in
    ap₂ (read_off slot_widths) (sym (append_assoc front (slot_laid s) (slots_laid ss ++ rest))) place
    ∙ slot-in-row (front ++ slot_laid s) ss rest i (omega (arith, h))

-- the fields of a slot that fits, from its numbers
slot-from : (s : Slot) (n m : ℕ) → n / 8 ≡ s.detector → n % 8 ≡ s.flags → m / 4096 ≡ s.sixteenth → m % 4096 ≡ s.signal
    → slot_from (n ∷ s.second ∷ m ∷ []) ≡ s
slot-from s n m d f x y =
    ap₂ (λ (a b : ℕ). record { detector = a; flags = b; second = s.second; sixteenth = m / 4096; signal = m % 4096 }) d f
    ∙ ap₂ (λ (a b : ℕ). record { detector = s.detector; flags = s.flags; second = s.second; sixteenth = a; signal = b }) x y

-- a slot that is not wrong has small fields
slot-fits : (s : Slot) → slot_wrong s ≡ false → (s.detector ≤ 23) × (s.flags ≤ 7) × (s.sixteenth ≤ 15) × (s.signal ≤ 4095)
slot-fits s e =
    let three = or-false _ _ e in
    let two = or-false _ _ three.0 in
    let one = or-false _ _ two.0 in
    (ltb-false _ _ one.0, ltb-false _ _ one.1, ltb-false _ _ two.1, ltb-false _ _ three.1)

slot-back : (s : Slot) → slot_wrong s ≡ false → slot_from (slot_numbers s) ≡ s
slot-back s e =
    let fits = slot-fits s e in
    slot-from s (s.detector * 8 + s.flags) (s.sixteenth * 4096 + s.signal) (omega (arith, fits)) (omega (arith, fits)) (omega (arith, fits)) (omega (arith, fits))

-- ---- the packet

module _ (h : Head) (ss : List Slot) where
  abbrev pub crc_last : List ℕ
  crc_last = bytes_of word (crc_bytes crc_start (body_bytes h ss))

  -- the head
  head-stands : read_off head_widths (event_bytes h ss) 0 ≡ head_numbers h
  unfolding event_bytes
  head-stands = read-laid head_widths (head_numbers h) [] (slot_bytes h.count ss ++ crc_last) refl

  abbrev head_from : List ℕ → Head
  head_from ns = record { sequence = get_or ns 1 0 % 16384; start = get_or ns 7 0; count = get_or ns 9 0 }

  pub head-back : h.sequence < 16384 → head_in (event_bytes h ss) ≡ h
  head-back k =
      let s : (49152 + h.sequence) % 16384 ≡ h.sequence = omega arith in
      ap head_from head-stands ∙ ap (λ (n : ℕ). record { sequence = n; start = h.start; count = h.count }) s

  -- the head, the slots, two bytes and the CRC
  pub packet-in-parts : event_bytes h ss ≡ laid head_widths (head_numbers h) ++ (slots_laid (slots_written h.count ss) ++ 0 ∷ 0 ∷ crc_last)
  unfolding event_bytes slot_bytes
  packet-in-parts =
      ap (λ (l : List ℕ). laid head_widths (head_numbers h) ++ l) (append_assoc (slots_laid (slots_written h.count ss)) (0 ∷ 0 ∷ []) crc_last)

  module _ (long : length ss ≡ 64) (few : h.count ≤ 64) where
    body-length : length (slot_bytes h.count ss) ≡ 258
    body-length = ap length (sym (body-laid ss h.count few)) ∙ so-far-length ss (omega arith) h.count (omega arith)

    pub packet-length : length (event_bytes h ss) ≡ 280
    unfolding event_bytes
    packet-length =
        sealed-length (body_bytes h ss) ∙ ap (λ (n : ℕ). n + 2) (length-append (laid head_widths (head_numbers h)) (slot_bytes h.count ss) ∙ ap (λ (n : ℕ). 20 + n) body-length)

    -- a used slot
    used-first : (i : ℕ) → i < h.count → get_or (slots_written h.count ss) i empty_slot ≡ get_or ss i empty_slot
    used-first i k =
        let n : length (take h.count ss) ≡ h.count = length-take-le h.count ss (omega arith) in
        get_or-append (take h.count ss) (replicate (64 - h.count) empty_slot) empty_slot i (omega arith) ∙ get_or-take h.count ss i empty_slot k

    slot-stands : (i : ℕ) → i < h.count → read_off slot_widths (event_bytes h ss) (20 + 4 * i) ≡ slot_numbers (get_or ss i empty_slot)
    slot-stands i k =
        let n : length (take h.count ss) ≡ h.count = length-take-le h.count ss (omega arith) in
        let m = length-append (take h.count ss) (replicate (64 - h.count) empty_slot) in
        ap (λ (l : List ℕ). read_off slot_widths l (20 + 4 * i)) packet-in-parts
        ∙ slot-in-row (laid head_widths (head_numbers h)) (slots_written h.count ss) (0 ∷ 0 ∷ crc_last) i (omega (arith, m))
        ∙ ap slot_numbers (used-first i k)

    module _ (right : some_slot slot_wrong (take h.count ss) ≡ false) where
      used-right : (i : ℕ) → i < h.count → slot_wrong (get_or ss i empty_slot) ≡ false
      used-right i k =
          let n : length (take h.count ss) ≡ h.count = length-take-le h.count ss (omega arith) in
          ap slot_wrong (sym (get_or-take h.count ss i empty_slot k)) ∙ none_passes slot_wrong (take h.count ss) right i (omega arith)

      pub slot-stood : (i : ℕ) → i < h.count → slot_at (event_bytes h ss) i ≡ get_or ss i empty_slot
      slot-stood i k = ap slot_from (slot-stands i k) ∙ slot-back (get_or ss i empty_slot) (used-right i k)

      -- ---- judged

      detectors-right : some_slot detector_wrong (slots_by (slot_at (event_bytes h ss)) 0 h.count) ≡ false
      detectors-right =
          all_right detector_wrong (slots_by (slot_at (event_bytes h ss)) 0 h.count) (λ i q. each i (omega (arith, q, by_length (slot_at (event_bytes h ss)) 0 h.count)))
        where
          each : (i : ℕ) → i < h.count → detector_wrong (get_or (slots_by (slot_at (event_bytes h ss)) 0 h.count) i empty_slot) ≡ false
          each i k =
              ap detector_wrong (from_start (slot_at (event_bytes h ss)) h.count i k ∙ slot-stood i k)
              ∙ le-ltb 23 (get_or ss i empty_slot).detector (slot-fits (get_or ss i empty_slot) (used-right i k)).0

      module _ (k : h.sequence < 16384) where
        header-right : header_wrong packet_id (event_bytes h ss) ≡ false
        header-right =
            header-tests-count packet_id (event_bytes h ss) h.sequence (omega (arith, packet-length)) (ap (λ (ns : List ℕ). get_or ns 0 0) head-stands)
            (ap (λ (ns : List ℕ). get_or ns 1 0) head-stands) (ap (λ (ns : List ℕ). get_or ns 2 0) head-stands ∙ ap length_field (sym packet-length))
            ∙ ap not (lt-ltb h.sequence 16384 k)

        crc-right : crc_wrong (event_bytes h ss) ≡ false
        unfolding event_bytes
        crc-right = crc-sound (body_bytes h ss)

        contents-right : contents_wrong (event_bytes h ss) ≡ false
        contents-right =
            ap₂ (λ (t n : ℕ). not (eqb t 1) || ltb 64 n || some_slot detector_wrong (slots_by (slot_at (event_bytes h ss)) 0 n)) (ap (λ (ns : List ℕ). get_or ns 5 0) head-stands)
            (ap (λ (ns : List ℕ). get_or ns 9 0) head-stands)
            ∙ ap₂ ◌||◌ (le-ltb 64 h.count few) detectors-right

        pub packet-accepted : verdict (head_causes (event_bytes h ss)) ≡ 0
        packet-accepted =
            verdict-spared (head_causes (event_bytes h ss)) (ap not (eq-eqb _ _ packet-length), (header-right, (crc-right, (contents-right, tt))))
