-- An accepted packet, written again from what is read of it. Its fields fit their bits, since they are read out of them, and its detectors are right, so the
-- writer accepts. The packet and the one written again hold the same head and slots: they answer the same, and their bytes are the same where they are looked at.
use mathlib.Core.Path.{◌≡◌, refl, sym, ap, ap₂, subst, ◌∙◌}
use mathlib.Core.Bool.{false, not, ◌||◌}
use mathlib.Core.List.{List, [], ◌∷◌, ◌++◌, append_assoc}
use Prim.Native.Nat.{ℕ, zero, suc, ◌+◌, ◌-◌, ◌*◌, ◌/◌, ◌%◌, ◌≤◌, ◌<◌}
use native.Mathlib.Nat.{mod-lt}
use native.Mathlib.Omega.{arith}
use lib.Dec.{ltb, lit<}
use lib.ListN.{length, get_or, take, drop, replicate}
use lib.Seq.{take_at, get_or-take, length-take-le, ext_get_or}
use borrow.Author.Tests.{lt-ltb, le-ltb, ltb-true, ltb-false, eqb-true, not-false}
use Rattle.base.specs.Refusal.{verdict}
use Rattle.base.proofs.Booleans.{by-test}
use Rattle.base.proofs.Refused.{Spared, spared}
use Rattle.space_packet.specs.Layout.{AreBytes, byte, word, long, bytes_of, number_at, laid, read_off}
use Rattle.space_packet.specs.Header.{length_field}
use Rattle.space_packet.proofs.Laid.{laid-again}
use Rattle.space_packet.proofs.Headers.{header-right}
use Rattle.event.specs.declared.Head.{Head}
use Rattle.event.specs.declared.Slot.{Slot}
use Rattle.event.specs.Layout.{packet_bytes, packet_id, slot_count, head_widths, field, head_in, slot_widths, slot_numbers, slot_at, slot_place, empty_slot, detector_wrong, slots_by, some_slot, slots_written, slots_laid, event_bytes}
use Rattle.event_reading.specs.declared.SlotReply.{SlotReply}
use Rattle.event_reading.specs.Reading.{head_causes, head_reply, slot_given, slot_reply, event_reply}
use Rattle.event_writing.specs.Writing.{slot_wrong, given_wrong, write_causes, write_reply}
use Rattle.event_writing.proofs.Slots.{slot_laid, laid-append, laid-length, none_passes}
use Rattle.event_writing.proofs.Replies.{reply-number}
use Rattle.event_laws.specs.Written.{ComesBack}
use Rattle.event_laws.specs.Reread.{head_read, slots_read, looked_at, again, EventsWrittenAgain}
use Rattle.event_laws.proofs.Answers.{verdict-spared, head-number, slot-judged, slot-given, slot-used, slot-outside, event-outside, accepted-type, accepted-count, accepted-detectors, head-as-read, count-as-read}
use Rattle.event_laws.proofs.Packet.{crc_last, packet-in-parts}
use Rattle.event_laws.proofs.Rows.{all_right, by_length, from_start}
use Rattle.event_laws.proofs.Written.{comes_back, written-is-packet, events-come-back}

-- ---- two packets that hold the same

module _ (h : Head) (ss : List Slot) (bs cs : List ℕ) (b : ComesBack bs h ss) (c : ComesBack cs h ss) where
  heads-alike : head_reply cs ≡ head_reply bs
  heads-alike = c.head ∙ sym b.head

  -- at a slot that is used, at one that is not, and above 63
  at_each : {P : Type 0} (i : ℕ) → (i < h.count → P) → (h.count ≤ i → i < slot_count → P) → (slot_count ≤ i → P) → P
  at_each i used unused outside =
      by-test (ltb i h.count) (λ t. used (ltb-true _ _ t))
      (λ f. by-test (ltb i slot_count) (λ t. unused (ltb-false _ _ f) (ltb-true _ _ t)) (λ g. outside (ltb-false _ _ g)))

  slots-alike : (i : ℕ) → slot_reply cs i ≡ slot_reply bs i
  slots-alike i =
      at_each i (λ k. (c.used i k).slot ∙ sym (b.used i k).slot) (λ k l. (c.unused i k l).slot ∙ sym (b.unused i k l).slot)
      (λ k. slot-outside cs i k ∙ sym (slot-outside bs i k))

  events-alike : (i : ℕ) → event_reply cs i ≡ event_reply bs i
  events-alike i =
      at_each i (λ k. (c.used i k).event ∙ sym (b.used i k).event) (λ k l. (c.unused i k l).event ∙ sym (b.unused i k l).event)
      (λ k. event-outside cs i k ∙ sym (event-outside bs i k))

-- ---- an accepted packet

module _ (bs : List ℕ) (bytes : AreBytes bs) (z : verdict (head_causes bs) ≡ 0) where
  abbrev count : ℕ
  count = (head_in bs).count

  none : Spared (head_causes bs)
  none = spared (head_causes bs) refl z

  whole : length bs ≡ packet_bytes
  whole = eqb-true _ _ (not-false _ none.0)

  header : (number_at word bs 0 ≡ packet_id) × (number_at word bs 2 / 16384 ≡ 3) × (number_at word bs 4 ≡ length_field (length bs))
  header = header-right packet_id bs none.1.0

  -- ---- its slots

  slot-right : (i : ℕ) → i < count → slot_wrong (slot_at bs i) ≡ false
  slot-right i k =
      let at : ℕ = slot_place i in
      let s : Slot = slot_at bs i in
      let d : detector_wrong s ≡ false =
      ap detector_wrong (sym (from_start (slot_at bs) count i k))
      ∙ none_passes detector_wrong (slots_by (slot_at bs) 0 count) (accepted-detectors bs z) i (omega (arith, by_length (slot_at bs) 0 count))
      in
      ap₂ ◌||◌
      (ap₂ ◌||◌ (ap₂ ◌||◌ d (le-ltb 7 s.flags (omega arith))) (le-ltb 15 s.sixteenth (omega (arith, bytes (at + 1 + 1), bytes (at + 1 + 1 + 1)))))
      (le-ltb 4095 s.signal (omega arith))

  -- what is read of it
  slots_length : length (slots_read bs) ≡ slot_count
  unfolding slots_read
  slots_length = by_length (λ i. (slot_reply bs i).slot) 0 slot_count

  slot-as-read : (i : ℕ) → i < count → get_or (slots_read bs) i empty_slot ≡ slot_at bs i
  unfolding slots_read
  slot-as-read i k =
      let within : i < slot_count = omega (arith, accepted-count bs z) in
      from_start (λ j. (slot_reply bs j).slot) slot_count i within
      ∙ ap (λ (r : SlotReply). r.slot) (slot-given bs i (slot-judged bs i within z) ∙ ap (slot_given 0) (slot-used bs i within k))

  used-length : length (take count (slots_read bs)) ≡ count
  used-length = length-take-le count (slots_read bs) (omega (arith, accepted-count bs z, slots_length))

  used-at : (i : ℕ) → i < count → get_or (take count (slots_read bs)) i empty_slot ≡ slot_at bs i
  used-at i k = get_or-take count (slots_read bs) i empty_slot k ∙ slot-as-read i k

  -- ---- written again

  slots-right : some_slot slot_wrong (take count (slots_read bs)) ≡ false
  slots-right =
      all_right slot_wrong (take count (slots_read bs))
      (λ i q. let k : i < count = omega (arith, q, used-length) in ap slot_wrong (used-at i k) ∙ slot-right i k)

  given-right : given_wrong (head_read bs) (slots_read bs) ≡ false
  given-right =
      ap (λ (h : Head). given_wrong h (slots_read bs)) (head-as-read bs z)
      ∙ ap₂ ◌||◌ (ap₂ ◌||◌ (ap not (lt-ltb (head_in bs).sequence 16384 (mod-lt (field bs 1) (lit< tt)))) (le-ltb slot_count count (accepted-count bs z))) slots-right

  writer-accepts : (room : List ℕ) → packet_bytes ≤ length room → (write_reply (head_read bs) (slots_read bs) (length room)).refusal ≡ 0
  writer-accepts room fit =
      reply-number (head_read bs) (slots_read bs) room refl
      ∙ verdict-spared (write_causes (head_read bs) (slots_read bs) (length room)) (given-right, (le-ltb (length room) packet_bytes fit, tt))

  holds-what-is-read : ComesBack bs (head_read bs) (slots_read bs)
  holds-what-is-read =
      let same : (head_read bs).count ≡ count = count-as-read bs z in
      comes_back bs (head_read bs) (slots_read bs) z (sym (head-as-read bs z)) (omega (arith, same, accepted-count bs z)) (λ i k. sym (slot-as-read i (omega (arith, k, same))))

  -- ---- the bytes that are looked at

  -- the numbers of a slot, out of its fields
  numbers-again : (i : ℕ) → read_off slot_widths bs (slot_place i) ≡ slot_numbers (slot_at bs i)
  numbers-again i =
      let first : ℕ = number_at byte bs (slot_place i) in
      let last : ℕ = number_at word bs (slot_place i + 1 + 1) in
      let e : first ≡ first / 8 * 8 + first % 8 = omega arith in
      let f : last ≡ last / 4096 * 4096 + last % 4096 = omega arith in
      ap₂ (λ (x y : ℕ). x ∷ number_at byte bs (slot_place i + 1) ∷ y ∷ []) e f

  slots-again : (n i : ℕ) → slot_place (i + n) ≤ length bs → take (4 * n) (drop (slot_place i) bs) ≡ slots_laid (slots_by (slot_at bs) i n)
  slots-again zero i h = refl
  slots-again (suc n) i h =
      let place : slot_place i + 4 ≡ slot_place (suc i) = omega arith in
      let four : 4 * suc n ≡ suc (suc (suc (suc (4 * n)))) = omega arith in
      ap₂ take four
      (laid-again bs bytes slot_widths (slot_place i) (omega (arith, h))
      ∙ ap₂ (λ (ns : List ℕ) (k : ℕ). laid slot_widths ns ++ drop k bs) (numbers-again i) place)
      ∙ ap (λ (l : List ℕ). slot_laid (slot_at bs i) ++ l) (slots-again n (suc i) (omega (arith, h)))

  used-slots : take count (slots_read bs) ≡ slots_by (slot_at bs) 0 count
  used-slots =
      ext_get_or empty_slot (take count (slots_read bs)) (slots_by (slot_at bs) 0 count) (used-length ∙ sym (by_length (slot_at bs) 0 count))
      (λ i q. let k : i < count = omega (arith, q, used-length) in used-at i k ∙ sym (from_start (slot_at bs) count i k))

  -- as written: the used slots behind the head, whatever comes behind them
  first-laid : (ss : List Slot) (rest : List ℕ) (n : ℕ) → length (take n ss) ≡ n
      → take (4 * n) (slots_laid (slots_written n ss) ++ rest) ≡ slots_laid (take n ss)
  first-laid ss rest n l =
      let others : List ℕ = slots_laid (replicate (64 - n) empty_slot) in
      ap (λ (x : List ℕ). take (4 * n) (x ++ rest)) (laid-append (take n ss) (replicate (64 - n) empty_slot))
      ∙ ap (take (4 * n)) (append_assoc (slots_laid (take n ss)) others rest)
      ∙ take_at (slots_laid (take n ss)) (others ++ rest) (4 * n) (laid-length (take n ss) ∙ ap (λ (m : ℕ). 4 * m) l)

  -- what is looked at, by its numbers and the bytes of the slots
  abbrev looked : ℕ → ℕ → ℕ → ℕ → ℕ → ℕ → List ℕ → List ℕ
  looked id sequence size type start number slots =
      bytes_of word id ++ bytes_of word sequence ++ bytes_of word size ++ bytes_of byte type ++ bytes_of long start ++ bytes_of byte number ++ slots

  looked-at : looked_at count bs
      ≡ looked (field bs 0) (field bs 1) (field bs 2) (field bs 5) (field bs 7) (field bs 9) (take (4 * count) (drop 20 bs))
  looked-at = ap (looked_at count) (laid-again bs bytes head_widths 0 (omega (arith, whole)))

  -- the header and the data type are those that are written
  same_numbers : {xs ys : List ℕ} → xs ≡ ys
      → looked packet_id (49152 + (head_in bs).sequence) 273 1 (field bs 7) (field bs 9) xs ≡ looked (field bs 0) (field bs 1) (field bs 2) (field bs 5) (field bs 7) (field bs 9) ys
  same_numbers {xs} {ys} e =
      let sequence : 49152 + field bs 1 % 16384 ≡ field bs 1 = omega (arith, header) in
      let size : 273 ≡ field bs 2 = sym (header.2 ∙ ap length_field whole) in
      ap₂ (λ (a b : ℕ). looked a b 273 1 (field bs 7) (field bs 9) xs) (sym header.0) sequence
      ∙ ap₂ (λ (a b : ℕ). looked (field bs 0) (field bs 1) a b (field bs 7) (field bs 9) xs) size (sym (accepted-type bs z))
      ∙ ap (looked (field bs 0) (field bs 1) (field bs 2) (field bs 5) (field bs 7) (field bs 9)) e

  slots-laid-alike : (rest : List ℕ) → take (4 * count) (slots_laid (slots_written count (slots_read bs)) ++ rest) ≡ take (4 * count) (drop 20 bs)
  slots-laid-alike rest =
      first-laid (slots_read bs) rest count used-length ∙ ap slots_laid used-slots ∙ sym (slots-again count 0 (omega (arith, whole, accepted-count bs z)))

  bytes-alike : (room : List ℕ) → (write_reply (head_read bs) (slots_read bs) (length room)).refusal ≡ 0 → looked_at count (again bs room) ≡ looked_at count bs
  bytes-alike room w =
      ap (looked_at count)
      (written-is-packet (head_read bs) (slots_read bs) room slots_length w
      ∙ ap (λ (h : Head). event_bytes h (slots_read bs)) (head-as-read bs z)
      ∙ packet-in-parts (head_in bs) (slots_read bs))
      ∙ same_numbers (slots-laid-alike (0 ∷ 0 ∷ crc_last (head_in bs) (slots_read bs)))
      ∙ sym looked-at

pub events-written-again : EventsWrittenAgain
events-written-again bs room bytes fit z =
    let v : verdict (head_causes bs) ≡ 0 = sym (head-number bs) ∙ z in
    let w : (write_reply (head_read bs) (slots_read bs) (length room)).refusal ≡ 0 = writer-accepts bs bytes v room fit in
    let b : ComesBack bs (head_read bs) (slots_read bs) = holds-what-is-read bs bytes v in
    let c : ComesBack (again bs room) (head_read bs) (slots_read bs) = events-come-back (head_read bs) (slots_read bs) room (slots_length bs bytes v) w in (
      w,
      record {
        head = heads-alike (head_read bs) (slots_read bs) bs (again bs room) b c;
        slot = slots-alike (head_read bs) (slots_read bs) bs (again bs room) b c;
        event = events-alike (head_read bs) (slots_read bs) bs (again bs room) b c;
        bytes =
            subst (λ (n : ℕ). looked_at n (again bs room) ≡ looked_at n bs) (sym (count-as-read bs v)) (bytes-alike bs bytes v room w);
      },
    )
