-- The first twenty bytes of a packet, written out one by one, show which of them are looked at: those of the header, the data type, the start second and the
-- count. Behind these what is looked at are the used slots. So two packets with the same of all this have one head, the same used slots and one verdict, of
-- which every reply is made.
use mathlib.Core.Path.{◌≡◌, sym, ap, ap₂, ◌∙◌}
use mathlib.Core.Bool.{Bool, true, cond, not, ◌&&◌, ◌||◌}
use mathlib.Core.List.{List, [], ◌∷◌, ◌++◌}
use Prim.Native.Nat.{ℕ, zero, suc, ◌+◌, ◌-◌, ◌*◌, ◌/◌, ◌%◌, ◌≤◌, ◌<◌}
use native.Mathlib.Nat.{add-zero}
use native.Mathlib.Omega.{arith}
use lib.Dec.{eqb, ltb}
use lib.ListN.{length, get_or, drop}
use lib.Seq.{drop-cons, get_or-take, get_or-drop}
use borrow.Author.Tests.{ltb-true, ltb-false}
use Rattle.base.specs.Number as number
use Rattle.base.specs.Refusal.{verdict, answer, wrong_argument, wrong_length, wrong_header, wrong_crc, unspecified}
use Rattle.base.proofs.Booleans.{or_right, by-test}
use Rattle.base.proofs.Refused.{cause-by-parts}
use Rattle.space_packet.specs.Layout.{word, number_at}
use Rattle.space_packet.specs.Header.{sequence_top, sequence_counts, length_less, header_wrong}
use Rattle.space_packet.proofs.Bytes.{header-by-fields}
use Rattle.event.specs.declared.Head.{Head}
use Rattle.event.specs.declared.Slot.{Slot}
use Rattle.event.specs.declared.Event.{Event}
use Rattle.std.proofs.Common.{Option, Some}
use Rattle.event.specs.Layout.{packet_bytes, packet_id, data_type, slot_count, slot_place, field, type_in, head_in, slot_from, slot_at, detector_wrong, slots_by, some_slot, slot_in}
use Rattle.event.specs.Time.{event_from}
use Rattle.event_reading.specs.Reading.{contents_wrong, head_causes, slot_causes, head_given, head_refused, head_reply, slot_given, slot_refused, slot_reply, event_given, event_refused, event_reply}
use Rattle.event_laws.specs.Reread.{stretch, looked_at}
use Rattle.event_laws.specs.Ignored.{Intact, used_slots, IgnoredBytesChangeNothing}
use Rattle.event_laws.proofs.Answers.{slot-used, slot-unused, slot-outside, event-outside}
use Rattle.event_laws.proofs.Rows.{by-same}

-- ---- the first bytes, one by one

-- n bytes from a place on
abbrev singly : ℕ → ℕ → List ℕ → List ℕ
singly at zero bs = []
singly at (suc n) bs = get_or bs at 0 ∷ singly (suc at) n bs

one_by_one : (at n : ℕ) (bs : List ℕ) → at + n ≤ length bs → drop at bs ≡ singly at n bs ++ drop (at + n) bs
one_by_one at zero bs h = ap (λ (k : ℕ). drop k bs) (sym (add-zero at))
one_by_one at (suc n) bs h =
    let place : suc at + n ≡ at + suc n = omega arith in
    drop-cons bs at 0 (omega arith)
    ∙ ap (λ (l : List ℕ). get_or bs at 0 ∷ l) (one_by_one (suc at) n bs (omega arith) ∙ ap (λ (k : ℕ). singly (suc at) n bs ++ drop k bs) place)

-- a packet so, up to its first slot
abbrev spread : List ℕ → List ℕ
spread bs = singly 0 20 bs ++ drop 20 bs

spread_same : (bs : List ℕ) → length bs ≡ packet_bytes → bs ≡ spread bs
spread_same bs whole = one_by_one 0 20 bs (omega arith)

-- ---- slots of which all bytes are the same

module _ (bs cs : List ℕ) (n : ℕ) (e : stretch 20 (4 * n) cs ≡ stretch 20 (4 * n) bs) where
  in-slots : (l : List ℕ) (k : ℕ) → 20 ≤ k → k < 20 + 4 * n → get_or (stretch 20 (4 * n) l) (k - 20) 0 ≡ get_or l k 0
  in-slots l k from below =
      let back : 20 + (k - 20) ≡ k = omega arith in
      get_or-take (4 * n) (drop 20 l) (k - 20) 0 (omega arith) ∙ get_or-drop 20 l (k - 20) 0 ∙ ap (λ (j : ℕ). get_or l j 0) back

  slot-byte : (k : ℕ) → 20 ≤ k → k < 20 + 4 * n → get_or cs k 0 ≡ get_or bs k 0
  slot-byte k from below = sym (in-slots cs k from below) ∙ ap (λ (l : List ℕ). get_or l (k - 20) 0) e ∙ in-slots bs k from below

  slot_same : (i : ℕ) → i < n → slot_at cs i ≡ slot_at bs i
  slot_same i h =
      let at : ℕ = slot_place i in
      let first : get_or cs at 0 ≡ get_or bs at 0 = slot-byte at (omega arith) (omega arith) in
      let second : get_or cs (at + 1) 0 ≡ get_or bs (at + 1) 0 = slot-byte (at + 1) (omega arith) (omega arith) in
      let third : get_or cs (at + 1 + 1) 0 ≡ get_or bs (at + 1 + 1) 0 = slot-byte (at + 1 + 1) (omega arith) (omega arith) in
      let fourth : get_or cs (at + 1 + 1 + 1) 0 ≡ get_or bs (at + 1 + 1 + 1) 0 = slot-byte (at + 1 + 1 + 1) (omega arith) (omega arith) in
      ap slot_from (ap₂ ◌∷◌ first (ap₂ (λ (x w : ℕ). x ∷ w ∷ []) second (ap₂ number.word third fourth)))

-- ---- what else is made of the bytes

-- a head, of its sequence word, its start second and its count
abbrev head_of : ℕ → ℕ → ℕ → Head
head_of w s n = record { sequence = w % sequence_counts; start = s; count = n }

-- a count above 64 is wrong whatever the slots hold
too_many : (bs : List ℕ) → ltb slot_count (head_in bs).count ≡ true → contents_wrong bs ≡ true
too_many bs t =
    ap (λ (x : Bool). x || some_slot detector_wrong (slots_by (slot_at bs) 0 (head_in bs).count))
    (or_right (not (eqb (type_in bs) data_type)) (ltb slot_count (head_in bs).count) t)

-- ---- two packets that are the same where they are looked at

module _ (bs cs : List ℕ) (b : Intact bs) (c : Intact cs) (e : looked_at (used_slots bs) cs ≡ looked_at (used_slots bs) bs) where
  abbrev used : ℕ
  used = used_slots bs

  looked-alike : looked_at used (spread cs) ≡ looked_at used (spread bs)
  looked-alike = ap (looked_at used) (sym (spread_same cs c.whole)) ∙ e ∙ ap (looked_at used) (spread_same bs b.whole)

  -- byte k of what is looked at: the first twelve are bytes 0 to 5, 12, 14 to 17 and 19
  looked : (k : ℕ) → get_or (looked_at used (spread cs)) k 0 ≡ get_or (looked_at used (spread bs)) k 0
  looked k = ap (λ (l : List ℕ). get_or l k 0) looked-alike

  -- ---- the head

  id-alike : number_at word cs 0 ≡ number_at word bs 0
  id-alike = ap₂ number.word (looked 0) (looked 1)

  sequence-alike : field cs 1 ≡ field bs 1
  sequence-alike = ap₂ number.word (looked 2) (looked 3)

  size-alike : number_at word cs 4 ≡ number_at word bs 4
  size-alike = ap₂ number.word (looked 4) (looked 5)

  type-alike : type_in cs ≡ type_in bs
  type-alike = looked 6

  start-alike : (head_in cs).start ≡ (head_in bs).start
  start-alike = ap₂ (λ (high low : ℕ). high * 65536 + low) (ap₂ number.word (looked 7) (looked 8)) (ap₂ number.word (looked 9) (looked 10))

  count-alike : (head_in cs).count ≡ (head_in bs).count
  count-alike = looked 11

  head-alike : head_in cs ≡ head_in bs
  head-alike =
      ap₂ (λ (w s : ℕ). head_of w s (head_in cs).count) sequence-alike start-alike ∙ ap (head_of (field bs 1) (head_in bs).start) count-alike

  -- ---- the slots

  slot-alike : (i : ℕ) → i < used → slot_at cs i ≡ slot_at bs i
  slot-alike = slot_same bs cs used (ap (drop 12) looked-alike)

  held-used : (i : ℕ) → i < slot_count → i < (head_in bs).count → slot_in cs i ≡ slot_in bs i
  held-used i within k =
      slot-used cs i within (omega (arith, count-alike)) ∙ ap Some (slot-alike i (omega arith)) ∙ sym (slot-used bs i within k)

  held-unused : (i : ℕ) → (head_in bs).count ≤ i → slot_in cs i ≡ slot_in bs i
  held-unused i past = slot-unused cs i (λ k. omega (arith, k, count-alike)) ∙ sym (slot-unused bs i (λ k. omega (arith, k)))

  held-alike : (i : ℕ) → i < slot_count → slot_in cs i ≡ slot_in bs i
  held-alike i within =
      by-test (ltb i (head_in bs).count) (λ t. held-used i within (ltb-true _ _ t)) (λ f. held-unused i (ltb-false _ _ f))

  -- ---- the verdict

  lengths-alike : length cs ≡ length bs
  lengths-alike = c.whole ∙ sym b.whole

  header-alike : header_wrong packet_id cs ≡ header_wrong packet_id bs
  header-alike =
      ap
      (λ (n : ℕ).
      not (eqb (number_at word cs 0) packet_id && eqb (number_at word cs 2 / sequence_counts) sequence_top && eqb (number_at word cs 4 + length_less) n))
      lengths-alike
      ∙ header-by-fields packet_id bs size-alike id-alike sequence-alike

  contents-within : (head_in bs).count ≤ slot_count → contents_wrong cs ≡ contents_wrong bs
  contents-within few =
      ap₂ (λ (t n : ℕ). not (eqb t data_type) || ltb slot_count n || some_slot detector_wrong (slots_by (slot_at cs) 0 n)) type-alike count-alike
      ∙ ap (λ (ss : List Slot). not (eqb (type_in bs) data_type) || ltb slot_count (head_in bs).count || some_slot detector_wrong ss)
      (by-same (slot_at cs) (slot_at bs) 0 (head_in bs).count (λ i from below. slot-alike i (omega arith)))

  contents-alike : contents_wrong cs ≡ contents_wrong bs
  contents-alike =
      by-test (ltb slot_count (head_in bs).count) (λ t. too_many cs (ap (ltb slot_count) count-alike ∙ t) ∙ sym (too_many bs t))
      (λ f. contents-within (ltb-false _ _ f))

  verdict-alike : verdict (head_causes cs) ≡ verdict (head_causes bs)
  verdict-alike =
      cause-by-parts wrong_length (ap (λ (n : ℕ). not (eqb n packet_bytes)) lengths-alike)
      (cause-by-parts wrong_header header-alike
      (cause-by-parts wrong_crc (c.crc ∙ sym b.crc) (ap (λ (x : Bool). cond x unspecified 0) contents-alike)))

  slot-verdict-alike : (i : ℕ) → verdict (slot_causes cs i) ≡ verdict (slot_causes bs i)
  slot-verdict-alike i = ap (λ (v : ℕ). cond (not (ltb i slot_count)) wrong_argument v) verdict-alike

  -- ---- the replies

  same_head : head_reply cs ≡ head_reply bs
  unfolding head_reply
  same_head = ap₂ (λ (v : ℕ) (h : Head). answer v head_refused (head_given 0 h)) verdict-alike head-alike

  same-slot : (i : ℕ) → slot_reply cs i ≡ slot_reply bs i
  unfolding slot_reply
  same-slot i =
      by-test (ltb i slot_count)
      (λ t. ap₂ (λ (v : ℕ) (h : Option Slot). answer v slot_refused (slot_given 0 h)) (slot-verdict-alike i) (held-alike i (ltb-true _ _ t)))
      (λ f. slot-outside cs i (ltb-false _ _ f) ∙ sym (slot-outside bs i (ltb-false _ _ f)))

  same-event : (i : ℕ) → event_reply cs i ≡ event_reply bs i
  unfolding event_reply
  same-event i =
      by-test (ltb i slot_count)
      (λ t.
      ap₂ (λ (v : ℕ) (p : Option Event). answer v event_refused (event_given 0 p)) (slot-verdict-alike i)
      (ap₂ event_from start-alike (held-alike i (ltb-true _ _ t))))
      (λ f. event-outside cs i (ltb-false _ _ f) ∙ sym (event-outside bs i (ltb-false _ _ f)))

pub ignored-bytes-change-nothing : IgnoredBytesChangeNothing
ignored-bytes-change-nothing bs cs b c e =
    record { head = same_head bs cs b c e; slot = same-slot bs cs b c e; event = same-event bs cs b c e }
