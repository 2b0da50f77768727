-- What the readers answer of any packet: where nothing is refused, what stands there; a slot above 63 is refused whatever stands there.
use mathlib.Core.Path.{◌≡◌, refl, sym, ap, ◌∙◌}
use mathlib.Core.Bool.{Bool, false, cond, not, ◌||◌}
use mathlib.Core.List.{List, [], ◌∷◌}
use Prim.Native.Nat.{ℕ, ◌≤◌, ◌<◌}
use lib.Dec.{eqb, ltb}
use borrow.Author.Tests.{lt-ltb, le-ltb, ltb-true, ltb-false, eqb-true, eqb-false, not-false}
use Rattle.base.specs.Refusal.{Causes, verdict, answer}
use Rattle.base.proofs.Booleans.{and_both, and_right, or-false, by-test}
use Rattle.base.proofs.Refused.{Spared, spared, answer-yes, answer-no, answer-number}
use Rattle.event.specs.declared.Head.{Head}
use Rattle.std.proofs.Common.{Some, None}
use Rattle.event.specs.Layout.{data_type, slot_count, type_in, head_in, slot_at, detector_wrong, slots_by, some_slot, is_used, slot_in}
use Rattle.event.specs.Time.{event_at, event_from, event_in}
use Rattle.event_reading.specs.declared.HeadReply.{HeadReply}
use Rattle.event_reading.specs.declared.EventReply.{EventReply}
use Rattle.event_reading.specs.Reading.{head_causes, slot_causes, head_given, head_refused, head_reply, slot_given, slot_refused, slot_reply, event_given, event_refused, event_reply}

-- where no cause holds, nothing is refused: the other way of `spared`
pub verdict-spared : (cs : Causes) → Spared cs → verdict cs ≡ 0
verdict-spared [] s = refl
verdict-spared ((n, b) ∷ cs) s = ap (λ (x : Bool). cond x n (verdict cs)) s.0 ∙ verdict-spared cs s.1

module _ (bs : List ℕ) where
  pub head-number : (head_reply bs).refusal ≡ verdict (head_causes bs)
  unfolding head_reply
  head-number = answer-number (λ (r : HeadReply). r.refusal) (verdict (head_causes bs)) head_refused (head_given 0 (head_in bs)) refl (λ z. refl)

  pub head-given : verdict (head_causes bs) ≡ 0 → head_reply bs ≡ head_given 0 (head_in bs)
  unfolding head_reply
  head-given z = answer-yes _ _ _ z

  module _ (i : ℕ) where
    pub event-number : (event_reply bs i).refusal ≡ verdict (slot_causes bs i)
    unfolding event_reply
    event-number = answer-number (λ (r : EventReply). r.refusal) (verdict (slot_causes bs i)) event_refused (event_given 0 (event_in bs i)) refl (λ z. refl)

    -- accepted or refused
    pub by-verdict : {P : Type 0} → (verdict (slot_causes bs i) ≡ 0 → P) → ((verdict (slot_causes bs i) ≡ 0 → ⊥) → P) → P
    by-verdict accepted refused = by-test (eqb (verdict (slot_causes bs i)) 0) (λ t. accepted (eqb-true _ 0 t)) (λ f. refused (eqb-false _ 0 f))

    -- ---- which slot

    -- one up to 63: the packet decides
    pub slot-judged : i < slot_count → verdict (head_causes bs) ≡ 0 → verdict (slot_causes bs i) ≡ 0
    slot-judged h z = ap (λ (b : Bool). cond (not b) 4 (verdict (head_causes bs))) (lt-ltb i slot_count h) ∙ z

    pub slot-within : verdict (slot_causes bs i) ≡ 0 → i < slot_count
    slot-within z = ltb-true _ _ (not-false _ (spared (slot_causes bs i) refl z).0)

    -- so the packet is accepted too
    pub packet-judged : verdict (slot_causes bs i) ≡ 0 → verdict (head_causes bs) ≡ 0
    packet-judged z = sym (ap (λ (b : Bool). cond (not b) 4 (verdict (head_causes bs))) (lt-ltb i slot_count (slot-within z))) ∙ z

    refused-outside : slot_count ≤ i → verdict (slot_causes bs i) ≡ 4
    refused-outside h = ap (λ (b : Bool). cond (not b) 4 (verdict (head_causes bs))) (le-ltb i slot_count h)

    pub slot-outside : slot_count ≤ i → slot_reply bs i ≡ slot_refused 4
    unfolding slot_reply answer
    slot-outside h = rw (refused-outside h)

    pub event-outside : slot_count ≤ i → event_reply bs i ≡ event_refused 4
    unfolding event_reply answer
    event-outside h = rw (refused-outside h)

    -- ---- what stands there

    pub slot-given : verdict (slot_causes bs i) ≡ 0 → slot_reply bs i ≡ slot_given 0 (slot_in bs i)
    unfolding slot_reply
    slot-given z = answer-yes _ _ _ z

    pub event-given : verdict (slot_causes bs i) ≡ 0 → event_reply bs i ≡ event_given 0 (event_in bs i)
    unfolding event_reply
    event-given z = answer-yes _ _ _ z

    pub slot-refused : (verdict (slot_causes bs i) ≡ 0 → ⊥) → slot_reply bs i ≡ slot_refused (verdict (slot_causes bs i))
    unfolding slot_reply
    slot-refused n = answer-no _ _ _ n

    pub event-refused : (verdict (slot_causes bs i) ≡ 0 → ⊥) → event_reply bs i ≡ event_refused (verdict (slot_causes bs i))
    unfolding event_reply
    event-refused n = answer-no _ _ _ n

    -- used
    pub slot-used : i < slot_count → i < (head_in bs).count → slot_in bs i ≡ Some (slot_at bs i)
    unfolding slot_in
    slot-used h k =
        ap (λ (b : Bool). cond b (Some (slot_at bs i)) None)
        (and_both (ltb i slot_count) (ltb i (head_in bs).count) (lt-ltb i slot_count h) (lt-ltb i (head_in bs).count k))

    pub event-used : i < slot_count → i < (head_in bs).count → event_in bs i ≡ Some (event_at (head_in bs).start (slot_at bs i))
    event-used h k = ap (event_from (head_in bs).start) (slot-used h k)

    -- not used
    pub slot-unused : (i < (head_in bs).count → ⊥) → slot_in bs i ≡ None
    unfolding slot_in
    slot-unused n =
        by-test (is_used (head_in bs).count i) (λ t. absurd (n (ltb-true _ _ (and_right (ltb i slot_count) (ltb i (head_in bs).count) t))))
        (λ f. ap (λ (b : Bool). cond b (Some (slot_at bs i)) None) f)

    pub event-unused : (i < (head_in bs).count → ⊥) → event_in bs i ≡ None
    event-unused n = ap (event_from (head_in bs).start) (slot-unused n)

-- ---- what an accepted packet says

module _ (bs : List ℕ) (z : verdict (head_causes bs) ≡ 0) where
  abbrev early : Bool
  early = not (eqb (type_in bs) data_type) || ltb slot_count (head_in bs).count

  abbrev detectors : Bool
  detectors = some_slot detector_wrong (slots_by (slot_at bs) 0 (head_in bs).count)

  said : (early ≡ false) × (detectors ≡ false)
  said = or-false early detectors (spared (head_causes bs) refl z).1.1.1.0

  pub accepted-type : type_in bs ≡ data_type
  accepted-type = eqb-true _ _ (not-false _ (or-false (not (eqb (type_in bs) data_type)) (ltb slot_count (head_in bs).count) said.0).0)

  pub accepted-count : (head_in bs).count ≤ slot_count
  accepted-count = ltb-false _ _ (or-false (not (eqb (type_in bs) data_type)) (ltb slot_count (head_in bs).count) said.0).1

  pub accepted-detectors : detectors ≡ false
  accepted-detectors = said.1

  pub head-as-read : (head_reply bs).head ≡ head_in bs
  head-as-read = ap (λ (r : HeadReply). r.head) (head-given bs z)

  pub count-as-read : (head_reply bs).head.count ≡ (head_in bs).count
  count-as-read = ap (λ (h : Head). h.count) head-as-read
