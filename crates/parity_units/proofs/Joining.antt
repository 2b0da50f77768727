-- The data of a payload's units joined, unit by unit: what is taken of the units that are left is left to write. Of the accepted units the unit checker
-- writes what a unit gives, and a refused unit gives nothing. The words after the parity words are what is given where no data were touched.
use mathlib.Core.Path.{◌≡◌, refl, sym, ap, ap₂, ◌∙◌}
use mathlib.Core.Bool.{Bool, true, false, ◌||◌, false≢true, or_assoc}
use mathlib.Core.List.{List, [], ◌∷◌, ◌++◌}
use Prim.Native.Nat.{ℕ, ◌+◌, ◌-◌, ◌≤◌, ◌<◌, min}
use native.Mathlib.Omega.{arith}
use lib.ListN.{length, take, drop, length-take, length-drop, length-append}
use lib.Dec.{eqb, leb, ltb}
use borrow.Author.Tests.{eqb-true, eqb-false, ne_eqb, le-ltb, le-leb, leb-true}
use borrow.Rule.Slice.PartMut.{put_mid}
use Rattle.base.specs.Refusal.{verdict, no_room}
use Rattle.base_room.specs.Room.{put}
use Rattle.base.proofs.Booleans.{by-test, or-false}
use Rattle.base.proofs.Refused.{spared, answer-yes, answer-no, verdict-kept}
use Rattle.base_room.proofs.RoomLaws.{put-fits}
use Rattle.base_room.proofs.Filling as filling
use Rattle.base_room.proofs.Filling.{Filled, put-lent}
use Rattle.parity.specs.declared.Judged.{Judged}
use Rattle.parity.specs.Unit.{Finding, sound, parity_bit, data_bit, neither, finding, repaired, unit_data, judge_causes, judge_verdict, judge_reply, refused, named, check_causes, check_verdict, check_reply, check_room}
use Rattle.parity.proofs.Judging.{named-length, judge-finds}
use Rattle.parity_units.specs.Split.{units_in, given, given_data, data_words, data_words_in}
use Rattle.parity_units.specs.Replies.{taken_reply, taken_room, join_reply, join_room, standing_data, copy_reply, copy_room, outcome_of, any_touched}
use Rattle.parity_units.proofs.Split.{units-end, units-next, data-length, data-words, given-length}

-- ---- one unit, in a room that is long enough

record Gives (u room : List ℕ) : Type 0 where
  writes : check_room u room ≡ put (given u) 0 room
  says : (check_reply u (length room)).length.0 ≡ length (given u)

module _ (u room : List ℕ) where
  abbrev verdict_here : ℕ
  verdict_here = verdict (check_causes u (length room))

  accepted-gives : judge_verdict u ≡ 0 → length u - 8 ≤ length room → Gives u room
  unfolding judge_verdict check_verdict check_reply check_room
  accepted-gives a h =
      let s = spared (judge_causes u) refl a in
      let v : verdict_here ≡ 0 = rw (s.0, s.1.0, le-ltb (length room) (length u - 8) h) in
      let g : given u ≡ unit_data u = answer-yes (verdict (judge_causes u)) (λ n. []) (unit_data u) a in
      let l : length (given u) ≡ length u - 8 = ap length g ∙ data-length u in
      record {
        writes = answer-yes verdict_here (λ n. room) (put (unit_data u) 0 room) v ∙ ap (λ (d : List ℕ). put d 0 room) (sym g);
        says =
            ap (λ (r : Judged). r.length.0) (answer-yes verdict_here refused (named (finding u) (length u - 8)) v)
            ∙ named-length (length u - 8) (finding u) (judge-finds u a) ∙ sym l;
      }

  refused-gives : (judge_verdict u ≡ 0 → ⊥) → Gives u room
  unfolding judge_verdict check_verdict check_reply check_room
  refused-gives n =
      let v : verdict_here ≡ verdict (judge_causes u) = verdict-kept (judge_causes u) ((no_room, ltb (length room) (length u - 8)) ∷ []) n in
      let m : verdict_here ≡ 0 → ⊥ = λ z. n (sym v ∙ z) in
      let g : given u ≡ [] = answer-no (verdict (judge_causes u)) (λ x. []) (unit_data u) n in
      record {
        writes =
            answer-no verdict_here (λ x. room) (put (unit_data u) 0 room) m ∙ sym (put-fits [] 0 room (omega arith))
            ∙ ap (λ (d : List ℕ). put d 0 room) (sym g);
        says =
            ap (λ (r : Judged). r.length.0) (answer-no verdict_here refused (named (finding u) (length u - 8)) m)
            ∙ ap length (sym g);
      }

  gives : length u - 8 ≤ length room → Gives u room
  gives h = by-verdict (eqb (judge_verdict u) 0) refl
    where
      by-verdict : (b : Bool) → eqb (judge_verdict u) 0 ≡ b → Gives u room
      by-verdict true e = accepted-gives (eqb-true (judge_verdict u) 0 e) h
      by-verdict false e = refused-gives (eqb-false (judge_verdict u) 0 e)

-- ---- all units, whatever is taken of them

pub record Joined (taken : List (List ℕ) → List ℕ) (p room₀ : List ℕ) (place : ℕ) (room rest : List ℕ) (to : ℕ) : Type 0 where
  pub fits : to + data_words (units_in rest) ≤ length room
  pub filled : Filled (taken (units_in p)) room₀ place (taken (units_in rest)) room to

module _ (taken : List (List ℕ) → List ℕ) (p room : List ℕ) (place : ℕ) where
  -- too little room
  pub too_small : leb (place + data_words_in (length p)) (length room) ≡ false → (0 ≡ taken_reply taken p place (length room)) × (room ≡ taken_room taken p place room)
  too_small h =
      let f = ap (λ (n : ℕ). leb (place + n) (length room)) (data-words p) ∙ h in
      (rw f, rw f)

  -- room enough
  pub room-enough : place + data_words (units_in p) ≤ length room
      → (taken_reply taken p place (length room) ≡ length (taken (units_in p))) × (taken_room taken p place room ≡ put (taken (units_in p)) place room)
  room-enough h =
      let f = le-leb (place + data_words (units_in p)) (length room) h in
      (rw f, rw f)

  pub none-joined : ((us : List (List ℕ)) → length (taken us) ≤ data_words us) → leb (place + data_words_in (length p)) (length room) ≡ true → Joined taken p room place room p place
  none-joined few h =
      let n : place + data_words_in (length p) ≤ length room = leb-true _ _ h in
      record {
        fits = omega (arith, data-words p);
        filled = filling.filled_none (taken (units_in p)) room place (omega (arith, data-words p, few (units_in p)));
      }

module _ (taken : List (List ℕ) → List ℕ) (p room₀ : List ℕ) (place : ℕ) (room rest : List ℕ) (to : ℕ) (k : Joined taken p room₀ place room rest to) where
  module _ (unit more : List ℕ) (e : rest ≡ unit ++ more) (l : length unit ≡ min 264 (length rest)) (some : 0 < length rest) where
    words-here : data_words (units_in rest) ≡ (length unit - 8) + data_words (units_in more)
    unfolding data_words
    words-here = ap data_words (units-next rest unit more e l some)

    -- there is room for the data of this unit
    pub unit-fits : to + (length unit - 8) ≤ length room
    unit-fits = omega (arith, k.fits, words-here)

    -- a unit more, of which a part is taken
    more-joined : (part : List ℕ) → length part ≤ length unit - 8 → taken (unit ∷ units_in more) ≡ part ++ taken (units_in more)
        → (room₁ : List ℕ) → room₁ ≡ put part to room → (to₁ : ℕ) → to₁ ≡ to + length part → Joined taken p room₀ place room₁ more to₁
    more-joined part few t room₁ w to₁ q =
        let f =
        filling.filled_more (taken (units_in p)) room₀ place (taken (units_in rest)) room to k.filled part (taken (units_in more))
        (ap taken (units-next rest unit more e l some) ∙ t) room₁ w to₁ q in
        record {
          fits = omega (arith, k.fits, words-here, f.long, k.filled.long);
          filled = f;
        }

  pub all-joined : taken [] ≡ [] → leb (place + data_words_in (length p)) (length room₀) ≡ true → length rest ≡ 0
      → (place ≤ to) × (to - place ≡ taken_reply taken p place (length room₀)) × (room ≡ taken_room taken p place room₀)
  all-joined none s h =
      let d = filling.filled-all (taken (units_in p)) room₀ place (taken (units_in rest)) room to k.filled (ap taken (units-end rest h) ∙ none) in
      let f = ap (λ (n : ℕ). leb (place + n) (length room₀)) (data-words p) ∙ s in
      (omega (arith, d.1), rw f (omega (arith, d.1)), rw f d.0)

-- ---- what is given

pub given-none : given_data [] ≡ []
unfolding given_data
given-none = refl

module _ (p room₀ : List ℕ) (place : ℕ) (room rest : List ℕ) (to : ℕ) (k : Joined given_data p room₀ place room rest to) where
  module _ (unit more : List ℕ) (e : rest ≡ unit ++ more) (l : length unit ≡ min 264 (length rest)) (some : 0 < length rest) where
    abbrev lent : List ℕ
    lent = take (length room - to) (drop to room)

    gives-here : Gives unit lent
    gives-here = gives unit lent (omega (arith, unit-fits given_data p room₀ place room rest to k unit more e l some, length-take (length room - to) (drop to room), length-drop to room))

    module _ (r : Judged) (c : r ≡ check_reply unit (length lent)) where
      words : r.length.0 ≡ length (given unit)
      words = ap (λ (x : Judged). x.length.0) c ∙ gives-here.says

      pub room-left : to + r.length.0 ≤ length room
      room-left = omega (arith, unit-fits given_data p room₀ place room rest to k unit more e l some, words, given-length unit)

      pub unit-joined : (tail : List ℕ) → tail ≡ check_room unit lent → Joined given_data p room₀ place (put_mid to (length room - to) room tail) more (to + r.length.0)
      unfolding given_data
      unit-joined tail w =
          more-joined given_data p room₀ place room rest to k unit more e l some (given unit) (given-length unit) refl _
          (put-lent (given unit) to room (omega (arith, room-left, words)) tail (w ∙ gives-here.writes)) _ (ap (λ (n : ℕ). to + n) words)

-- ---- what stands there

pub standing-none : standing_data [] ≡ []
unfolding standing_data
standing-none = refl

pub standing-words : (us : List (List ℕ)) → length (standing_data us) ≤ data_words us
unfolding standing_data data_words
standing-words [] = omega arith
standing-words (u ∷ us) = omega (arith, length-append (drop 8 u) (standing_data us), length-drop 8 u, standing-words us)

module _ (p room₀ : List ℕ) (place : ℕ) (room rest : List ℕ) (to : ℕ) (k : Joined standing_data p room₀ place room rest to) where
  module _ (unit more : List ℕ) (e : rest ≡ unit ++ more) (l : length unit ≡ min 264 (length rest)) (some : 0 < length rest) (d : List ℕ) (q : d ≡ drop 8 unit) where
    data-words-here : length d ≡ length unit - 8
    data-words-here = ap length q ∙ length-drop 8 unit

    pub unit-copied : (room₁ : List ℕ) → room₁ ≡ put d to room → Joined standing_data p room₀ place room₁ more (to + length d)
    unfolding standing_data
    unit-copied room₁ w =
        more-joined standing_data p room₀ place room rest to k unit more e l some d (omega (arith, data-words-here)) (ap (λ (x : List ℕ). x ++ standing_data (units_in more)) (sym q))
        room₁ w (to + length d) refl

-- ---- where no data were touched, what stands there is given

untouched : (u : List ℕ) → ltb 1 (outcome_of (judge_reply u)) ≡ false → given u ≡ drop 8 u
unfolding judge_reply unit_data
untouched u t = by-test (eqb (judge_verdict u) 0) (λ a. accepted (eqb-true (judge_verdict u) 0 a)) (λ n. refused-not (eqb-false (judge_verdict u) 0 n))
  where
    by-finding : (f : Finding) → ltb 1 (outcome_of (named f (length u - 8))) ≡ false → repaired f (drop 8 u) ≡ drop 8 u
    by-finding sound b = refl
    by-finding (parity_bit w i) b = refl
    by-finding (data_bit w i) b = absurd (false≢true (sym b))
    by-finding neither b = absurd (false≢true (sym b))

    accepted : judge_verdict u ≡ 0 → given u ≡ drop 8 u
    accepted z =
        answer-yes (judge_verdict u) (λ n. []) (repaired (finding u) (drop 8 u)) z
        ∙ by-finding (finding u) (ap (λ (r : Judged). ltb 1 (outcome_of r)) (sym (answer-yes (judge_verdict u) refused (named (finding u) (length u - 8)) z)) ∙ t)

    refused-not : (judge_verdict u ≡ 0 → ⊥) → given u ≡ drop 8 u
    refused-not n =
        let r : ltb 1 (outcome_of (refused (judge_verdict u))) ≡ false = ap (λ (r : Judged). ltb 1 (outcome_of r)) (sym (answer-no (judge_verdict u) refused (named (finding u) (length u - 8)) n)) ∙ t in
        let s : outcome_of (refused (judge_verdict u)) ≡ 3 = simp (ne_eqb (judge_verdict u) 0 n) in
        absurd (false≢true (sym r ∙ ap (ltb 1) s))

standing-given : (us : List (List ℕ)) → any_touched us ≡ false → given_data us ≡ standing_data us
unfolding any_touched given_data standing_data
standing-given [] t = refl
standing-given (u ∷ us) t =
    let b = or-false (ltb 1 (outcome_of (judge_reply u))) (any_touched us) t in
    ap₂ (λ (x y : List ℕ). x ++ y) (untouched u b.0) (standing-given us b.1)

-- so a copy is what is joined
pub copied : (p room : List ℕ) (place : ℕ) → any_touched (units_in p) ≡ false
    → (copy_reply p place (length room) ≡ join_reply p place (length room)) × (copy_room p place room ≡ join_room p place room)
unfolding copy_reply copy_room join_reply join_room
copied p room place t = let e = sym (standing-given (units_in p) t) in (rw e, rw e)

pub touched-append : (us vs : List (List ℕ)) → any_touched (us ++ vs) ≡ any_touched us || any_touched vs
unfolding any_touched
touched-append [] vs = refl
touched-append (u ∷ us) vs =
    ap (λ (b : Bool). ltb 1 (outcome_of (judge_reply u)) || b) (touched-append us vs)
    ∙ sym (or_assoc (ltb 1 (outcome_of (judge_reply u))) (any_touched us) (any_touched vs))
