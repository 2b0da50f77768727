-- The loop that compares: the numbers of the pairs that the rest of both recordings gives, put into the list as it is, give the whole answer.
use mathlib.Core.Path.{◌≡◌, refl, sym, ap, ap₂, ◌∙◌}
use mathlib.Core.List.{List, [], ◌∷◌, ◌++◌, append_assoc}
use Prim.Native.Nat.{ℕ, ◌+◌, ◌-◌, ◌≤◌, ◌<◌}
use native.Mathlib.Omega.{arith}
use lib.ListN.{length, take, drop, set, length-take, length-map}
use borrow.Author.Tests.{ltb-false}
use Rattle.std.proofs.Common.{Option, add-one}
use Rattle.std.proofs.lemmas.List.{set_split}
use Rattle.base.specs.Refusal.{verdict}
use Rattle.base.proofs.Refused.{spared, answer-no, answer-yes, answer-number}
use Rattle.base_room.specs.Room.{put}
use Rattle.base_room.proofs.RoomLaws.{put-fits}
use Rattle.base_room.proofs.Filling.{Filled, filled_none, filled_more, filled-all}
use Rattle.chunk.specs.declared.Entry.{Entry}
use Rattle.chunk.specs.Header.{span}
use Rattle.chunk.proofs.Steps.{listed_from, Next, Last}
use Rattle.base.specs.declared.Words.{Words}
use Rattle.chunk_compare.specs.declared.Compared.{Compared}
use Rattle.chunk_compare.specs.Pairs.{chunk_words, first_difference, paired, pairs_of, pair_number, pair_numbers}
use Rattle.chunk_compare.specs.Compare.{pair_count, compare_causes, compare_reply, compare_room}
use Rattle.chunk_compare.proofs.Difference.{difference-within}

-- ---- one chunk, found from a place on

module _ (sync : ℕ) (ws : List ℕ) (from : ℕ) (e : Entry) (n : ℕ) (s : Next sync ws from e n) where
  -- its words are those from its position to the place past it
  pub chunk_part : take (n - e.position.0) (drop e.position.0 ws) ≡ chunk_words ws e
  chunk_part = let l : n - e.position.0 ≡ span e.header = omega (arith, s.end) in ap (λ (m : ℕ). take m (drop e.position.0 ws)) l

  -- so the word at which it differs from others is a 16-bit number
  pub word_fits : (ys : List ℕ) (p : Option Words) → p ≡ first_difference (take (n - e.position.0) (drop e.position.0 ws)) ys → pair_number p < 65536
  word_fits ys p q =
      let xs : List ℕ = take (n - e.position.0) (drop e.position.0 ws) in
      omega (arith, ap pair_number q, difference-within xs ys, length-take (n - e.position.0) (drop e.position.0 ws), s.end, s.most)

-- ---- the list

-- one entry written is put there
set-is-put : (list : List ℕ) (k x : ℕ) → k < length list → set list k x ≡ put (x ∷ []) k list
set-is-put list k x h =
    set_split list k x h ∙ ap (λ (i : ℕ). take k list ++ (x ∷ drop i list)) (sym (add-one k))
    ∙ sym (append_assoc (take k list) (x ∷ []) (drop (k + 1) list)) ∙ sym (put-fits (x ∷ []) k list (omega arith))

module _ (sync : ℕ) (a b : List ℕ) where
  -- the numbers of the pairs that the rest of both recordings gives
  abbrev pub left_from : ℕ → ℕ → List ℕ
  left_from first-from second_from = pair_numbers (paired a b (listed_from sync a first-from) (listed_from sync b second_from))

  module _ (list₀ : List ℕ) where
    -- k entries of the list stand, and the rest of the pairs gives the others
    abbrev pub Told : List ℕ → ℕ → ℕ → ℕ → Type 0
    Told list first-from second_from k = Filled (pair_numbers (pairs_of sync a b)) list₀ 0 (left_from first-from second_from) list k

    pub none_told : pair_count sync a b ≤ length list₀ → Told list₀ 0 0 0
    none_told h = filled_none (pair_numbers (pairs_of sync a b)) list₀ 0 (omega (arith, length-map (pairs_of sync a b) pair_number))

    module _ (list : List ℕ) (first-from second_from k : ℕ) (t : Told list first-from second_from k) where
      module _ (e f : Entry) (n m : ℕ) (s : Next sync a first-from e n) (r : Next sync b second_from f m) where
        first-left : left_from first-from second_from ≡ (pair_number (first_difference (chunk_words a e) (chunk_words b f)) ∷ []) ++ left_from n m
        unfolding paired
        first-left = ap₂ (λ (es fs : List Entry). pair_numbers (paired a b es fs)) s.lists r.lists

        pub room-left : k < length list
        room-left = omega (arith, t.fits, ap length first-left)

        pub pair-told : (x : ℕ)
            → x ≡ pair_number (first_difference (take (n - e.position.0) (drop e.position.0 a)) (take (m - f.position.0) (drop f.position.0 b)))
            → Told (set list k x) n m (k + 1)
        pair-told x q =
            let w = q ∙ ap pair_number (ap₂ first_difference (chunk_part sync a first-from e n s) (chunk_part sync b second_from f m r)) in
            filled_more _ _ _ _ _ _ t (x ∷ []) (left_from n m) (first-left ∙ ap (λ (y : ℕ). (y ∷ []) ++ left_from n m) (sym w)) _ (set-is-put list k x room-left) (k + 1) refl

      -- one of the recordings has no more chunks
      pub all_told : left_from first-from second_from ≡ [] → list ≡ put (pair_numbers (pairs_of sync a b)) 0 list₀
      all_told e = (filled-all _ _ _ _ _ _ t e).0

  pub first_ended : (first-from second_from : ℕ) → Last sync a first-from → left_from first-from second_from ≡ []
  unfolding paired
  first_ended first-from second_from l = ap (λ (es : List Entry). pair_numbers (paired a b es (listed_from sync b second_from))) l.lists

  none_paired : (es : List Entry) → pair_numbers (paired a b es []) ≡ []
  unfolding paired
  none_paired [] = refl
  none_paired (e ∷ es) = refl

  pub second_ended : (first-from second_from : ℕ) → Last sync b second_from → left_from first-from second_from ≡ []
  second_ended first-from second_from l =
      ap (λ (fs : List Entry). pair_numbers (paired a b (listed_from sync a first-from) fs)) l.lists ∙ none_paired (listed_from sync a first-from)

  -- ---- the list after the call

  module _ (list : List ℕ) (r : Compared) (e : r ≡ compare_reply sync a b (length list)) where
    pub number : r.refusal ≡ verdict (compare_causes sync a b (length list))
    unfolding compare_reply
    number = ap (λ (x : Compared). x.refusal) e ∙ answer-number (λ (x : Compared). x.refusal) _ _ _ refl (λ z. refl)

    pub refused-untouched : (r.refusal ≡ 0 → ⊥) → list ≡ compare_room sync a b list
    unfolding compare_room
    refused-untouched h = sym (answer-no _ _ _ (λ z. h (number ∙ z)))

    module _ (z : r.refusal ≡ 0) where
      pub accepted-fits : pair_count sync a b ≤ length list
      accepted-fits = ltb-false (length list) (pair_count sync a b) (spared (compare_causes sync a b (length list)) refl (sym number ∙ z)).1.0

      pub accepted-told : (list₁ : List ℕ) → list₁ ≡ put (pair_numbers (pairs_of sync a b)) 0 list → list₁ ≡ compare_room sync a b list
      unfolding compare_room
      accepted-told list₁ p = p ∙ sym (answer-yes _ _ _ (sym number ∙ z))
