-- The mark of a packet: whether the chunk in which it stands ends with the recording. The chunks of a reading lie one after the other, so a packet of a
-- chunk lies in no other, and the mark of its chunk is its own.
use Rattle.std.proofs.Common.{◌≡◌, ℕ, zero, suc, ◌+◌, ◌*◌, ◌/◌, ◌<◌, ◌≤◌, Bool, true, false, cond, eqb, leb, List, [], ◌∷◌, get_or, refl, ◌∙◌, inl, inr, arith, le-ltb, lt-ltb, le-leb}
use mathlib.Core.Bool.{and-true, and-false, or-false}
use borrow.Author.Tests.{lt-leb}
use Rattle.base.proofs.Booleans.{and_both, by-test}
use Rattle.chunk.specs.declared.Entry.{Entry}
use Rattle.chunk.specs.Header.{kind, size, confirmed, at_end}
use Rattle.chunk.specs.Reading.{entry, listed, within}
use Rattle.chunk.proofs.Steps.{listed-one, past}
use Rattle.health_places.specs.Packets.{packet_places, chunk_places}
use Rattle.health_last.specs.Packets.{in_end, found_at, last_where}
use Rattle.health_last.proofs.Later.{last-cases, nothing-in-none}

-- ---- a packet that is found in a chunk lies within it

row-bounds : (f : ℕ → Bool) (n from p : ℕ) → last_where f (packet_places n from) ≡ found_at p → (from ≤ p) × (p < from + 32 * n)
unfolding packet_places
row-bounds f zero from p k = absurd (nothing-in-none f p k)
row-bounds f (suc n) from p k = elim (last-cases f from (packet_places n (from + 32)) p k) as (λ x. (from ≤ p) × (p < from + 32 * suc n)) [
  | inl l ↦ let b = row-bounds f n (from + 32) p l in (omega (arith, b.0), omega (arith, b.1))
  | inr l ↦ (omega (arith, l.0), omega (arith, l.0))
]

pub chunk-bounds : (f : ℕ → Bool) (e : Entry) (p : ℕ) → last_where f (chunk_places e) ≡ found_at p → (e.position.0 ≤ p) × (p < past e)
unfolding chunk_places
chunk-bounds f e p k = by_kind (eqb (kind e.header) 1) k
  where
    by_kind : (b : Bool) → last_where f (cond b (packet_places (size e.header / 32) (e.position.0 + 2)) []) ≡ found_at p → (e.position.0 ≤ p) × (p < past e)
    by_kind true k = let b = row-bounds f (size e.header / 32) (e.position.0 + 2) p k in (omega (arith, b.0), omega (arith, b.1))
    by_kind false k = absurd (nothing-in-none f p k)

-- ---- the mark of a place, by the first chunk and the others

module _ (e : Entry) (p : ℕ) (es : List Entry) where
  in-others : within p e ≡ false → in_end p (e ∷ es) ≡ in_end p es
  unfolding in_end
  in-others k = rw (k, and-false e.end)

  in-first : within p e ≡ true → in_end p es ≡ false → in_end p (e ∷ es) ≡ e.end
  unfolding in_end
  in-first k l = rw (k, l, and-true e.end, or-false e.end)

  pub past_first : past e ≤ p → in_end p (e ∷ es) ≡ in_end p es
  past_first h = in-others (rw (le-ltb p (past e) h) (and-false (leb e.position.0 p)))

  before-first : p < e.position.0 → in_end p (e ∷ es) ≡ in_end p es
  before-first h = in-others (rw (lt-leb e.position.0 p h))

  pub inside-first : e.position.0 ≤ p → p < past e → in_end p es ≡ false → in_end p (e ∷ es) ≡ e.end
  inside-first h k = in-first (and_both _ _ (le-leb e.position.0 p h) (lt-ltb p (past e) k))

-- the chunks that are listed from a place on begin there or later
pub none_before : (sync at left : ℕ) (ws : List ℕ) (p : ℕ) → p < at → in_end p (listed sync at left ws) ≡ false
unfolding in_end listed
none_before sync at left [] p h = refl
none_before sync at (suc left) (w ∷ ws) p h = none_before sync (suc at) left ws p (omega arith)
none_before sync at zero (w ∷ ws) p h =
    by-test (confirmed sync (w ∷ ws))
    (λ c. rw (listed-one sync at w ws true c)
    (before-first (entry at (get_or ws 0 0) (at_end (w ∷ ws))) p (listed sync (suc at) (suc (size (get_or ws 0 0))) ws) h
    ∙ none_before sync (suc at) (suc (size (get_or ws 0 0))) ws p (omega arith)))
    (λ c. rw (listed-one sync at w ws false c) (none_before sync (suc at) 0 ws p (omega arith)))
