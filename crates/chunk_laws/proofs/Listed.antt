-- The calls for a place speak of the list: `ByPlace` has that a chunk is listed at a place exactly if the list has its entry, and where one is listed
-- nothing is refused.
use mathlib.Core.Path.{◌≡◌, sym, ap, ap₂, ◌∙◌}
use mathlib.Core.Bool.{true}
use mathlib.Core.List.{List, []}
use Prim.Native.Nat.{ℕ, ◌+◌, ◌≤◌}
use lib.ListN.{length, get_or, take, drop}
use lib.Seq.{drop-drop}
use borrow.Author.Tests.{le-ltb}
use Rattle.base.specs.Limit.{recording_limit}
use Rattle.base.specs.Refusal.{verdict}
use Rattle.base.proofs.Refused.{answer-yes}
use Rattle.chunk.specs.declared.Entry.{Entry}
use Rattle.chunk.specs.Header.{size, at_end}
use Rattle.chunk.specs.Reading.{reading, listed_at}
use Rattle.chunk_reading.specs.Place.{at_causes, refused, heading_of, at_reply, payload_reply}
use Rattle.chunk_laws.specs.Listed.{Among, PlacesAreTheList}
use Rattle.chunk_laws.proofs.ByPlace.{place-listed, listed-place}

module _ (sync : ℕ) (ws : List ℕ) (short : length ws ≤ recording_limit) where
  -- what the calls answer where a chunk is listed
  pub place-answered : (p : ℕ) → listed_at sync ws p ≡ true
      → (at_reply sync ws p ≡ heading_of (get_or (drop p ws) 1 0) (at_end (drop p ws))) × (payload_reply sync ws p ≡ take (size (get_or (drop p ws) 1 0)) (drop (p + 2) ws))
  place-answered p h =
      let z : verdict (at_causes sync ws p) ≡ 0 = rw (le-ltb recording_limit (length ws) short, h) in
      let w : ℕ = get_or (drop p ws) 1 0 in (
        answer-yes (verdict (at_causes sync ws p)) refused (heading_of w (at_end (drop p ws))) z,
        answer-yes (verdict (at_causes sync ws p)) (λ v. []) (take (size w) (drop 2 (drop p ws))) z ∙ ap (take (size w)) (drop-drop 2 p ws),
      )

  entry-answered : (e : Entry) → Among e (reading sync ws)
      → (at_reply sync ws e.position.0 ≡ heading_of e.header e.end)
      × (payload_reply sync ws e.position.0 ≡ take (size e.header) (drop (e.position.0 + 2) ws))
  entry-answered e h =
      let t = listed-place sync ws e h in
      let a = place-answered e.position.0 t.0 in
      (a.0 ∙ ap₂ heading_of (sym t.1) (sym t.2), a.1 ∙ ap (λ (w : ℕ). take (size w) (drop (e.position.0 + 2) ws)) (sym t.1))

pub places-are-the-list : PlacesAreTheList
places-are-the-list sync ws = record {
  entered = λ p h. place-listed sync p ws h;
  listed = λ e h. (listed-place sync ws e h).0;
  answered = λ short e h. entry-answered sync ws short e h;
}
