-- The walk over a frame's chunks. The invariant: what joins from here on, with what was walked so far, is the whole frame.
use mathlib.Core.Path.{◌≡◌, sym, ap, ap₂, ◌∙◌}
use mathlib.Core.Bool.{Bool, true, false, ◌&&◌, ◌||◌}
use mathlib.Core.List.{List, [], ◌∷◌}
use Prim.Native.Nat.{ℕ, suc, ◌+◌, ◌-◌, ◌%◌, ◌≤◌, ◌<◌}
use native.Mathlib.Omega.{arith}
use native.Mathlib.Nat.{zero-add}
use native.Mathlib.Numerals.{add-one}
use lib.ListN.{length, get_or, take, drop, length-drop}
use lib.Seq.{get_or-drop, drop-drop}
use lib.Dec.{eqb}
use borrow.Author.Tests.{eq-eqb, ne_eqb}
use Rattle.base_room.proofs.RoomLaws.{to_end}
use Rattle.base.proofs.Booleans.{and_left, and_right}
use Rattle.chunk.specs.declared.Check.{Check}
use Rattle.chunk.specs.declared.Entry.{Entry}
use Rattle.chunk.specs.Header.{size, span, confirmed, at_end, is_chunk, is_at_end}
use Rattle.chunk.specs.Reading.{reading, any_end, listed_words}
use Rattle.chunk.proofs.Steps.{listed_from, confirmed-bounds}
use Rattle.parity_units.specs.Split.{data_words, data_words_in}
use Rattle.frame.specs.declared.Description.{Description}
use Rattle.frame.specs.declared.Piece.{Piece}
use Rattle.frame.specs.declared.shape.Reach.{Reach}
use Rattle.frame.specs.Shape.{starts, continues, full, joining, frame_of, frame_chunks, frame_words, frame_camera, closes, closing, complete, frame_end}
use Rattle.frame.specs.Picture.{units_of, frame_length}
use Rattle.frame.specs.Described.{description, described}
use Rattle.frame.specs.Pieces.{frame_there}
use Rattle.frame.specs.Walk.{starts_frame, joins_frame, closes_frame, reach_of}
use Rattle.frame.proofs.Joining.{entry_at, confirmed-inside, next_here, joining-step, joining-stop, closes-at-end, AfterJoined, after-joined}
use Rattle.frame.proofs.Chunks.{data-more}

-- what joins after a chunk with a payload of n words, which ends at `end`
abbrev pub ahead : ℕ → List ℕ → ℕ → ℕ → List Entry
ahead sync ws n end = joining end (eqb (n % 264) 0) (listed_from sync ws end)

pub record Walked (sync : ℕ) (ws : List ℕ) (n chunks end sum : ℕ) : Type 0 where
  pub within : end ≤ length ws
  pub few : chunks ≤ end
  pub short : sum ≤ end
  pub count : chunks + length (ahead sync ws n end) ≡ length (frame_chunks sync ws)
  pub words : end + listed_words (ahead sync ws n end) ≡ frame_words sync ws
  pub units : sum + data_words (units_of ws (ahead sync ws n end)) ≡ frame_length sync ws

module _ (sync : ℕ) (ws : List ℕ) (s : starts_frame sync ws ≡ true) where
  abbrev first : ℕ
  first = get_or ws 1 0

  first-confirmed : confirmed sync ws ≡ true
  first-confirmed = and_left (confirmed sync ws) (starts first) s

  first-within : (0 + span first ≤ length ws) × (9 ≤ size first) × (size first ≤ 8184)
  first-within = confirmed-bounds sync ws 0 (confirmed-inside sync ws 0 first-confirmed) first-confirmed

  -- two words at the least
  pub longer-than-header : 2 < length ws
  longer-than-header = omega (arith, first-within.0, first-within.1)

  -- the frame is its first chunk and what joins after it
  pub first-and-ahead : frame_chunks sync ws ≡ entry_at ws 0 first ∷ ahead sync ws (size first) (span first)
  unfolding frame_chunks frame_of
  first-and-ahead =
      ap frame_of (next_here sync ws 0 first-confirmed).lists
      ∙ ap (λ (n : ℕ). entry_at ws 0 first ∷ joining (span first) (full first) (listed_from sync ws n)) (zero-add (span first))

  pub first_walked : (n sum : ℕ) → n ≡ size first → sum ≡ data_words_in n → Walked sync ws n 1 (2 + n) sum
  unfolding listed_words
  first_walked n sum q d =
      let g : data_words_in n ≡ data_words_in (size first) = ap data_words_in q in
      let m : 2 + n ≡ span first = omega (arith, q) in
      let l : length (frame_chunks sync ws) ≡ suc (length (ahead sync ws (size first) (span first))) = ap length first-and-ahead in
      let w : frame_words sync ws ≡ span first + listed_words (ahead sync ws (size first) (span first)) = ap listed_words first-and-ahead in
      let u : frame_length sync ws ≡ data_words_in (size first) + data_words (units_of ws (ahead sync ws (size first) (span first))) =
      ap (λ (es : List Entry). data_words (units_of ws es)) first-and-ahead ∙ data-more ws (entry_at ws 0 first) (ahead sync ws (size first) (span first)) first-within.0 in
      rw (m, q) record {
        within = omega (arith, first-within.0);
        few = omega arith;
        short = omega (arith, d, g);
        count = omega (arith, l);
        words = sym w;
        units = omega (arith, u, d, g);
      }

  module _ (n chunks end sum : ℕ) (k : Walked sync ws n chunks end sum) where
    -- the words from the end so far on, as the code takes them
    abbrev rest : List ℕ
    rest = take (length ws - end) (drop end ws)

    rest-here : joins_frame sync rest ≡ joins_frame sync (drop end ws)
    rest-here = ap (joins_frame sync) (to_end end ws)

    module _ (b : Bool) (r : b ≡ joins_frame sync rest) (t : b ≡ true) where
      here : joins_frame sync (drop end ws) ≡ true
      here = sym rest-here ∙ sym r ∙ t

      here-confirmed : confirmed sync (drop end ws) ≡ true
      here-confirmed = and_left (confirmed sync (drop end ws)) _ here

      here-bounds : (end + span (get_or ws (suc end) 0) ≤ length ws) × (9 ≤ size (get_or ws (suc end) 0)) × (size (get_or ws (suc end) 0) ≤ 8184)
      here-bounds = confirmed-bounds sync ws end (confirmed-inside sync ws end here-confirmed) here-confirmed

      -- a continuation has its header word within the words
      pub joined_inside : end + 1 < length ws
      joined_inside = omega (arith, here-bounds.0)

      -- after a chunk that is a multiple of a whole unit it joins
      pub one_more_walked : n % 264 ≡ 0 → (m d : ℕ) → m ≡ size (get_or ws (end + 1) 0) → d ≡ data_words_in m
          → Walked sync ws m (chunks + 1) (end + (2 + m)) (sum + d)
      unfolding listed_words
      one_more_walked f m d q a =
          let w : ℕ = get_or ws (end + 1) 0 in
          let g : d ≡ data_words_in (size w) = a ∙ ap data_words_in q in
          let h : w ≡ get_or ws (suc end) 0 = ap (λ (x : ℕ). get_or ws x 0) (add-one end) in
          let v : get_or (drop end ws) 1 0 ≡ w = get_or-drop end ws 1 0 in
          let y : continues w ≡ true = ap (λ (x : ℕ). continues x) (sym v) ∙ and_right (confirmed sync (drop end ws)) _ here in
          let i : end + span w ≤ length ws = rw h here-bounds.0 in
          let o : List Entry = ahead sync ws (size w) (end + span w) in
          let e : ahead sync ws n end ≡ entry_at ws end w ∷ o =
          ap (λ (x : Bool). joining end x (listed_from sync ws end)) (eq-eqb (n % 264) 0 f) ∙ joining-step sync ws end w h here-confirmed y in
          let u : data_words (units_of ws (ahead sync ws n end)) ≡ data_words_in (size w) + data_words (units_of ws o) =
          ap (λ (es : List Entry). data_words (units_of ws es)) e ∙ data-more ws (entry_at ws end w) o i in
          let z : end + (2 + m) ≡ end + span w = omega (arith, q) in
          rw (z, q) record {
            within = i;
            few = omega (arith, k.few);
            short = omega (arith, k.short, g);
            count = omega (arith, k.count, ap length e);
            words = omega (arith, k.words, ap listed_words e);
            units = omega (arith, k.units, u, g);
          }

    -- where nothing joins the frame ends
    all-walked : eqb (n % 264) 0 && joins_frame sync (drop end ws) ≡ false
        → record { chunks = chunks; end = record { 0 = end }; length = record { 0 = sum } } ≡ reach_of sync ws
    unfolding listed_words units_of data_words
    all-walked j =
        let z : ahead sync ws n end ≡ [] = joining-stop sync ws end (eqb (n % 264) 0) (rw (get_or-drop end ws 1 0, add-one) at j) in
        let a : chunks ≡ length (frame_chunks sync ws) = omega (arith, k.count, ap length z) in
        let b : end ≡ frame_words sync ws = omega (arith, k.words, ap listed_words z) in
        let c : sum ≡ frame_length sync ws = omega (arith, k.units, ap (λ (es : List Entry). data_words (units_of ws es)) z) in
        cc

    -- after a chunk that is no multiple of a whole unit
    pub short_walked : (n % 264 ≡ 0 → ⊥) → record { chunks = chunks; end = record { 0 = end }; length = record { 0 = sum } } ≡ reach_of sync ws
    short_walked f = all-walked (rw (ne_eqb (n % 264) 0 f))

    -- and after one behind which no continuation stands
    pub parted_walked : n % 264 ≡ 0 → (b : Bool) → b ≡ joins_frame sync rest → b ≡ false
        → record { chunks = chunks; end = record { 0 = end }; length = record { 0 = sum } } ≡ reach_of sync ws
    parted_walked f b r t = all-walked (rw (eq-eqb (n % 264) 0 f) (sym rest-here ∙ sym r ∙ t))

  -- after its first chunk, and all its words
  after_first : AfterJoined sync ws (span first) (ahead sync ws (size first) (span first))
  after_first = after-joined sync ws (length ws) (span first) (full first) (omega arith) (omega (arith, first-within.0))

  words-of-all : frame_words sync ws ≡ span first + listed_words (ahead sync ws (size first) (span first))
  unfolding listed_words
  words-of-all = ap listed_words first-and-ahead

  -- the frame lies within the words
  pub frame-ends-inside : frame_words sync ws ≤ length ws
  frame-ends-inside = omega (arith, after_first.within, words-of-all)

  -- one of its chunks ends with the words exactly where the frame does
  pub own-mark : any_end (frame_chunks sync ws) ≡ eqb (frame_words sync ws) (length ws)
  unfolding any_end
  own-mark =
      let es : List Entry = ahead sync ws (size first) (span first) in
      let m : at_end ws ≡ eqb (span first) (length ws) = (next_here sync ws 0 first-confirmed).mark ∙ ap (λ (n : ℕ). eqb n (length ws)) (zero-add (span first)) in
      ap any_end first-and-ahead ∙ ap (λ (b : Bool). b || any_end es) m ∙ after_first.mark ∙ ap (λ (n : ℕ). eqb n (length ws)) (sym words-of-all)

  -- what closes the frame is a question about the place where it ends
  pub closing-at-end : closing sync ws ≡ closes_frame sync (drop (frame_words sync ws) ws) (frame_camera ws)
  unfolding closing
  closing-at-end =
      let es : List Entry = ahead sync ws (size first) (span first) in
      let d : drop (length (frame_chunks sync ws)) (reading sync ws) ≡ listed_from sync ws (frame_words sync ws) =
      ap (λ (n : ℕ). drop n (reading sync ws)) (ap length first-and-ahead)
      ∙ ap (drop (suc (length es))) ((next_here sync ws 0 first-confirmed).lists ∙ ap (λ (n : ℕ). entry_at ws 0 first ∷ listed_from sync ws n) (zero-add (span first)))
      ∙ after_first.goes_on ∙ ap (listed_from sync ws) (sym words-of-all) in
      ap (closes ws (frame_words sync ws) (frame_camera ws)) d ∙ closes-at-end sync (frame_camera ws) ws (frame_words sync ws)
      ∙ rw (get_or-drop (frame_words sync ws) ws 1 0, add-one, drop-drop 2 (frame_words sync ws) ws)

  module _ (r : Reach) (e : r ≡ reach_of sync ws) where
    end-there : r.end.0 ≡ frame_words sync ws
    end-there = ap (λ (x : Reach). x.end.0) e

    pub reach-inside : r.end.0 ≤ length ws
    reach-inside = omega (arith, end-there, frame-ends-inside)

    -- a frame is described by how far it reaches and what stands at its end
    pub described-by-reach : (cam : ℕ) (c : Check) (all last : Bool) → cam ≡ frame_camera ws
        → c ≡ closes_frame sync (take (length ws - r.end.0) (drop r.end.0 ws)) cam → all ≡ is_chunk c → last ≡ eqb r.end.0 (length ws) || is_at_end c
        → description cam r.chunks all r.length.0 last ≡ described sync ws
    unfolding described complete frame_end
    described-by-reach cam c all last f g h i =
        let w : c ≡ closing sync ws =
        g ∙ ap (λ (x : List ℕ). closes_frame sync x cam) (to_end r.end.0 ws ∙ ap (λ (m : ℕ). drop m ws) end-there)
        ∙ ap (λ (x : ℕ). closes_frame sync (drop (frame_words sync ws) ws) x) f ∙ sym closing-at-end in
        rw (i, e, f, h, w, own-mark)

-- ---- the same, of the frame at a place of the words: what it is measured over are the words from its first on, as the code takes them

module _ (sync : ℕ) (ws : List ℕ) (p : ℕ) (s : starts_frame sync (drop p ws) ≡ true) where
  abbrev part : List ℕ
  part = take (length ws - p) (drop p ws)

  starts-there : starts_frame sync part ≡ true
  starts-there = ap (starts_frame sync) (to_end p ws) ∙ s

  part_length : length part ≡ length ws - p
  part_length = ap length (to_end p ws) ∙ length-drop p ws

  module _ (r : Reach) (e : r ≡ reach_of sync part) where
    pub reach_inside : r.end.0 ≤ length part
    reach_inside = reach-inside sync part starts-there r e

    pub reach_fits : p + r.end.0 ≤ length ws
    reach_fits = omega (arith, reach_inside, part_length, longer-than-header sync part starts-there)

    pub frame_told : (cam : ℕ) (c : Check) (all last : Bool) → cam ≡ frame_camera part → c ≡ closes_frame sync (take (length part - r.end.0) (drop r.end.0 part)) cam
        → all ≡ is_chunk c → last ≡ eqb r.end.0 (length part) || is_at_end c
        → Piece.Frame (record { 0 = p }) (description cam r.chunks all r.length.0 last) (record { 0 = p + r.end.0 }) ≡ frame_there sync ws p
    frame_told cam c all last f g h i =
        ap₂ (λ (d : Description) (n : ℕ). Piece.Frame (record { 0 = p }) d (record { 0 = p + n }))
        (described-by-reach sync part starts-there r e cam c all last f g h i ∙ ap (described sync) (to_end p ws))
        (ap (λ (x : Reach). x.end.0) e ∙ ap (frame_words sync) (to_end p ws))
