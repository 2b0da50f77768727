-- The search for the last place where a test holds: from the back of a row of packets, and chunk by chunk of a reading.
use Rattle.std.proofs.Common.{◌≡◌, ℕ, zero, suc, ◌+◌, ◌-◌, ◌*◌, ◌/◌, ◌<◌, ◌≤◌, Bool, true, false, cond, ◌&&◌, ◌||◌, eqb, get_or, Option, Some, None, is_some, List, [], ◌∷◌, ◌++◌, length, drop, sym, refl, ap, ◌∙◌, subst, true≢false, arith}
use Rattle.base.specs.declared.Words.{Words}
use Rattle.chunk.specs.declared.Entry.{Entry}
use Rattle.chunk.specs.declared.walk.Chunks.{Chunks}
use Rattle.chunk.specs.Header.{kind, size, span}
use Rattle.chunk.specs.Walk.{chunks_step}
use Rattle.chunk.proofs.Walking.{Walks, Turn, turn}
use Rattle.chunk.specs.Reading.{listed, reading}
use Rattle.chunk.proofs.Steps.{Next, Last, past}
use Rattle.health.specs.Packet.{packet_at, type_of_packet, sound_packet}
use Rattle.health_places.specs.Packets.{packet_places, chunk_places, places_of, sound_of}
use Rattle.health_places.proofs.Places.{type_at}
use Rattle.health_last.specs.declared.Marked.{Marked}
use Rattle.health_last.specs.Packets.{in_end, science_end, later, last_where}
use Rattle.health_last.specs.Seek.{wanted, found_in, mark_in, Answers, marked, Decided}
use Rattle.health_last.specs.Last.{in_science}
use Rattle.health_last.proofs.Later.{later-none, later-assoc, last-append, none-cases}
use Rattle.health_last.proofs.Marks.{chunk-bounds, past_first, inside-first, none_before}

-- the type of a packet is the word at its place, so the word is looked at alone
pub wanted_at : (ws : List ℕ) (t : ℕ) (any : Bool) (p : ℕ) → wanted ws t any p ≡ eqb (get_or ws p 0) t && (any || sound_packet (packet_at ws p))
unfolding wanted
wanted_at ws t any p = ap (λ (n : ℕ). eqb n t && (any || sound_packet (packet_at ws p))) (type_at ws p)

-- ---- a row of packets, from the back

module _ (f : ℕ → Bool) where
  row_back : (n from : ℕ) → packet_places (suc n) from ≡ packet_places n from ++ (from + 32 * n) ∷ []
  unfolding packet_places
  row_back zero from = ap (λ (q : ℕ). q ∷ []) (omega arith)
  row_back (suc n) from =
      ap (λ (ps : List ℕ). from ∷ ps)
      (row_back n (from + 32) ∙ ap (λ (q : ℕ). packet_places n (from + 32) ++ q ∷ []) (omega arith))

  from_back : (n from : ℕ) (b : Bool) → f (from + 32 * n) ≡ b
      → last_where f (packet_places (suc n) from) ≡ cond b (Some (record { 0 = from + 32 * n })) (last_where f (packet_places n from))
  unfolding last_where
  from_back n from b e =
      ap (last_where f) (row_back n from) ∙ last-append f (packet_places n from) ((from + 32 * n) ∷ [])
      ∙ ap (λ (x : Bool). later (cond x (Some (record { 0 = from + 32 * n })) None) (last_where f (packet_places n from))) e ∙ by_cases b
    where
      by_cases : (b : Bool) → later (cond b (Some (record { 0 = from + 32 * n })) None) (last_where f (packet_places n from))
          ≡ cond b (Some (record { 0 = from + 32 * n })) (last_where f (packet_places n from))
      by_cases true = refl
      by_cases false = refl

  module _ (n from : ℕ) (h : 0 < n) where
    one_less : suc (n - 1) ≡ n
    one_less = omega arith

    pub last_found : f (from + 32 * (n - 1)) ≡ true → Some (record { 0 = from + 32 * (n - 1) }) ≡ last_where f (packet_places n from)
    last_found e = sym (from_back (n - 1) from true e) ∙ ap (λ (k : ℕ). last_where f (packet_places k from)) one_less

    pub last-before : f (from + 32 * (n - 1)) ≡ false → last_where f (packet_places (n - 1) from) ≡ last_where f (packet_places n from)
    last-before e = sym (from_back (n - 1) from false e) ∙ ap (λ (k : ℕ). last_where f (packet_places k from)) one_less

  pub none_left : (n from : ℕ) → n ≡ 0 → last_where f (packet_places n from) ≡ None
  unfolding packet_places last_where
  none_left n from e = ap (λ (k : ℕ). last_where f (packet_places k from)) e

-- the packets of a chunk are those of a row, where it is health
pub chunk_row : (e : Entry) (f : ℕ → Bool)
    → last_where f (chunk_places e) ≡ cond (eqb (kind e.header) 1) (last_where f (packet_places (size e.header / 32) (e.position.0 + 2))) None
unfolding chunk_places last_where
chunk_row e f = by_kind (eqb (kind e.header) 1)
  where
    by_kind : (b : Bool) → last_where f (cond b (packet_places (size e.header / 32) (e.position.0 + 2)) [])
        ≡ cond b (last_where f (packet_places (size e.header / 32) (e.position.0 + 2))) None
    by_kind true = refl
    by_kind false = refl

-- ---- a science recording, chunk by chunk

-- what was found so far: in the chunk, with its mark, or else before it
abbrev pub so_far : Entry → Option Marked → Option Words → Option Marked
so_far e last (Some p) = Some (marked p e)
so_far e last None = last

-- What is left of the reading at a place, after what was found before it, gives the answer; what was found has its mark, and from that place on what is left
-- tells the mark of a place.
pub record Sifted (sync t : ℕ) (ws : List ℕ) (at : ℕ) (last : Option Marked) : Type 0 where
  pub within : at ≤ length ws
  pub answers : later (last_where (sound_of ws t) (places_of (listed sync at 0 (drop at ws)))) (found_in last) ≡ in_science sync ws t
  pub mark : mark_in last ≡ science_end sync ws (found_in last)
  pub rest : (p : ℕ) → at ≤ p → in_end p (reading sync ws) ≡ in_end p (listed sync at 0 (drop at ws))

module _ (sync t : ℕ) (ws : List ℕ) where
  pub none-sifted : {at : ℕ} → at ≡ 0 → Sifted sync t ws at None
  unfolding science_end
  none-sifted e =
      let start : Sifted sync t ws 0 None = record { within = omega arith; answers = later-none (in_science sync ws t); mark = refl; rest = λ p h. refl } in
      subst (λ (n : ℕ). Sifted sync t ws n None) (sym e) start

  module _ {at : ℕ} {last : Option Marked} (s : Sifted sync t ws at last) {e : Entry} {n : ℕ} (k : Next sync ws at e n) where
    abbrev others : List Entry
    others = listed sync n 0 (drop n ws)

    -- the mark of a place in the chunk is the chunk's
    chunk-mark : (p : ℕ) → e.position.0 ≤ p → p < past e → in_end p (reading sync ws) ≡ e.end
    chunk-mark p a b =
        s.rest p (omega (arith, a, k.ahead)) ∙ ap (in_end p) k.lists
        ∙ inside-first e p others a b (none_before sync n 0 (drop n ws) p (omega (arith, b, k.end)))

    so-far-found : (found : Option Words) → found_in (so_far e last found) ≡ later found (found_in last)
    so-far-found (Some p) = refl
    so-far-found None = refl

    so-far-mark : (found : Option Words) → found ≡ last_where (sound_of ws t) (chunk_places e) → mark_in (so_far e last found) ≡ science_end sync ws (found_in (so_far e last found))
    unfolding science_end
    so-far-mark (Some p) ef = let b = chunk-bounds (sound_of ws t) e p.0 (sym ef) in sym (chunk-mark p.0 b.0 b.1)
    so-far-mark None ef = s.mark

    pub chunk-sifted : {found : Option Words} → found ≡ last_where (sound_of ws t) (chunk_places e)
        → {now : Option Marked} → now ≡ so_far e last found → Sifted sync t ws n now
    unfolding places_of
    chunk-sifted {found} ef en =
        let f = sound_of ws t in
        let ahead : Option Words = last_where f (places_of others) in
        let from-here : last_where f (places_of (listed sync at 0 (drop at ws))) ≡ later ahead (last_where f (chunk_places e)) =
        ap (λ (es : List Entry). last_where f (places_of es)) k.lists ∙ last-append f (chunk_places e) (places_of others) in
        record {
          within = k.within;
          answers =
              ap (later ahead) (ap found_in en ∙ so-far-found found ∙ ap (λ (x : Option Words). later x (found_in last)) ef)
              ∙ sym (later-assoc ahead (last_where f (chunk_places e)) (found_in last))
              ∙ ap (λ (x : Option Words). later x (found_in last)) (sym from-here)
              ∙ s.answers;
          mark = ap mark_in en ∙ so-far-mark found ef ∙ ap (λ (m : Option Marked). science_end sync ws (found_in m)) (sym en);
          rest = λ p h.
              s.rest p (omega (arith, h, k.end, k.ahead)) ∙ ap (in_end p) k.lists ∙ past_first e p others (omega (arith, h, k.end));
        }

  pub all-sifted : {at : ℕ} {last : Option Marked} → Sifted sync t ws at last → Last sync ws at → Answers sync ws t last
  unfolding places_of last_where
  all-sifted {at} {last} s n =
      let all : found_in last ≡ in_science sync ws t =
      ap (λ (es : List Entry). later (last_where (sound_of ws t) (places_of es)) (found_in last)) (sym n.lists) ∙ s.answers in
      (all, s.mark ∙ ap (science_end sync ws) all)

-- a fold over the walk: what it has in hand is sifted up to the place of the walk
abbrev pub Sifting : ℕ → ℕ → List ℕ → Chunks → Option Marked → Type 0
Sifting sync t ws s last = Walks sync ws s × Sifted sync t ws s.at.0 last

pub sifts : (sync t : ℕ) (ws : List ℕ) {s u : Chunks} {x : Entry × Words} {last now : Option Marked} → Sifting sync t ws s last → chunks_step s (Some x) u
    → now ≡ so_far x.0 last (last_where (wanted ws t false) (chunk_places x.0)) → Sifting sync t ws u now
unfolding sound_of wanted
sifts sync t ws {s} {u} {x} j e is =
    let k : Turn sync ws s x.0 x.1 u = turn sync ws s u j.0 x.0 x.1 e in
    (k.on, rw k.past (chunk-sifted sync t ws j.1 k.next refl is))

-- the chunk of a turn lies within the words
pub turn-within : (sync : ℕ) (ws : List ℕ) {s u : Chunks} {x : Entry × Words} → Walks sync ws s → chunks_step s (Some x) u → x.0.position.0 + span x.0.header ≤ length ws
turn-within sync ws {s} {u} {x} w e = let k : Turn sync ws s x.0 x.1 u = turn sync ws s u w x.0 x.1 e in omega (arith, k.next.within, k.next.end)

-- ---- a science recording, by the types alone

no_value : (o : Option Words) → is_some o ≡ false → o ≡ None
no_value None e = refl
no_value (Some p) e = absurd (true≢false e)

-- where no packet is of the type, none is a sound one of it
none-sound : (t : ℕ) (ws places : List ℕ) → last_where (wanted ws t true) places ≡ None → last_where (sound_of ws t) places ≡ None
unfolding last_where sound_of wanted
none-sound t ws [] e = refl
none-sound t ws (p ∷ places) e =
    let none = none-cases (wanted ws t true) p places e in
    let other = unsound (eqb (type_of_packet (packet_at ws p)) t) (sound_packet (packet_at ws p)) none.0 in
    rw (none-sound t ws places none.1, other)
  where
    unsound : (b x : Bool) → b && true ≡ false → b && x ≡ false
    unsound true x k = absurd (true≢false k)
    unsound false x k = refl

-- What the search chunk by chunk would have found so far: in the chunk in hand, where that has a sound packet of the type, and nothing where none is in hand.
abbrev InHand : ℕ → List ℕ → Option Entry → Option Marked → Type 0
InHand t ws (Some e) found = (past e ≤ length ws) × ((p : Words) → last_where (sound_of ws t) (chunk_places e) ≡ Some p → found ≡ Some (marked p e))
InHand t ws None found = found_in found ≡ None

pub record Held (sync t : ℕ) (ws : List ℕ) (at : ℕ) (holder : Option Entry) : Type 0 where
  found : Option Marked
  sifted : Sifted sync t ws at found
  in-hand : InHand t ws holder found

module _ (sync t : ℕ) (ws : List ℕ) where
  pub none-held : {at : ℕ} → at ≡ 0 → Held sync t ws at None
  none-held e = record { found = None; sifted = none-sifted sync t ws e; in-hand = refl }

  module _ {at : ℕ} {holder : Option Entry} (s : Held sync t ws at holder) {e : Entry} {next : Words} (k : Next sync ws at e next.0) where
    -- the chunk is taken in hand
    pub chunk-held : Held sync t ws next.0 (Some e)
    chunk-held =
        record {
          found = so_far e s.found (last_where (sound_of ws t) (chunk_places e));
          sifted = chunk-sifted sync t ws s.sifted k refl refl;
          in-hand = (omega (arith, k.within, k.end), λ p ep. ap (so_far e s.found) ep);
        }

    -- the chunk holds no packet of the type
    pub chunk-passed : is_some (last_where (wanted ws t true) (chunk_places e)) ≡ false → Held sync t ws next.0 holder
    chunk-passed none =
        let unsound = none-sound t ws (chunk_places e) (no_value _ none) in
        record { found = s.found; sifted = chunk-sifted sync t ws s.sifted k (sym unsound) refl; in-hand = s.in-hand }

  pub all_held : {at : ℕ} (holder : Option Entry) → Held sync t ws at holder → Last sync ws at → Decided sync ws t holder
  all_held (Some e) s n =
      let answers = all-sifted sync t ws s.sifted n in
      record { within = s.in-hand.0; answers = λ p ep. subst (Answers sync ws t) (s.in-hand.1 p ep) answers }
  all_held None s n = sym (all-sifted sync t ws s.sifted n).0 ∙ s.in-hand

-- what is in hand so far: the chunk, where it holds a packet of the type, or what was before it
abbrev pub held_so_far : Entry → Option Entry → Option Words → Option Entry
held_so_far e holder (Some p) = Some e
held_so_far e holder None = holder

taken : (sync t : ℕ) (ws : List ℕ) {at : ℕ} {holder : Option Entry} → Held sync t ws at holder → {e : Entry} {n : Words} → Next sync ws at e n.0
    → (found : Option Words) → found ≡ last_where (wanted ws t true) (chunk_places e) → Held sync t ws n.0 (held_so_far e holder found)
taken sync t ws h k (Some p) e = chunk-held sync t ws h k
taken sync t ws h k None e = chunk-passed sync t ws h k (ap is_some (sym e))

-- a fold over the walk, with a chunk in hand
abbrev pub Holding : ℕ → ℕ → List ℕ → Chunks → Option Entry → Type 0
Holding sync t ws s holder = Walks sync ws s × Held sync t ws s.at.0 holder

pub holds : (sync t : ℕ) (ws : List ℕ) {s u : Chunks} {x : Entry × Words} {holder now : Option Entry} → Holding sync t ws s holder → chunks_step s (Some x) u
    → now ≡ held_so_far x.0 holder (last_where (wanted ws t true) (chunk_places x.0)) → Holding sync t ws u now
holds sync t ws {s} {u} {x} j e is =
    let k : Turn sync ws s x.0 x.1 u = turn sync ws s u j.0 x.0 x.1 e in
    (k.on, rw (k.past, is) (taken sync t ws j.1 k.next _ refl))
