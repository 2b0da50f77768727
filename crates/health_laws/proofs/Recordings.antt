-- The last packet of a type in a recording that is made of written packets. Whether a sound packet of the type stands at a place is told by the words from
-- there on, which begin with a written packet; so the search goes through the packets as they were written, and what it finds is theirs to say.
use mathlib.Core.Path.{◌≡◌, refl, sym, ap, ap₂, ◌∙◌}
use mathlib.Core.Bool.{Bool, true, false, not, ◌&&◌}
use mathlib.Core.List.{List, [], ◌∷◌, ◌++◌, map, append-nil, append_assoc}
use Prim.Native.Nat.{ℕ, ◌+◌, ◌*◌, ◌/◌, ◌<◌}
use native.Mathlib.Omega.{arith}
use lib.ListN.{length, take, drop, length-append, take-append-drop}
use lib.Seq.{take_at, drop_at, drop-drop, take-append_seam}
use lib.Dec.{eqb}
use borrow.Author.Tests.{eq-eqb, ne_eqb, eqb-true, eqb-false, not-true}
use Rattle.base.proofs.Booleans.{and_left, and_right, and_both, by-test}
use Rattle.chunk.specs.declared.Entry.{Entry}
use Rattle.chunk.specs.Header.{kind, size, span}
use Rattle.chunk.specs.Reading.{entry, reading}
use Rattle.chunk_laws.specs.Stretch.{Laid, words, empty, entries, offset, whole, whole_row}
use Rattle.chunk_laws.specs.Written.{Accepted, written, recorded}
use Rattle.chunk_laws.proofs.Rows.{whole_length, row_first, row-rest, row_drop, lists-row}
use Rattle.chunk_laws.proofs.Written.{laid, kind-written, accepted-taken, row-whole, recorded-words}
use Rattle.health.specs.Packet.{type_of_packet}
use Rattle.health_places.specs.Packets.{packet_places, chunk_places, places_of, sound_of}
use Rattle.health_last.specs.Packets.{found_at, nowhere, in_end, science_end, later, last_where}
use Rattle.health_last.specs.Last.{in_science}
use Rattle.health_last.proofs.Later.{last-append}
use Rattle.health_last.proofs.Marks.{past_first, inside-first, none_before}
use Rattle.health_laws.specs.Recordings.{Packet, left, packets, none_of, LastInHealth, NoneInHealth, Carrier, calls, all_carried, LastInScience, NoneInScience}
use Rattle.health_laws.proofs.RoundTrip.{accepted-parts, written-packet, left-is-sound}

-- ---- one packet

packet-length : (p : Packet) → length (left p) ≡ 32
packet-length p =
    ap length (written-packet p.type p.time p.words p.room p.accepted)
    ∙ omega (arith, accepted-parts p.type p.time p.words p.room p.accepted)

packet-type : (p : Packet) → type_of_packet (left p) ≡ p.type
packet-type p = ap type_of_packet (written-packet p.type p.time p.words p.room p.accepted)

packets-length : (ps : List Packet) → length (packets ps) ≡ 32 * length ps
packets-length [] = refl
packets-length (p ∷ ps) = omega (arith, length-append (left p) (packets ps), packet-length p, packets-length ps)

-- at a place from where on a written packet stands, a sound one of its type stands and of no other
told-by-type : (t : ℕ) (ws : List ℕ) (at : ℕ) (p : Packet) (rest : List ℕ) → drop at ws ≡ left p ++ rest → sound_of ws t at ≡ eqb p.type t
unfolding sound_of
told-by-type t ws at p rest e =
    let here : take 32 (drop at ws) ≡ left p = ap (take 32) e ∙ take_at (left p) rest 32 (packet-length p) in
    rw (here, packet-type p, left-is-sound p.type p.time p.words p.room p.accepted) (and-true (eqb p.type t))
  where
    and-true : (b : Bool) → b && true ≡ b
    and-true true = refl
    and-true false = refl

past-packet : (ws : List ℕ) (at : ℕ) (p : Packet) (rest : List ℕ) → drop at ws ≡ left p ++ rest → drop (at + 32) ws ≡ rest
past-packet ws at p rest e = sym (drop-drop 32 at ws) ∙ ap (drop 32) e ∙ drop_at (left p) rest 32 (packet-length p)

-- ---- a row of packets that stands at a place

none-in-row : (t : ℕ) (ws : List ℕ) (at : ℕ) (ps : List Packet) (rest : List ℕ) → drop at ws ≡ packets ps ++ rest → none_of t ps ≡ true
    → last_where (sound_of ws t) (packet_places (length ps) at) ≡ nowhere
unfolding last_where packet_places
none-in-row t ws at [] rest e k = refl
none-in-row t ws at (p ∷ ps) rest e k =
    let e' : drop at ws ≡ left p ++ (packets ps ++ rest) = e ∙ append_assoc (left p) (packets ps) rest in
    let other : eqb p.type t ≡ false = not-true (eqb p.type t) (and_left (not (eqb p.type t)) _ k) in
    rw (
      none-in-row t ws (at + 32) ps rest (past-packet ws at p (packets ps ++ rest) e') (and_right (not (eqb p.type t)) _ k),
      told-by-type t ws at p (packets ps ++ rest) e' ∙ other,
    )

last-in-row : (ws : List ℕ) (at : ℕ) (before : List Packet) (p : Packet) (after : List Packet) (rest : List ℕ)
    → drop at ws ≡ packets (before ++ p ∷ after) ++ rest → none_of p.type after ≡ true
    → last_where (sound_of ws p.type) (packet_places (length (before ++ p ∷ after)) at) ≡ found_at (at + length (packets before))
unfolding last_where packet_places
last-in-row ws at [] p after rest e k =
    let e' : drop at ws ≡ left p ++ (packets after ++ rest) = e ∙ append_assoc (left p) (packets after) rest in
    rw (
      none-in-row p.type ws (at + 32) after rest (past-packet ws at p (packets after ++ rest) e') k,
      told-by-type p.type ws at p (packets after ++ rest) e' ∙ eq-eqb p.type p.type refl,
    )
    (ap found_at (omega arith))
last-in-row ws at (q ∷ before) p after rest e k =
    let tail = packets (before ++ p ∷ after) in
    let e' : drop at ws ≡ left q ++ (tail ++ rest) = e ∙ append_assoc (left q) tail rest in
    rw (last-in-row ws (at + 32) before p after rest (past-packet ws at q (tail ++ rest) e') k)
    (ap found_at (omega (arith, length-append (left q) (packets before), packet-length q)))

-- the packet itself stands there
packets-append : (ps qs : List Packet) → packets (ps ++ qs) ≡ packets ps ++ packets qs
packets-append [] qs = refl
packets-append (p ∷ ps) qs = ap (λ (ws : List ℕ). left p ++ ws) (packets-append ps qs) ∙ sym (append_assoc (left p) (packets ps) (packets qs))

stands-in-row : (ws : List ℕ) (at : ℕ) (before : List Packet) (p : Packet) (after : List Packet) (rest : List ℕ)
    → drop at ws ≡ packets (before ++ p ∷ after) ++ rest → take 32 (drop (at + length (packets before)) ws) ≡ left p
stands-in-row ws at before p after rest e =
    let n = length (packets before) in
    let tail = packets after ++ rest in
    let parted : packets (before ++ p ∷ after) ++ rest ≡ packets before ++ (left p ++ tail) =
    ap (λ (ps : List ℕ). ps ++ rest) (packets-append before (p ∷ after)) ∙ append_assoc (packets before) (packets (p ∷ after)) rest
    ∙ ap (λ (ps : List ℕ). packets before ++ ps) (append_assoc (left p) (packets after) rest) in
    ap (take 32) (sym (drop-drop n at ws) ∙ ap (drop n) (e ∙ parted) ∙ drop_at (packets before) (left p ++ tail) n refl)
    ∙ take_at (left p) tail 32 (packet-length p)

pub stands-in-health : (before : List Packet) (p : Packet) (after : List Packet)
    → take 32 (drop (length (packets before)) (packets (before ++ p ∷ after))) ≡ left p
stands-in-health before p after =
    let ps = packets (before ++ p ∷ after) in
    let here : length (packets before) ≡ 0 + length (packets before) = omega arith in
    ap (λ (i : ℕ). take 32 (drop i ps)) here ∙ stands-in-row ps 0 before p after [] (sym (append-nil ps))

pub last-in-health : LastInHealth
last-in-health before p after k =
    let ps = before ++ p ∷ after in
    let n : length (packets ps) / 32 ≡ length ps = omega (arith, packets-length ps) in
    rw n (last-in-row (packets ps) 0 before p after [] (sym (append-nil (packets ps))) k ∙ ap found_at (omega arith))

pub none-in-health : NoneInHealth
none-in-health t ps k =
    let n : length (packets ps) / 32 ≡ length ps = omega (arith, packets-length ps) in
    rw n (none-in-row t (packets ps) 0 ps [] (sym (append-nil (packets ps))) k)

-- ---- a chunk and its packets

-- the chunk that a call wrote, and those of a row
abbrev chunk : Carrier → Laid
chunk c = laid c.call

abbrev chunks : List Carrier → List Laid
chunks cs = map laid (calls cs)

module _ (c : Carrier) (k : whole (chunk c) ≡ true) where
  abbrev header : ℕ
  header = (chunk c).header

  kind-told : kind header ≡ c.call.kind
  kind-told = kind-written c.call.kind c.call.camera c.call.payload (accepted-taken c.call c.accepted)

  by_kind : {P : Type 0} → (kind header ≡ 0 → c.carried ≡ [] → P) → (kind header ≡ 1 → c.call.payload ≡ packets c.carried → P) → P
  by_kind image health =
      by-test (eqb (kind header) 1)
      (λ e. let one = eqb-true (kind header) 1 e in health one (c.health (sym kind-told ∙ one)))
      (λ e. let zero : kind header ≡ 0 = omega (arith, eqb-false (kind header) 1 e) in image zero (c.image (sym kind-told ∙ zero)))

  -- the packets of the chunk are those that it carries
  carried-places : (at : ℕ) (end : Bool) → chunk_places (entry at header end) ≡ packet_places (length c.carried) (at + 2)
  unfolding chunk_places packet_places
  carried-places at end =
      by_kind
      (λ e none. rw (ne_eqb (kind header) 1 (λ z. omega (arith, e, z)), none))
      (λ e all.
      let n : size header / 32 ≡ length c.carried = omega (arith, whole_length (chunk c) k, ap length all, packets-length c.carried) in
      rw (eq-eqb (kind header) 1 e, n))

  -- and they stand at the front of its payload
  carried_first : (tail : List ℕ) → take (length (packets c.carried)) (c.call.payload ++ tail) ≡ packets c.carried
  carried_first tail =
      by_kind
      (λ e none. rw none)
      (λ e all. rw all (take-append_seam (packets c.carried) tail))

-- ---- a row of chunks that stands at a place

-- the first chunk of a row ends with the recording exactly where no other follows it
first_entry : (at : ℕ) (c : Carrier) (cs : List Carrier)
    → entries at (chunks (c ∷ cs)) ≡ entry at (chunk c).header (empty cs) ∷ entries (at + span (chunk c).header) (chunks cs)
first_entry at c [] = refl
first_entry at c (d ∷ cs) = refl

module _ (sync : ℕ) (ws : List ℕ) (at : ℕ) (c : Carrier) (cs : List Carrier) (k : whole_row (chunks (c ∷ cs)) ≡ true) (e : drop at ws ≡ words sync (chunks (c ∷ cs))) where
  abbrev tail : List ℕ
  tail = words sync (chunks cs)

  first-whole : whole (chunk c) ≡ true
  first-whole = row_first (chunk c) (chunks cs) k

  rest-whole : whole_row (chunks cs) ≡ true
  rest-whole = row-rest (chunk c) (chunks cs) k

  -- the packets stand past the header, and the other chunks past the chunk
  packets-there : drop (at + 2) ws ≡ packets c.carried ++ drop (length (packets c.carried)) (c.call.payload ++ tail)
  packets-there =
      let n = length (packets c.carried) in
      sym (drop-drop 2 at ws) ∙ ap (drop 2) e ∙ sym (take-append-drop n (c.call.payload ++ tail))
      ∙ ap (λ (x : List ℕ). x ++ drop n (c.call.payload ++ tail)) (carried_first c first-whole tail)

  rest-there : drop (at + span (chunk c).header) ws ≡ tail
  rest-there = sym (drop-drop (span (chunk c).header) at ws) ∙ ap (drop (span (chunk c).header)) e ∙ row_drop sync (chunk c) (chunks cs) first-whole

  -- the last packet is in the other chunks, or else in the first
  by-chunk : (t : ℕ) → last_where (sound_of ws t) (places_of (entries at (chunks (c ∷ cs))))
      ≡ later (last_where (sound_of ws t) (places_of (entries (at + span (chunk c).header) (chunks cs))))
      (last_where (sound_of ws t) (packet_places (length c.carried) (at + 2)))
  unfolding places_of
  by-chunk t =
      let f = sound_of ws t in
      ap (λ (es : List Entry). last_where f (places_of es)) (first_entry at c cs)
      ∙ last-append f (chunk_places (entry at (chunk c).header (empty cs))) (places_of (entries (at + span (chunk c).header) (chunks cs)))
      ∙ rw (carried-places c first-whole at (empty cs))

-- ---- none, and the last one, in a row of chunks

none-append : (t : ℕ) (ps qs : List Packet) → none_of t (ps ++ qs) ≡ true → (none_of t ps ≡ true) × (none_of t qs ≡ true)
none-append t [] qs k = (refl, k)
none-append t (p ∷ ps) qs k =
    let rest = none-append t ps qs (and_right (not (eqb p.type t)) _ k) in
    (and_both (not (eqb p.type t)) (none_of t ps) (and_left (not (eqb p.type t)) _ k) rest.0, rest.1)

none-in-chunks : (t sync : ℕ) (ws : List ℕ) (at : ℕ) (cs : List Carrier) → whole_row (chunks cs) ≡ true → drop at ws ≡ words sync (chunks cs)
    → none_of t (all_carried cs) ≡ true → last_where (sound_of ws t) (places_of (entries at (chunks cs))) ≡ nowhere
unfolding places_of last_where
none-in-chunks t sync ws at [] k e n = refl
none-in-chunks t sync ws at (c ∷ cs) k e n =
    let parts = none-append t c.carried (all_carried cs) n in
    by-chunk sync ws at c cs k e t
    ∙ rw (
      none-in-chunks t sync ws (at + span (chunk c).header) cs (rest-whole sync ws at c cs k e) (rest-there sync ws at c cs k e) parts.1,
      none-in-row t ws (at + 2) c.carried _ (packets-there sync ws at c cs k e) parts.0,
    )

last-in-chunks : (sync : ℕ) (ws : List ℕ) (at : ℕ) (before : List Carrier) (c : Carrier) (after : List Carrier)
    (earlier : List Packet) (p : Packet) (later : List Packet)
    → whole_row (chunks (before ++ c ∷ after)) ≡ true → drop at ws ≡ words sync (chunks (before ++ c ∷ after))
    → c.carried ≡ earlier ++ p ∷ later → none_of p.type (later ++ all_carried after) ≡ true
    → last_where (sound_of ws p.type) (places_of (entries at (chunks (before ++ c ∷ after))))
    ≡ found_at (at + offset sync (chunks before) + 2 + length (packets earlier))
last-in-chunks sync ws at [] c after earlier p later k e carries n =
    let parts = none-append p.type later (all_carried after) n in
    let there = packets-there sync ws at c after k e in
    by-chunk sync ws at c after k e p.type
    ∙ rw (
      none-in-chunks p.type sync ws (at + span (chunk c).header) after (rest-whole sync ws at c after k e) (rest-there sync ws at c after k e) parts.1,
      carries,
    )
    (last-in-row ws (at + 2) earlier p later _ (rw carries at there) parts.0 ∙ ap found_at (omega arith))
last-in-chunks sync ws at (b ∷ before) c after earlier p later k e carries n =
    let cs = before ++ c ∷ after in
    by-chunk sync ws at b cs k e p.type
    ∙ rw (
    last-in-chunks sync ws (at + span (chunk b).header) before c after earlier p later (rest-whole sync ws at b cs k e) (rest-there sync ws at b cs k e) carries n
    )
    (ap found_at (omega (arith, length-append b.call.payload (words sync (chunks before)), whole_length (chunk b) (first-whole sync ws at b cs k e))))

-- ---- the mark of a packet of a row of chunks

-- a packet lies within the chunk that carries it
carried-within : (c : Carrier) → whole (chunk c) ≡ true → (earlier : List Packet) (p : Packet) (later : List Packet) → c.carried ≡ earlier ++ p ∷ later
    → length (packets earlier) < size (chunk c).header
carried-within c k earlier p later carries =
    by_kind c k
    (λ e none. absurd (omega (arith, ap length (sym carries ∙ none), length-append earlier (p ∷ later))))
    λ e all.
    let n = length-append earlier (p ∷ later) in
    omega (arith, whole_length (chunk c) k, ap length (all ∙ ap packets carries), packets-length (earlier ++ p ∷ later), n, packets-length earlier)

mark-in-chunks : (sync at : ℕ) (before : List Carrier) (c : Carrier) (after : List Carrier) (earlier : List Packet) (p : Packet) (later : List Packet)
    → whole_row (chunks (before ++ c ∷ after)) ≡ true → c.carried ≡ earlier ++ p ∷ later
    → in_end (at + offset sync (chunks before) + 2 + length (packets earlier)) (entries at (chunks (before ++ c ∷ after))) ≡ empty after
mark-in-chunks sync at [] c after earlier p later k carries =
    let first = entry at (chunk c).header (empty after) in
    let i = at + 0 + 2 + length (packets earlier) in
    let n = carried-within c (row_first (chunk c) (chunks after) k) earlier p later carries in
    let next = at + span (chunk c).header in
    let Listed-next = lists-row sync next (chunks after) (row-rest (chunk c) (chunks after) k) in
    ap (in_end i) (first_entry at c after)
    ∙ inside-first first i (entries next (chunks after)) (omega arith) (omega (arith, n))
    (ap (in_end i) (sym Listed-next) ∙ none_before sync next 0 (words sync (chunks after)) i (omega (arith, n)))
mark-in-chunks sync at (b ∷ before) c after earlier p later k carries =
    let cs = before ++ c ∷ after in
    let next = at + span (chunk b).header in
    let i = at + offset sync (chunks (b ∷ before)) + 2 + length (packets earlier) in
    let j = next + offset sync (chunks before) + 2 + length (packets earlier) in
    let n : i ≡ j = omega (arith, length-append b.call.payload (words sync (chunks before)), whole_length (chunk b) (row_first (chunk b) (chunks cs) k)) in
    ap (in_end i) (first_entry at b cs)
    ∙ past_first (entry at (chunk b).header (empty cs)) i (entries next (chunks cs)) (omega (arith, n))
    ∙ ap (λ (x : ℕ). in_end x (entries next (chunks cs))) n
    ∙ mark-in-chunks sync next before c after earlier p later (row-rest (chunk b) (chunks cs) k) carries

-- ---- so in a recording that the chunk writer wrote

all-accepted : (cs : List Carrier) → Accepted (calls cs)
all-accepted [] = tt
all-accepted (c ∷ cs) = (c.accepted, all-accepted cs)

module _ (sync : ℕ) (cs : List Carrier) where
  chunks-whole : whole_row (chunks cs) ≡ true
  chunks-whole = row-whole (calls cs) (all-accepted cs)

  as-chunks : recorded sync (calls cs) ≡ words sync (chunks cs)
  as-chunks = recorded-words sync (calls cs) (all-accepted cs)

  by_entries : (t : ℕ) → in_science sync (recorded sync (calls cs)) t ≡ last_where (sound_of (words sync (chunks cs)) t) (places_of (entries 0 (chunks cs)))
  by_entries t =
      ap (λ (ws : List ℕ). in_science sync ws t) as-chunks
      ∙ ap (λ (es : List Entry). last_where (sound_of (words sync (chunks cs)) t) (places_of es)) (lists-row sync 0 (chunks cs) chunks-whole)

pub last-in-science : LastInScience
unfolding science_end
last-in-science sync before c after earlier p later carries n =
    let cs = before ++ c ∷ after in
    let at : 0 + offset sync (chunks before) + 2 + length (packets earlier) ≡ length (recorded sync (calls before)) + 2 + length (packets earlier) =
    omega (arith, ap length (as-chunks sync before)) in (
      by_entries sync cs p.type
          ∙ last-in-chunks sync (words sync (chunks cs)) 0 before c after earlier p later (chunks-whole sync cs) refl carries n
          ∙ ap found_at at,
      ap₂ in_end (sym at) (ap (reading sync) (as-chunks sync cs) ∙ lists-row sync 0 (chunks cs) (chunks-whole sync cs))
          ∙ mark-in-chunks sync 0 before c after earlier p later (chunks-whole sync cs) carries,
    )

pub none-in-science : NoneInScience
none-in-science sync t cs n = by_entries sync cs t ∙ none-in-chunks t sync (words sync (chunks cs)) 0 cs (chunks-whole sync cs) refl n

-- the packet itself stands there: past the words of the chunks before its own
recorded-append : (sync : ℕ) (cs ds : List Carrier) → recorded sync (calls (cs ++ ds)) ≡ recorded sync (calls cs) ++ recorded sync (calls ds)
recorded-append sync [] ds = refl
recorded-append sync (c ∷ cs) ds =
    let first = written sync c.call in
    ap (λ (ws : List ℕ). first ++ ws) (recorded-append sync cs ds) ∙ sym (append_assoc first (recorded sync (calls cs)) (recorded sync (calls ds)))

pub stands-in-science : (sync : ℕ) (before : List Carrier) (c : Carrier) (after : List Carrier) (earlier : List Packet) (p : Packet) (later : List Packet)
    → c.carried ≡ earlier ++ p ∷ later
    → take 32 (drop (length (recorded sync (calls before)) + 2 + length (packets earlier)) (recorded sync (calls (before ++ c ∷ after)))) ≡ left p
stands-in-science sync before c after earlier p later carries =
    let cs = c ∷ after in
    let ws = recorded sync (calls (before ++ cs)) in
    let at = length (recorded sync (calls before)) in
    let there : drop at ws ≡ words sync (chunks cs) =
    ap (drop at) (recorded-append sync before cs) ∙ drop_at (recorded sync (calls before)) (recorded sync (calls cs)) at refl ∙ as-chunks sync cs in
    let rest = drop (length (packets c.carried)) (c.call.payload ++ words sync (chunks after)) in
    stands-in-row ws (at + 2) earlier p later rest
    (packets-there sync ws at c after (chunks-whole sync cs) there ∙ ap (λ (ps : List Packet). packets ps ++ rest) carries)
