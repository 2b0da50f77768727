-- A written frame comes back. Its chunks stand end to end in a row of whole chunks, so the row's list is known; those that join are its own, since the next
-- is a health chunk; and each payload splits into the units that it was joined of.
use mathlib.Core.Path.{◌≡◌, refl, sym, ap, ap₂, ◌∙◌}
use mathlib.Core.Bool.{Bool, true, false, ◌&&◌, false≢true, and-false}
use mathlib.Core.List.{List, [], ◌∷◌, ◌++◌, map, append-nil, append_assoc}
use Prim.Native.Nat.{ℕ, suc, ◌+◌, ◌*◌, ◌/◌, ◌%◌, ◌≤◌}
use native.Mathlib.Omega.{arith}
use native.Mathlib.Nat.{zero-add}
use lib.ListN.{length, take, drop, length-append, get_or-append}
use lib.Seq.{take_all, take_at, drop_at, take-append-le, drop-drop}
use lib.Dec.{eqb, leb, ltb}
use borrow.Author.Tests.{eq-eqb, ne_eqb, eqb-true, leb-true, le-leb, le-ltb}
use Rattle.base.proofs.Booleans.{and_left, and_right, and_both}
use Rattle.base.specs.Refusal.{verdict}
use Rattle.base_room.specs.Room.{put}
use Rattle.base.specs.Limit.{recording_limit, too_long}
use Rattle.base.proofs.Refused.{answer-yes}
use Rattle.chunk.specs.declared.Entry.{Entry}
use Rattle.chunk.specs.Header.{size, kind, span, legal_size, confirmed, chunk_check, check_at, is_chunk}
use Rattle.chunk.specs.Reading.{entry, listed_words, listed_at}
use Rattle.chunk.proofs.Headers.{chunk-told, at-end-told}
use Rattle.chunk_writing.specs.Writing as writes
use Rattle.chunk_writing.specs.Writing.{header_word}
use Rattle.chunk_laws.specs.Stretch.{Laid, words, offset, empty, entries, whole, whole_row}
use Rattle.chunk_laws.specs.Written.{WriterCall, reply, Accepted}
use Rattle.chunk_laws.proofs.Rows.{whole_length, row_first, row-rest, row-mark, row-confirmed, row_drop, lists-row, words-parts, row_at, row_listed, payload-there}
use Rattle.chunk_laws.proofs.Written.{accepted, laid_out, kind-written, camera-written, size-written, written-whole, laid, accepted-taken, recorded-words}
use Rattle.parity_laws.specs.Units.{Hold}
use Rattle.health.specs.Writing.{packet_from}
use Rattle.health_laws.specs.Written as packet
use Rattle.health_laws.proofs.RoundTrip.{accepted-parts, written-packet, left-is-sound}
use Rattle.parity_units.specs.Split.{parts, units_in, any_damaged, joined_data, data_words}
use Rattle.parity_units.proofs.Split.{joined_length}
use Rattle.frame.specs.Shape.{starts, continues, full, joining, frame_of, frame_chunks, frame_words, frame_camera, observes, closing, complete, frame_end}
use Rattle.frame.specs.Picture.{payload_of, units_of, frame_units}
use Rattle.frame.specs.Described.{described}
use Rattle.frame.specs.Walk.{starts_frame, closes_frame}
use Rattle.frame_reading.specs.Replies.{frame, refused, told, no_frame, at_causes, judge_causes, read_causes, at_reply, judge_reply, read_reply, read_room}
use Rattle.frame.proofs.Joining.{joining-one}
use Rattle.frame.proofs.Walking.{own-mark, closing-at-end}
use Rattle.frame_laws.specs.Local.{unmarked}
use Rattle.frame_laws.specs.Written.{joined, unit_row, unit_rows, full_but_last, all_units, Image, image_units, frame_calls, WrittenFrame, recording_of, ComesBack, FramesComeBack, ObservationCloses}

-- ---- a payload splits into its units

-- as many units as the words need
row_count : (us : List (List ℕ)) → unit_row us ≡ true → (264 * length us ≤ length (joined us) + 255) × (length (joined us) ≤ 264 * length us)
unfolding unit_row joined
row_count [] r = absurd (false≢true r)
row_count (u ∷ []) r =
    let a : 9 ≤ length u = leb-true 9 (length u) (and_left (leb 9 (length u)) _ r) in
    let b : length u ≤ 264 = leb-true (length u) 264 (and_right (leb 9 (length u)) _ r) in
    (omega (arith, length-append u []), omega (arith, length-append u []))
row_count (u ∷ v ∷ us) r =
    let a : length u ≡ 264 = eqb-true (length u) 264 (and_left (eqb (length u) 264) _ r) in
    let m = row_count (v ∷ us) (and_right (eqb (length u) 264) _ r) in
    let n : length (u ++ joined (v ∷ us)) ≡ length u + length (joined (v ∷ us)) = length-append u (joined (v ∷ us)) in
    (omega arith, omega arith)

row-parts : (us : List (List ℕ)) → unit_row us ≡ true → parts (length us) (joined us) ≡ us
unfolding unit_row joined parts
row-parts [] r = refl
row-parts (u ∷ []) r =
    ap (λ (l : List ℕ). take 264 l ∷ []) (append-nil u)
    ∙ ap (λ (l : List ℕ). l ∷ []) (take_all 264 u (leb-true (length u) 264 (and_right (leb 9 (length u)) _ r)))
row-parts (u ∷ v ∷ us) r =
    let a : length u ≡ 264 = eqb-true (length u) 264 (and_left (eqb (length u) 264) _ r) in
    let more : parts (length (v ∷ us)) (joined (v ∷ us)) ≡ v ∷ us = row-parts (v ∷ us) (and_right (eqb (length u) 264) _ r) in
    ap₂ (λ (x : List ℕ) (xs : List (List ℕ)). x ∷ xs) (take_at u (joined (v ∷ us)) 264 a)
    (ap (parts (length (v ∷ us))) (drop_at u (joined (v ∷ us)) 264 a) ∙ more)

splits-back : (us : List (List ℕ)) → unit_row us ≡ true → units_in (joined us) ≡ us
splits-back us r =
    let b = row_count us r in
    let n : (length (joined us) + 263) / 264 ≡ length us = omega arith in
    ap (λ (k : ℕ). parts k (joined us)) n ∙ row-parts us r

-- ---- the data of the units

held-data : (us ds : List (List ℕ)) → Hold us ds → joined_data us ≡ joined ds
unfolding joined_data joined
held-data [] [] h = refl
held-data [] (d ∷ ds) h = absurd h
held-data (u ∷ us) [] h = absurd h
held-data (u ∷ us) (d ∷ ds) h = ap₂ (λ (x y : List ℕ). x ++ y) h.1 (held-data us ds h.2)

held-sound : (us ds : List (List ℕ)) → Hold us ds → any_damaged us ≡ false
unfolding any_damaged
held-sound [] [] h = refl
held-sound [] (d ∷ ds) h = absurd h
held-sound (u ∷ us) [] h = absurd h
held-sound (u ∷ us) (d ∷ ds) h = rw (h.0, held-sound us ds h.2)

-- ---- rows of whole chunks

row-append : (cs ds : List Laid) → whole_row cs ≡ true → whole_row ds ≡ true → whole_row (cs ++ ds) ≡ true
unfolding whole_row
row-append [] ds k l = l
row-append (c ∷ cs) ds k l = and_both (whole c) _ (row_first c cs k) (row-append cs ds (row-rest c cs k) l)

-- the entries of a row that another chunk follows: none of them has the mark
abbrev followed : ℕ → List Laid → List Entry
followed at cs = unmarked (entries at cs)

not_last : (cs : List Laid) (d : Laid) (ds : List Laid) → empty (cs ++ d ∷ ds) ≡ false
not_last [] d ds = refl
not_last (c ∷ cs) d ds = refl

row_words : (sync at : ℕ) (cs : List Laid) → whole_row cs ≡ true → listed_words (followed at cs) ≡ offset sync cs
unfolding listed_words
row_words sync at [] k = refl
row_words sync at (c ∷ cs) k =
    let n : length c.payload ≡ size c.header = whole_length c (row_first c cs k) in
    let m = row_words sync (at + span c.header) cs (row-rest c cs k) in
    omega (arith, length-append c.payload (words sync cs))

entry-count : (at : ℕ) (cs : List Laid) → length (followed at cs) ≡ length cs
entry-count at [] = refl
entry-count at (c ∷ cs) = ap suc (entry-count (at + span c.header) cs)

-- ---- the chunks of a frame, each given by its units

abbrev frame_row : ℕ → List (List (List ℕ)) → List Laid
frame_row cam [] = []
frame_row cam (us ∷ uss) = laid_out 0 cam (joined us) ∷ frame_row 0 uss

-- every chunk is a row of units, which the chunk writer takes
unfoldable writable : ℕ → List (List (List ℕ)) → Bool
writable cam [] = true
writable cam (us ∷ uss) = unit_row us && accepted 0 cam (joined us) && writable 0 uss

chunk_count : (cam : ℕ) (is : List Image) → length (frame_row cam (image_units is)) ≡ length is
chunk_count cam [] = refl
chunk_count cam (i ∷ is) = ap suc (chunk_count 0 is)

module _ (cam : ℕ) (us : List (List ℕ)) (uss : List (List (List ℕ))) (w : writable cam (us ∷ uss) ≡ true) where
  row-units : unit_row us ≡ true
  unfolding writable
  row-units = and_left (unit_row us) _ (and_left (unit_row us && accepted 0 cam (joined us)) _ w)

  taken : accepted 0 cam (joined us) ≡ true
  unfolding writable
  taken = and_right (unit_row us) _ (and_left (unit_row us && accepted 0 cam (joined us)) _ w)

  others : writable 0 uss ≡ true
  unfolding writable
  others = and_right (unit_row us && accepted 0 cam (joined us)) _ w

frame-whole : (cam : ℕ) (uss : List (List (List ℕ))) → writable cam uss ≡ true → whole_row (frame_row cam uss) ≡ true
unfolding whole_row
frame-whole cam [] w = refl
frame-whole cam (us ∷ uss) w =
    and_both (whole (laid_out 0 cam (joined us))) _ (written-whole 0 cam (joined us) (taken cam us uss w)) (frame-whole 0 uss (others cam us uss w))

-- they hold its units
frame-units : (sync at cam : ℕ) (v : List ℕ) (uss : List (List (List ℕ))) (rest : List Laid) → writable cam uss ≡ true
    → drop at v ≡ words sync (frame_row cam uss ++ rest) → units_of v (followed at (frame_row cam uss)) ≡ all_units uss
unfolding units_of
frame-units sync at cam v [] rest w e = refl
frame-units sync at cam v (us ∷ uss) rest w e =
    let c : Laid = laid_out 0 cam (joined us) in
    let h : ℕ = c.header in
    let k : whole c ≡ true = written-whole 0 cam (joined us) (taken cam us uss w) in
    let n : size h ≡ length (joined us) = sym (whole_length c k) in
    let p : payload_of v (entry at h false) ≡ joined us =
    ap (take (size h)) (sym (drop-drop 2 at v) ∙ ap (drop 2) e) ∙ payload-there sync c (frame_row 0 uss ++ rest) k in
    let o : drop (at + span h) v ≡ words sync (frame_row 0 uss ++ rest) =
    sym (drop-drop (span h) at v) ∙ ap (drop (span h)) e ∙ row_drop sync c (frame_row 0 uss ++ rest) k in
    ap₂ (λ (x y : List (List ℕ)). x ++ y)
    (ap units_in p ∙ splits-back us (row-units cam us uss w))
    (frame-units sync (at + span h) 0 v uss rest (others cam us uss w) o)

-- of the chunks after the first, the frame's own join, and no other, as the next is health
joins-own : (health : Laid) (after : List Laid) → kind health.header ≡ 1 → (cam : ℕ) (us : List (List ℕ)) (uss : List (List (List ℕ)))
    → writable cam (us ∷ uss) ≡ true → full_but_last (us ∷ uss) ≡ true → (end : ℕ)
    → joining end (full (header_word 0 cam (length (joined us)))) (entries end (frame_row 0 uss ++ health ∷ after)) ≡ followed end (frame_row 0 uss)
unfolding full_but_last
joins-own health after k cam us [] w f end =
    let all : Bool = full (header_word 0 cam (length (joined us))) in
    joining-one end all (entry end health.header (empty after)) (entries (end + span health.header) after) false
    (rw (ne_eqb (kind health.header) 0 (λ z. omega arith)) (and-false (all && eqb end end)))
joins-own health after k cam us (vs ∷ uss) w f end =
    let h : ℕ = header_word 0 0 (length (joined vs)) in
    let t : accepted 0 0 (joined vs) ≡ true = taken 0 vs uss (others cam us (vs ∷ uss) w) in
    let all : full (header_word 0 cam (length (joined us))) ≡ true =
    rw (size-written 0 cam (joined us) (taken cam us (vs ∷ uss) w)) (and_left (eqb (length (joined us) % 264) 0) _ f) in
    let c : continues h ≡ true = rw (kind-written 0 0 (joined vs) t, camera-written 0 0 (joined vs) t) in
    joining-one end (full (header_word 0 cam (length (joined us)))) (entry end h (empty (frame_row 0 uss ++ health ∷ after)))
    (entries (end + span h) (frame_row 0 uss ++ health ∷ after)) true
    (rw (all, eq-eqb end end refl, c))
    ∙ ap₂ (λ (m : Bool) (es : List Entry). entry end h m ∷ es) (not_last (frame_row 0 uss) health after)
    (joins-own health after k 0 vs uss (others cam us (vs ∷ uss) w) (and_right (eqb (length (joined us) % 264) 0) _ f) (end + span h))

-- ---- they are what accepted calls of the chunk writer left

rows_taken : (cam : ℕ) (is : List Image) (health : WriterCall) → unit_rows (image_units is) ≡ true → Accepted (frame_calls cam is health)
    → (writable cam (image_units is) ≡ true) × ((reply health).refusal ≡ 0)
unfolding writable unit_rows
rows_taken cam [] health u a = (refl, a.0)
rows_taken cam (i ∷ is) health u a =
    let more = rows_taken 0 is health (and_right (unit_row i.units) _ u) a.1 in
    let call : WriterCall = record { kind = 0; camera = cam; payload = joined i.units; room = i.room } in (
      and_both (unit_row i.units && accepted 0 cam (joined i.units)) _
          (and_both (unit_row i.units) _ (and_left (unit_row i.units) _ u) (accepted-taken call a.0))
          more.0,
      more.1,
    )

calls-laid : (cam : ℕ) (is : List Image) (health : WriterCall) → map laid (frame_calls cam is health) ≡ frame_row cam (image_units is) ++ laid health ∷ []
calls-laid cam [] health = refl
calls-laid cam (i ∷ is) health = ap (λ (cs : List Laid). laid_out 0 cam (joined i.units) ∷ cs) (calls-laid 0 is health)

recording-words : (sync cam : ℕ) (before : List Laid) (is : List Image) (health : WriterCall) (after : List Laid) → Accepted (frame_calls cam is health)
    → recording_of sync cam before is health after ≡ words sync (before ++ (frame_row cam (image_units is) ++ laid health ∷ after))
recording-words sync cam before is health after a =
    let row : List Laid = frame_row cam (image_units is) in
    ap (λ (l : List ℕ). words sync before ++ l)
    (ap (λ (l : List ℕ). l ++ words sync after) (recorded-words sync (frame_calls cam is health) a ∙ ap (words sync) (calls-laid cam is health))
    ∙ sym (words-parts sync (row ++ laid health ∷ []) after)
    ∙ ap (words sync) (append_assoc row (laid health ∷ []) after))
    ∙ sym (words-parts sync before (row ++ laid health ∷ after))

-- ---- the health chunk after it

-- a health payload has a packet at the least, which is the same before other words
observes-front : (cam camera : ℕ) (health rest : List ℕ) → accepted 1 camera health ≡ true → observes (health ++ rest) cam ≡ observes health cam
unfolding legal_size
observes-front cam camera health rest a =
    let n : ℕ = length health in
    let s : legal_size 1 n ≡ true = and_right (writes.writable 1 camera) _ a in
    let b : 1 ≤ n = leb-true 1 n (and_left (leb 1 n) _ (and_left (leb 1 n && leb n 8190) _ s)) in
    let c : n % 32 ≡ 0 = eqb-true (n % 32) 0 (and_right (leb 1 n && leb n 8190) _ s) in
    let l : 32 ≤ n = omega arith in
    rw (take-append-le 32 health rest l, get_or-append health rest 0 0)

-- ---- the frame comes back

module _ (sync cam : ℕ) (i : Image) (is : List Image) (health : WriterCall) (after : List Laid) (ds : List (List ℕ))
    (w : WrittenFrame cam (i ∷ is) health ds) (k : whole_row after ≡ true) where
  abbrev us : List (List ℕ)
  us = i.units

  abbrev uss : List (List (List ℕ))
  uss = image_units is

  abbrev health-chunk : Laid
  health-chunk = laid health

  image-taken : writable cam (us ∷ uss) ≡ true
  image-taken = (rows_taken cam (i ∷ is) health w.units w.accepted).0

  closing-taken : accepted health.kind health.camera health.payload ≡ true
  closing-taken = accepted-taken health (rows_taken cam (i ∷ is) health w.units w.accepted).1

  closing-health : kind health-chunk.header ≡ 1
  closing-health = kind-written health.kind health.camera health.payload closing-taken ∙ w.closing

  abbrev row : List Laid
  row = frame_row cam (us ∷ uss)

  abbrev first : ℕ
  first = header_word 0 cam (length (joined us))

  -- the words from the frame on
  abbrev here : List ℕ
  here = words sync (row ++ health-chunk ∷ after)

  row-whole : whole_row row ≡ true
  row-whole = frame-whole cam (us ∷ uss) image-taken

  rest-whole : whole_row (health-chunk ∷ after) ≡ true
  unfolding whole_row
  rest-whole = and_both (whole health-chunk) _ (written-whole health.kind health.camera health.payload closing-taken) k

  here-whole : whole_row (row ++ health-chunk ∷ after) ≡ true
  here-whole = row-append row (health-chunk ∷ after) row-whole rest-whole

  first_taken : accepted 0 cam (joined us) ≡ true
  first_taken = taken cam us uss image-taken

  first-starts : starts first ≡ true
  first-starts = rw (kind-written 0 cam (joined us) first_taken, camera-written 0 cam (joined us) first_taken) (le-leb 1 cam w.of_camera)

  frame-starts : starts_frame sync here ≡ true
  frame-starts =
      and_both (confirmed sync here) _ (row-confirmed sync (laid_out 0 cam (joined us)) (frame_row 0 uss ++ health-chunk ∷ after) here-whole) first-starts

  own-chunks : frame_chunks sync here ≡ followed 0 row
  unfolding frame_chunks frame_of
  own-chunks =
      let n : 0 + span first ≡ span first = zero-add (span first) in
      ap frame_of (lists-row sync 0 (row ++ health-chunk ∷ after) here-whole)
      ∙ ap₂ (λ (m : Bool) (e : ℕ). entry 0 first m ∷ joining e (full first) (entries (0 + span first) (frame_row 0 uss ++ health-chunk ∷ after)))
      (not_last (frame_row 0 uss) health-chunk after) (sym n)
      ∙ ap (λ (es : List Entry). entry 0 first false ∷ es)
      (joins-own health-chunk after closing-health cam us uss image-taken w.full (0 + span first))

  own-units : frame_units sync here ≡ all_units (us ∷ uss)
  own-units = ap (units_of here) own-chunks ∙ frame-units sync 0 cam here (us ∷ uss) (health-chunk ∷ after) image-taken refl

  own-words : frame_words sync here ≡ offset sync row
  own-words = ap listed_words own-chunks ∙ row_words sync 0 row row-whole

  -- the health chunk closes it
  own-closing : closing sync here ≡ chunk_check (empty after)
  unfolding check_at
  own-closing =
      let e : drop (frame_words sync here) here ≡ words sync (health-chunk ∷ after) =
      ap (λ (n : ℕ). drop n here) own-words ∙ row_at sync row (health-chunk ∷ after) refl in
      let f : frame_camera here ≡ cam = camera-written 0 cam (joined us) first_taken in
      closing-at-end sync here frame-starts ∙ ap₂ (closes_frame sync) e f
      ∙ rw (
        closing-health,
        observes-front cam health.camera health.payload (words sync after) (rw w.closing at closing-taken),
        w.observed,
        row-confirmed sync health-chunk after rest-whole,
        row-mark sync health-chunk after (row_first health-chunk after rest-whole),
      )

  own-complete : complete sync here ≡ true
  unfolding complete
  own-complete = ap is_chunk own-closing ∙ chunk-told (empty after)

  -- its own chunks end before the health chunk, so the mark is that chunk's
  own-end : frame_end sync here ≡ empty after
  unfolding frame_end
  own-end =
      let n : length here ≡ offset sync row + offset sync (health-chunk ∷ after) =
      ap length (words-parts sync row (health-chunk ∷ after)) ∙ length-append (words sync row) (words sync (health-chunk ∷ after)) in
      rw (own-mark sync here frame-starts ∙ ne_eqb (frame_words sync here) (length here) (λ z. omega (arith, own-words, n)), own-closing) (at-end-told (empty after))

  data-joined : joined_data (frame_units sync here) ≡ joined ds
  data-joined = ap joined_data own-units ∙ held-data (all_units (us ∷ uss)) ds w.hold

  data-length : data_words (frame_units sync here) ≡ length (joined ds)
  data-length = sym (joined_length (frame_units sync here)) ∙ ap length data-joined

  own-described : told (described sync here) ≡ frame 0 cam (length (i ∷ is)) true (length (joined ds)) (empty after)
  unfolding described
  own-described =
      let n : length (frame_chunks sync here) ≡ length (i ∷ is) =
      ap length own-chunks ∙ entry-count 0 row ∙ chunk_count cam (i ∷ is) in
      rw (camera-written 0 cam (joined us) first_taken, n, own-complete, data-length, own-end)

  module _ (before : List Laid) (j : whole_row before ≡ true) (s : length (recording_of sync cam before (i ∷ is) health after) ≤ recording_limit) where
    abbrev all : List ℕ
    all = recording_of sync cam before (i ∷ is) health after

    abbrev place : ℕ
    place = offset sync before

    all_words : all ≡ words sync (before ++ (row ++ health-chunk ∷ after))
    all_words = recording-words sync cam before (i ∷ is) health after w.accepted

    there : drop place all ≡ here
    there = ap (drop place) all_words ∙ row_at sync before (row ++ health-chunk ∷ after) refl

    short : too_long all ≡ false
    short = le-ltb recording_limit (length all) s

    listed-there : no_frame sync all place ≡ false
    listed-there =
        let r : whole_row (before ++ (row ++ health-chunk ∷ after)) ≡ true = row-append before (row ++ health-chunk ∷ after) j here-whole in
        let l : listed_at sync all place ≡ true =
        ap (λ (v : List ℕ). listed_at sync v place) all_words ∙ row_listed sync before (laid_out 0 cam (joined us)) (frame_row 0 uss ++ health-chunk ∷ after) r in
        rw (l, there, first-starts)

    whole-there : complete sync (drop place all) ≡ true
    whole-there = ap (complete sync) there ∙ own-complete

    sound-there : any_damaged (frame_units sync (drop place all)) ≡ false
    sound-there =
        ap (λ (v : List ℕ). any_damaged (frame_units sync v)) there ∙ ap any_damaged own-units ∙ held-sound (all_units (us ∷ uss)) ds w.hold

    described-there : told (described sync (drop place all)) ≡ frame 0 cam (length (i ∷ is)) true (length (joined ds)) (empty after)
    described-there = ap (λ (v : List ℕ). told (described sync v)) there ∙ own-described

    -- nothing is refused, in a room that is large enough
    accepts : (m : ℕ) → length (joined ds) ≤ m → verdict (read_causes sync all place m) ≡ 0
    accepts m l =
        let f : ltb m (data_words (frame_units sync (drop place all))) ≡ false =
        le-ltb m _ (rw (ap (λ (v : List ℕ). data_words (frame_units sync v)) there ∙ data-length) l) in
        rw (short, listed-there, whole-there, sound-there, f)

    frame_back : ComesBack sync cam place (length (i ∷ is)) (empty after) all ds
    unfolding at_reply judge_reply read_reply read_room
    frame_back = record {
      described = answer-yes (verdict (at_causes sync all place)) refused _ (rw (short, listed-there)) ∙ described-there;
      judges = answer-yes (verdict (judge_causes sync all place)) refused _ (rw (short, listed-there, whole-there, sound-there)) ∙ described-there;
      replies = λ m l. answer-yes (verdict (read_causes sync all place m)) refused _ (accepts m l) ∙ described-there;
      gives = λ room l.
          answer-yes (verdict (read_causes sync all place (length room))) (λ v. room) _ (accepts (length room) l)
          ∙ ap (λ (d : List ℕ). put d 0 room) (ap (λ (v : List ℕ). joined_data (frame_units sync v)) there ∙ data-joined);
    }

pub comes_back : FramesComeBack
unfolding full_but_last
comes_back sync cam before [] health after ds w j k s = absurd (false≢true w.full)
comes_back sync cam before (i ∷ is) health after ds w j k s = frame_back sync cam i is health after ds w k before j s

-- ---- what the packet writer writes

pub observation-closes : ObservationCloses
observation-closes cam time ws room packets a =
    let n : length (packet_from (3 + cam) time ws) ≡ 32 = omega (arith, accepted-parts (3 + cam) time ws room a) in
    let e = written-packet (3 + cam) time ws room a in
    let sound = left-is-sound (3 + cam) time ws room a in
    rw (take_at (packet.written (3 + cam) time ws room) packets 32 (ap length e ∙ n), sound) (rw e (eq-eqb (3 + cam) (3 + cam) refl))
