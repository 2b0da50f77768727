-- What the writer wrote is given back. An accepted call leaves the words of its chunk in the room; the fields of the header word are those that it was
-- made of, so it is a whole chunk. A row of whole chunks is listed whole, and where each begins no words of another are left, so one is listed there.
use mathlib.Core.Path.{◌≡◌, refl, sym, ap, ap₂, ◌∙◌}
use mathlib.Core.Bool.{Bool, true, not, ◌&&◌, ◌||◌}
use mathlib.Core.List.{List, [], ◌∷◌, ◌++◌, map, append-nil}
use Prim.Native.Nat.{ℕ, suc, ◌+◌, ◌≤◌}
use native.Mathlib.Omega.{arith}
use native.Mathlib.Nat.{add-zero}
use lib.ListN.{length, get_or, drop, take}
use lib.Seq.{drop-drop}
use lib.Dec.{eqb}
use borrow.Author.Tests.{eq-eqb, not-false, le-ltb, ltb-false}
use Rattle.base.proofs.Booleans.{and_left, and_right, and_both}
use Rattle.base.specs.Limit.{recording_limit}
use Rattle.base.specs.Refusal.{verdict}
use Rattle.base.proofs.Refused.{spared, answer-yes, settled-refusal, settled-length}
use Rattle.base_room.proofs.RoomLaws.{writer-left}
use Rattle.chunk.specs.declared.Entry.{Entry}
use Rattle.chunk.specs.Header.{size, camera, kind, span, legal_size, legal, confirmed, at_end}
use Rattle.chunk.specs.Reading.{entry, reading, any_end, skipped, left_at, listed_at}
use Rattle.chunk.proofs.Headers.{legal-size}
use Rattle.chunk.proofs.Steps.{left_split, listed-at-yes}
use Rattle.chunk_reading.specs.Counting.{survey_causes, surveyed, refused, survey_reply}
use Rattle.chunk_reading.specs.Place.{heading_of}
use Rattle.chunk_writing.specs.Writing.{writable, write_causes, header_word, chunk_of, write_room}
use Rattle.chunk_writing.proofs.Wrote.{writable-bounds}
use Rattle.chunk_register.specs.Register.{list_causes, entered, list_reply, list_room}
use Rattle.chunk_laws.specs.Stretch.{Laid, words, empty, entries, whole, whole_row}
use Rattle.chunk_laws.specs.Written.{WriterCall, reply, written, Accepted, recorded, told, all_told, GivenAt, entries_at, GivenBack, WrittenAlone, WrittenInRows}
use Rattle.chunk_laws.proofs.Listed.{place-answered}
use Rattle.chunk_laws.proofs.Rows.{row_first, row-mark, row-confirmed, row_drop, payload-there, left-rest, lists-row, skips-none}

-- ---- what the writer takes, room aside, and the chunk that it makes of it

-- a kind and a camera of the list, and a payload that is legal for the kind
abbrev pub accepted : ℕ → ℕ → List ℕ → Bool
accepted k c payload = writable k c && legal_size k (length payload)

abbrev pub laid_out : ℕ → ℕ → List ℕ → Laid
laid_out k c payload = record { header = header_word k c (length payload); payload = payload }

-- ---- the fields of a header word that is made of them

module _ (k c : ℕ) (payload : List ℕ) (w : accepted k c payload ≡ true) where
  accepted-bounds : (k ≤ 1) × (c ≤ 3) × (eqb k 0 || eqb c 0 ≡ true)
  accepted-bounds = writable-bounds k c (and_left (writable k c) _ w)

  legal-length : legal_size k (length payload) ≡ true
  legal-length = and_right (writable k c) _ w

  small : length payload ≤ 8184
  small = (legal-size k (length payload) legal-length).1

  pub kind-written : kind (header_word k c (length payload)) ≡ k
  kind-written = omega (arith, accepted-bounds, small)

  pub camera-written : camera (header_word k c (length payload)) ≡ c
  camera-written = omega (arith, accepted-bounds, small)

  pub size-written : size (header_word k c (length payload)) ≡ length payload
  size-written = omega (arith, accepted-bounds, small)

  pub written-whole : whole (laid_out k c payload) ≡ true
  unfolding legal
  written-whole =
      rw (kind-written, camera-written, size-written)
      (and_both (legal_size k (length payload) && _) _ (and_both (legal_size k (length payload)) _ legal-length accepted-bounds.2)
      (eq-eqb (length payload) (length payload) refl))

-- ---- an accepted call

-- the chunk that a call writes
abbrev pub laid : WriterCall → Laid
laid c = laid_out c.kind c.camera c.payload

module _ (c : WriterCall) (z : (reply c).refusal ≡ 0) where
  abbrev number : ℕ
  number = verdict (write_causes c.kind c.camera (length c.payload) (length c.room))

  none-refused : number ≡ 0
  none-refused = sym (settled-refusal number (length c.payload + 2)) ∙ z

  -- it gave the writer what it takes
  pub accepted-taken : accepted c.kind c.camera c.payload ≡ true
  accepted-taken =
      let s = spared (write_causes c.kind c.camera (length c.payload) (length c.room)) refl none-refused in
      and_both (writable c.kind c.camera) _ (not-false _ s.0) (not-false _ s.1.0)

  enough-room : length c.payload + 2 ≤ length c.room
  enough-room =
      let s = spared (write_causes c.kind c.camera (length c.payload) (length c.room)) refl none-refused in
      ltb-false (length c.room) (length c.payload + 2) s.1.1.0

  length-replied : (reply c).length.0 ≡ length c.payload + 2
  length-replied = settled-length number (length c.payload + 2) none-refused

  -- and left the words of its chunk
  chunk-written : (sync : ℕ) → written sync c ≡ chunk_of sync c.kind c.camera c.payload
  unfolding write_room
  chunk-written sync = writer-left number (length c.payload + 2) (chunk_of sync c.kind c.camera c.payload) c.room (omega arith) enough-room z

-- ---- a row of accepted calls

pub row-whole : (cs : List WriterCall) → Accepted cs → whole_row (map laid cs) ≡ true
unfolding whole_row
row-whole [] a = refl
row-whole (c ∷ cs) a =
    and_both (whole (laid c)) _ (written-whole c.kind c.camera c.payload (accepted-taken c a.0)) (row-whole cs a.1)

pub recorded-words : (sync : ℕ) (cs : List WriterCall) → Accepted cs → recorded sync cs ≡ words sync (map laid cs)
recorded-words sync [] a = refl
recorded-words sync (c ∷ cs) a = ap₂ (λ (xs ys : List ℕ). xs ++ ys) (chunk-written c a.0 sync) (recorded-words sync cs a.1)

-- the place past a chunk of the row
span-replied : (c : WriterCall) → (reply c).refusal ≡ 0 → (p : ℕ) → p + span (laid c).header ≡ p + (reply c).length.0
span-replied c z p = omega (arith, length-replied c z, size-written c.kind c.camera c.payload (accepted-taken c z))

none_after : {A B : Type 0} (f : A → B) (xs : List A) → empty (map f xs) ≡ empty xs
none_after f [] = refl
none_after f (x ∷ xs) = refl

row-entries : (p : ℕ) (cs : List WriterCall) → Accepted cs → entries p (map laid cs) ≡ entries_at p cs
row-entries p [] a = refl
row-entries p (c ∷ cs) a =
    ap₂ (λ (m : Bool) (es : List Entry). entry p (laid c).header m ∷ es) (none_after laid cs)
    (ap (λ (n : ℕ). entries n (map laid cs)) (span-replied c a.0 p) ∙ row-entries (p + (reply c).length.0) cs a.1)

entries-many : (p : ℕ) (cs : List WriterCall) → length (entries_at p cs) ≡ length cs
entries-many p [] = refl
entries-many p (c ∷ cs) = ap suc (entries-many (p + (reply c).length.0) cs)

-- the last has the mark
last-marked : (p : ℕ) (cs : List WriterCall) → any_end (entries_at p cs) ≡ not (empty cs)
unfolding any_end
last-marked p [] = refl
last-marked p (c ∷ []) = refl
last-marked p (c ∷ d ∷ cs) = last-marked (p + (reply c).length.0) (d ∷ cs)

-- what an entry says
header-told : (c : WriterCall) (cs : List WriterCall) → (reply c).refusal ≡ 0 → heading_of (laid c).header (empty cs) ≡ told c cs
header-told c cs z =
    let w = accepted-taken c z in
    rw (kind-written c.kind c.camera c.payload w, camera-written c.kind c.camera c.payload w, size-written c.kind c.camera c.payload w)

headers-told : (p : ℕ) (cs : List WriterCall) → Accepted cs → map (λ (e : Entry). heading_of e.header e.end) (entries_at p cs) ≡ all_told cs
headers-told p [] a = refl
headers-told p (c ∷ cs) a = ap₂ (λ x xs. x ∷ xs) (header-told c cs a.0) (headers-told (p + (reply c).length.0) cs a.1)

-- ---- what the calls that read answer

-- at each place where the words from there on are a row, and no words of another chunk are left
each-given : (sync : ℕ) (ws : List ℕ) → length ws ≤ recording_limit → (p : ℕ) (cs : List WriterCall) → Accepted cs → left_at sync 0 ws p ≡ 0
    → drop p ws ≡ words sync (map laid cs) → GivenAt sync ws p cs
unfolding left_at
each-given sync ws short p [] a free here = tt
each-given sync ws short p (c ∷ cs) a free here =
    let h : ℕ = (laid c).header in
    let row : whole_row (laid c ∷ map laid cs) ≡ true = row-whole (c ∷ cs) a in
    let t : whole (laid c) ≡ true = row_first (laid c) (map laid cs) row in
    let there : listed_at sync ws p ≡ true = listed-at-yes sync p ws free (ap (confirmed sync) here ∙ row-confirmed sync (laid c) (map laid cs) row) in
    let answers = place-answered sync ws short p there in
    let word : get_or (drop p ws) 1 0 ≡ h = ap (λ (l : List ℕ). get_or l 1 0) here in
    let mark : at_end (drop p ws) ≡ empty cs = ap at_end here ∙ row-mark sync (laid c) (map laid cs) t ∙ none_after laid cs in
    let next : p + span h ≡ p + (reply c).length.0 = span-replied c a.0 p in (
      answers.0 ∙ ap₂ heading_of word mark ∙ header-told c cs a.0,
      answers.1
          ∙ ap (λ (x : ℕ). take (size x) (drop (p + 2) ws)) word
          ∙ ap (take (size h)) (sym (drop-drop 2 p ws) ∙ ap (drop 2) here)
          ∙ payload-there sync (laid c) (map laid cs) t,
      each-given sync ws short (p + (reply c).length.0) cs a.1
          (ap (λ (n : ℕ). left_at sync 0 ws n) (sym next)
          ∙ left_split sync 0 p (span h) ws
          ∙ ap₂ (λ (k : ℕ) (l : List ℕ). left_at sync k l (span h)) free here
          ∙ ap (λ (n : ℕ). left_at sync 0 (words sync (laid c ∷ map laid cs)) n) (sym (add-zero (span h)))
          ∙ left-rest sync (laid c) (map laid cs) row 0)
          (ap (λ (n : ℕ). drop n ws) (sym next) ∙ sym (drop-drop (span h) p ws) ∙ ap (drop (span h)) here ∙ row_drop sync (laid c) (map laid cs) t),
    )

-- words that are a row of accepted calls, in a recording within the limit
module _ (sync : ℕ) (ws : List ℕ) (short : length ws ≤ recording_limit) (cs : List WriterCall) (a : Accepted cs) (e : ws ≡ words sync (map laid cs)) where
  list-given : reading sync ws ≡ entries_at 0 cs
  list-given = ap (reading sync) e ∙ lists-row sync 0 (map laid cs) (row-whole cs a) ∙ row-entries 0 cs a

  many-given : length (reading sync ws) ≡ length cs
  many-given = ap length list-given ∙ entries-many 0 cs

  counted : surveyed 0 (length (reading sync ws)) (skipped sync ws) (any_end (reading sync ws)) ≡ surveyed 0 (length cs) 0 (not (empty cs))
  counted =
      rw (many-given, ap (skipped sync) e ∙ skips-none sync (map laid cs) (row-whole cs a), ap any_end list-given ∙ last-marked 0 cs)

  survey-given : survey_reply sync ws ≡ surveyed 0 (length cs) 0 (not (empty cs))
  survey-given = answer-yes (verdict (survey_causes ws)) refused _ (rw (le-ltb recording_limit (length ws) short)) ∙ counted

  register-given : (register : List Entry) → length cs ≤ length register
      → (list_reply sync ws (length register) ≡ surveyed 0 (length cs) 0 (not (empty cs))) × (list_room sync ws register ≡ entered (entries_at 0 cs) register)
  unfolding list_reply list_room
  register-given register enough =
      let z : verdict (list_causes sync ws (length register)) ≡ 0 =
      rw (le-ltb recording_limit (length ws) short, le-ltb (length register) (length (reading sync ws)) (omega (arith, many-given))) in
      (answer-yes _ refused _ z ∙ counted, answer-yes _ (λ v. register) _ z ∙ ap (λ (es : List Entry). entered es register) list-given)

  given : GivenBack sync ws cs
  unfolding left_at
  given = record { survey = survey-given; each = each-given sync ws short 0 cs a refl e; register = register-given; headers = headers-told 0 cs a }

pub written-in-rows : WrittenInRows
written-in-rows sync cs a short = given sync (recorded sync cs) short cs a (recorded-words sync cs a)

-- a chunk alone has 8,186 words at the most
pub written-alone : WrittenAlone
written-alone sync c z =
    let short : length (written sync c) ≤ recording_limit =
    omega (arith, ap length (chunk-written c z sync), small c.kind c.camera c.payload (accepted-taken c z)) in
    given sync (written sync c) short (c ∷ []) (z, tt) (sym (append-nil (written sync c)) ∙ recorded-words sync (c ∷ []) (z, tt))
