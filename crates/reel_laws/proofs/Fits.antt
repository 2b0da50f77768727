-- The writer and the reader fit, both ways; and an index is accepted behind no other recording.
use mathlib.Core.Path.{◌≡◌, refl, sym, ap, ap₂, ◌∙◌}
use mathlib.Core.Bool.{Bool, true, false, cond, ◌&&◌}
use mathlib.Core.List.{List, [], ◌∷◌, ◌++◌}
use Prim.Native.Nat.{ℕ, ◌+◌, ◌*◌, ◌-◌, ◌≤◌}
use native.Mathlib.Omega.{arith}
use lib.ListN.{length, get_or, take, drop, take-append-drop, length-drop}
use lib.Seq.{take_at, take-add, drop_at, drop-drop, take_all, length-take-le}
use lib.Dec.{leb, eqb}
use borrow.Author.Tests.{eqb-true, eqb-false, leb-true, le-ltb, not-false}
use Rattle.base.proofs.Booleans.{and_left, and_right}
use Rattle.base.specs.Limit.{reel_limit}
use Rattle.base.specs.Refusal.{wrong_reel, no_room, verdict}
use Rattle.base.proofs.Refused.{spared, answer-yes, answer-number, settled-refusal}
use Rattle.base_room.proofs.RoomLaws.{writer-left}
use Rattle.chunk.specs.declared.Entry.{Entry}
use Rattle.chunk.specs.Header.{span}
use Rattle.chunk.specs.Reading.{entry, reading}
use Rattle.chunk.proofs.Marks.{Marked, reading-marked}
use Rattle.reel.specs.declared.Reel.{Reel}
use Rattle.reel.specs.Layout.{entry_width, edition, index_words, pointers, reel_crc, trailer, tail_words, reel_of, reel_words, reel_least, reel_most}
use Rattle.reel.specs.Reading.{same_words, count_of, n_of, crc_of, edition_of, recording_of, index_of, trailer_agrees, index_agrees, accepted, read_causes, read_reply, told, refused}
use Rattle.reel.proofs.Same.{same_true, same_refl}
use Rattle.reel.proofs.OnReel.{index-length, two-words}
use Rattle.reel.proofs.Fewest.{few-chunks}
use Rattle.reel.proofs.Reading.{agrees-length, accepted-read, not-accepted-refused, trailer-not-accepted}
use Rattle.reel_writing.specs.Writing.{reel_length, write_causes, write_reply, write_room}
use Rattle.reel_writing.proofs.Writing.{room-compared, accepted-short, accepted-fits}
use Rattle.reel_laws.specs.Fits.{written, written_tail, WrittenIsAccepted, RecordingComesBack, AcceptedIsWritten, OldIndexIsRefused}
use Rattle.reel_laws.proofs.Tail.{tailed, tailed-length, tailed-count, tailed-n, other-length-disagrees, own-accepted}

-- no recording within the limit, with the entries of one within the limit, is outside the reader's lengths
reel-within : (sync : ℕ) (ws other r : List ℕ) → length ws ≤ reel_limit → length other ≤ reel_limit → length r ≡ reel_words (length other) (length (reading sync ws))
    → (reel_least ≤ length r) × (length r ≤ reel_most)
reel-within sync ws other r h l e = (omega arith, omega (arith, few-chunks sync ws))

reel-read : (sync : ℕ) (ws : List ℕ) → length ws ≤ reel_limit → read_reply sync (reel_of sync ws) ≡ told 0 (length ws) (length (reading sync ws))
unfolding reel_of
reel-read sync ws h =
    let es : List Entry = reading sync ws in
    let r : List ℕ = tailed ws (length ws) es in
    let b = reel-within sync ws ws r h h (tailed-length ws (length ws) es) in
    sym (accepted-read sync r b.0 b.1 (length ws) (length es) (sym (tailed-n ws (length ws) es)) (sym (tailed-count ws (length ws) es))
    (own-accepted ws es sync h ∙ same_refl (index_words es)))

-- ---- what the writer leaves

-- the number in the writer's reply
write-number : (sync : ℕ) (ws : List ℕ) (m : ℕ) → (write_reply sync ws m).refusal ≡ verdict (write_causes sync ws m)
unfolding write_reply
write-number sync ws m = settled-refusal (verdict (write_causes sync ws m)) (reel_length sync ws)

module _ (sync : ℕ) (ws room : List ℕ) (z : (write_reply sync ws (length room)).refusal ≡ 0) where
  nothing-refused : verdict (write_causes sync ws (length room)) ≡ 0
  nothing-refused = sym (write-number sync ws (length room)) ∙ z

  short : length ws ≤ reel_limit
  short = accepted-short sync ws room _ refl nothing-refused

  written-is-reel : written sync ws room ≡ reel_of sync ws
  unfolding reel_of write_reply write_room
  written-is-reel =
      writer-left (verdict (write_causes sync ws (length room))) (reel_length sync ws) (reel_of sync ws) room (tailed-length ws (length ws) (reading sync ws))
      (accepted-fits sync ws room _ refl nothing-refused) z

  tail-is-tail : written_tail sync ws room ≡ tail_words (length ws) (reading sync ws)
  unfolding reel_of
  tail-is-tail = ap (drop (length ws)) written-is-reel ∙ drop_at ws (tail_words (length ws) (reading sync ws)) (length ws) refl

pub written-is-accepted : WrittenIsAccepted
written-is-accepted sync ws room z = ap (read_reply sync) (written-is-reel sync ws room z) ∙ reel-read sync ws (short sync ws room z)

pub recording-comes-back : RecordingComesBack
unfolding reel_of
recording-comes-back sync ws room z =
    let n : (read_reply sync (written sync ws room)).n.0 ≡ length ws = ap (λ (x : Reel). x.n.0) (written-is-accepted sync ws room z) in
    ap₂ take n (written-is-reel sync ws room z) ∙ take_at ws (tail_words (length ws) (reading sync ws)) (length ws) refl

-- ---- what is accepted is what the writer writes

module _ (sync : ℕ) (r : List ℕ) (a : accepted sync r ≡ true) where
  abbrev n : ℕ
  n = n_of r

  abbrev count : ℕ
  count = count_of r

  trailer-agrees : trailer_agrees r ≡ true
  trailer-agrees = and_left (trailer_agrees r) (leb n reel_limit) (and_left (trailer_agrees r && leb n reel_limit) (index_agrees sync r) a)

  reel-length : length r ≡ reel_words n count
  reel-length = agrees-length r trailer-agrees

  n_within : n ≤ reel_limit
  n_within = leb-true n reel_limit (and_right (trailer_agrees r) (leb n reel_limit) (and_left (trailer_agrees r && leb n reel_limit) (index_agrees sync r) a))

  recording-length : length (recording_of r) ≡ n
  recording-length = length-take-le n r (omega (arith, reel-length))

  index-fresh : index_of r ≡ index_words (reading sync (recording_of r))
  unfolding index_agrees
  index-fresh = same_true (index_of r) (index_words (reading sync (recording_of r))) (and_right (trailer_agrees r && leb n reel_limit) (index_agrees sync r) a)

  count-fresh : count ≡ length (reading sync (recording_of r))
  count-fresh =
      omega (arith, reel-length, ap length index-fresh, index-length (reading sync (recording_of r)), length-take-le (entry_width * count) (drop n r) (omega (arith, reel-length, length-drop n r)))

  edition-right : edition_of r ≡ edition
  unfolding trailer_agrees
  edition-right =
      let t : eqb (length r) (reel_words n count) && eqb (edition_of r) edition ≡ true =
      and_left (eqb (length r) (reel_words n count) && eqb (edition_of r) edition) (eqb (crc_of r) (reel_crc (index_of r) count n)) trailer-agrees in
      eqb-true (edition_of r) edition (and_right (eqb (length r) (reel_words n count)) (eqb (edition_of r) edition) t)

  crc-right : crc_of r ≡ reel_crc (index_of r) count n
  unfolding trailer_agrees
  crc-right =
      eqb-true (crc_of r) (reel_crc (index_of r) count n)
      (and_right (eqb (length r) (reel_words n count) && eqb (edition_of r) edition) (eqb (crc_of r) (reel_crc (index_of r) count n)) trailer-agrees)

  -- the last four words
  last-four : drop (n + entry_width * count) r ≡ trailer (index_of r) count n
  last-four =
      let k : ℕ = n + entry_width * count in
      let k₄ : k ≡ length r - 4 = omega (arith, reel-length) in
      let k₃ : k + 1 ≡ length r - 3 = omega (arith, reel-length) in
      let k₂ : k + 2 ≡ length r - 2 = omega (arith, reel-length) in
      let k₁ : k + 2 + 1 ≡ length r - 1 = omega (arith, reel-length) in
      let first : take 2 (drop k r) ≡ pointers count n = two-words r k (omega (arith, reel-length)) ∙ ap₂ (λ (i j : ℕ). get_or r i 0 ∷ get_or r j 0 ∷ []) k₄ k₃ in
      let second : take 2 (drop (k + 2) r) ≡ crc_of r ∷ edition_of r ∷ [] =
      two-words r (k + 2) (omega (arith, reel-length)) ∙ ap₂ (λ (i j : ℕ). get_or r i 0 ∷ get_or r j 0 ∷ []) k₂ k₁ in
      sym (take_all 4 (drop k r) (omega (arith, reel-length, length-drop k r))) ∙ take-add 2 2 (drop k r)
      ∙ ap₂ ◌++◌ first (ap (take 2) (drop-drop 2 k r) ∙ second ∙ ap₂ (λ (x y : ℕ). x ∷ y ∷ []) crc-right edition-right)

  accepted-is-reel : r ≡ reel_of sync (recording_of r)
  unfolding reel_of tail_words
  accepted-is-reel =
      let ws : List ℕ = recording_of r in
      sym (take-append-drop n r)
      ∙ ap (λ (l : List ℕ). ws ++ l) (sym (take-append-drop (entry_width * count) (drop n r)) ∙ ap (λ (l : List ℕ). index_of r ++ l) (drop-drop (entry_width * count) n r ∙ last-four))
      ∙ ap (λ (l : List ℕ). ws ++ (l ++ trailer l count n)) index-fresh
      ∙ ap₂ (λ (c m : ℕ). ws ++ (index_words (reading sync ws) ++ trailer (index_words (reading sync ws)) c m)) count-fresh (sym recording-length)

-- the number in the reader's reply
read_number : (sync : ℕ) (r : List ℕ) → (read_reply sync r).refusal ≡ verdict (read_causes sync r)
unfolding read_reply
read_number sync r = answer-number (λ (x : Reel). x.refusal) _ refused (told 0 (n_of r) (count_of r)) refl (λ z. refl)

pub accepted-is-written : AcceptedIsWritten
unfolding read_reply
accepted-is-written sync r room z fit =
    let e : verdict (read_causes sync r) ≡ 0 = sym (read_number sync r) ∙ z in
    let a : accepted sync r ≡ true = not-false (accepted sync r) (spared (read_causes sync r) refl e).1.0 in
    let n : (read_reply sync r).n.0 ≡ n_of r = ap (λ (x : Reel). x.n.0) (answer-yes (verdict (read_causes sync r)) refused (told 0 (n_of r) (count_of r)) e) in
    let ws : List ℕ = take (read_reply sync r).n.0 r in
    let is : ws ≡ recording_of r = ap (λ (m : ℕ). take m r) n in
    let l : length r ≡ reel_length sync ws = sym (ap (reel_length sync) is ∙ ap₂ reel_words (recording-length sync r a) (sym (count-fresh sync r a)) ∙ sym (reel-length sync r a)) in
    let accepts : (write_reply sync ws (length room)).refusal ≡ 0 =
    write-number sync ws (length room)
    ∙ sym (room-compared sync ws (length room) (omega (arith, ap length is, recording-length sync r a, n_within sync r a)) (reel_length sync ws) refl)
    ∙ ap (λ (b : Bool). cond b no_room 0) (le-ltb (length room) (reel_length sync ws) (omega arith))
    in
    (accepts, written-is-reel sync ws room accepts ∙ ap (reel_of sync) is ∙ sym (accepted-is-reel sync r a))

-- ---- an old index

-- the words of the entries tell the entries of recordings of one length: they have no mark, but it follows from position, header word and length
index-injective : (n : ℕ) (es fs : List Entry) → Marked n es → Marked n fs → index_words es ≡ index_words fs → es ≡ fs
unfolding index_words
index-injective n [] [] m k e = refl
index-injective n [] (f ∷ fs) m k e = absurd (omega (arith, ap length e))
index-injective n (d ∷ es) [] m k e = absurd (omega (arith, ap length e))
index-injective n (d ∷ es) (f ∷ fs) m k e =
    let p : d.position.0 ≡ f.position.0 = ap (λ (l : List ℕ). get_or l 0 0) e in
    let h : d.header ≡ f.header = ap (λ (l : List ℕ). get_or l 1 0) e in
    let mark : d.end ≡ f.end = m.0 ∙ ap₂ (λ (x y : ℕ). eqb (x + span y) n) p h ∙ sym k.0 in
    ap₂ (λ (x : Entry) (l : List Entry). x ∷ l)
    (ap₂ (λ (x y : ℕ). entry x y d.end) p h ∙ ap (entry f.position.0 f.header) mark)
    (index-injective n es fs m.1 k.1 (ap (drop 2) e))

module _ (sync : ℕ) (ws other : List ℕ) (differ : length other ≡ length ws → reading sync other ≡ reading sync ws → ⊥) (h : length other ≤ reel_limit) where
  abbrev es : List Entry
  es = reading sync ws

  -- of the same length: the entries are those of another reading
  old-entries : length other ≡ length ws → accepted sync (tailed other (length ws) es) ≡ false
  old-entries same =
      ap (λ (m : ℕ). accepted sync (tailed other m es)) (sym same) ∙ own-accepted other es sync h ∙ by-test (same_words (index_words es) (index_words (reading sync other))) refl
    where
      other-marked : Marked (length ws) (reading sync other)
      other-marked = rw same at (reading-marked sync other)

      by-test : (b : Bool) → same_words (index_words es) (index_words (reading sync other)) ≡ b → same_words (index_words es) (index_words (reading sync other)) ≡ false
      by-test true z = absurd (differ same (sym (index-injective (length ws) es (reading sync other) (reading-marked sync ws) other-marked (same_true _ _ z))))
      by-test false z = z

  -- of another length: the trailer tells of the old one
  old-not-accepted : accepted sync (tailed other (length ws) es) ≡ false
  old-not-accepted = by-test (eqb (length other) (length ws)) refl
    where
      by-test : (b : Bool) → eqb (length other) (length ws) ≡ b → accepted sync (tailed other (length ws) es) ≡ false
      by-test true z = old-entries (eqb-true (length other) (length ws) z)
      by-test false z = trailer-not-accepted sync (tailed other (length ws) es) (other-length-disagrees other (length ws) es (eqb-false (length other) (length ws) z))

pub old-index-is-refused : OldIndexIsRefused
old-index-is-refused sync ws room other z h differ =
    let r : List ℕ = tailed other (length ws) (reading sync ws) in
    let b = reel-within sync ws other r (short sync ws room z) h (tailed-length other (length ws) (reading sync ws)) in
    ap (λ (l : List ℕ). read_reply sync (other ++ l)) (tail-is-tail sync ws room z)
    ∙ sym (not-accepted-refused sync r b.0 b.1 (refused wrong_reel) refl (old-not-accepted sync ws other differ h))
