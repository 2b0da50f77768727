-- The reel as a whole, written: what the writer answers and leaves in the room.
use mathlib.Core.Path.{◌≡◌, refl, sym, ap, ap₂, ◌∙◌}
use mathlib.Core.Bool.{Bool, cond}
use mathlib.Core.List.{List, ◌++◌, append_assoc}
use Prim.Native.Nat.{ℕ, ◌+◌, ◌*◌, ◌-◌, ◌/◌, ◌≤◌, ◌<◌}
use native.Mathlib.Nat.{zero-add}
use native.Mathlib.Omega.{arith}
use lib.ListN.{length, take, drop, length-append}
use lib.Dec.{ltb}
use borrow.Author.Tests.{ltb-false, lt-ltb, le-ltb}
use Rattle.base.specs.Limit.{reel_limit}
use Rattle.base.specs.Refusal.{wrong_length, no_room, verdict, wrote, settled}
use Rattle.base_room.specs.Room.{put}
use Rattle.base.proofs.Refused.{spared, answer-no, answer-yes}
use Rattle.base_room.proofs.RoomLaws.{put-put, put-length}
use Rattle.chunk.specs.Reading.{reading}
use Rattle.chunk_reading.specs.declared.Counts.{Counts}
use Rattle.chunk_reading.specs.Counting.{count_reply}
use Rattle.reel.specs.Layout.{entry_width, shortest_chunk, index_words, trailer, tail_words, reel_words, reel_of}
use Rattle.reel_writing.specs.Writing.{reel_length, write_causes, write_reply, write_room}
use Rattle.reel.proofs.Fewest.{few-chunks}
use Rattle.reel.proofs.OnReel.{index-length}
use Rattle.reel_writing.proofs.trailer.Putting.{part-put}

-- the recording, the entries and the trailer, written one after the other
pub reel-put : (sync : ℕ) (ws room a b c : List ℕ) (count : ℕ) → reel_length sync ws ≤ length room
    → count ≡ length (reading sync ws)
    → a ≡ put ws 0 room
    → b ≡ put (index_words (reading sync ws)) (length ws) a
    → c ≡ put (trailer (take (entry_width * count) (drop (length ws) b)) count (length ws)) (length ws + entry_width * count) b
    → c ≡ put (reel_of sync ws) 0 room
unfolding reel_of tail_words
reel-put sync ws room a b c count h ek ea eb ec =
    let n : ℕ = length ws in
    let index : List ℕ = index_words (reading sync ws) in
    let k : length index ≡ entry_width * count = index-length (reading sync ws) ∙ ap (λ (m : ℕ). entry_width * m) (sym ek) in
    let long : length a ≡ length room = ap length ea ∙ put-length ws 0 room in
    let tail : List ℕ = trailer index count n in
    let z : n - n ≡ 0 = omega arith in
    let there : take (entry_width * count) (drop n b) ≡ index =
    ap (λ (l : List ℕ). take (entry_width * count) (drop n l)) eb
    ∙ part-put index n n (entry_width * count) a (omega arith) (omega arith) (omega arith)
    ∙ ap (λ (m : ℕ). take m (drop n a) ++ index) z in
    let two : b ≡ put (ws ++ index) 0 room =
    eb ∙ ap₂ (λ (m : ℕ) (l : List ℕ). put index m l) (sym (zero-add n)) ea ∙ put-put ws index 0 room (omega arith) in
    let m : n + entry_width * count ≡ 0 + length (ws ++ index) = omega (arith, length-append ws index) in
    ec
    ∙ ap (λ (l : List ℕ). put (trailer l count n) (n + entry_width * count) b) there
    ∙ ap₂ (put tail) m two
    ∙ put-put (ws ++ index) tail 0 room (omega (arith, length-append ws index))
    ∙ ap (λ (l : List ℕ). put l 0 room) (append_assoc ws index tail)
    ∙ ap (λ (x : ℕ). put (ws ++ (index ++ trailer index x n)) 0 room) ek

-- ---- the verdict

pub too-long-refused : (sync : ℕ) (ws : List ℕ) (m : ℕ) → reel_limit < length ws → wrong_length ≡ verdict (write_causes sync ws m)
too-long-refused sync ws m h = sym (simp (lt-ltb reel_limit (length ws) h))

module _ (sync : ℕ) (ws : List ℕ) (m : ℕ) (h : length ws ≤ reel_limit) where
  pub room-compared : (needed : ℕ) → needed ≡ reel_length sync ws → cond (ltb m needed) no_room 0 ≡ verdict (write_causes sync ws m)
  room-compared needed e =
      ap (λ (x : ℕ). cond (ltb m x) no_room 0) e ∙ sym (ap (λ (b : Bool). cond b wrong_length (cond (ltb m (reel_length sync ws)) no_room 0)) (le-ltb reel_limit (length ws) h))

  -- there are an eleventh as many entries as words at the most
  pub room-enough : reel_words (length ws) (length ws / shortest_chunk) ≤ m → 0 ≡ verdict (write_causes sync ws m)
  room-enough enough =
      let n : reel_length sync ws ≤ m = omega (arith, few-chunks sync ws) in
      ap (λ (b : Bool). cond b no_room 0) (sym (le-ltb m (reel_length sync ws) n)) ∙ room-compared (reel_length sync ws) refl

  pub few-enough : length (reading sync ws) ≤ length ws
  few-enough = omega (arith, few-chunks sync ws)

  pub needed-compared : {s : Counts} {n : ℕ} → s ≡ count_reply sync ws → n ≡ reel_words (length ws) s.chunks → cond (ltb m n) no_room 0 ≡ verdict (write_causes sync ws m)
  needed-compared e en = room-compared _ (en ∙ ap (λ (s : Counts). reel_words (length ws) s.chunks) e)

pub ruleset judging = (too-long-refused, room-enough, few-enough, needed-compared)

-- ---- what is written

pub few-counted : (sync : ℕ) (ws : List ℕ) {count : ℕ} → count ≡ length (reading sync ws) → count ≤ length ws
few-counted sync ws ek = omega (arith, ek, few-chunks sync ws)

module _ (sync : ℕ) (ws room : List ℕ) (v : ℕ) (e : v ≡ verdict (write_causes sync ws (length room))) where
  pub refused-reply : (v ≡ 0 → ⊥) → settled v 0 ≡ write_reply sync ws (length room)
  unfolding write_reply settled
  refused-reply h =
      answer-no v (λ x. wrote x 0) (wrote 0 0) h ∙ ap (λ (x : ℕ). wrote x 0) e
      ∙ sym (answer-no (verdict (write_causes sync ws (length room))) (λ x. wrote x 0) (wrote 0 (reel_length sync ws)) (λ z. h (e ∙ z)))

  pub refused-untouched : (v ≡ 0 → ⊥) → room ≡ write_room sync ws room
  unfolding write_room
  refused-untouched h = sym (answer-no _ _ _ (λ z. h (e ∙ z)))

  module _ (z : v ≡ 0) where
    pub accepted-short : length ws ≤ reel_limit
    accepted-short = ltb-false reel_limit (length ws) (spared (write_causes sync ws (length room)) refl (sym e ∙ z)).0

    pub accepted-fits : reel_length sync ws ≤ length room
    accepted-fits = ltb-false (length room) (reel_length sync ws) (spared (write_causes sync ws (length room)) refl (sym e ∙ z)).1.0

    pub accepted-reply : (n : ℕ) → n ≡ reel_length sync ws → settled 0 n ≡ write_reply sync ws (length room)
    unfolding write_reply
    accepted-reply n q = ap₂ settled (sym z ∙ e) q

    pub accepted-written : (c : List ℕ) → c ≡ put (reel_of sync ws) 0 room → c ≡ write_room sync ws room
    unfolding write_room
    accepted-written c ec = ec ∙ sym (answer-yes _ _ _ (sym e ∙ z))

    pub replied : (n count : ℕ) → count ≡ length (reading sync ws) → n ≡ reel_words (length ws) count → settled 0 n ≡ write_reply sync ws (length room)
    replied n count ek en = accepted-reply n (en ∙ ap (reel_words (length ws)) ek)

    -- the room with the recording a, and then with its entries b
    pub entries-fit : {a : List ℕ} → a ≡ put ws 0 room → length ws + entry_width * length (reading sync ws) ≤ length a
    entries-fit ea = omega (arith, accepted-fits, ap length ea, put-length ws 0 room)

    pub trailer-fits : {a b : List ℕ} {count : ℕ} → a ≡ put ws 0 room → b ≡ put (index_words (reading sync ws)) (length ws) a → count ≡ length (reading sync ws)
        → reel_words (length ws) count ≤ length b
    trailer-fits {a} ea eb ek = omega (arith, ek, accepted-fits, ap length ea, put-length ws 0 room, ap length eb, put-length (index_words (reading sync ws)) (length ws) a)

    pub written : {a b : List ℕ} {count : ℕ} (c : List ℕ) → a ≡ put ws 0 room → b ≡ put (index_words (reading sync ws)) (length ws) a → count ≡ length (reading sync ws)
        → c ≡ put (trailer (take (entry_width * count) (drop (length ws) b)) count (length ws)) (length ws + entry_width * count) b
        → c ≡ write_room sync ws room
    written {a} {b} {count} c ea eb ek ec = accepted-written c (reel-put sync ws room a b c count accepted-fits ek ea eb ec)

pub ruleset writer = (refused-reply, refused-untouched, accepted-short, few-counted, replied, entries-fit, trailer-fits, written)
