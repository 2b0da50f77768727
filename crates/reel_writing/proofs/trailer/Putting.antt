-- The trailer in the room where it is written: two writes end to end are one, and the CRC covers what stands before them.
use mathlib.Core.Path.{◌≡◌, ap, ◌∙◌}
use mathlib.Core.List.{List, [], ◌∷◌, ◌++◌}
use Prim.Native.Nat.{ℕ, ◌+◌, ◌*◌, ◌-◌, ◌≤◌}
use native.Mathlib.Omega.{arith}
use lib.ListN.{length, take, drop, length-append, length-drop}
use lib.Seq.{drop-append-le, take_at, drop_at, take-add, length-take-le}
use Rattle.base_room.specs.Room.{put}
use Rattle.base_room.proofs.RoomLaws.{put-fits, put-put}
use Rattle.crc.specs.Crc.{crc_words, crc_start}
use Rattle.reel.specs.Layout.{entry_width, edition, pointers, reel_crc, trailer, reel_words}

-- a part of a front part
drop-take : (n k : ℕ) (d : List ℕ) → n ≤ k → k ≤ length d → drop n (take k d) ≡ take (k - n) (drop n d)
drop-take n k d h l =
    let e : k ≡ n + (k - n) = omega arith in
    ap (λ (m : ℕ). drop n (take m d)) e ∙ ap (drop n) (take-add n (k - n) d) ∙ drop_at (take n d) (take (k - n) (drop n d)) n (length-take-le n d (omega arith))

-- what was written at `at`, with the words from n on that stand before it
pub part-put : (s : List ℕ) (n at k : ℕ) (d : List ℕ) → n ≤ at → at + length s ≤ length d → k + n ≡ at + length s
    → take k (drop n (put s at d)) ≡ take (at - n) (drop n d) ++ s
part-put s n at k d h f e =
    let m : length (take at d) ≡ at = length-take-le at d (omega arith) in
    let j : length (drop n (take at d) ++ s) ≡ k = omega (arith, length-append (drop n (take at d)) s, length-drop n (take at d)) in
    ap (λ (l : List ℕ). take k (drop n l)) (put-fits s at d f)
    ∙ ap (take k) (drop-append-le n (take at d ++ s) (drop (at + length s) d) (omega (arith, length-append (take at d) s))
    ∙ ap (λ (l : List ℕ). l ++ drop (at + length s) d) (drop-append-le n (take at d) s (omega arith)))
    ∙ take_at (drop n (take at d) ++ s) (drop (at + length s) d) k j
    ∙ ap (λ (l : List ℕ). l ++ s) (drop-take n at d h (omega arith))

-- the two writes of the trailer are one, and the CRC covers the entries and the two words before it
pub trailer_put : (n count crc : ℕ) (room a b : List ℕ) → reel_words n count ≤ length room
    → a ≡ put (pointers count n) (n + entry_width * count) room
    → crc ≡ crc_words crc_start (take (n + entry_width * count + 2 - n) (drop n a))
    → b ≡ put (crc ∷ edition ∷ []) (n + entry_width * count + 2) a
    → b ≡ put (trailer (take (entry_width * count) (drop n room)) count n) (n + entry_width * count) room
trailer_put n count crc room a b h ea ec eb =
    let k : n + entry_width * count - n ≡ entry_width * count = omega arith in
    let covered : crc ≡ reel_crc (take (entry_width * count) (drop n room)) count n =
    ec ∙ ap (λ (l : List ℕ). crc_words crc_start (take (n + entry_width * count + 2 - n) (drop n l))) ea
    ∙ ap (crc_words crc_start) (part-put (pointers count n) n (n + entry_width * count) (n + entry_width * count + 2 - n) room (omega arith) (omega arith) (omega arith)
    ∙ ap (λ (m : ℕ). take m (drop n room) ++ pointers count n) k) in
    eb ∙ ap (put (crc ∷ edition ∷ []) (n + entry_width * count + 2)) ea
    ∙ put-put (pointers count n) (crc ∷ edition ∷ []) (n + entry_width * count) room (omega arith)
    ∙ ap (λ (x : ℕ). put (pointers count n ++ (x ∷ edition ∷ [])) (n + entry_width * count) room) covered
