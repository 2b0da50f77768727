-- FORMAT, "Chunks": what the writer answers and writes.
use Rattle.std.specs.Prelude.{ℕ, ◌+◌, ◌*◌, Bool, not, ◌&&◌, ◌||◌, List, [], ◌∷◌, length, leb, ltb, eqb}
use Rattle.base.specs.Refusal.{Causes, wrong_argument, wrong_length, no_room, verdict, answer, settled}
use Rattle.base_room.specs.Room.{put}
use Rattle.base.specs.declared.Written.{Written}
use Rattle.chunk.specs.Header.{header_width, legal_size}

-- kind 0 image with camera 0 to 3, or kind 1 health with camera 0
abbrev pub writable : ℕ → ℕ → Bool
writable k c = (eqb k 0 && leb c 3) || (eqb k 1 && eqb c 0)

-- another kind or camera is 4, an illegal payload length 1, too little room for the header and the payload 3
abbrev pub write_causes : ℕ → ℕ → ℕ → ℕ → Causes
write_causes k c n room = (wrong_argument, not (writable k c)) ∷ (wrong_length, not (legal_size k n)) ∷ (no_room, ltb room (n + header_width)) ∷ []

-- the header word: kind in bit 15, camera in bits 14 to 13, size in bits 12 to 0
abbrev pub header_word : ℕ → ℕ → ℕ → ℕ
header_word k c n = k * 32768 + c * 8192 + n

-- the words of a chunk
abbrev pub chunk_of : ℕ → ℕ → ℕ → List ℕ → List ℕ
chunk_of sync k c payload = sync ∷ header_word k c (length payload) ∷ payload

-- the writer's reply, for a payload of n words
abbrev pub write_reply : ℕ → ℕ → ℕ → ℕ → Written
write_reply k c n room = settled (verdict (write_causes k c n room)) (n + header_width)

-- the room after the call
unfoldable pub write_room : ℕ → ℕ → ℕ → List ℕ → List ℕ → List ℕ
write_room sync k c payload room =
    answer (verdict (write_causes k c (length payload) (length room))) (λ v. room) (put (chunk_of sync k c payload) 0 room)
