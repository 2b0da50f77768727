-- Bytes that are copied into the middle of a page are put there.
use Rattle.std.proofs.Common.{◌≡◌, ℕ, ◌+◌, ◌≤◌, List, ◌++◌, length, take, drop, ap, sym, ◌∙◌, append_assoc}
use lib.Seq.{drop-drop}
use borrow.Rule.Slice.PartMut.{put_mid}
use Rattle.base_room.specs.Room.{put}
use Rattle.base_room.proofs.RoomLaws.{put-fits}

pub placed : (bytes page : List ℕ) (at k : ℕ) → k ≡ length bytes → at + length bytes ≤ length page → put_mid at k page bytes ≡ put bytes at page
placed bytes page at k e h =
    ap (λ (x : List ℕ). take at page ++ (bytes ++ x)) (drop-drop k at page ∙ ap (λ (n : ℕ). drop (at + n) page) e)
    ∙ sym (append_assoc (take at page) bytes (drop (at + length bytes) page)) ∙ sym (put-fits bytes at page h)
