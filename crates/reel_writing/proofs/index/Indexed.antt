-- The loop that writes the index: the entries of the rest of the chunks, put into the room as it is, give the whole answer.
use mathlib.Core.Path.{◌≡◌, sym, ap, ◌∙◌}
use mathlib.Core.List.{List}
use Prim.Native.Nat.{ℕ, suc, ◌+◌, ◌*◌, ◌≤◌}
use native.Mathlib.Omega.{arith}
use lib.ListN.{length}
use Rattle.base_room.specs.Room.{put}
use Rattle.base_room.proofs.RoomLaws.{put-put, put-length}
use Rattle.base_room.proofs.Filling.{put-nothing}
use Rattle.chunk.specs.declared.Entry.{Entry}
use Rattle.chunk.specs.Reading.{reading}
use Rattle.chunk.proofs.Steps.{listed_from, Next, Last}
use Rattle.reel.specs.Layout.{entry_width, entry_words, index_words}
use Rattle.reel.proofs.OnReel.{index-length}

pub record Indexed (sync : ℕ) (ws room₀ room : List ℕ) (from count : ℕ) : Type 0 where
  pub long : length room ≡ length room₀
  pub fits : length ws + entry_width * (count + length (listed_from sync ws from)) ≤ length room₀
  pub counts : count + length (listed_from sync ws from) ≡ length (reading sync ws)
  pub written : put (index_words (listed_from sync ws from)) (length ws + entry_width * count) room ≡ put (index_words (reading sync ws)) (length ws) room₀

module _ (sync : ℕ) (ws room₀ : List ℕ) where
  module _ (room : List ℕ) (from count : ℕ) (k : Indexed sync ws room₀ room from count) where
    entry-put : (e : Entry) (n : ℕ) → Next sync ws from e n → Indexed sync ws room₀ (put (entry_words e) (length ws + entry_width * count) room) n (count + 1)
    unfolding index_words
    entry-put e n s =
        let l : length (listed_from sync ws from) ≡ suc (length (listed_from sync ws n)) = ap length s.lists in
        let a : length ws + entry_width * (count + 1) ≡ length ws + entry_width * count + 2 = omega arith in
        let b : length (index_words (listed_from sync ws n)) ≡ entry_width * length (listed_from sync ws n) = index-length (listed_from sync ws n) in
        let r : List ℕ = put (entry_words e) (length ws + entry_width * count) room in
        record {
          long = put-length (entry_words e) (length ws + entry_width * count) room ∙ k.long;
          fits = omega (arith, k.fits);
          counts = omega (arith, k.counts);
          written =
              ap (λ (m : ℕ). put (index_words (listed_from sync ws n)) m r) a
              ∙ put-put (entry_words e) (index_words (listed_from sync ws n)) (length ws + entry_width * count) room (omega (arith, k.fits, k.long))
              ∙ sym (ap (λ (m : List Entry). put (index_words m) (length ws + entry_width * count) room) s.lists)
              ∙ k.written;
        }

    pub entry-indexed : (e : Entry) (n : ℕ) → Next sync ws from e n → (r : List ℕ) → r ≡ put (entry_words e) (length ws + entry_width * count) room
        → Indexed sync ws room₀ r n (count + 1)
    entry-indexed e n s r er = rw er (entry-put e n s)

    pub all-indexed : Last sync ws from → (count ≡ length (reading sync ws)) × (room ≡ put (index_words (reading sync ws)) (length ws) room₀)
    unfolding index_words
    all-indexed n =
        let l : length (listed_from sync ws from) ≡ 0 = ap length n.lists in (
          omega (arith, k.counts),
          sym (put-nothing (length ws + entry_width * count) room (omega (arith, k.fits, k.long)))
              ∙ sym (ap (λ (m : List Entry). put (index_words m) (length ws + entry_width * count) room) n.lists)
              ∙ k.written,
        )
