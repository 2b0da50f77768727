-- The call where it is accepted: its reply and its list are those of the pairs, both recordings are within the limit, and the list has room.
use mathlib.Core.Path.{◌≡◌, refl, sym, ap, ap₂, ◌∙◌}
use mathlib.Core.Bool.{false}
use mathlib.Core.List.{List}
use Prim.Native.Nat.{ℕ, ◌+◌, ◌≤◌, ◌<◌}
use native.Mathlib.Omega.{arith}
use lib.ListN.{length, get_or, take, drop, length-map, get_or-append}
use Rattle.base.specs.Limit.{too_long}
use Rattle.base.specs.Refusal.{verdict}
use Rattle.base.proofs.Booleans.{or-false}
use Rattle.base.proofs.Refused.{spared, answer-yes}
use Rattle.base_room.specs.Room.{put}
use Rattle.base_room.proofs.RoomLaws.{put-fits, put_front}
use Rattle.chunk_compare.specs.declared.Compared.{Compared}
use Rattle.chunk_compare.specs.Pairs.{pairs_of, pair_number, pair_numbers}
use Rattle.chunk_compare.specs.Compare.{pair_count, compare_causes, compare_of, refused, compare_reply, compare_room}
use Rattle.chunk_compare.proofs.Pairing as pairing
use Rattle.chunk_compare_laws.specs.Entries.{Accepted, entry_at, told}

module _ (sync : ℕ) (a b list : List ℕ) (accepted : Accepted sync a b list) where
  abbrev numbers : List ℕ
  numbers = pair_numbers (pairs_of sync a b)

  none-refused : verdict (compare_causes sync a b (length list)) ≡ 0
  none-refused = sym (pairing.number sync a b list _ refl) ∙ accepted

  pub accepted-reply : compare_reply sync a b (length list) ≡ compare_of sync a b
  unfolding compare_reply
  accepted-reply = answer-yes (verdict (compare_causes sync a b (length list))) refused (compare_of sync a b) none-refused

  pub accepted-pairs : (compare_reply sync a b (length list)).pairs ≡ pair_count sync a b
  accepted-pairs = ap (λ (x : Compared). x.pairs) accepted-reply

  accepted-room : compare_room sync a b list ≡ put numbers 0 list
  unfolding compare_room
  accepted-room = answer-yes (verdict (compare_causes sync a b (length list))) (λ v. list) (put numbers 0 list) none-refused

  pub accepted-short : (too_long a ≡ false) × (too_long b ≡ false)
  accepted-short = or-false (too_long a) (too_long b) (spared (compare_causes sync a b (length list)) refl none-refused).0

  accepted-fits : length numbers ≤ length list
  accepted-fits = omega (arith, length-map (pairs_of sync a b) pair_number, pairing.accepted-fits sync a b list _ refl accepted)

  -- the entries that tell of a pair are the numbers, in order
  pub told-numbers : told sync a b list ≡ numbers
  told-numbers =
      let n : length numbers ≡ pair_count sync a b = length-map (pairs_of sync a b) pair_number in
      ap₂ take accepted-pairs accepted-room ∙ put_front (pair_count sync a b) numbers list n (omega (arith, accepted-fits))

  pub entry-number : (i : ℕ) → i < pair_count sync a b → entry_at sync a b list i ≡ get_or numbers i 0
  entry-number i h =
      ap (λ (l : List ℕ). get_or l i 0) (accepted-room ∙ put-fits numbers 0 list (omega (arith, accepted-fits)))
      ∙ get_or-append numbers (drop (0 + length numbers) list) 0 i (omega (arith, length-map (pairs_of sync a b) pair_number))
