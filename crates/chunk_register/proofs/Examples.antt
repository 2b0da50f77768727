-- The recording of FORMAT, "Listing program", in a register of three entries, and in one that is too small.
use Rattle.std.specs.Prelude.{◌≡◌, refl, true, false, [], ◌∷◌}
use Rattle.base.specs.Refusal.{answer}
use Rattle.chunk.specs.declared.Entry.{Entry}
use Rattle.chunk.specs.Header.{legal_size, legal, headed, ends, confirmed, at_end}
use Rattle.chunk.specs.Reading.{entry, listed, any_end, skipped_from}
use Rattle.chunk_reading.specs.Counting.{surveyed}
use Rattle.chunk.specs.Examples.{listing}
use Rattle.chunk_register.specs.Register.{list_reply, list_room}

pub listing_listed : (a b c : Entry)
    → (list_reply 0x5AF3 listing 3 ≡ surveyed 0 2 1 true) × (list_room 0x5AF3 listing (a ∷ b ∷ c ∷ []) ≡ entry 1 0x2009 false ∷ entry 12 0x8020 true ∷ c ∷ [])
unfolding list_reply list_room answer listed any_end skipped_from at_end confirmed ends headed legal legal_size
listing_listed a b c = (refl, refl)

pub listing_refused : (a : Entry) → (list_reply 0x5AF3 listing 1 ≡ surveyed 3 0 0 false) × (list_room 0x5AF3 listing (a ∷ []) ≡ a ∷ [])
unfolding list_reply list_room answer listed skipped_from confirmed ends headed legal legal_size
listing_refused a = (refl, refl)
