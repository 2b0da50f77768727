-- FORMAT, "The tally": the thirty numbers of a tally, the tally that has them, and two tallies together.
use Rattle.std.specs.Prelude.{ℕ, ◌+◌, ◌≡◌, List, ◌∷◌, ◌++◌, length, get_or}
use Rattle.tally_recording.specs.declared.Tally.{Tally}
use Rattle.tally_recording.specs.Numbers.{each, sums}

-- the rows of a tally, as its type has them: 5 numbers of chunks, 15 of packets and 4 of units
pub record Rows (t : Tally) : Type 0 where
  pub five : length t.chunks ≡ 5
  pub fifteen : length t.packets ≡ 15
  pub four : length t.units ≡ 4

-- the thirty numbers in order: recordings; words; skipped words; chunks, image of camera 0 to 3 and health; complete frames; cut frames; strays; packets of
-- type 1 to 15; units sound, parity-hit, repaired, not repairable
unfoldable pub numbers_of : Tally → List ℕ
numbers_of t =
    t.recordings ∷ t.words ∷ t.skipped ∷ (t.chunks ++ (t.complete ∷ t.cut ∷ t.strays ∷ (t.packets ++ t.units)))

-- and back: the tally that has these thirty numbers
unfoldable pub tally_from : List ℕ → Tally
tally_from ns =
    record {
      recordings = get_or ns 0 0;
      words = get_or ns 1 0;
      skipped = get_or ns 2 0;
      chunks = each 3 5 (λ i. get_or ns i 0);
      complete = get_or ns 8 0;
      cut = get_or ns 9 0;
      strays = get_or ns 10 0;
      packets = each 11 15 (λ i. get_or ns i 0);
      units = each 26 4 (λ i. get_or ns i 0);
    }

-- two tallies together, number by number
unfoldable pub plus : Tally → Tally → Tally
plus t u =
    record {
      recordings = t.recordings + u.recordings;
      words = t.words + u.words;
      skipped = t.skipped + u.skipped;
      chunks = sums t.chunks u.chunks;
      complete = t.complete + u.complete;
      cut = t.cut + u.cut;
      strays = t.strays + u.strays;
      packets = sums t.packets u.packets;
      units = sums t.units u.units;
    }
