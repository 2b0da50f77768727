-- A tally and its thirty numbers: written out one by one they are the same, either way.
use mathlib.Core.Path.{◌≡◌, sym, ap, ap₂, ◌∙◌}
use mathlib.Core.List.{List}
use Prim.Native.Nat.{ℕ}
use Rattle.tally_recording.specs.declared.Tally.{Tally}
use Rattle.tally_recording.specs.Numbers.{each}
use Rattle.tally_recording.proofs.Rows.{places, all-places}
use Rattle.tally_counts.specs.Numbers.{Rows, numbers_of, tally_from}
use Rattle.tally_counts.proofs.Thirty.{numbers-written}
use Rattle.tally_laws.specs.Kept.{NumbersComeBack}

-- the tally with these rows in place of its own
abbrev rowed : Tally → List ℕ → List ℕ → List ℕ → Tally
rowed t chunks packets units =
    record {
      recordings = t.recordings;
      words = t.words;
      skipped = t.skipped;
      chunks = chunks;
      complete = t.complete;
      cut = t.cut;
      strays = t.strays;
      packets = packets;
      units = units;
    }

tally-back : (t : Tally) → Rows t → tally_from (numbers_of t) ≡ t
unfolding each tally_from
tally-back t r =
    sym (ap tally_from (numbers-written t r))
    ∙ ap (λ (x : List ℕ). rowed t x (places 15 t.packets) (places 4 t.units)) (all-places t.chunks 5 r.five)
    ∙ ap₂ (rowed t t.chunks) (all-places t.packets 15 r.fifteen) (all-places t.units 4 r.four)

pub numbers-come-back : NumbersComeBack
unfolding each tally_from numbers_of
numbers-come-back = record { tally = tally-back; numbers = λ ns h. all-places ns 30 h }
