-- `tally_recording::chunks::chunk_units` meets its contract: by the kind.
use Rattle.std.proofs.Common.{◌≡◌, ◌+◌, ◌-◌, ℕ, List, take, drop, sym, ap, ◌∙◌, arith, rules}
use Rattle.chunk.specs.declared.Entry.{Entry}
use Rattle.chunk.specs.Header.{kind, size}
use Rattle.parity_units.specs.Split.{units_in}
use Rattle.tally_recording.specs.Numbers.{sums, any_past}
use Rattle.tally_recording.specs.Tally.{unit_numbers}
use Rattle.tally_recording.specs.Walk.{chunk_unit_numbers}
use Rattle.tally_recording.proofs.Units.{image-units, health-units}
use Rattle.tally_recording.proofs.chunks.chunk_units.Goals as goal

-- the part of the words from `from` on is the chunk's payload, and its units are the chunk's
own : (ws : List ℕ) (e : Entry) (n : ℕ) → kind e.header ≡ 0 → n ≡ size e.header
    → unit_numbers (units_in (take (e.position.0 + 2 + n - (e.position.0 + 2)) (drop (e.position.0 + 2) ws))) ≡ chunk_unit_numbers ws e
own ws e n k s =
    let m : e.position.0 + 2 + n - (e.position.0 + 2) ≡ size e.header = omega (arith, s) in
    ap (λ (i : ℕ). unit_numbers (units_in (take i (drop (e.position.0 + 2) ws)))) m ∙ sym (image-units ws e k)

pub returns-then-kind_of-ne0 : goal.returns-then-kind_of-ne0
returns-then-kind_of-ne0 c =
    let a = c.args in
    sym (health-units a.words.now a.chunk (λ k. c.if-kind_of-ne0.true (c.kind_of.ensures ∙ k)) a.units (search rules))

pub payload_units-requires : goal.payload_units-requires
payload_units-requires c =
    let a = c.args in
    ap (λ (x : List ℕ). any_past (sums a.units x)) (own a.words.now a.chunk _ (sym c.kind_of.ensures ∙ c.if-kind_of-ne0.false) c.size_of.ensures)
    ∙ c.requires.chunk_value

pub returns : goal.returns
returns c =
    let a = c.args in
    c.payload_units.ensures ∙ ap (sums a.units) (own a.words.now a.chunk _ (sym c.kind_of.ensures ∙ c.if-kind_of-ne0.false) c.size_of.ensures)
