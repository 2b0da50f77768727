-- `tally_recording::chunks::chunk_packets` meets its contract: by the kind.
use Rattle.std.proofs.Common.{◌≡◌, ◌+◌, ◌/◌, ℕ, List, sym, ap, ◌∙◌, rules}
use Rattle.chunk.specs.declared.Entry.{Entry}
use Rattle.chunk.specs.Header.{kind, size}
use Rattle.health_places.specs.Packets.{packet_places, chunk_places}
use Rattle.health_places.proofs.Places.{no-packets, chunk-packets}
use Rattle.tally_recording.specs.Numbers.{sums, any_past}
use Rattle.tally_recording.specs.Tally.{packet_numbers}
use Rattle.tally_recording.proofs.Packets.{no-packets-counted}
use Rattle.tally_recording.proofs.chunks.chunk_packets.Goals as goal

-- the row is the chunk's
own : (e : Entry) (n : ℕ) → kind e.header ≡ 1 → n ≡ size e.header → packet_places (n / 32) (e.position.0 + 2) ≡ chunk_places e
own e n k s = ap (λ (m : ℕ). packet_places (m / 32) (e.position.0 + 2)) s ∙ sym (chunk-packets e k)

pub returns-then-kind_of-ne1 : goal.returns-then-kind_of-ne1
returns-then-kind_of-ne1 c =
    let a = c.args in
    sym (ap (λ (ps : List ℕ). sums a.packets (packet_numbers a.words.now ps)) (no-packets a.chunk (λ k. c.if-kind_of-ne1.true (c.kind_of.ensures ∙ k)))
    ∙ no-packets-counted a.words.now a.packets (search rules))

pub row_packets-requires-clause-from_value : goal.row_packets-requires-clause-from_value
row_packets-requires-clause-from_value c =
    let a = c.args in
    ap (λ (ps : List ℕ). any_past (sums a.packets (packet_numbers a.words.now ps))) (own a.chunk _ (sym c.kind_of.ensures ∙ c.if-kind_of-ne1.false) c.size_of.ensures)
    ∙ c.requires.chunk_value

pub returns : goal.returns
returns c =
    let a = c.args in
    c.row_packets.ensures
    ∙ ap (λ (ps : List ℕ). sums a.packets (packet_numbers a.words.now ps)) (own a.chunk _ (sym c.kind_of.ensures ∙ c.if-kind_of-ne1.false) c.size_of.ensures)
