-- A chunk at the next sync word is the one that the search finds from the start.
use Rattle.std.proofs.Common.{sym, ◌∙◌}
use Rattle.chunk.proofs.Synced.{chunk_found}
use Rattle.chunk.proofs.search.next.Goals as goal

pub returns-then-is_chunk : goal.returns-then-is_chunk
returns-then-is_chunk c =
    let a = c.args in
    chunk_found a.sync a.words.now c.loop-at.place.0 c.in-Some.at.0 c.in-Some.ensures c.check_synced-here.result c.check_synced-here.ensures
    c.is_at_end.result c.size_of.result.0 (sym c.is_chunk.ensures ∙ c.if-is_chunk.true) c.is_at_end.ensures c.size_of.ensures
    ∙ c.loop-at.invariant
