-- The list's entries are told pair by pair (`Told`).
use Rattle.std.proofs.Common.{◌≡◌, ◌<◌, length, ap, ◌∙◌, inl, inr, rules, arith}
use Rattle.std.specs.Iterator.Adapters.{enumerate_source, enumerate_count, zip_first, zip_second}
use Rattle.chunk.proofs.Walking.{Turn, turn, turned}
use Rattle.chunk_compare.specs.Pairs.{pair_number}
use Rattle.chunk_compare.proofs.Pairing.{word_fits, none_told, room-left, pair-told, all_told, first_ended, second_ended, refused-untouched, accepted-fits, accepted-told}
use Rattle.chunk_compare.proofs.recordings.Goals as goal
use Rattle.chunk_compare.proofs.recordings.Goals.{In-Some}

-- the chunks of this turn
one_found : (c : In-Some) → Turn c.args.sync c.args.first.now (zip_first (enumerate_source c.loop-k.k-iterator)) c.in-Some.one c.in-Some.past_one (zip_first (enumerate_source c.next.new.self))
one_found c = turn _ _ _ _ c.loop-k.invariant.2 _ _ c.in-Some.ensures.steps.0.0

other_found : (c : In-Some) → Turn c.args.sync c.args.second.now (zip_second (enumerate_source c.loop-k.k-iterator)) c.in-Some.other c.in-Some.past_other (zip_second (enumerate_source c.next.new.self))
other_found c = turn _ _ _ _ c.loop-k.invariant.3 _ _ c.in-Some.ensures.steps.0.1

-- there is an entry for the pair
room : (c : In-Some) → c.in-Some.k < length c.loop-k.list
room c = rw c.in-Some.ensures.steps.1 (room-left _ _ _ _ _ _ _ _ c.loop-k.invariant.4 _ _ _ _ (one_found c).next (other_found c).next)

pub returns-then-reply-ne0-clause-list_after : goal.returns-then-reply-ne0-clause-list_after
returns-then-reply-ne0-clause-list_after c = refused-untouched _ _ _ _ _ c.look-reply.ensures c.if-reply-ne0.true

pub loop-k-init : goal.loop-k-init
loop-k-init c =
    let one : (zip_first (enumerate_source c.into_iter-k-iterator.result)).at.0 ≡ 0 = search rules in
    let other : (zip_second (enumerate_source c.into_iter-k-iterator.result)).at.0 ≡ 0 = search rules in
    let count : enumerate_count c.into_iter-k-iterator.result ≡ 0 = search rules in
    (search rules, tt, search rules, search rules, rw (one, other, count) (none_told _ _ _ _ (accepted-fits _ _ _ c.args.list.now _ c.look-reply.ensures c.if-reply-ne0.false)))

pub offset_bounds-first-one : goal.offset_bounds-first-one
offset_bounds-first-one c = let s = (one_found (goal.at.offset_bounds-first-one c).In-Some).next in record { fits = omega (arith, s.end, s.within, c.well_formed) }

pub slice_bounds-of_first-count : goal.slice_bounds-of_first-count
slice_bounds-of_first-count c = let s = (one_found (goal.at.slice_bounds-of_first-count c).In-Some).next in omega (arith, s.end)

pub slice_bounds-of_first-start : goal.slice_bounds-of_first-start
slice_bounds-of_first-start c = let s = (one_found (goal.at.slice_bounds-of_first-start c).In-Some).next in omega (arith, s.end, s.within)

pub slice_bounds-of_first-end : goal.slice_bounds-of_first-end
slice_bounds-of_first-end c = let s = (one_found (goal.at.slice_bounds-of_first-end c).In-Some).next in omega (arith, s.end, s.within)

pub offset_bounds-second-other : goal.offset_bounds-second-other
offset_bounds-second-other c = let s = (other_found (goal.at.offset_bounds-second-other c).In-Some).next in record { fits = omega (arith, s.end, s.within, c.well_formed) }

pub slice_bounds-of_second-count : goal.slice_bounds-of_second-count
slice_bounds-of_second-count c = let s = (other_found (goal.at.slice_bounds-of_second-count c).In-Some).next in omega (arith, s.end)

pub slice_bounds-of_second-start : goal.slice_bounds-of_second-start
slice_bounds-of_second-start c = let s = (other_found (goal.at.slice_bounds-of_second-start c).In-Some).next in omega (arith, s.end, s.within)

pub slice_bounds-of_second-end : goal.slice_bounds-of_second-end
slice_bounds-of_second-end c = let s = (other_found (goal.at.slice_bounds-of_second-end c).In-Some).next in omega (arith, s.end, s.within)

pub entry_of-requires : goal.entry_of-requires
entry_of-requires c = word_fits _ _ _ _ _ (one_found (goal.at.entry_of-requires c).In-Some).next _ _ c.chunks-pair.ensures

pub offset_bounds-list-k : goal.offset_bounds-list-k
offset_bounds-list-k c = let h = room (goal.at.offset_bounds-list-k c).In-Some in record { fits = omega (arith, h, c.loop-k.invariant.4.long, c.well_formed) }

pub bounds-list-k : goal.bounds-list-k
bounds-list-k c = room (goal.at.bounds-list-k c).In-Some

pub loop-k-preserved : goal.loop-k-preserved
loop-k-preserved c =
    let p = (goal.at.loop-k-preserved c).In-Some in
    let one = one_found p in
    let other = other_found p in
    let more = pair-told _ _ _ _ _ _ _ _ c.loop-k.invariant.4 _ _ _ _ one.next other.next _ (c.entry_of.ensures ∙ ap pair_number c.chunks-pair.ensures) in
    (search rules, tt, one.on, other.on, rw (one.past, other.past, c.in-Some.ensures.steps.1, c.in-Some.ensures.steps.2) more)

pub returns-clause-list_after : goal.returns-clause-list_after
returns-clause-list_after c =
    let i = c.loop-k.invariant in
    accepted-told _ _ _ _ _ c.look-reply.ensures c.if-reply-ne0.false _ (all_told _ _ _ _ _ _ _ _ i.4
    (elim c.in-None.ensures.steps.0 [ inl u ↦ first_ended _ _ _ _ _ (turned _ _ _ _ i.2 u.1) | inr u ↦ second_ended _ _ _ _ _ (turned _ _ _ _ i.3 u.1) ]))
