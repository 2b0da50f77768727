-- A loaded row more is a row more, and all of them, turned round, are the sums.
use Rattle.std.proofs.Common.{◌≡◌, ◌<◌, ◌/◌, min, refl, ap, ◌∙◌, length, List, [], ℕ, get_or, take, arith}
use Rattle.std.proofs.lemmas.List.{length-take}
use Rattle.parity_rows.specs.Parity.{xor_all, number, sums}
use Rattle.parity_rows.specs.ByRows.{pack, loaded, sums_of}
use Rattle.parity_rows.proofs.ByRows.{next-sums}
use Rattle.parity_rows.proofs.Loads.{turned, turned_more, loaded-four}
use Rattle.parity_rows.proofs.whole_rows.Goals as goal

pub loop-r-init : goal.loop-r-init
unfolding xor_all number pack
loop-r-init c = refl

pub loop-r-preserved : goal.loop-r-preserved
loop-r-preserved c =
    let d = c.args.«data».now in
    let rows = c.as_chunks.result.0.now in
    let r = c.loop-r.r in
    let few : r < min c.min.result (length rows) = rw (length-take c.min.result rows) at c.loop-r-test.true in
    let row = ap (λ (x : List (List ℕ)). loaded (get_or (take c.min.result x) r []) 0) c.as_chunks.ensures.front in
    ap turned c.add-s.ensures
    ∙ turned_more d (λ i. (c.type_inv.«data» i).fits) c.loop-r.s r
    (c.load.ensures ∙ row ∙ loaded-four d c.min.result (length d / 4) r (omega arith) (omega (arith, c.as_chunks.ensures.front_len)))
    ∙ next-sums d r (omega arith) c.loop-r.invariant refl refl

pub returns : goal.returns
returns c =
    let d = c.args.«data».now in
    let rows = c.as_chunks.result.0.now in
    let all : c.loop-r.r ≡ min (length d / 4) 64 = omega (arith, length-take c.min.result rows, c.as_chunks.ensures.front_len) in
    ap (λ (x : ℕ). sums c.loop-r.s.rows x) c.exchange.ensures ∙ c.loop-r.invariant ∙ ap (sums_of d) all
