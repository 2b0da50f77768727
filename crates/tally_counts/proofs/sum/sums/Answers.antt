-- `tally_counts::sum::sums` meets its contract: what is added so far and what is left to add have the sums that the two rows have, and the first sum that
-- passes the largest number ends the loop.
use Rattle.std.proofs.Common.{◌≡◌, ◌+◌, ℕ, length, get_or, set, sym, ap, ◌∙◌, arith, rules}
use Rattle.tally_recording.specs.Numbers.{sums}
use Rattle.tally_counts.proofs.Summing.{from, all-added, passes, passes-nowhere, rest-more, later-more}
use Rattle.tally_counts.proofs.sum.sums.Goals as goal

pub returns-in_err-all : goal.returns-in_err-all
returns-in_err-all c =
    let v = c.loop-place.invariant in
    let a = c.args in
    rw c.from_residual.ensures
    (passes a.old a.new c.loop-place.all c.loop-place.place (search rules) (search rules) (search rules) v.rest v.later (omega arith))

pub loop-place-preserved : goal.loop-place-preserved
loop-place-preserved c =
    let v = c.loop-place.invariant in
    let a = c.args in
    let all = c.loop-place.all in
    let i = c.loop-place.place in
    let sum : c.in_ok-all.field-0 ≡ get_or all i 0 + get_or a.new i 0 = search rules in
    record {
      size = search rules;
      rest = ap (λ (n : ℕ). sums (set all i n) (from (i + 1) a.new)) sum ∙ rest-more a.old a.new all i (search rules) (search rules) (search rules) v.rest;
      later = later-more a.old a.new all i (search rules) (search rules) (search rules) v.rest v.later (omega arith);
    }

pub returns : goal.returns
returns c =
    let v = c.loop-place.invariant in
    let a = c.args in
    let all = c.loop-place.all in
    let over : length all ≡ c.loop-place.place = omega arith in (
      sym (all-added all a.new (search rules)) ∙ ap (λ (m : ℕ). sums all (from m a.new)) over ∙ v.rest,
      sym v.later ∙ passes-nowhere a.old a.new c.loop-place.place (search rules),
    )
