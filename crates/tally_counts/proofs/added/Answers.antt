-- `tally_counts::added` meets its contract: the one recording's reply where it is refused; else by whether one of the thirty sums passes.
use Rattle.std.proofs.Common.{ap, ◌∙◌, rules}
use Rattle.base.specs.Refusal.{unspecified}
use Rattle.tally_recording.specs.Replies.{counted}
use Rattle.tally_counts.proofs.Answers.{added-length, added-past, added-sums}
use Rattle.tally_counts.proofs.added.Goals as goal

pub returns-then-one-ne0 : goal.returns-then-one-ne0
returns-then-one-ne0 c =
    let a = c.args in
    added-length a.sync a.recording.now a.tally _ c.of-one.ensures c.if-one-ne0.true

pub returns-in-Some : goal.returns-in-Some
returns-in-Some c =
    let a = c.args in
    added-sums a.sync a.recording.now a.tally _ c.of-one.ensures c.if-one-ne0.false (record { five = search rules; fifteen = search rules; four = search rules }) _ _
    c.numbers.ensures c.numbers-2.ensures c.in-Some.ensures.1 _ c.in-Some.ensures.0 _ c.from_numbers.ensures

pub returns-in-None : goal.returns-in-None
returns-in-None c =
    let a = c.args in
    ap (counted unspecified) c.empty.ensures
    ∙ added-past a.sync a.recording.now a.tally _ c.of-one.ensures c.if-one-ne0.false (record { five = search rules; fifteen = search rules; four = search rules }) _ _
    c.numbers.ensures c.numbers-2.ensures c.in-None.ensures
