-- By the test of the length, and then by what the five cases find.
use Rattle.std.proofs.Common.{ap, ◌∙◌, inl, inr, arith}
use Rattle.base_room.proofs.RoomLaws.{to_end}
use Rattle.parity_rows.specs.Parity.{parities}
use Rattle.parity.proofs.Judging.{wrong-length, judged-by}
use Rattle.parity.proofs.judge_unit.Goals as goal
use Rattle.parity.proofs.judge_unit.Goals.{then-n-via-then-n, then-n-via-else-n+then-n-2}

pub returns-then-n : goal.returns-then-n
returns-then-n c =
    c.refused.ensures ∙ wrong-length c.args.unit.now (elim c.then-n.branch [
      | then-n-via-then-n w ↦ inl (omega arith)
      | then-n-via-else-n+then-n-2 w ↦ inr (omega arith)
    ])

pub returns : goal.returns
returns c =
    let u = c.args.unit.now in
    judged-by u _ _ _ (omega arith) (omega arith) c.stated-stated.ensures (c.parity-found.ensures ∙ ap parities (to_end 8 u)) c.five_cases.ensures
