-- The digits that `io::decimal` gives are those of `decimal`.
use Rattle.std.proofs.Common.{ap, ◌∙◌}
use Rattle.program_output.specs.Output.{append_reply}
use Rattle.program_output.proofs.Spelling.{spelled}
use Rattle.program_output.proofs.Out.append_number.Goals as goal

pub returns : goal.returns
returns c =
    c.append.ensures
    ∙ ap (append_reply c.args.self.now)
    (c.decimal-count.ensures.digits ∙ spelled c.args.n _ c.ranges.n.fits c.decimal-count.ensures.len)
