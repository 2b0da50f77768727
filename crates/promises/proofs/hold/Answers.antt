-- Each statement has its proof in the file of its name.
use Rattle.promises.proofs.Examples.{examples}
use Rattle.promises.proofs.Demand2.{demand-2}
use Rattle.promises.proofs.Demand3.{demand-3}
use Rattle.promises.proofs.Ends.{ends}
use Rattle.promises.proofs.Compare.{compare}
use Rattle.promises.proofs.Tally.{tally}
use Rattle.promises.proofs.hold.Goals as goal

pub returns : goal.returns
returns c = record { examples = examples; demand_2 = demand-2; demand_3 = demand-3; ends = ends; compare = compare; tally = tally }
