-- What is said of the tally is the laws of its crate.
use Rattle.tally_laws.proofs.Kept.{numbers-come-back}
use Rattle.tally_laws.proofs.Run.{runs-are-sums, order-does-not-matter}
use Rattle.tally_laws.proofs.Accounts.{every-number-is-accounted-for}
use Rattle.tally_laws.proofs.Refusals.{seven-exactly, add-gives-added}
use Rattle.tally_laws.proofs.First.{first-is-itself}
use Rattle.promises.specs.Tally.{Tally}

pub tally : Tally
tally =
    record {
      sum = runs-are-sums;
      order = order-does-not-matter;
      accounts = every-number-is-accounted-for;
      seven = seven-exactly;
      agree = add-gives-added;
      first = first-is-itself;
      kept = numbers-come-back;
    }
