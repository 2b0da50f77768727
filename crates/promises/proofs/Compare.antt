-- What is said of the comparison is the laws of its crate.
use Rattle.chunk_compare_laws.proofs.Words.{words-are-true, words-exchanged, same-words-are-same}
use Rattle.chunk_compare_laws.proofs.Entries.{
  every-pair-is-told,
  entries-are-true,
  headers-come-first,
  neither-is-prefix,
  entries-say-answers,
  numbers-tell-answers,
}
use Rattle.chunk_compare_laws.proofs.Compared.{itself-is-same, compared-in-either-order, pairs-are-counted}
use Rattle.promises.specs.Compare.{Compare}

pub compare : Compare
compare =
    record {
      itself = itself-is-same;
      exchange = compared-in-either-order;
      counts = pairs-are-counted;
      every = every-pair-is-told;
      truth = entries-are-true;
      header = headers-come-first;
      no_prefix = neither-is-prefix;
      coded = entries-say-answers;
      numbered = numbers-tell-answers;
      words = words-are-true;
      either_order = words-exchanged;
      finer = same-words-are-same;
    }
