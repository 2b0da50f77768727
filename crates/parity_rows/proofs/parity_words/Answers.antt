-- The words of the sums are the parity words.
use Rattle.parity_rows.proofs.ByRows.{words-of-sums}
use Rattle.parity_rows.proofs.parity_words.Goals as goal

pub returns : goal.returns
returns c = words-of-sums _ c.parity-sums.ensures c.words_of.ensures c.words_of-2.ensures
