-- Document 02, request 4: two recordings with one sync word, compared chunk by chunk. That the call answers as its definition says, refusals too, is
-- `Demand1`. Here stands what the definition amounts to, of what the call replies and leaves in the lent list.
use Rattle.chunk_compare_laws.specs.Words.{WordsAreTrue, WordsExchanged, SameWordsAreSame}
use Rattle.chunk_compare_laws.specs.Entries.{EveryPairIsTold, EntriesAreTrue, HeadersComeFirst, NeitherIsPrefix, EntriesSayAnswers, NumbersTellAnswers}
use Rattle.chunk_compare_laws.specs.Compared.{ItselfIsSame, ComparedInEitherOrder, PairsAreCounted}

pub record Compare : Type 0 where
  -- a recording against itself gives only "same", in as many entries as it has chunks, and nothing is left over
  pub itself : ItselfIsSame
  -- the other order gives the same list and the same reply, refusals too, but that the two numbers of chunks left over change places
  pub exchange : ComparedInEitherOrder
  -- with the chunks left over the pairs are all chunks of each side, as its survey counts them, and one side has none left over
  pub counts : PairsAreCounted
  -- there is a pair for each entry that is written, and no other
  pub every : EveryPairIsTold
  -- an entry is 0 exactly where the words of its two chunks are equal, and n exactly where they part at word n
  pub truth : EntriesAreTrue
  -- different header words give 1, equal ones equal lengths; so a difference lies inside both chunks, and none is a prefix of the other
  pub header : HeadersComeFirst
  pub no_prefix : NeitherIsPrefix
  -- the entries say the answers again, and no two answers of listed chunks have one number
  pub coded : EntriesSayAnswers
  pub numbered : NumbersTellAnswers
  -- of any two rows of words: what is answered is true, in either order the same, and finer than the comparison of a reel
  pub words : WordsAreTrue
  pub either_order : WordsExchanged
  pub finer : SameWordsAreSame
