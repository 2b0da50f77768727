-- FORMAT, "The three demands", the second: each call does what the rules say, the readers give back what the writers write, and one flipped bit anywhere
-- in a written unit is found and put right. That each call does what its definition says is the tie of `Demand1`. Here stands what the definitions amount
-- to, of what the calls reply and leave in the room.
use Rattle.std.specs.Prelude.{ℕ, ◌≡◌, List}
use Rattle.crc.specs.Crc.{crc_words, crc_bytes, bytes_of}
use Rattle.chunk_laws.specs.Outside.{SkippedByPlace}
use Rattle.chunk_laws.specs.Listed.{PlacesAreTheList}
use Rattle.chunk_laws.specs.Answers.{CheckTells, SearchTells}
use Rattle.chunk_laws.specs.Written.{WrittenAlone, WrittenInRows}
use Rattle.chunk_outline.specs.Runs.{RunsAreLongest, OnlyRuns}
use Rattle.parity_laws.specs.Units as units
use Rattle.parity_laws.specs.Padded.{TakenAsPadded}
use Rattle.exports.specs.Reply.{BytesSayTheReply}
use Rattle.exports.specs.Answer.{WordsSayTheAnswer}
use Rattle.health_laws.specs.Written.{WrittenIsRead, SoundIsWritten}
use Rattle.health_laws.specs.Fields.{ObservationIsRead, ChecksumsAreRead, UpsetsAreRead}
use Rattle.health_laws.specs.Modes.{Modes}
use Rattle.health_laws.specs.Last.{FoundIsLast}
use Rattle.health_laws.specs.Newest.{NewestIsShown, NewestComesBack, NewerExchanged, NewerWithoutEpoch}
use Rattle.health_laws.specs.Recordings.{LastInScience, NoneInScience, LastInHealth, NoneInHealth}
use Rattle.command_laws.specs.Agree.{GivenBack, AcceptedAlike, JudgedAlike, WrittenAlike}
use Rattle.event_laws.specs.Written.{EventsComeBack}
use Rattle.event_laws.specs.Reread.{EventsWrittenAgain}
use Rattle.event_laws.specs.Ignored.{IgnoredBytesChangeNothing}
use Rattle.event_laws.specs.Times.{TimesAreExact, EventInAgrees}
use Rattle.frame.specs.Said.{PiecesSaid}
use Rattle.frame_laws.specs.Written.{FramesComeBack, ObservationCloses}
use Rattle.frame_laws.specs.Local.{FramesLocal, StrayAfterGap}
use Rattle.frame_laws.specs.Place.{FramesByPlace}
use Rattle.reel_laws.specs.Fits.{WrittenIsAccepted, RecordingComesBack, AcceptedIsWritten, OldIndexIsRefused}

pub record Demand2 : Type 0 where
  -- ---- the CRC

  -- over bytes it is the same rule: words have the CRC of their bytes, the high byte of each first
  pub crc : (r : ℕ) (m : List ℕ) → crc_words r m ≡ crc_bytes r (bytes_of m)
  -- ---- chunks

  -- the skipped words are those in no listed chunk, by place, and with the words of the listed chunks they are all
  pub skipped : SkippedByPlace
  -- a chunk is listed exactly where the list has an entry, and the calls for a place answer what the entry says
  pub places : PlacesAreTheList
  -- the header check answers by the words at the place and at the chunk's end; the search finds the first chunk that is listed from the place on
  pub check : CheckTells
  pub search : SearchTells
  -- what the writer left is given back by the survey, the calls for a place and the register: a chunk alone, and rows of any length
  pub chunk : WrittenAlone
  pub chunks : WrittenInRows
  -- the runs are the longest rows of adjacent chunks of one kind, and no other rows are
  pub runs : RunsAreLongest
  pub only_runs : OnlyRuns
  -- ---- parity units

  -- a written unit is sound; one bit of it flipped, in the parity or in the data, is named, and the data come back right
  pub unit : units.WrittenIsSound
  pub flip : units.OneFlipIsRepaired
  -- the calls, which make no copy, answer and write what a copy padded with zeros to 256 words would give, and repair nothing in the padding
  pub padded : TakenAsPadded
  -- the number that C code is answered says the reply, byte by byte, but for k
  pub in_bytes : BytesSayTheReply
  -- and the answer of every other call for C code says its parts, word by word, and a command's fields as one number are given back
  pub in_words : WordsSayTheAnswer
  -- ---- health packets

  -- a written packet is read with its type, time and words; a packet that is accepted is the very one that is written for them
  pub packet : WrittenIsRead
  pub packets : SoundIsWritten
  -- and its field reader gives back the fields that its words say
  pub observation : ObservationIsRead
  pub checksums : ChecksumsAreRead
  pub upsets : UpsetsAreRead
  -- the mode of an observation is the one that its byte means, by number and values
  pub modes : Modes
  -- what is found is the last sound packet of the type: in all words, and in a recording made of written packets, with the mark of its chunk
  pub found : FoundIsLast
  pub last_in_science : LastInScience
  pub none_in_science : NoneInScience
  pub last_in_health : LastInHealth
  pub none_in_health : NoneInHealth
  -- of the last packets of two recordings the newer is shown, never a stale one, and it comes back as it was written, with the mark of its chunk; two
  -- times exchanged exchange the answer, and where the counter stood does not matter
  pub newest : NewestIsShown
  pub newest_written : NewestComesBack
  pub exchanged : NewerExchanged
  pub without_epoch : NewerWithoutEpoch
  -- ---- commands

  -- a written command is read with every field and byte
  pub command : GivenBack
  -- the writer accepts exactly what the reader accepts, gives the reader's numbers, and writes again what the reader read
  pub accepted : AcceptedAlike
  pub judged : JudgedAlike
  pub rewritten : WrittenAlike
  -- ---- event packets

  -- a written packet is read: its head, each used slot with its time, and nothing for the others
  pub events : EventsComeBack
  -- an accepted packet, written again from what is read of it, answers the same, and has the same bytes at every place that is looked at, the
  -- CRC aside
  pub events_again : EventsWrittenAgain
  -- what stands in bytes that are not looked at, or in slots that are not used, changes no answer, nor the number of a refusal
  pub ignored : IgnoredBytesChangeNothing
  -- the slots below the count are used; the time of one is its whole number of sixteenths divided by 16, and nothing is rounded
  pub times : TimesAreExact
  -- and a step through a packet that was accepted tells what its reader tells
  pub event_in : EventInAgrees
  -- ---- frames

  -- a frame that accepted calls wrote comes back, also with one bit flipped in each of its units
  pub frame : FramesComeBack
  pub arrived : units.ArrivedHold
  -- and a written observation packet is what closes it
  pub closing : ObservationCloses
  -- a frame is a matter of its own words alone, but for the mark of its last chunk, and a continuation after a skipped word joins nothing and is stray
  pub local : FramesLocal
  pub stray : StrayAfterGap
  -- going through a recording tells its frames and strays, each as what it is, and no others
  pub pieces : PiecesSaid
  -- a frame that is read from its own first word on is the frame at its place
  pub by_place : FramesByPlace
  -- ---- reels

  -- a written reel is accepted, and the recording's own words come back from it
  pub reel : WrittenIsAccepted
  pub recording : RecordingComesBack
  -- an accepted reel is the very one that is written for its recording
  pub reels : AcceptedIsWritten
  -- an old index behind a new recording is refused
  pub index : OldIndexIsRefused
