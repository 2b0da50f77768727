-- Demand 2 is the crates' own laws.
use Rattle.crc.proofs.Laws.{words-bytes}
use Rattle.chunk_laws.proofs.Skipped.{skipped-by-place}
use Rattle.chunk_laws.proofs.Listed.{places-are-the-list}
use Rattle.chunk_laws.proofs.Answers.{check-tells, search-tells}
use Rattle.chunk_laws.proofs.Written.{written-alone, written-in-rows}
use Rattle.chunk_outline.proofs.Longest.{runs-are-longest, only-runs}
use Rattle.parity_laws.proofs.SingleFlip.{written-is-sound, one-flip-is-repaired, arrived-hold}
use Rattle.parity_laws.proofs.Padded.{taken-as-padded}
use Rattle.exports.proofs.Bytes.{bytes-say-the-reply}
use Rattle.exports.proofs.Words.{words-say-the-answer}
use Rattle.health_laws.proofs.RoundTrip.{written-is-read, sound-is-written}
use Rattle.health_laws.proofs.Fields.{observation-is-read, checksums-are-read, upsets-are-read}
use Rattle.health_laws.proofs.Modes.{modes}
use Rattle.health_laws.proofs.Lasts.{found-is-last}
use Rattle.health_laws.proofs.Newest.{newest-is-shown, newest-comes-back, newer-exchanged, newer-without-epoch}
use Rattle.health_laws.proofs.Recordings.{last-in-science, none-in-science, last-in-health, none-in-health}
use Rattle.command_laws.proofs.ReadBack.{given_back, accepted-alike, judged-alike}
use Rattle.command_laws.proofs.WrittenAgain.{written-alike}
use Rattle.event_laws.proofs.Written.{events-come-back}
use Rattle.event_laws.proofs.Reread.{events-written-again}
use Rattle.event_laws.proofs.Ignored.{ignored-bytes-change-nothing}
use Rattle.event_laws.proofs.Times.{times-are-exact, event-in-agrees}
use Rattle.frame.proofs.Said.{pieces-said}
use Rattle.frame_laws.proofs.Written.{comes_back, observation-closes}
use Rattle.frame_laws.proofs.Local.{frames-local, stray-after-gap}
use Rattle.frame_laws.proofs.Place.{frames-by-place}
use Rattle.reel_laws.proofs.Fits.{written-is-accepted, recording-comes-back, accepted-is-written, old-index-is-refused}
use Rattle.promises.specs.Demand2.{Demand2}

pub demand-2 : Demand2
demand-2 =
    record {
      crc = words-bytes;
      skipped = skipped-by-place;
      places = places-are-the-list;
      check = check-tells;
      search = search-tells;
      chunk = written-alone;
      chunks = written-in-rows;
      runs = runs-are-longest;
      only_runs = only-runs;
      unit = written-is-sound;
      flip = one-flip-is-repaired;
      padded = taken-as-padded;
      in_bytes = bytes-say-the-reply;
      in_words = words-say-the-answer;
      packet = written-is-read;
      packets = sound-is-written;
      observation = observation-is-read;
      checksums = checksums-are-read;
      upsets = upsets-are-read;
      modes = modes;
      found = found-is-last;
      last_in_science = last-in-science;
      none_in_science = none-in-science;
      last_in_health = last-in-health;
      none_in_health = none-in-health;
      newest = newest-is-shown;
      newest_written = newest-comes-back;
      exchanged = newer-exchanged;
      without_epoch = newer-without-epoch;
      command = given_back;
      accepted = accepted-alike;
      judged = judged-alike;
      rewritten = written-alike;
      events = events-come-back;
      events_again = events-written-again;
      ignored = ignored-bytes-change-nothing;
      times = times-are-exact;
      event_in = event-in-agrees;
      frame = comes_back;
      arrived = arrived-hold;
      closing = observation-closes;
      local = frames-local;
      stray = stray-after-gap;
      pieces = pieces-said;
      by_place = frames-by-place;
      reel = written-is-accepted;
      recording = recording-comes-back;
      reels = accepted-is-written;
      index = old-index-is-refused;
    }
