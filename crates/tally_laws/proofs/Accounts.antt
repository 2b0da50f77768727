-- Each number of a recording's tally is accounted for: the counts by number add up (`all-counted`), a header word is counted under one number, and what
-- it is counted under says whether the chunk starts a frame or continues one.
use mathlib.Core.Path.{◌≡◌, refl, sym, ap, ◌∙◌}
use mathlib.Core.Bool.{Bool, true, false, cond, not, ◌&&◌}
use mathlib.Core.List.{List, [], ◌∷◌}
use Prim.Native.Nat.{ℕ, zero, suc, ◌+◌, ◌≤◌, ◌<◌}
use native.Mathlib.Omega.{arith}
use lib.ListN.{length}
use lib.Dec.{leb, eqb}
use borrow.Author.Tests.{le-ltb}
use Rattle.base.specs.Limit.{recording_limit}
use Rattle.base.specs.Refusal.{verdict}
use Rattle.base.proofs.Refused.{answer-yes}
use Rattle.chunk.specs.declared.Entry.{Entry}
use Rattle.chunk.specs.Header.{kind, camera}
use Rattle.chunk.specs.Reading.{reading}
use Rattle.chunk.proofs.Accounting.{accounted}
use Rattle.chunk_reading.specs.declared.Survey.{Survey}
use Rattle.chunk_reading.specs.Counting.{survey_causes, refused, survey_of, survey_reply}
use Rattle.health.specs.Packet.{packet_at, type_of_packet, sound_packet}
use Rattle.health_places.specs.Packets.{sound_of, science_places}
use Rattle.frame.specs.Shape.{starts, complete}
use Rattle.frame.specs.Pieces.{pieces_of}
use Rattle.tally_recording.specs.Numbers.{how_often, each}
use Rattle.tally_recording.specs.Tally.{sort, chunk_numbers, packet_numbers, is_complete, is_cut, tally_of}
use Rattle.tally_recording.proofs.Gathering.{sort-few}
use Rattle.tally_laws.specs.Accounts.{total, image_units, EveryNumberIsAccountedFor}
use Rattle.tally_laws.proofs.Counting.{one, all-counted, none-twice, often-same, often-either}
use Rattle.tally_laws.proofs.Joined.{begins, carries, starts-kept, continuations-told}
use Rattle.tally_laws.proofs.Units.{units-counted, units-found}

-- ---- chunks

-- the chunks counted under s
abbrev sorted : ℕ → Entry → Bool
sorted s e = eqb (sort e.header) s

chunks-counted : (es : List Entry) → total (chunk_numbers es) ≡ length es
unfolding chunk_numbers
chunks-counted es = all-counted 0 5 (λ (e : Entry). sort e.header) (λ e. (omega arith, omega (arith, sort-few e.header))) es

-- ---- frames

-- a chunk that starts a frame is counted under its camera, which is 1 to 3
starts-sorted : (h : ℕ) → one (eqb (sort h) 1) + one (eqb (sort h) 2) + one (eqb (sort h) 3) ≡ one (starts h)
starts-sorted h = by_kind (eqb (kind h) 0) (camera h) (omega arith)
  where
    by_kind : (b : Bool) (c : ℕ) → c < 4 → one (eqb (cond b c 4) 1) + one (eqb (cond b c 4) 2) + one (eqb (cond b c 4) 3) ≡ one (b && leb 1 c)
    by_kind false c l = refl
    by_kind true zero l = refl
    by_kind true (suc zero) l = refl
    by_kind true (suc (suc zero)) l = refl
    by_kind true (suc (suc (suc zero))) l = refl
    by_kind true (suc (suc (suc (suc c)))) l = absurd (omega arith)

starts-counted : (es : List Entry) → how_often (sorted 1) es + how_often (sorted 2) es + how_often (sorted 3) es ≡ how_often begins es
unfolding how_often
starts-counted [] = refl
starts-counted (e ∷ es) = omega (arith, starts-sorted e.header, starts-counted es)

complete-or-cut : (sync : ℕ) (ws : List ℕ) (es : List Entry) → how_often (is_complete sync ws) es + how_often (is_cut sync ws) es ≡ how_often begins es
complete-or-cut sync ws = often-either (is_complete sync ws) (is_cut sync ws) begins (λ e. either (begins e) (complete sync _))
  where
    either : (s c : Bool) → one (s && c) + one (s && not c) ≡ one s
    either true true = refl
    either true false = refl
    either false c = refl

-- ---- continuations

carries-sorted : (e : Entry) → carries e ≡ sorted 0 e
carries-sorted e = by_kind (eqb (kind e.header) 0)
  where
    by_kind : (b : Bool) → b && eqb (camera e.header) 0 ≡ eqb (cond b (camera e.header) 4) 0
    by_kind true = refl
    by_kind false = refl

-- ---- packets

packets-counted : (ws places : List ℕ) → total (packet_numbers ws places) ≤ length places
unfolding packet_numbers sound_of
packets-counted ws places = none-twice 1 15 (λ p. type_of_packet (packet_at ws p)) (λ p. sound_packet (packet_at ws p)) places

-- ---- all of them

module _ (sync : ℕ) (ws : List ℕ) where
  survey-given : length ws ≤ recording_limit → survey_reply sync ws ≡ survey_of sync ws
  survey-given l = answer-yes (verdict (survey_causes ws)) refused (survey_of sync ws) (rw (le-ltb recording_limit (length ws) l))

pub every-number-is-accounted-for : EveryNumberIsAccountedFor
unfolding tally_of chunk_numbers each
every-number-is-accounted-for sync ws = record {
  words = omega (arith, accounted sync ws);
  chunks = chunks-counted (reading sync ws);
  surveyed = λ l. (
    ap (λ (s : Survey). s.chunks) (survey-given sync ws l) ∙ sym (chunks-counted (reading sync ws)),
    ap (λ (s : Survey). s.skipped.0) (survey-given sync ws l),
  );
  frames =
      complete-or-cut sync ws (pieces_of sync ws) ∙ starts-kept 0 false (reading sync ws) ∙ sym (starts-counted (reading sync ws));
  continuations = continuations-told sync ws ∙ often-same carries (sorted 0) carries-sorted (reading sync ws);
  units = units-counted (image_units sync ws);
  by_finding = units-found sync ws;
  packets = packets-counted ws (science_places sync ws);
}
