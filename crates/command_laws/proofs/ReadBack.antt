-- A command as the layout has it, read: the header and the CRC are right, the fields and the further bytes are those laid out. So the reader
-- judges it as the writer judges the fields, and gives back what was written.
use mathlib.Core.Path.{◌≡◌, refl, sym, ap, ap₂, ◌∙◌}
use mathlib.Core.Bool.{Bool, true, false, cond, not, ◌||◌, or-false, or-true, true≢false}
use mathlib.Core.List.{List, [], ◌∷◌, ◌++◌}
use Prim.Native.Nat.{ℕ, ◌+◌, ◌-◌, ◌%◌, ◌<◌, ◌≤◌}
use native.Mathlib.Omega.{arith}
use lib.Dec.{ltb}
use lib.ListN.{length, get_or, take}
use lib.Seq.{take_at}
use borrow.Author.Tests.{lt-ltb, le-ltb, ltb-true}
use Rattle.base.specs.Refusal.{Causes, verdict, answer, wrong_argument, wrong_header, wrong_crc, no_room}
use Rattle.base.proofs.Refused.{spared, verdict-front, verdict-then, answer-yes}
use Rattle.crc.specs.Crc.{crc_start, crc_bytes}
use Rattle.space_packet.specs.Layout.{word, bytes_of, laid, read_off}
use Rattle.space_packet.specs.Header.{length_field, header_wrong, crc_wrong}
use Rattle.space_packet.proofs.Headers as packet
use Rattle.space_packet.proofs.Laid.{read-laid}
use Rattle.space_packet.proofs.Headers.{sealed-length, crc-sound}
use Rattle.space_packet.proofs.Replies.{packet-left}
use Rattle.command.specs.declared.Fields.{Fields}
use Rattle.command.specs.Layout.{widths, packet_id, head_of, body_bytes, command_bytes, fields_in, further_in}
use Rattle.command_catalogue.specs.Rules.{asked_wrong}
use Rattle.command.specs.Asking.{first_causes, last_causes}
use Rattle.command_reading.specs.Reading.{read_causes, command, given, read_reply, further_reply}
use Rattle.command_writing.specs.Writing.{count_wrong, ask_causes, write_causes, write_reply, write_room}
use Rattle.command_reading.proofs.Replies as reading
use Rattle.command_writing.proofs.Replies as writing
use Rattle.command_writing.proofs.Replies.{command-fits}
use Rattle.command_laws.specs.Agree.{written, AcceptedAlike, JudgedAlike, GivenBack}

-- what a head says, as the reader has it
abbrev fields_of : List ℕ → Fields
fields_of hs =
    record { sequence = get_or hs 1 0 % 16384; command_type = get_or hs 3 0; qualifier = get_or hs 4 0; address = get_or hs 5 0; «data» = get_or hs 6 0 }

module _ (f : Fields) where
  -- the head, read off
  head-read-off : (total : ℕ) (rest : List ℕ) → read_off widths (laid widths (head_of total f) ++ rest) 0 ≡ head_of total f
  head-read-off total rest = read-laid widths (head_of total f) [] rest refl

  module _ (xs : List ℕ) where
    abbrev crc : ℕ
    crc = crc_bytes crc_start (body_bytes f xs)

    pub command-length : length (command_bytes f xs) ≡ 14 + length xs
    unfolding command_bytes
    command-length = omega (arith, sealed-length (body_bytes f xs))

    -- number i of the head
    stands : (i : ℕ) → get_or (read_off widths (command_bytes f xs) 0) i 0 ≡ get_or (head_of (14 + length xs) f) i 0
    unfolding command_bytes
    stands i = ap (λ (hs : List ℕ). get_or hs i 0) (head-read-off (14 + length xs) (xs ++ bytes_of word crc))

    pub header-tests-count : header_wrong packet_id (command_bytes f xs) ≡ count_wrong f
    header-tests-count =
        packet.header-tests-count packet_id (command_bytes f xs) f.sequence (omega (arith, command-length)) (stands 0) (stands 1)
        (stands 2 ∙ ap length_field (sym command-length))

    pub crc-is-right : crc_wrong (command_bytes f xs) ≡ false
    unfolding command_bytes
    crc-is-right = crc-sound (body_bytes f xs)

    pub fields-read-off : f.sequence < 16384 → fields_in (command_bytes f xs) ≡ f
    unfolding command_bytes
    fields-read-off h =
        let s : (49152 + f.sequence) % 16384 ≡ f.sequence = omega arith in
        ap fields_of (head-read-off (14 + length xs) (xs ++ bytes_of word crc))
        ∙ ap (λ (n : ℕ). record { sequence = n; command_type = f.command_type; qualifier = f.qualifier; address = f.address; «data» = f.«data» }) s

    pub further-read-off : further_in (command_bytes f xs) ≡ xs
    unfolding command_bytes
    further-read-off =
        ap (λ (n : ℕ). take (n - 14) (xs ++ bytes_of word crc)) command-length ∙ take_at xs (bytes_of word crc) (14 + length xs - 14) (omega arith)

-- ---- the verdicts

-- the reader's causes, for a total, fields and further bytes that are known
abbrev seen_causes : ℕ → ℕ → ℕ → Bool → Bool → Fields → List ℕ → Causes
seen_causes c m n h x f xs = first_causes (asked_wrong c m) c n ++ (wrong_header, h) ∷ (wrong_crc, x) ∷ last_causes c m f xs

abbrev seen : ℕ → ℕ → ℕ → Bool → Bool → Fields → List ℕ → ℕ
seen c m n h x f xs = verdict (seen_causes c m n h x f xs)

module _ (c m : ℕ) (f : Fields) (xs : List ℕ) where
  -- as the layout has them
  laid-out-causes : verdict (read_causes c m (command_bytes f xs)) ≡ seen c m (14 + length xs) (count_wrong f) false (fields_in (command_bytes f xs)) xs
  laid-out-causes =
      ap (λ (n : ℕ). seen c m n (header_wrong packet_id (command_bytes f xs)) (crc_wrong (command_bytes f xs)) (fields_in (command_bytes f xs)) (further_in (command_bytes f xs)))
      (command-length f xs)
      ∙ ap (λ (b : Bool). seen c m (14 + length xs) b (crc_wrong (command_bytes f xs)) (fields_in (command_bytes f xs)) (further_in (command_bytes f xs))) (header-tests-count f xs)
      ∙ ap (λ (b : Bool). seen c m (14 + length xs) (count_wrong f) b (fields_in (command_bytes f xs)) (further_in (command_bytes f xs))) (crc-is-right f xs)
      ∙ ap (seen c m (14 + length xs) (count_wrong f) false (fields_in (command_bytes f xs))) (further-read-off f xs)

  -- the count fits
  module _ (h : f.sequence < 16384) where
    count_fits : count_wrong f ≡ false
    count_fits = ap not (lt-ltb f.sequence 16384 h)

    pub same-verdict : verdict (read_causes c m (command_bytes f xs)) ≡ verdict (ask_causes c m f xs)
    same-verdict =
        laid-out-causes
        ∙ ap (λ (g : Fields). seen c m (14 + length xs) (count_wrong f) false g xs) (fields-read-off f xs h)
        ∙ ap (λ (b : Bool). seen c m (14 + length xs) b false f xs) count_fits
        ∙ ap (λ (b : Bool). verdict (first_causes b c (14 + length xs) ++ last_causes c m f xs))
        (sym (or-false (asked_wrong c m)) ∙ ap (λ (b : Bool). asked_wrong c m || b) (sym count_fits))

  -- it does not: the reader refuses the header
  read-refused : count_wrong f ≡ true → verdict (read_causes c m (command_bytes f xs)) ≡ 0 → ⊥
  read-refused h z =
      true≢false (sym h ∙ (spared (seen_causes c m (14 + length xs) (count_wrong f) false (fields_in (command_bytes f xs)) xs) refl (sym laid-out-causes ∙ z)).1.1.0)

-- ---- the numbers that the two reply

read_number : (c m : ℕ) (bs : List ℕ) → (read_reply c m bs).refusal ≡ verdict (read_causes c m bs)
read_number c m bs = reading.reply-number c m bs refl

module _ (c m : ℕ) (f : Fields) (xs room : List ℕ) where
  write-number : (write_reply c m f xs (length room)).refusal ≡ answer (verdict (ask_causes c m f xs)) (λ v. v) (cond (ltb (length room) (14 + length xs)) no_room 0)
  write-number = writing.reply-number c m f xs room refl ∙ verdict-then (ask_causes c m f xs) no_room (ltb (length room) (14 + length xs)) refl

  pub writer-accepts : verdict (ask_causes c m f xs) ≡ 0 → 14 + length xs ≤ length room → (write_reply c m f xs (length room)).refusal ≡ 0
  writer-accepts z fit = write-number ∙ answer-yes _ _ _ z ∙ ap (λ (b : Bool). cond b no_room 0) (le-ltb (length room) (14 + length xs) fit)

  count-refused : count_wrong f ≡ true → (write_reply c m f xs (length room)).refusal ≡ wrong_argument
  count-refused h =
      writing.reply-number c m f xs room refl
      ∙ ap (λ (b : Bool). verdict (first_causes b c (14 + length xs) ++ last_causes c m f xs ++ (no_room, ltb (length room) (14 + length xs)) ∷ []))
      (ap (λ (b : Bool). asked_wrong c m || b) h ∙ or-true (asked_wrong c m))

pub judged-alike : JudgedAlike
judged-alike c m f xs room = (
  λ h. count-refused c m f xs room (ap not (le-ltb f.sequence 16384 h)),
  λ h. write-number c m f xs room ∙ ap (λ (v : ℕ). answer v (λ x. x) (cond (ltb (length room) (14 + length xs)) no_room 0)) (sym (read_number c m (command_bytes f xs) ∙ same-verdict c m f xs h)),
)

-- ---- the round trip

module _ (c m : ℕ) (f : Fields) (xs room : List ℕ) (z : (write_reply c m f xs (length room)).refusal ≡ 0) where
  asked-rightly : verdict (ask_causes c m f xs) ≡ 0
  asked-rightly = verdict-front (ask_causes c m f xs) ((no_room, ltb (length room) (14 + length xs)) ∷ []) (sym (writing.reply-number c m f xs room refl) ∙ z)

  command-fit : (f.sequence < 16384) × (14 + length xs ≤ 227) × (14 + length xs ≤ length room)
  command-fit = command-fits c m f xs room refl z

  -- what stands in the room
  pub written-is-command : written c m f xs room ≡ command_bytes f xs
  unfolding write_reply write_room
  written-is-command =
      packet-left (verdict (write_causes c m f xs (length room))) (14 + length xs) (command_bytes f xs) room (command-length f xs) command-fit.2
      (sym (writing.reply-number c m f xs room refl) ∙ z)

  reader-accepts : verdict (read_causes c m (command_bytes f xs)) ≡ 0
  reader-accepts = same-verdict c m f xs command-fit.0 ∙ asked-rightly

  read_back : read_reply c m (command_bytes f xs) ≡ command 0 f (length xs)
  unfolding read_reply given
  read_back =
      let n : length (command_bytes f xs) - 14 ≡ length xs = omega (arith, command-length f xs) in
      answer-yes _ _ _ reader-accepts ∙ ap₂ (command 0) (fields-read-off f xs command-fit.0) n

  further-back : further_reply c m (command_bytes f xs) ≡ xs
  unfolding further_reply
  further-back = answer-yes _ _ _ reader-accepts ∙ further-read-off f xs

pub given_back : GivenBack
given_back c m f xs room z =
    (ap (read_reply c m) (written-is-command c m f xs room z) ∙ read_back c m f xs room z, ap (further_reply c m) (written-is-command c m f xs room z) ∙ further-back c m f xs room z)

pub accepted-alike : AcceptedAlike
accepted-alike c m f xs room fit = (λ z. read_number c m (command_bytes f xs) ∙ reader-accepts c m f xs room z, λ z. back (ltb f.sequence 16384) refl (sym (read_number c m (command_bytes f xs)) ∙ z))
  where
    back : (b : Bool) → ltb f.sequence 16384 ≡ b → verdict (read_causes c m (command_bytes f xs)) ≡ 0 → (write_reply c m f xs (length room)).refusal ≡ 0
    back true e z = writer-accepts c m f xs room (sym (same-verdict c m f xs (ltb-true f.sequence 16384 e)) ∙ z) fit
    back false e z = absurd (read-refused c m f xs (ap not e) z)
