-- Bytes that the reader accepts are the layout of what it reads off: head, further bytes and CRC, one after the other.
use mathlib.Core.Path.{◌≡◌, refl, sym, ap, ap₂, ◌∙◌}
use mathlib.Core.List.{List, ◌++◌}
use Prim.Native.Nat.{ℕ, ◌+◌, ◌-◌, ◌/◌, ◌%◌, ◌≤◌}
use native.Mathlib.Nat.{mod-lt}
use native.Mathlib.Omega.{arith}
use lib.Dec.{lit<}
use lib.ListN.{length, take, drop, take-append-drop, length-drop}
use lib.Seq.{drop-drop, take_at, length-take-le}
use Rattle.base.specs.Refusal.{verdict}
use Rattle.base.proofs.Refused.{Spared, spared, verdict-front, answer-yes}
use Rattle.space_packet.specs.Layout.{AreBytes, laid, read_off}
use Rattle.space_packet.specs.Header.{sealed}
use Rattle.space_packet.proofs.Laid.{laid-again}
use Rattle.space_packet.proofs.Headers.{header-right, sealed-again}
use Rattle.command.specs.Layout.{widths, head_of, body_bytes, command_bytes, field, fields_in, further_in}
use Rattle.command_catalogue.specs.Rules.{asked_wrong}
use Rattle.command.specs.Asking.{first_causes}
use Rattle.command.proofs.Verdicts.{total-within}
use Rattle.command.specs.declared.Fields.{Fields}
use Rattle.command_reading.specs.declared.Command.{Command}
use Rattle.command_reading.specs.Reading.{packet_causes, read_causes, given, read_reply, further_reply}
use Rattle.command_reading.proofs.Replies as reading
use Rattle.command_writing.specs.Writing.{ask_causes, write_reply}
use Rattle.command_laws.specs.Agree.{WrittenAlike}
use Rattle.command_laws.proofs.ReadBack.{same-verdict, writer-accepts, written-is-command}

module _ (c m : ℕ) (bs : List ℕ) (bytes : AreBytes bs) (z : verdict (read_causes c m bs) ≡ 0) where
  total-permitted : (14 ≤ length bs) × (length bs ≤ 227)
  total-permitted = total-within (asked_wrong c m) c (length bs) (verdict-front (first_causes (asked_wrong c m) c (length bs)) (packet_causes c m (fields_in bs) bs) z)

  no-cause-holds : Spared (read_causes c m bs)
  no-cause-holds = spared (read_causes c m bs) refl z

  header-fields : (field bs 0 ≡ 0x13EE) × (field bs 1 / 16384 ≡ 3) × (field bs 2 ≡ length bs - 7)
  header-fields = header-right 0x13EE bs no-cause-holds.1.1.0

  -- the three parts
  total-of-further : 14 + length (further_in bs) ≡ length bs
  total-of-further = omega (arith, total-permitted, length-drop 12 bs, length-take-le (length bs - 14) (drop 12 bs) (omega (arith, total-permitted, length-drop 12 bs)))

  head-laid : read_off widths bs 0 ≡ head_of (14 + length (further_in bs)) (fields_in bs)
  head-laid =
      let count : field bs 1 ≡ 49152 + field bs 1 % 16384 = omega (arith, header-fields) in
      let named : field bs 2 ≡ 14 + length (further_in bs) - 7 = header-fields.2 ∙ ap (λ (n : ℕ). n - 7) (sym total-of-further) in
      cc header-fields.0

  parts-in-a-row : bs ≡ body_bytes (fields_in bs) (further_in bs) ++ drop (length bs - 2) bs
  parts-in-a-row =
      let place : 12 + (length bs - 14) ≡ length bs - 2 = omega (arith, total-permitted) in
      let rest : drop 12 bs ≡ further_in bs ++ drop (length bs - 2) bs =
      sym (take-append-drop (length bs - 14) (drop 12 bs))
      ∙ ap (λ (l : List ℕ). further_in bs ++ l) (drop-drop (length bs - 14) 12 bs ∙ ap (λ (n : ℕ). drop n bs) place)
      in
      laid-again bs bytes widths 0 (omega (arith, total-permitted))
      ∙ ap (λ (hs : List ℕ). laid widths hs ++ drop 12 bs) head-laid
      ∙ ap (λ (l : List ℕ). laid widths (head_of (14 + length (further_in bs)) (fields_in bs)) ++ l) rest

  body-laid : take (length bs - 2) bs ≡ body_bytes (fields_in bs) (further_in bs)
  body-laid =
      ap (take (length bs - 2)) parts-in-a-row
      ∙ take_at (body_bytes (fields_in bs) (further_in bs)) (drop (length bs - 2) bs) (length bs - 2) (omega (arith, total-of-further))

  pub written-again : bs ≡ command_bytes (fields_in bs) (further_in bs)
  unfolding command_bytes
  written-again = sealed-again bs bytes (omega (arith, total-permitted)) no-cause-holds.1.1.1.0 ∙ ap sealed body-laid

  pub asked-again : verdict (ask_causes c m (fields_in bs) (further_in bs)) ≡ 0
  asked-again = sym (same-verdict c m (fields_in bs) (further_in bs) (mod-lt (field bs 1) (lit< tt))) ∙ ap (λ (l : List ℕ). verdict (read_causes c m l)) (sym written-again) ∙ z

-- what the reader gives
module _ (c m : ℕ) (bs : List ℕ) (z : verdict (read_causes c m bs) ≡ 0) where
  fields-given : (read_reply c m bs).fields ≡ fields_in bs
  unfolding read_reply given
  fields-given = ap (λ (r : Command). r.fields) (answer-yes _ _ _ z)

  further-given : further_reply c m bs ≡ further_in bs
  unfolding further_reply
  further-given = answer-yes _ _ _ z

pub written-alike : WrittenAlike
written-alike c m bs room bytes fit z =
    let v : verdict (read_causes c m bs) ≡ 0 = sym (reading.reply-number c m bs refl) ∙ z in
    let f : Fields = (read_reply c m bs).fields in
    let xs : List ℕ = further_reply c m bs in
    let ef : f ≡ fields_in bs = fields-given c m bs v in
    let ex : xs ≡ further_in bs = further-given c m bs v in
    let total : 14 + length xs ≡ length bs = ap (λ (l : List ℕ). 14 + length l) ex ∙ total-of-further c m bs bytes v in
    let accepts : (write_reply c m f xs (length room)).refusal ≡ 0 =
    writer-accepts c m f xs room (ap₂ (λ (g : Fields) (l : List ℕ). verdict (ask_causes c m g l)) ef ex ∙ asked-again c m bs bytes v) (omega arith)
    in
    (accepts, written-is-command c m f xs room accepts ∙ ap₂ command_bytes ef ex ∙ sym (written-again c m bs bytes v))
