-- FORMAT, "Commands": what the reader answers.
use Rattle.std.specs.Prelude.{ℕ, ◌-◌, List, [], ◌∷◌, ◌++◌, length}
use Rattle.base.specs.Refusal.{Causes, verdict, answer, wrong_header, wrong_crc}
use Rattle.space_packet.specs.Header.{header_wrong, crc_wrong}
use Rattle.command.specs.declared.Fields.{Fields}
use Rattle.command.specs.Layout.{least_bytes, packet_id, fields_in, further_in}
use Rattle.command_catalogue.specs.Rules.{asked_wrong}
use Rattle.command.specs.Asking.{first_causes, last_causes}
use Rattle.command_reading.specs.declared.Command.{Command}

-- header, CRC, then the fields f that stand there
abbrev pub packet_causes : ℕ → ℕ → Fields → List ℕ → Causes
packet_causes catalogue mode f bs = (wrong_header, header_wrong packet_id bs) ∷ (wrong_crc, crc_wrong bs) ∷ last_causes catalogue mode f (further_in bs)

abbrev pub read_causes : ℕ → ℕ → List ℕ → Causes
read_causes catalogue mode bs = first_causes (asked_wrong catalogue mode) catalogue (length bs) ++ packet_causes catalogue mode (fields_in bs) bs

abbrev pub no_fields : Fields
no_fields = record { sequence = 0; command_type = 0; qualifier = 0; address = 0; «data» = 0 }

abbrev pub command : ℕ → Fields → ℕ → Command
command v f n = record { refusal = v; fields = f; further = record { 0 = n } }

abbrev pub refused : ℕ → Command
refused v = command v no_fields 0

-- a reader's reply: the fields and the number of further bytes where nothing is refused, else the number and zeros
unfoldable pub given : ℕ → Fields → ℕ → Command
given v f n = answer v refused (command 0 f n)

unfoldable pub read_reply : ℕ → ℕ → List ℕ → Command
read_reply catalogue mode bs = given (verdict (read_causes catalogue mode bs)) (fields_in bs) (length bs - least_bytes)

-- the further bytes; none on a refusal
unfoldable pub further_reply : ℕ → ℕ → List ℕ → List ℕ
further_reply catalogue mode bs = answer (verdict (read_causes catalogue mode bs)) (λ x. []) (further_in bs)
