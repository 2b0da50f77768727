-- FORMAT, "Commands": whole commands, read, by computation. The examples 10 and 11 stand in `promises`.
use Rattle.std.specs.Prelude.{ℕ, ◌≡◌, refl, [], replicate}
use Rattle.base.specs.Refusal.{answer, wrong_type, wrong_field}
use Rattle.crc.specs.Crc.{crc_bit, crc_step}
use Rattle.command_catalogue.specs.Table.{dcixs, c1xs, emergency, standby, operating, table, permits}
use Rattle.command.specs.declared.Fields.{Fields}
use Rattle.command.specs.Layout.{command_bytes}
use Rattle.command_reading.specs.Reading.{refused, given, read_reply}

abbrev pub fields : ℕ → ℕ → ℕ → Fields
fields t qualifier data' = record { sequence = 5; command_type = t; qualifier = qualifier; address = 0; «data» = data' }

-- PATCH with no further byte has no actual length, and the length is looked at before the list
pub nothing-to-patch : read_reply c1xs emergency (command_bytes (fields 2 0 0) []) ≡ refused wrong_field
unfolding crc_bit crc_step command_bytes read_reply given answer permits table
nothing-to-patch = refl

pub length-before-list : read_reply c1xs emergency (command_bytes (fields 2 0 10) (replicate 9 7)) ≡ refused wrong_field
unfolding crc_bit crc_step command_bytes read_reply given answer permits table
length-before-list = refl

-- TEST stands in catalogue 1 alone, XSM_ON in catalogue 2
pub no_test : read_reply c1xs standby (command_bytes (fields 8 0 0) []) ≡ refused wrong_type
unfolding crc_bit crc_step command_bytes read_reply given answer permits table
no_test = refl

pub no-xsm-on : read_reply dcixs operating (command_bytes (fields 12 0 0) []) ≡ refused wrong_type
unfolding crc_bit crc_step command_bytes read_reply given answer permits table
no-xsm-on = refl
