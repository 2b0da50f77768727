-- FORMAT, "Commands": what the reader and the writer refuse alike, before all else and last.
use Rattle.std.specs.Prelude.{ℕ, Bool, cond, not, ◌&&◌, List, [], ◌∷◌, leb, eqb}
use Rattle.base.specs.Refusal.{Causes, wrong_argument, wrong_length}
use Rattle.command_catalogue.specs.Table.{dcixs}
use Rattle.command_catalogue.specs.Rules.{field_causes}
use Rattle.command.specs.declared.Fields.{Fields}
use Rattle.command.specs.Layout.{least_bytes}

-- a total outside 14 to 227, or 14 to 62 in catalogue 2
abbrev pub most_bytes : ℕ → ℕ
most_bytes catalogue = cond (eqb catalogue dcixs) 227 62

abbrev pub total_wrong : ℕ → ℕ → Bool
total_wrong catalogue total = not (leb least_bytes total && leb total (most_bytes catalogue))

-- an argument outside its list, then the total
abbrev pub first_causes : Bool → ℕ → ℕ → Causes
first_causes argument catalogue total = (wrong_argument, argument) ∷ (wrong_length, total_wrong catalogue total) ∷ []

-- and last: the catalogue's causes, which lie in the fields f and the further bytes xs
abbrev pub last_causes : ℕ → ℕ → Fields → List ℕ → Causes
last_causes catalogue mode f xs = field_causes catalogue mode f.command_type f.qualifier f.address f.«data» xs
