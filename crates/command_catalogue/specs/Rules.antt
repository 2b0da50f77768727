-- FORMAT, "Commands": which catalogues and modes there are, and which fields and further bytes a command may have. Reader and writer go by these alike.
use Rattle.std.specs.Prelude.{ℕ, Bool, cond, not, ◌&&◌, ◌||◌, List, [], ◌∷◌, length, drop, leb, eqb}
use Rattle.std.specs.List.{list_all}
use Rattle.base.specs.Refusal.{Causes, wrong_argument, wrong_type, wrong_field, wrong_further, wrong_mode}
use Rattle.command_catalogue.specs.declared.table.Permits.{Permits}
use Rattle.command_catalogue.specs.Table.{dcixs, c1xs, operating, patch, any_of, permits}

-- A catalogue or a mode is asked for that is none: there are the catalogues 1 and 2, and the modes 0, 1 and 2.
abbrev pub asked_wrong : ℕ → ℕ → Bool
asked_wrong catalogue mode = not ((eqb catalogue dcixs || eqb catalogue c1xs) && leb mode operating)

-- PATCH has so many further bytes
abbrev pub patch_lengths : ℕ → List ℕ
patch_lengths catalogue = cond (eqb catalogue dcixs) (8 ∷ 16 ∷ 32 ∷ 64 ∷ 128 ∷ 196 ∷ []) (8 ∷ 16 ∷ 32 ∷ 38 ∷ [])

abbrev pub zeros : List ℕ → Bool
zeros xs = list_all (λ x. eqb x 0) xs

-- Qualifier, address or data not permitted: the qualifier stands in the row, the fixed zeros are zeros, and a PATCH's actual
-- length, its data field, goes from 1 to the number n of further bytes that came.
abbrev pub fields_wrong : Permits → ℕ → ℕ → ℕ → ℕ → Bool
fields_wrong p t address data' n =
    not (p.qualifier && (p.address || eqb address 0) && (p.«data» || eqb data' 0)) || (eqb t patch && not (leb 1 data' && leb data' n))

-- Further data not permitted: a PATCH has a number of its list, and zeros after its actual length; others have none.
abbrev pub further_wrong : ℕ → ℕ → ℕ → List ℕ → Bool
further_wrong catalogue t data' xs =
    cond (eqb t patch) (not (any_of (eqb (length xs)) (patch_lengths catalogue)) || not (zeros (drop data' xs))) (not (eqb (length xs) 0))

abbrev pub causes_of : Permits → ℕ → ℕ → ℕ → ℕ → List ℕ → Causes
causes_of p catalogue t address data' xs =
    (wrong_type, not p.command_type) ∷ (wrong_field, fields_wrong p t address data' (length xs)) ∷ (wrong_further, further_wrong catalogue t data' xs)
    ∷ (wrong_mode, not p.mode) ∷ []

-- the causes that lie in the fields and the further bytes xs
abbrev pub field_causes : ℕ → ℕ → ℕ → ℕ → ℕ → ℕ → List ℕ → Causes
field_causes catalogue mode t qualifier address data' xs = causes_of (permits catalogue mode t qualifier) catalogue t address data' xs

-- The judgement: an argument outside its list, then what lies in the command.
abbrev pub judge_causes : ℕ → ℕ → ℕ → ℕ → ℕ → ℕ → List ℕ → Causes
judge_causes catalogue mode t qualifier address data' xs =
    (wrong_argument, asked_wrong catalogue mode) ∷ field_causes catalogue mode t qualifier address data' xs
