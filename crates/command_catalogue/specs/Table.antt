-- FORMAT, "Commands": the table of the two catalogues, and what it says of a command.
use Rattle.std.specs.Prelude.{ℕ, Bool, true, false, cond, not, ◌&&◌, List, [], ◌∷◌, leb, eqb}
use Rattle.std.specs.List.{list_any}
use Rattle.command_catalogue.specs.declared.table.Permits.{Permits}

-- ---- the words of the table

-- catalogue 1 is D-CIXS, 2 is C1XS
abbrev pub dcixs : ℕ
dcixs = 1

abbrev pub c1xs : ℕ
c1xs = 2

-- the modes
abbrev pub emergency : ℕ
emergency = 0

abbrev pub standby : ℕ
standby = 1

abbrev pub operating : ℕ
operating = 2

-- the one type that has further data
abbrev pub patch : ℕ
patch = 2

infixl 70 ◌only◌
infixl 70 ◌to◌
infixl 65 ◌cat2◌
-- a type that both catalogues have, or one alone
pub data Listed : Type 0 where
  both : ℕ → Listed
  ◌only◌ : ℕ → ℕ → Listed

-- one qualifier, or all from one to another
pub data Range : Type 0 where
  just : ℕ → Range
  ◌to◌ : ℕ → ℕ → Range

-- the qualifiers of a row, which may go by the catalogue
pub data Qualifiers : Type 0 where
  alike : List Range → Qualifiers
  ◌cat2◌ : List Range → List Range → Qualifiers

pub record Row : Type 0 where
  pub types : List Listed
  pub qualifiers : Qualifiers
  pub zero_address : Bool
  pub zero_data : Bool
  pub modes : List ℕ

abbrev pub row : List Listed → Qualifiers → Bool → Bool → List ℕ → Row
row types qualifiers zero_address zero_data modes =
    record { types = types; qualifiers = qualifiers; zero_address = zero_address; zero_data = zero_data; modes = modes }

-- ---- the table: types, qualifiers, whether the address and the data are fixed at zero, modes

unfoldable pub table : List Row
table =
    -- DUMMY, EMODE
    row (both 1 ∷ both 5 ∷ []) (alike (just 0 ∷ [])) true true (standby ∷ operating ∷ [])
    -- PATCH
    ∷ row (both 2 ∷ []) ((0 to 15 ∷ []) cat2 (0 to 17 ∷ [])) false false (emergency ∷ standby ∷ operating ∷ [])
    -- DUMP
    ∷ row (both 3 ∷ []) ((0 to 15 ∷ []) cat2 (0 to 15 ∷ just 16 ∷ just 17 ∷ 32 to 41 ∷ 64 to 73 ∷ [])) false false
    (emergency ∷ standby ∷ operating ∷ [])
    -- GOTO
    ∷ row (both 4 ∷ []) (alike (0 to 15 ∷ [])) false true (emergency ∷ [])
    -- OPERATING, TEST
    ∷ row (both 6 ∷ 8 only dcixs ∷ []) (alike (just 0 ∷ [])) true true (standby ∷ [])
    -- STANDBY, ON, OFF, XSM_OFF, XSM_ON
    ∷ row (both 7 ∷ both 10 ∷ both 11 ∷ both 13 ∷ 12 only c1xs ∷ []) (alike (just 0 ∷ [])) true true (operating ∷ [])
    -- SUBMODE
    ∷ row (both 9 ∷ []) ((0 to 4 ∷ []) cat2 (just 0 ∷ just 1 ∷ 3 to 8 ∷ [])) true true (standby ∷ operating ∷ [])
    ∷ []

-- ---- what it says

-- some element of the list passes the test
abbrev pub any_of : {A : Type 0} → (A → Bool) → List A → Bool
any_of test xs = list_any test xs

abbrev pub is_type : ℕ → ℕ → Listed → Bool
is_type catalogue t (both k) = eqb t k
is_type catalogue t (k only c) = eqb t k && eqb catalogue c

abbrev pub in_range : ℕ → Range → Bool
in_range q (just k) = eqb q k
in_range q (least to most) = leb least q && leb q most

abbrev pub is_qualifier : ℕ → ℕ → Qualifiers → Bool
is_qualifier catalogue q (alike ranges) = any_of (in_range q) ranges
is_qualifier catalogue q (first cat2 second) = cond (eqb catalogue dcixs) (any_of (in_range q) first) (any_of (in_range q) second)

-- a row has the type in the catalogue
abbrev pub has_type : ℕ → ℕ → Row → Bool
has_type catalogue t r = any_of (is_type catalogue t) r.types

-- the row that has it, and a row with nothing permitted where none has
abbrev pub row_in : List Row → ℕ → ℕ → Row
row_in [] catalogue t = row [] (alike []) true true []
row_in (r ∷ rows) catalogue t = cond (has_type catalogue t r) r (row_in rows catalogue t)

abbrev pub permitted : Bool → Bool → Bool → Bool → Bool → Permits
permitted t qualifier address data' mode = record { command_type = t; qualifier = qualifier; address = address; «data» = data'; mode = mode }

-- what a row says of a command of this type, with this qualifier, in this mode
abbrev pub said_by : Row → ℕ → ℕ → ℕ → ℕ → Permits
said_by r catalogue mode t qualifier =
    permitted (has_type catalogue t r) (is_qualifier catalogue qualifier r.qualifiers) (not r.zero_address) (not r.zero_data)
    (any_of (eqb mode) r.modes)

-- what the table says
unfoldable pub permits : ℕ → ℕ → ℕ → ℕ → Permits
permits catalogue mode t qualifier = said_by (row_in table catalogue t) catalogue mode t qualifier
