-- FORMAT, "Refusal numbers": what each number means, and which of a call's causes is given.
use Rattle.std.specs.Prelude.{ℕ, Bool, true, false, cond, List, [], ◌∷◌, eqb}
use Rattle.base.specs.declared.Written.{Written}

-- a length is outside its rule
abbrev pub wrong_length : ℕ
wrong_length = 1

-- nothing of the asked kind stands there
abbrev pub nothing_there : ℕ
nothing_there = 2

-- the lent room is too small
abbrev pub no_room : ℕ
no_room = 3

-- an argument is outside its list
abbrev pub wrong_argument : ℕ
wrong_argument = 4

-- the CRC of a command, an event packet or a health packet differs
abbrev pub wrong_crc : ℕ
wrong_crc = 5

-- the parity pattern is neither sound nor one that a single flip gives
abbrev pub wrong_parity : ℕ
wrong_parity = 6

-- a type or a field has an unspecified value, or a number of a tally would pass the largest that it holds
abbrev pub unspecified : ℕ
unspecified = 7

-- command type not in the catalogue
abbrev pub wrong_type : ℕ
wrong_type = 8

-- the header of a command or an event packet is wrong
abbrev pub wrong_header : ℕ
wrong_header = 9

-- qualifier, address or data field not permitted, actual length too
abbrev pub wrong_field : ℕ
wrong_field = 10

-- further data not permitted
abbrev pub wrong_further : ℕ
wrong_further = 11

-- command not valid in this mode
abbrev pub wrong_mode : ℕ
wrong_mode = 12

-- reel trailer or index wrong
abbrev pub wrong_reel : ℕ
wrong_reel = 13

-- frame cut
abbrev pub frame_cut : ℕ
frame_cut = 14

-- A call's causes: a number and its test, each, in the order in which they are given.
abbrev pub Causes : Type 0
Causes = List (ℕ × Bool)

-- the first number whose test holds, else 0, which is accepted
abbrev pub verdict : Causes → ℕ
verdict [] = 0
verdict (c ∷ cs) = cond c.1 c.0 (verdict cs)

-- where several apply, the first of these is given
abbrev pub paper_order : List ℕ
paper_order =
    wrong_argument ∷ wrong_length ∷ wrong_header ∷ wrong_crc ∷ wrong_type ∷ wrong_field ∷ wrong_further ∷ wrong_mode ∷ unspecified ∷ wrong_reel ∷ nothing_there
    ∷ frame_cut ∷ wrong_parity ∷ no_room ∷ []

-- the causes' numbers stand in this order, one cause for each number at the most
abbrev pub in_order : List ℕ → Causes → Bool
in_order order [] = true
in_order [] (c ∷ cs) = false
in_order (n ∷ order) (c ∷ cs) = elim (eqb n c.0) [ true ↦ in_order order cs | false ↦ in_order order (c ∷ cs) ]

-- the causes follow this order
abbrev pub follows_paper : Causes → Bool
follows_paper = in_order paper_order

-- what a call gives: `refused v` where its verdict v is not 0, else `given`
unfoldable pub answer : {A : Type 0} → ℕ → (ℕ → A) → A → A
answer v refused given = cond (eqb v 0) given (refused v)

abbrev pub wrote : ℕ → ℕ → Written
wrote v n = record { refusal = v; length = record { 0 = n } }

-- a writer's reply: n words where nothing is refused, else the number and 0
unfoldable pub settled : ℕ → ℕ → Written
settled v n = answer v (λ x. wrote x 0) (wrote 0 n)
