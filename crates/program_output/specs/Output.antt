-- How a program's text is gathered on a page before it is written, and how a number is spelled. FORMAT, "Listing program", prints numbers so.
use Rattle.std.specs.Prelude.{◌≡◌, refl, true, false, cond, List, [], ◌∷◌, ◌++◌, length, replicate, ℕ, zero, suc, ◌+◌, ◌/◌, ◌%◌, ltb, leb, ℤ}
use Rattle.base_room.specs.Room.{put}
use Rattle.program_output.specs.declared.Out.{Out}

-- the decimal digits of n, the first one first, where there are k of them at the most
abbrev pub digits_within : ℕ → ℕ → List ℕ
digits_within zero n = []
digits_within (suc k) n = elim (ltb n 10) [ true ↦ (48 + n) ∷ [] | false ↦ digits_within k (n / 10) ++ ((48 + n % 10) ∷ []) ]

-- the decimal digits of a number below 2 ^ 64, in ASCII: there are 20 at the most
unfoldable pub decimal : ℕ → List ℕ
decimal n = digits_within 20 n

-- the bytes of a page
abbrev pub page_size : ℕ
page_size = 4096

-- an empty page
abbrev pub to_reply : ℤ → Out
to_reply descriptor =
    record {
      descriptor = descriptor;
      page = replicate page_size 0;
      used = record { 0 = 0 };
      failed = false;
    }

-- more bytes on a page: they stand behind the others and are counted where they fit, else the page has failed
abbrev pub append_reply : Out → List ℕ → Out
append_reply out bytes =
    cond (leb (out.used.0 + length bytes) page_size)
    (record out { page = put bytes out.used.0 out.page; used = record { 0 = out.used.0 + length bytes } })
    (record out { failed = true })

none : decimal 0 ≡ 48 ∷ []
unfolding decimal
none = refl

-- 32,768
limit : decimal 32768 ≡ 51 ∷ 50 ∷ 55 ∷ 54 ∷ 56 ∷ []
unfolding decimal
limit = refl
