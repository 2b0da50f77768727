-- The judgement of what is no catalogue and no mode, by computation.
use Rattle.std.specs.Prelude.{◌≡◌, refl, []}
use Rattle.base.specs.Refusal.{verdict, wrong_argument}
use Rattle.command_catalogue.specs.Table.{dcixs, c1xs, standby, table, permits}
use Rattle.command_catalogue.specs.Rules.{judge_causes}

-- SUBMODE, qualifier 3: catalogue 2 has it, and 9 is no catalogue
submode : verdict (judge_causes c1xs standby 9 3 0 0 []) ≡ 0
unfolding permits table
submode = refl

no-catalogue : verdict (judge_causes 9 standby 9 3 0 0 []) ≡ wrong_argument
unfolding permits table
no-catalogue = refl

-- there is no mode 3
no_mode : verdict (judge_causes dcixs 3 9 3 0 0 []) ≡ wrong_argument
unfolding permits table
no_mode = refl
