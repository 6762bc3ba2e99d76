use Rattle.std.proofs.Common.{rules, refl}
use Rattle.pm3_table_trials.proofs.Started.{starts, opens_below, told_opening}
use Rattle.pm3_table_trials.proofs.tables.sixteen.Goals as goal

pub start-requires-clause-homes : goal.start-requires-clause-homes
start-requires-clause-homes c = starts c.args.used c.requires.1 _ c.in_ok-homes.homes refl refl
    (told_opening (record { pages = 16; frontier = c.args.used; next_name = 1; rows = 1 }) c.in_ok-homes.homes) (search rules)

pub start-requires-clause-opening : goal.start-requires-clause-opening
start-requires-clause-opening c = opens_below (record { pages = 16; frontier = c.args.used; next_name = 1; rows = 1 }) c.in_ok-homes.homes
