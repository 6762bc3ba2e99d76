use Rattle.std.proofs.Common.{rules, ◌≡◌, [], arith}
use Rattle.pm3_table_trials.specs.declared.tallies.Tally.{Tally}
use Rattle.pm3_table_trials.specs.Tallies.{Counts}
use Rattle.pm3_table_trials.proofs.Counted.{taken_some, holds_is, faults_is, may_one, counts_one}
use Rattle.pm3_table_trials.proofs.turns.commit_nothing.Goals as goal

pub give_with_nothing-requires-clause-turn : goal.give_with_nothing-requires-clause-turn
give_with_nothing-requires-clause-turn c = let told = c.args.shared.now.1 in let old = c.args.pass.now.1 in let new = c.take.new.pass.1 in
    let tally : Tally = c.in-Some.field-0 in
    let taken = taken_some told old new c.in_ok-taken.taken tally c.in-Some.is c.in_ok-taken.ensures.taken.1 in
    holds_is {V = Tally} Counts (λ _. []) (λ _. 0) told old new tally taken

pub give_with_nothing-requires-clause-good : goal.give_with_nothing-requires-clause-good
give_with_nothing-requires-clause-good c = let told = c.args.shared.now.1 in let old = c.args.pass.now.1 in let new = c.take.new.pass.1 in
    let tally : Tally = c.in-Some.field-0 in
    let taken = taken_some told old new c.in_ok-taken.taken tally c.in-Some.is c.in_ok-taken.ensures.taken.1 in
    counts_one told old new tally c.requires.untold taken (record { count = c.in-Some-checked_add.more }) (search rules)

pub give_with_nothing-requires-clause-heard : goal.give_with_nothing-requires-clause-heard
give_with_nothing-requires-clause-heard c = let told = c.args.shared.now.1 in let old = c.args.pass.now.1 in let new = c.take.new.pass.1 in
    let tally : Tally = c.in-Some.field-0 in
    let taken = taken_some told old new c.in_ok-taken.taken tally c.in-Some.is c.in_ok-taken.ensures.taken.1 in
    let none : new.faults ≡ 0 = faults_is {V = Tally} Counts (λ _. []) (λ _. 0) told old new tally taken in omega (arith, none)

pub give_with_nothing-requires-clause-may : goal.give_with_nothing-requires-clause-may
give_with_nothing-requires-clause-may c = let told = c.args.shared.now.1 in let old = c.args.pass.now.1 in let new = c.take.new.pass.1 in
    let tally : Tally = c.in-Some.field-0 in
    let taken = taken_some told old new c.in_ok-taken.taken tally c.in-Some.is c.in_ok-taken.ensures.taken.1 in
    may_one told old new tally c.requires.untold taken
