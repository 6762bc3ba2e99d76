use Rattle.std.proofs.Common.{rules, ◌≡◌, ℕ, ◌+◌, ◌-◌, ◌<◌, List, length, Option, Some, ap, ◌∙◌, arith}
use Rattle.std.proofs.Math.ListN.{set}
use Rattle.pm3_table_trials.specs.declared.tallies.Tally.{Tally}
use Rattle.pm3_table_trials.specs.Filled.{blank, filled}
use Rattle.pm3_table_trials.proofs.Blank.{next_set, spaced, spaced_long, spaced_set, spaced_none, spaced_all}
use Rattle.pm3_table_trials.proofs.tables.first_homes.Goals as goal

pub loop-page-preserved : goal.loop-page-preserved
loop-page-preserved c = let n : ℕ = c.loop-page.page in
    let below : n < 16 = omega (arith, c.loop-page-test.true, c.requires) in
    c.set.ensures ∙ (ap (λ (l : List (Option Tally)). set l n (Some blank)) c.loop-page.invariant
    ∙ (next_set n (49 - n) (omega (arith, below)) ∙ ap (filled (n + 1)) (omega arith)))

pub loop-space-init : goal.loop-space-init
loop-space-init c =
    let all : c.loop-page.page ≡ c.args.used = search rules in
    c.loop-page.invariant ∙ (ap (λ (k : ℕ). filled k (49 - k)) all ∙ spaced_none c.args.used c.requires)

pub loop-space-preserved : goal.loop-space-preserved
loop-space-preserved c = let n : ℕ = c.loop-space.space in
    let below : n < 33 = omega (arith, c.loop-space-test.true) in
    let long : length c.loop-space.homes ≡ 49 = ap (length {A = Option Tally}) c.loop-space.invariant ∙ spaced_long c.args.used n c.requires (omega (arith, below)) in
    let at : length c.loop-space.homes - 33 + n ≡ 16 + n = omega (arith, long) in
    c.set-in-loop-space.ensures ∙ (ap (λ (l : List (Option Tally)). set l (length c.loop-space.homes - 33 + n) (Some blank)) c.loop-space.invariant
    ∙ spaced_set c.args.used n (length c.loop-space.homes - 33 + n) c.requires below at)

pub returns : goal.returns
returns c =
    let all : c.loop-space.space ≡ 32 = search rules in
    let long : length c.loop-space.homes ≡ 49 = ap (length {A = Option Tally}) c.loop-space.invariant ∙ spaced_long c.args.used c.loop-space.space c.requires (omega (arith, all)) in
    let at : length c.loop-space.homes - 33 + 32 ≡ 16 + c.loop-space.space = omega (arith, long, all) in
    c.set-2.ensures ∙ (ap (λ (l : List (Option Tally)). set l (length c.loop-space.homes - 33 + 32) (Some blank)) c.loop-space.invariant
    ∙ (spaced_set c.args.used c.loop-space.space (length c.loop-space.homes - 33 + 32) c.requires (omega (arith, all)) at
    ∙ (ap (λ (k : ℕ). spaced c.args.used k) (let e : c.loop-space.space + 1 ≡ 33 = omega (arith, all) in e) ∙ spaced_all c.args.used)))
