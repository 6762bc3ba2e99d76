use Rattle.std.proofs.Common.{◌≡◌, ◌+◌, ◌-◌, List, Option, Some, length, sym, ◌∙◌, subst, arith}
use Rattle.std.proofs.Math.ListN.{set}
use Rattle.pm3_txn.specs.declared.values.Value.{Value}
use Rattle.pm3_txn.specs.declared.values.Value.TheVariants.{Turn}
use Rattle.pm3_txn.specs.Starts.{IsFilled, first_home}
use Rattle.pm3_txn.proofs.Filling.{all_filled}
use Rattle.pm3_txn.proofs.homes.filled.Goals as goal

pub set-requires-clause-empty : goal.set-requires-clause-empty
set-requires-clause-empty g c = let long = c.with_spaces-homes.ensures.wide in c.with_spaces-homes.ensures.empty _ (omega (arith, long))

pub returns-clause-filled : goal.returns-clause-filled
returns-clause-filled g c =
    let V : Type 0 = Value g.row.D.Denot g.row.D-Reader.Denot in
    let homes : List (Option V) = c.with_spaces-homes.result in
    let long = c.with_spaces-homes.ensures.wide in
    let at : (length homes - 33) + 32 ≡ c.args.pages + 32 = omega (arith, long) in
    let is : c.set.new.self ≡ set homes (c.args.pages + 32) (Some (Turn c.args.turn)) = c.set.ensures ∙ (λ i. set homes (at i) (Some (Turn c.args.turn))) in
    subst (λ (l : List (Option V)). IsFilled l (first_home c.args.pages c.args.images.images c.args.turn) (c.args.pages + 33)) (sym is)
    (all_filled c.args.pages c.args.images.images c.args.turn c.with_pages-homes.result homes long c.with_pages-homes.ensures.filled c.with_spaces-homes.ensures.filled)
