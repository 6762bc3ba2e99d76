use Rattle.std.proofs.Common.{rules, ◌≡◌, ℕ, ◌+◌, ◌-◌, List, Option, Some, None, length, get_or, length-set, sym, ap, ◌∙◌, subst, arith}
use Rattle.std.proofs.Math.ListN.{set}
use Rattle.pm3_txn.specs.declared.values.Value.{Value}
use Rattle.pm3_txn.specs.declared.values.Value.TheVariants.{Space}
use Rattle.pm3_txn.specs.Starts.{AreEmptyFrom, GetSpaces, blank_space}
use Rattle.pm3_txn.proofs.Filling.{spaces_none, spaces_more, empty_more}
use Rattle.pm3_txn.proofs.homes.with_spaces.Goals as goal

pub loop-space-init : goal.loop-space-init
loop-space-init g c = record {
  wide = c.requires.wide;
  filled = spaces_none c.args.pages c.args.homes;
  empty = λ u high. c.requires.empty u (omega (arith, high));
}

pub set-requires-clause-empty : goal.set-requires-clause-empty
set-requires-clause-empty g c = let long = c.loop-space.invariant.wide in c.loop-space.invariant.empty _ (omega (arith, long))

pub loop-space-preserved : goal.loop-space-preserved
loop-space-preserved g c =
    let V : Type 0 = Value g.row.D.Denot g.row.D-Reader.Denot in
    let n : ℕ = c.loop-space.space in let mid : List (Option V) = c.loop-space.homes in
    let long = c.loop-space.invariant.wide in let low = c.loop-space-test.true in
    let at : (length mid - 33) + n ≡ c.args.pages + n = omega (arith, long) in
    let is : c.set.new.self ≡ set mid (c.args.pages + n) (Some (Space (blank_space n))) =
    c.set.ensures ∙ (λ i. set mid (at i) (Some (Space (c.new.ensures i))))
    in
    record {
      wide = ap (λ (l : List (Option V)). length l) is ∙ length-set mid (c.args.pages + n) (Some (Space (blank_space n))) ∙ long;
      filled = subst (λ (l : List (Option V)). GetSpaces c.args.pages c.args.homes l (n + 1)) (sym is) (spaces_more c.args.pages n c.args.homes mid (omega (arith, long, low)) c.loop-space.invariant.filled);
      empty = λ u high. ap (λ (l : List (Option V)). get_or l u None) is ∙ empty_more (c.args.pages + n) mid (Space (blank_space n)) c.loop-space.invariant.empty u (omega (arith, high));
    }

pub returns-clause-filled : goal.returns-clause-filled
returns-clause-filled g c =
    let done : c.loop-space.space ≡ 32 = search rules in
    subst (λ (n : ℕ). GetSpaces c.args.pages c.args.homes c.loop-space.homes n) done c.loop-space.invariant.filled

pub returns-clause-empty : goal.returns-clause-empty
returns-clause-empty g c =
    let done : c.loop-space.space ≡ 32 = search rules in
    subst (λ (n : ℕ). AreEmptyFrom c.loop-space.homes (c.args.pages + n)) done c.loop-space.invariant.empty
