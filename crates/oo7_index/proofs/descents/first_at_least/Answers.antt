use Rattle.std.proofs.Common.{rules, ◌+◌, ℕ, inr, arith}
use Rattle.pm3_types.specs.declared.places.Place.TheVariants.{Word}
use Rattle.pm3_types.specs.Graph.{Part}
use Rattle.pm3_history.specs.State.{State}
use Rattle.oo7_objects.specs.Wholes.{HasPlace}
use Rattle.oo7_objects.proofs.Knowing.{kept_then, known_later, known_so}
use Rattle.oo7_objects.proofs.Rows.{refused_before, row_then}
use Rattle.oo7_index.proofs.Blaming.{known_now}
use Rattle.oo7_index.proofs.Seeking.{first_found, lower_next}
use Rattle.oo7_index.proofs.descents.first_at_least.Goals as goal

pub word-requires-clause-there : goal.word-requires-clause-there
word-requires-clause-there g c =
    known_now (λ (st : State) (w : Part) (n : ℕ). HasPlace w n (Word (c.args.from + c.loop-m.m))) c.args.node 0 0 c.loop-m.invariant.kept c.loop-m.invariant.row (inr (omega arith))
    (known_later (known_so c.requires.there (λ st w there. there c.loop-m.m c.loop-m-test.true)) c.loop-m.invariant.kept)

pub returns-in-Err-clause-kept : goal.returns-in-Err-clause-kept
returns-in-Err-clause-kept g c = kept_then c.loop-m.invariant.kept c.word.ensures.kept

pub returns-in-Err-clause-refused : goal.returns-in-Err-clause-refused
returns-in-Err-clause-refused g c = refused_before c.loop-m.invariant.kept c.in-Err.fault c.in-Err.ensures.refused

pub returns-then-key-found-clause-told : goal.returns-then-key-found-clause-told
returns-then-key-found-clause-told g c =
    first_found c.args.node c.args.from c.args.count c.loop-m.m c.args.key c.in-Ok.found c.loop-m.invariant.kept c.loop-m.invariant.row c.loop-m.invariant.lower c.word.ensures.kept c.in-Ok.ensures.told
    (search rules) (search rules)

pub returns-then-key-found-clause-kept : goal.returns-then-key-found-clause-kept
returns-then-key-found-clause-kept g c = kept_then c.loop-m.invariant.kept c.word.ensures.kept

pub loop-m-preserved : goal.loop-m-preserved
loop-m-preserved g c = record {
  most = search rules;
  lower = lower_next c.args.node c.args.from c.args.count c.loop-m.m c.args.key c.in-Ok.found c.loop-m.invariant.kept c.loop-m.invariant.row c.loop-m.invariant.lower c.word.ensures.kept c.in-Ok.ensures.told (search rules);
  kept = kept_then c.loop-m.invariant.kept c.word.ensures.kept;
  row = row_then c.args.txn.now c.loop-m.txn c.word.new.txn 0 0 c.loop-m.invariant.kept.heap c.loop-m.invariant.row c.word.ensures.row;
}
