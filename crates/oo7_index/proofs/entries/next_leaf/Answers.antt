use Rattle.std.proofs.Common.{◌≡◌, ◌≢◌, ◌<◌, ◌∙◌, ℕ, inr, sym, subst, arith, ◌+◌}
use Rattle.pm3_types.specs.Graph.{Part}
use Rattle.pm3_history.specs.State.{State}
use Rattle.oo7_schema.specs.Lookup.{word, reference}
use Rattle.oo7_objects.specs.Wholes.{look_of, name_at}
use Rattle.oo7_objects.proofs.Knowing.{kept_same, kept_then, known_both, known_so}
use Rattle.oo7_objects.proofs.Rows.{refused_before, row_then, row_wider}
use Rattle.oo7_index.specs.Cursors.{IsCursor}
use Rattle.oo7_index.specs.Looks.{LooksNode}
use Rattle.oo7_index.proofs.Blaming.{classes_later, fault_by, known_now, some_there}
use Rattle.oo7_index.proofs.Looking.{next_place}
use Rattle.oo7_index.proofs.entries.next_leaf.Goals as goal

pub reference-requires-clause-there : goal.reference-requires-clause-there
reference-requires-clause-there g c = known_so c.requires.leaf_is (λ st w leaf. next_place w (name_at c.args.txn.now st c.args.leaf) leaf.is)

pub returns-in-Err-count_in-clause-refused : goal.returns-in-Err-count_in-clause-refused
returns-in-Err-count_in-clause-refused g c =
    fault_by c.args.txn.now c.is_nil.new.txn c.count_in.new.txn
    (λ st w. (reference (look_of w) (name_at c.args.txn.now st c.args.leaf) 1 ≡ name_at c.is_nil.new.txn st c.args.leaf) × (name_at c.is_nil.new.txn st c.args.leaf ≢ 0))
    (λ st w n. (n ≡ name_at c.is_nil.new.txn st c.args.leaf) × (LooksNode w 9 n → ⊥))
    (λ st w n. (n ≡ reference (look_of w) (name_at c.args.txn.now st c.args.leaf) 1) × (n ≢ 0) × (LooksNode w 9 n → ⊥))
    (kept_then c.reference.ensures.kept c.is_nil.ensures.kept)
    (some_there (λ st w. reference (look_of w) (name_at c.args.txn.now st c.args.leaf) 1) c.args.leaf c.is_nil.result c.is_nil.ensures.kept c.is_nil.ensures.row c.count_in.ensures.kept
    c.is_nil.ensures.nil c.if-is_nil.false c.in_default.ensures.told)
    (λ st w n k is. (is.0 ∙ sym k.0, (λ nil. k.1 (sym is.0 ∙ nil)), is.1)) c.in-Err-count_in.fault c.in-Err-count_in.ensures.refused

pub entry_at-requires-clause-there : goal.entry_at-requires-clause-there
entry_at-requires-clause-there g c =
    known_now (λ (st : State) (w : Part) (n : ℕ). LooksNode w 9 n × (0 < word (look_of w) n 0)) c.args.leaf 0 0 c.count_in.ensures.kept c.count_in.ensures.row (inr (omega arith))
    (known_so c.in_default-count_in.ensures.told (λ st w seen. (let filled = seen.0.some in (seen.0, omega (arith, filled)))))

pub returns-in-Err-entry_at-clause-refused : goal.returns-in-Err-entry_at-clause-refused
returns-in-Err-entry_at-clause-refused g c =
    refused_before (kept_then c.reference.ensures.kept (kept_then c.is_nil.ensures.kept c.count_in.ensures.kept)) c.in-Err-entry_at.fault c.in-Err-entry_at.ensures.refused

pub returns-clause-told : goal.returns-clause-told
returns-clause-told g c =
    known_both
    (known_now (λ (st : State) (w : Part) (n : ℕ). (reference (look_of w) (name_at c.args.txn.now st c.args.leaf) 1 ≡ n) × (n ≢ 0)) c.args.leaf 0 0
    (kept_then c.count_in.ensures.kept c.entry_at.ensures.kept)
    (row_then c.is_nil.new.txn c.count_in.new.txn c.entry_at.new.txn 0 0 c.count_in.ensures.kept.heap c.count_in.ensures.row c.entry_at.ensures.row) (inr (omega arith))
    (some_there (λ st w. reference (look_of w) (name_at c.args.txn.now st c.args.leaf) 1) c.args.leaf c.is_nil.result c.is_nil.ensures.kept c.is_nil.ensures.row
    (kept_then c.count_in.ensures.kept c.entry_at.ensures.kept) c.is_nil.ensures.nil c.if-is_nil.false c.in_default.ensures.told))
    (kept_same c.entry_at.new.txn)
    (known_now (λ (st : State) (w : Part) (n : ℕ). IsCursor w n c.in-Ok.next.key 0) c.args.leaf 0 0 c.entry_at.ensures.kept c.entry_at.ensures.row (inr (omega arith)) c.in-Ok.ensures.told)
    (λ st w there cursor. record {
      is = sym there.0;
      some = there.1;
      cursor = subst (λ (at : ℕ). IsCursor w (name_at c.entry_at.new.txn st c.args.leaf) c.in-Ok.next.key at) (sym c.in-Ok.ensures.at) cursor;
      first = c.in-Ok.ensures.at;
    })

pub returns-then-is_nil-clause-kept : goal.returns-then-is_nil-clause-kept
returns-then-is_nil-clause-kept g c = kept_then c.reference.ensures.kept c.is_nil.ensures.kept

pub returns-then-is_nil-clause-row : goal.returns-then-is_nil-clause-row
returns-then-is_nil-clause-row g c = row_then c.args.txn.now c.reference.new.txn c.is_nil.new.txn c.args.leaf (c.args.leaf + 1) c.reference.ensures.kept.heap c.reference.ensures.row (row_wider c.args.leaf (c.args.leaf + 1) c.is_nil.ensures.row)

pub returns-in-Err-count_in-clause-kept : goal.returns-in-Err-count_in-clause-kept
returns-in-Err-count_in-clause-kept g c = kept_then c.reference.ensures.kept (kept_then c.is_nil.ensures.kept c.count_in.ensures.kept)

pub returns-in-Err-count_in-clause-row : goal.returns-in-Err-count_in-clause-row
returns-in-Err-count_in-clause-row g c = row_then c.args.txn.now c.reference.new.txn c.count_in.new.txn c.args.leaf (c.args.leaf + 1) c.reference.ensures.kept.heap c.reference.ensures.row (row_then c.reference.new.txn c.is_nil.new.txn c.count_in.new.txn c.args.leaf (c.args.leaf + 1) c.is_nil.ensures.kept.heap (row_wider c.args.leaf (c.args.leaf + 1) c.is_nil.ensures.row) (row_wider c.args.leaf (c.args.leaf + 1) c.count_in.ensures.row))

pub returns-in-Err-entry_at-clause-kept : goal.returns-in-Err-entry_at-clause-kept
returns-in-Err-entry_at-clause-kept g c = kept_then c.reference.ensures.kept (kept_then c.is_nil.ensures.kept (kept_then c.count_in.ensures.kept c.entry_at.ensures.kept))

pub returns-in-Err-entry_at-clause-row : goal.returns-in-Err-entry_at-clause-row
returns-in-Err-entry_at-clause-row g c = row_then c.args.txn.now c.reference.new.txn c.entry_at.new.txn c.args.leaf (c.args.leaf + 1) c.reference.ensures.kept.heap c.reference.ensures.row (row_then c.reference.new.txn c.is_nil.new.txn c.entry_at.new.txn c.args.leaf (c.args.leaf + 1) c.is_nil.ensures.kept.heap (row_wider c.args.leaf (c.args.leaf + 1) c.is_nil.ensures.row) (row_then c.is_nil.new.txn c.count_in.new.txn c.entry_at.new.txn c.args.leaf (c.args.leaf + 1) c.count_in.ensures.kept.heap (row_wider c.args.leaf (c.args.leaf + 1) c.count_in.ensures.row) (row_wider c.args.leaf (c.args.leaf + 1) c.entry_at.ensures.row)))

pub returns-clause-kept : goal.returns-clause-kept
returns-clause-kept g c = kept_then c.reference.ensures.kept (kept_then c.is_nil.ensures.kept (kept_then c.count_in.ensures.kept c.entry_at.ensures.kept))

pub returns-clause-row : goal.returns-clause-row
returns-clause-row g c = row_then c.args.txn.now c.reference.new.txn c.entry_at.new.txn c.args.leaf (c.args.leaf + 1) c.reference.ensures.kept.heap c.reference.ensures.row (row_then c.reference.new.txn c.is_nil.new.txn c.entry_at.new.txn c.args.leaf (c.args.leaf + 1) c.is_nil.ensures.kept.heap (row_wider c.args.leaf (c.args.leaf + 1) c.is_nil.ensures.row) (row_then c.is_nil.new.txn c.count_in.new.txn c.entry_at.new.txn c.args.leaf (c.args.leaf + 1) c.count_in.ensures.kept.heap (row_wider c.args.leaf (c.args.leaf + 1) c.count_in.ensures.row) (row_wider c.args.leaf (c.args.leaf + 1) c.entry_at.ensures.row)))

pub count_in-requires-clause-classes : goal.count_in-requires-clause-classes
count_in-requires-clause-classes g c = classes_later (kept_then c.reference.ensures.kept c.is_nil.ensures.kept) c.requires.classes

pub entry_at-requires-clause-classes : goal.entry_at-requires-clause-classes
entry_at-requires-clause-classes g c = classes_later (kept_then c.reference.ensures.kept (kept_then c.is_nil.ensures.kept c.count_in.ensures.kept)) c.requires.classes

pub returns-then-is_nil-clause-told : goal.returns-then-is_nil-clause-told
returns-then-is_nil-clause-told g c = record {
  of = λ st g w whole. (let was = c.is_nil.ensures.kept.was st g w whole in c.in_default.ensures.told.of st g w was ∙ (c.is_nil.ensures.nil st was.opens).0 c.if-is_nil.true);
}
