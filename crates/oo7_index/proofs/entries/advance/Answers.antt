use Rattle.std.proofs.Common.{◌≡◌, ◌≢◌, ◌+◌, ◌-◌, ◌<◌, ◌≤◌, ◌∙◌, ℕ, inr, sym, ap, subst, arith}
use Rattle.pm3_types.specs.Graph.{Part}
use Rattle.pm3_history.specs.State.{State}
use Rattle.oo7_schema.specs.Lookup.{word, reference}
use Rattle.oo7_objects.specs.Wholes.{look_of, name_at}
use Rattle.oo7_objects.proofs.Knowing.{kept_same, kept_then, known_both, known_later, known_so}
use Rattle.oo7_objects.proofs.Rows.{refused_before, row_then, row_wider}
use Rattle.oo7_index.specs.Cursors.{IsCursor, IsNext}
use Rattle.oo7_index.specs.Looks.{LooksNode}
use Rattle.oo7_index.proofs.Blaming.{classes_later, fault_by, known_before, known_now, leads_still}
use Rattle.oo7_index.proofs.Stepping.{goes_here, goes_on, goes_out}
use Rattle.oo7_index.proofs.entries.advance.Goals as goal

pub count_in-requires-clause-some : goal.count_in-requires-clause-some
count_in-requires-clause-some g c = known_so c.requires.cursor (λ st w cursor. cursor.leaf_is.name)

pub returns-in-Err-clause-refused : goal.returns-in-Err-clause-refused
returns-in-Err-clause-refused g c =
    fault_by c.args.txn.now c.args.txn.now c.count_in.new.txn (λ st w. LooksNode w 9 (name_at c.args.txn.now st c.args.leaf))
    (λ st w n. (n ≡ name_at c.args.txn.now st c.args.leaf) × (LooksNode w 9 n → ⊥))
    (λ st w n. (n ≡ reference (look_of w) (name_at c.args.txn.now st c.args.leaf) 1) × (n ≢ 0) × (LooksNode w 9 n → ⊥)) (kept_same c.args.txn.now)
    (known_later (known_so c.requires.cursor (λ st w cursor. cursor.leaf_is)) c.count_in.ensures.kept)
    (λ st w n k is. absurd (is.1 (subst (LooksNode w 9) (sym is.0) k))) c.in-Err.fault c.in-Err.ensures.refused

pub entry_at-requires-clause-there : goal.entry_at-requires-clause-there
entry_at-requires-clause-there g c =
    known_now (λ (st : State) (w : Part) (n : ℕ). LooksNode w 9 n × (c.args.entry.at + 1 < word (look_of w) n 0)) c.args.leaf 0 0 c.count_in.ensures.kept c.count_in.ensures.row (inr (omega arith))
    (known_so c.in-Ok.ensures.told (λ st w seen. (seen.0, subst (λ (n : ℕ). c.args.entry.at + 1 < n) (sym seen.1) low)))
  where
    low : c.args.entry.at + 1 < c.in-Ok.count
    low = (let less = c.if-entry-count.true in let range = c.in-Ok.ensures.range.0 in omega (arith, less, range))

pub returns-in-Err-entry_at-clause-refused : goal.returns-in-Err-entry_at-clause-refused
returns-in-Err-entry_at-clause-refused g c = refused_before c.count_in.ensures.kept c.in-Err-entry_at.fault c.in-Err-entry_at.ensures.refused

pub returns-then-entry-count-clause-told : goal.returns-then-entry-count-clause-told
returns-then-entry-count-clause-told g c =
    goes_here c.args.txn.now c.entry_at.new.txn c.args.leaf c.args.entry.key c.args.entry.at c.in-Ok-entry_at.next.key c.in-Ok-entry_at.next.at c.in-Ok-entry_at.ensures.at
    (known_so (leads_still c.args.leaf (kept_then c.count_in.ensures.kept c.entry_at.ensures.kept)
    (row_then c.args.txn.now c.count_in.new.txn c.entry_at.new.txn 0 0 c.count_in.ensures.kept.heap c.count_in.ensures.row c.entry_at.ensures.row)) (λ st w same. same))
    (known_before (λ (st : State) (w : Part) (n : ℕ). IsCursor w n c.in-Ok-entry_at.next.key (c.args.entry.at + 1)) c.args.leaf 0 0 c.count_in.ensures.kept c.count_in.ensures.row (inr (omega arith))
    c.entry_at.ensures.kept c.in-Ok-entry_at.ensures.told)

pub next_leaf-requires-clause-leaf_is : goal.next_leaf-requires-clause-leaf_is
next_leaf-requires-clause-leaf_is g c =
    known_now (λ (st : State) (w : Part) (n : ℕ). LooksNode w 9 n) c.args.leaf 0 0 c.count_in.ensures.kept c.count_in.ensures.row (inr (omega arith)) (known_so c.in-Ok.ensures.told (λ st w seen. seen.0))

-- the leaf has no entry behind this one
last : (at count many : ℕ) → count - 1 ≤ at → 1 ≤ count → many ≡ count → many ≤ at + 1
last at count many high some is = omega (arith, high, some, is)

pub returns-in-Ok-None-clause-told : goal.returns-in-Ok-None-clause-told
returns-in-Ok-None-clause-told g c =
    goes_out c.args.txn.now c.next_leaf.new.txn c.args.leaf c.args.entry.key c.args.entry.at
    (known_both c.in-Ok.ensures.told c.next_leaf.ensures.kept
    (known_before (λ (st : State) (w : Part) (n : ℕ). reference (look_of w) n 1 ≡ 0) c.args.leaf 0 0 c.count_in.ensures.kept c.count_in.ensures.row (inr (omega arith)) c.next_leaf.ensures.kept
    (rw c.in-Ok-None.field-0-is at c.in-Ok-None.ensures.told))
    (λ st w seen none. (last c.args.entry.at c.in-Ok.count (word (look_of w) (name_at c.args.txn.now st c.args.leaf) 0) c.if-entry-count.false c.in-Ok.ensures.range.0 seen.1, none)))

pub returns-in-Ok-Some-clause-told : goal.returns-in-Ok-Some-clause-told
returns-in-Ok-Some-clause-told g c =
    goes_on c.args.txn.now c.next_leaf.new.txn c.args.leaf c.args.entry.key c.args.entry.at c.in-Ok-Some.next.key c.in-Ok-Some.next.at
    (known_both c.in-Ok.ensures.told c.next_leaf.ensures.kept
    (known_before (λ (st : State) (w : Part) (n : ℕ). IsNext w n (name_at c.next_leaf.new.txn st c.args.leaf) c.in-Ok-Some.next.key c.in-Ok-Some.next.at) c.args.leaf 0 0
    c.count_in.ensures.kept c.count_in.ensures.row (inr (omega arith)) c.next_leaf.ensures.kept (rw c.in-Ok-Some.field-0-is at c.in-Ok-Some.ensures.told))
    (λ st w seen next. (last c.args.entry.at c.in-Ok.count (word (look_of w) (name_at c.args.txn.now st c.args.leaf) 0) c.if-entry-count.false c.in-Ok.ensures.range.0 seen.1, next)))

pub returns-in-Err-next_leaf-clause-refused : goal.returns-in-Err-next_leaf-clause-refused
returns-in-Err-next_leaf-clause-refused g c =
    fault_by c.args.txn.now c.count_in.new.txn c.next_leaf.new.txn (λ st w. name_at c.count_in.new.txn st c.args.leaf ≡ name_at c.args.txn.now st c.args.leaf)
    (λ st w n. (n ≡ reference (look_of w) (name_at c.count_in.new.txn st c.args.leaf) 1) × (n ≢ 0) × (LooksNode w 9 n → ⊥))
    (λ st w n. (n ≡ reference (look_of w) (name_at c.args.txn.now st c.args.leaf) 1) × (n ≢ 0) × (LooksNode w 9 n → ⊥)) c.count_in.ensures.kept
    (known_later (leads_still c.args.leaf c.count_in.ensures.kept c.count_in.ensures.row) c.next_leaf.ensures.kept)
    (λ st w n same is. (is.0 ∙ ap (λ (m : ℕ). reference (look_of w) m 1) same, is.1, is.2)) c.in-Err-next_leaf.fault c.in-Err-next_leaf.ensures.refused

pub returns-in-Err-clause-row : goal.returns-in-Err-clause-row
returns-in-Err-clause-row g c = row_wider c.args.leaf (c.args.leaf + 1) c.count_in.ensures.row

pub returns-in-Err-entry_at-clause-kept : goal.returns-in-Err-entry_at-clause-kept
returns-in-Err-entry_at-clause-kept g c = kept_then c.count_in.ensures.kept c.entry_at.ensures.kept

pub returns-in-Err-entry_at-clause-row : goal.returns-in-Err-entry_at-clause-row
returns-in-Err-entry_at-clause-row g c = row_then c.args.txn.now c.count_in.new.txn c.entry_at.new.txn c.args.leaf (c.args.leaf + 1) c.count_in.ensures.kept.heap (row_wider c.args.leaf (c.args.leaf + 1) c.count_in.ensures.row) (row_wider c.args.leaf (c.args.leaf + 1) c.entry_at.ensures.row)

pub returns-then-entry-count-clause-kept : goal.returns-then-entry-count-clause-kept
returns-then-entry-count-clause-kept g c = kept_then c.count_in.ensures.kept c.entry_at.ensures.kept

pub returns-then-entry-count-clause-row : goal.returns-then-entry-count-clause-row
returns-then-entry-count-clause-row g c = row_then c.args.txn.now c.count_in.new.txn c.entry_at.new.txn c.args.leaf (c.args.leaf + 1) c.count_in.ensures.kept.heap (row_wider c.args.leaf (c.args.leaf + 1) c.count_in.ensures.row) (row_wider c.args.leaf (c.args.leaf + 1) c.entry_at.ensures.row)

pub returns-in-Ok-None-clause-kept : goal.returns-in-Ok-None-clause-kept
returns-in-Ok-None-clause-kept g c = kept_then c.count_in.ensures.kept c.next_leaf.ensures.kept

pub returns-in-Ok-None-clause-row : goal.returns-in-Ok-None-clause-row
returns-in-Ok-None-clause-row g c = row_then c.args.txn.now c.count_in.new.txn c.next_leaf.new.txn c.args.leaf (c.args.leaf + 1) c.count_in.ensures.kept.heap (row_wider c.args.leaf (c.args.leaf + 1) c.count_in.ensures.row) c.next_leaf.ensures.row

pub returns-in-Ok-Some-clause-kept : goal.returns-in-Ok-Some-clause-kept
returns-in-Ok-Some-clause-kept g c = kept_then c.count_in.ensures.kept c.next_leaf.ensures.kept

pub returns-in-Ok-Some-clause-row : goal.returns-in-Ok-Some-clause-row
returns-in-Ok-Some-clause-row g c = row_then c.args.txn.now c.count_in.new.txn c.next_leaf.new.txn c.args.leaf (c.args.leaf + 1) c.count_in.ensures.kept.heap (row_wider c.args.leaf (c.args.leaf + 1) c.count_in.ensures.row) c.next_leaf.ensures.row

pub returns-in-Err-next_leaf-clause-kept : goal.returns-in-Err-next_leaf-clause-kept
returns-in-Err-next_leaf-clause-kept g c = kept_then c.count_in.ensures.kept c.next_leaf.ensures.kept

pub returns-in-Err-next_leaf-clause-row : goal.returns-in-Err-next_leaf-clause-row
returns-in-Err-next_leaf-clause-row g c = row_then c.args.txn.now c.count_in.new.txn c.next_leaf.new.txn c.args.leaf (c.args.leaf + 1) c.count_in.ensures.kept.heap (row_wider c.args.leaf (c.args.leaf + 1) c.count_in.ensures.row) c.next_leaf.ensures.row

pub entry_at-requires-clause-classes : goal.entry_at-requires-clause-classes
entry_at-requires-clause-classes g c = classes_later c.count_in.ensures.kept c.requires.classes

pub next_leaf-requires-clause-classes : goal.next_leaf-requires-clause-classes
next_leaf-requires-clause-classes g c = classes_later c.count_in.ensures.kept c.requires.classes
