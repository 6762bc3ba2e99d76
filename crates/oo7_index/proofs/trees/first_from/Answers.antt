use Rattle.std.proofs.Common.{◌≡◌, ◌≢◌, ◌+◌, ◌<◌, inl, inr, ℕ, sym, subst, arith}
use Rattle.pm3_types.specs.declared.places.Place.TheVariants.{Word}
use Rattle.pm3_types.specs.Graph.{Part}
use Rattle.pm3_history.specs.State.{State}
use Rattle.oo7_schema.specs.Lookup.{reference, word}
use Rattle.oo7_objects.specs.Wholes.{HasPlace, look_of, name_at}
use Rattle.oo7_objects.proofs.Knowing.{kept_same, kept_then, known_always, known_later, known_so}
use Rattle.oo7_objects.proofs.Rows.{refused_before, row_then, row_wider}
use Rattle.oo7_index.specs.Departures.{LacksLeaf}
use Rattle.oo7_index.specs.Looks.{LooksNode}
use Rattle.oo7_index.proofs.Blaming.{classes_later, fault_by, known_now, leads_still}
use Rattle.oo7_index.proofs.Landing.{IsLanded, follows_lacks, landed, lands_here, lands_on, lands_out}
use Rattle.oo7_index.proofs.Looking.{key_place}
use Rattle.oo7_index.proofs.trees.first_from.Goals as goal

pub returns-in-Err-clause-refused : goal.returns-in-Err-clause-refused
returns-in-Err-clause-refused g c =
    fault_by c.args.txn.now c.args.txn.now c.count_in.new.txn (λ st w. Unit {0}) (λ st w n. (n ≡ name_at c.args.txn.now st c.args.leaf) × (LooksNode w 9 n → ⊥))
    (λ st w. LacksLeaf w (name_at c.args.txn.now st c.args.leaf)) (kept_same c.args.txn.now) (known_always c.count_in.new.txn (λ st w. tt)) (λ st w n k is. inl is) c.in-Err.fault c.in-Err.ensures.refused

pub returns-in-Err-clause-row : goal.returns-in-Err-clause-row
returns-in-Err-clause-row g c = row_wider c.args.leaf (c.args.leaf + 1) c.count_in.ensures.row

pub first_at_least-requires-clause-classes : goal.first_at_least-requires-clause-classes
first_at_least-requires-clause-classes g c = classes_later c.count_in.ensures.kept c.requires.classes

pub first_at_least-requires-clause-there : goal.first_at_least-requires-clause-there
first_at_least-requires-clause-there g c =
    known_now (λ (st : State) (w : Part) (n : ℕ). (k : ℕ) → k < c.in-Ok.count → HasPlace w n (Word (2 + k))) c.args.leaf 0 0 c.count_in.ensures.kept c.count_in.ensures.row (inr (omega arith))
    (known_so c.in-Ok.ensures.told (λ st w seen k low. key_place w (name_at c.args.txn.now st c.args.leaf) seen.0.is k (let most = c.in-Ok.ensures.range.1 in omega (arith, low, most))))

pub returns-in-Err-first_at_least-clause-kept : goal.returns-in-Err-first_at_least-clause-kept
returns-in-Err-first_at_least-clause-kept g c = kept_then c.count_in.ensures.kept c.first_at_least.ensures.kept

pub returns-in-Err-first_at_least-clause-row : goal.returns-in-Err-first_at_least-clause-row
returns-in-Err-first_at_least-clause-row g c = row_wider c.args.leaf (c.args.leaf + 1) (row_then c.args.txn.now c.count_in.new.txn c.first_at_least.new.txn 0 0 c.count_in.ensures.kept.heap c.count_in.ensures.row c.first_at_least.ensures.row)

pub returns-in-Err-first_at_least-clause-refused : goal.returns-in-Err-first_at_least-clause-refused
returns-in-Err-first_at_least-clause-refused g c = refused_before c.count_in.ensures.kept c.in-Err-first_at_least.fault c.in-Err-first_at_least.ensures.refused

pub entry_at-requires-clause-classes : goal.entry_at-requires-clause-classes
entry_at-requires-clause-classes g c = classes_later (kept_then c.count_in.ensures.kept c.first_at_least.ensures.kept) c.requires.classes

pub entry_at-requires-clause-there : goal.entry_at-requires-clause-there
entry_at-requires-clause-there g c =
    known_now (λ (st : State) (w : Part) (n : ℕ). LooksNode w 9 n × (c.in-Ok-first_at_least.at < word (look_of w) n 0)) c.args.leaf 0 0 (kept_then c.count_in.ensures.kept c.first_at_least.ensures.kept) (row_then c.args.txn.now c.count_in.new.txn c.first_at_least.new.txn 0 0 c.count_in.ensures.kept.heap c.count_in.ensures.row c.first_at_least.ensures.row) (inr (omega arith))
    (known_later (known_so c.in-Ok.ensures.told (λ st w seen. (seen.0, subst (λ (n : ℕ). c.in-Ok-first_at_least.at < n) (sym seen.1) c.if-at-count.true))) c.first_at_least.ensures.kept)

pub returns-in-Err-entry_at-clause-kept : goal.returns-in-Err-entry_at-clause-kept
returns-in-Err-entry_at-clause-kept g c = kept_then c.count_in.ensures.kept (kept_then c.first_at_least.ensures.kept c.entry_at.ensures.kept)

pub returns-in-Err-entry_at-clause-row : goal.returns-in-Err-entry_at-clause-row
returns-in-Err-entry_at-clause-row g c = row_then c.args.txn.now c.first_at_least.new.txn c.entry_at.new.txn c.args.leaf (c.args.leaf + 1) (kept_then c.count_in.ensures.kept c.first_at_least.ensures.kept).heap (row_wider c.args.leaf (c.args.leaf + 1) (row_then c.args.txn.now c.count_in.new.txn c.first_at_least.new.txn 0 0 c.count_in.ensures.kept.heap c.count_in.ensures.row c.first_at_least.ensures.row)) (row_wider c.args.leaf (c.args.leaf + 1) c.entry_at.ensures.row)

pub returns-then-at-count-clause-kept : goal.returns-then-at-count-clause-kept
returns-then-at-count-clause-kept g c = kept_then c.count_in.ensures.kept (kept_then c.first_at_least.ensures.kept c.entry_at.ensures.kept)

pub returns-then-at-count-clause-row : goal.returns-then-at-count-clause-row
returns-then-at-count-clause-row g c = row_then c.args.txn.now c.first_at_least.new.txn c.entry_at.new.txn c.args.leaf (c.args.leaf + 1) (kept_then c.count_in.ensures.kept c.first_at_least.ensures.kept).heap (row_wider c.args.leaf (c.args.leaf + 1) (row_then c.args.txn.now c.count_in.new.txn c.first_at_least.new.txn 0 0 c.count_in.ensures.kept.heap c.count_in.ensures.row c.first_at_least.ensures.row)) (row_wider c.args.leaf (c.args.leaf + 1) c.entry_at.ensures.row)

pub returns-in-Ok-None-clause-kept : goal.returns-in-Ok-None-clause-kept
returns-in-Ok-None-clause-kept g c = kept_then c.count_in.ensures.kept (kept_then c.first_at_least.ensures.kept c.next_leaf.ensures.kept)

pub returns-in-Ok-None-clause-row : goal.returns-in-Ok-None-clause-row
returns-in-Ok-None-clause-row g c = row_then c.args.txn.now c.first_at_least.new.txn c.next_leaf.new.txn c.args.leaf (c.args.leaf + 1) (kept_then c.count_in.ensures.kept c.first_at_least.ensures.kept).heap (row_wider c.args.leaf (c.args.leaf + 1) (row_then c.args.txn.now c.count_in.new.txn c.first_at_least.new.txn 0 0 c.count_in.ensures.kept.heap c.count_in.ensures.row c.first_at_least.ensures.row)) c.next_leaf.ensures.row

pub returns-in-Ok-Some-clause-kept : goal.returns-in-Ok-Some-clause-kept
returns-in-Ok-Some-clause-kept g c = kept_then c.count_in.ensures.kept (kept_then c.first_at_least.ensures.kept c.next_leaf.ensures.kept)

pub returns-in-Ok-Some-clause-row : goal.returns-in-Ok-Some-clause-row
returns-in-Ok-Some-clause-row g c = row_then c.args.txn.now c.first_at_least.new.txn c.next_leaf.new.txn c.args.leaf (c.args.leaf + 1) (kept_then c.count_in.ensures.kept c.first_at_least.ensures.kept).heap (row_wider c.args.leaf (c.args.leaf + 1) (row_then c.args.txn.now c.count_in.new.txn c.first_at_least.new.txn 0 0 c.count_in.ensures.kept.heap c.count_in.ensures.row c.first_at_least.ensures.row)) c.next_leaf.ensures.row

pub returns-in-Err-next_leaf-clause-kept : goal.returns-in-Err-next_leaf-clause-kept
returns-in-Err-next_leaf-clause-kept g c = kept_then c.count_in.ensures.kept (kept_then c.first_at_least.ensures.kept c.next_leaf.ensures.kept)

pub returns-in-Err-next_leaf-clause-row : goal.returns-in-Err-next_leaf-clause-row
returns-in-Err-next_leaf-clause-row g c = row_then c.args.txn.now c.first_at_least.new.txn c.next_leaf.new.txn c.args.leaf (c.args.leaf + 1) (kept_then c.count_in.ensures.kept c.first_at_least.ensures.kept).heap (row_wider c.args.leaf (c.args.leaf + 1) (row_then c.args.txn.now c.count_in.new.txn c.first_at_least.new.txn 0 0 c.count_in.ensures.kept.heap c.count_in.ensures.row c.first_at_least.ensures.row)) c.next_leaf.ensures.row

pub returns-in-Err-entry_at-clause-refused : goal.returns-in-Err-entry_at-clause-refused
returns-in-Err-entry_at-clause-refused g c = refused_before (kept_then c.count_in.ensures.kept c.first_at_least.ensures.kept) c.in-Err-entry_at.fault c.in-Err-entry_at.ensures.refused

pub returns-then-at-count-clause-told : goal.returns-then-at-count-clause-told
returns-then-at-count-clause-told g c =
    lands_here c.args.leaf c.args.key c.in-Ok.count c.in-Ok-first_at_least.at c.count_in.ensures.kept c.count_in.ensures.row c.in-Ok.ensures.told c.first_at_least.ensures.kept c.first_at_least.ensures.row c.in-Ok-first_at_least.ensures.told c.entry_at.ensures.kept
    c.in-Ok-entry_at.next.key c.in-Ok-entry_at.next.at c.if-at-count.true c.in-Ok-entry_at.ensures.at
    (leads_still c.args.leaf (kept_then (kept_then c.count_in.ensures.kept c.first_at_least.ensures.kept) c.entry_at.ensures.kept)
    (row_then c.args.txn.now c.first_at_least.new.txn c.entry_at.new.txn 0 0 (kept_then c.count_in.ensures.kept c.first_at_least.ensures.kept).heap (row_then c.args.txn.now c.count_in.new.txn c.first_at_least.new.txn 0 0 c.count_in.ensures.kept.heap c.count_in.ensures.row c.first_at_least.ensures.row) c.entry_at.ensures.row)) c.in-Ok-entry_at.ensures.told

pub next_leaf-requires-clause-classes : goal.next_leaf-requires-clause-classes
next_leaf-requires-clause-classes g c = classes_later (kept_then c.count_in.ensures.kept c.first_at_least.ensures.kept) c.requires.classes

pub next_leaf-requires-clause-leaf_is : goal.next_leaf-requires-clause-leaf_is
next_leaf-requires-clause-leaf_is g c =
    known_now (λ (st : State) (w : Part) (n : ℕ). LooksNode w 9 n) c.args.leaf 0 0 (kept_then c.count_in.ensures.kept c.first_at_least.ensures.kept) (row_then c.args.txn.now c.count_in.new.txn c.first_at_least.new.txn 0 0 c.count_in.ensures.kept.heap c.count_in.ensures.row c.first_at_least.ensures.row) (inr (omega arith)) (known_later (known_so c.in-Ok.ensures.told (λ st w seen. seen.0)) c.first_at_least.ensures.kept)

pub returns-in-Ok-None-clause-told : goal.returns-in-Ok-None-clause-told
returns-in-Ok-None-clause-told g c =
    lands_out c.args.leaf c.args.key c.in-Ok.count c.in-Ok-first_at_least.at c.count_in.ensures.kept c.count_in.ensures.row c.in-Ok.ensures.told c.first_at_least.ensures.kept c.first_at_least.ensures.row c.in-Ok-first_at_least.ensures.told c.next_leaf.ensures.kept
    c.if-at-count.false (rw c.in-Ok-None.field-0-is at c.in-Ok-None.ensures.told)

pub returns-in-Ok-Some-clause-told : goal.returns-in-Ok-Some-clause-told
returns-in-Ok-Some-clause-told g c =
    lands_on c.args.leaf c.args.key c.in-Ok.count c.in-Ok-first_at_least.at c.count_in.ensures.kept c.count_in.ensures.row c.in-Ok.ensures.told c.first_at_least.ensures.kept c.first_at_least.ensures.row c.in-Ok-first_at_least.ensures.told c.next_leaf.ensures.kept
    c.in-Ok-Some.next.key c.in-Ok-Some.next.at c.if-at-count.false (rw c.in-Ok-Some.field-0-is at c.in-Ok-Some.ensures.told)

pub returns-in-Err-next_leaf-clause-refused : goal.returns-in-Err-next_leaf-clause-refused
returns-in-Err-next_leaf-clause-refused g c =
    fault_by c.args.txn.now c.first_at_least.new.txn c.next_leaf.new.txn
    (λ st w. IsLanded w (name_at c.args.txn.now st c.args.leaf) (name_at c.first_at_least.new.txn st c.args.leaf) c.args.key c.in-Ok.count c.in-Ok-first_at_least.at)
    (λ st w n. (n ≡ reference (look_of w) (name_at c.first_at_least.new.txn st c.args.leaf) 1) × (n ≢ 0) × (LooksNode w 9 n → ⊥)) (λ st w. LacksLeaf w (name_at c.args.txn.now st c.args.leaf))
    (kept_then c.count_in.ensures.kept c.first_at_least.ensures.kept) (landed c.args.leaf c.args.key c.in-Ok.count c.in-Ok-first_at_least.at c.count_in.ensures.kept c.count_in.ensures.row c.in-Ok.ensures.told c.first_at_least.ensures.kept c.first_at_least.ensures.row c.in-Ok-first_at_least.ensures.told c.next_leaf.ensures.kept)
    (λ st w n land is. follows_lacks w (name_at c.args.txn.now st c.args.leaf) (name_at c.first_at_least.new.txn st c.args.leaf) c.args.key c.in-Ok.count c.in-Ok-first_at_least.at n land is)
    c.in-Err-next_leaf.fault c.in-Err-next_leaf.ensures.refused
