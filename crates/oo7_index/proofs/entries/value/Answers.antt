use Rattle.std.proofs.Common.{◌≡◌, ◌≢◌, ◌+◌, ◌∙◌, ℕ, inr, sym, subst, arith}
use Rattle.pm3_types.specs.declared.places.Place.TheVariants.{Reference}
use Rattle.pm3_types.specs.Graph.{Part}
use Rattle.pm3_history.specs.State.{State}
use Rattle.oo7_schema.specs.Lookup.{reference}
use Rattle.oo7_schema.specs.Nodes.{entry_at}
use Rattle.oo7_objects.specs.Wholes.{HasPlace, look_of, name_at}
use Rattle.oo7_objects.proofs.Knowing.{kept_same, kept_then, known_later, known_place, known_so}
use Rattle.oo7_objects.proofs.Rows.{row_then, row_wider}
use Rattle.oo7_index.specs.Looks.{LooksNode}
use Rattle.oo7_index.proofs.Blaming.{classes_later, fault_by, known_now}
use Rattle.oo7_index.proofs.Looking.{object_place}
use Rattle.oo7_index.proofs.Valuing.{IsAsked, asked, least_low, valued}
use Rattle.oo7_index.proofs.entries.value.Goals as goal

pub count_in-requires-clause-some : goal.count_in-requires-clause-some
count_in-requires-clause-some g c = known_so c.requires.cursor (λ st w cursor. cursor.leaf_is.name)

pub returns-in-Err-clause-refused : goal.returns-in-Err-clause-refused
returns-in-Err-clause-refused g c =
    fault_by c.args.txn.now c.args.txn.now c.count_in.new.txn (λ st w. LooksNode w 9 (name_at c.args.txn.now st c.args.leaf))
    (λ st w n. (n ≡ name_at c.args.txn.now st c.args.leaf) × (LooksNode w 9 n → ⊥))
    (λ st w n. (n ≡ name_at c.args.txn.now st c.args.leaf) × ((entry_at (look_of w) n c.args.entry.at).1 ≡ 0)) (kept_same c.args.txn.now)
    (known_later (known_so c.requires.cursor (λ st w cursor. cursor.leaf_is)) c.count_in.ensures.kept)
    (λ st w n k is. absurd (is.1 (subst (LooksNode w 9) (sym is.0) k))) c.in-Err.fault c.in-Err.ensures.refused

pub follow-requires-clause-some : goal.follow-requires-clause-some
follow-requires-clause-some g c =
    known_place (λ (st : State) (w : Part) (n : ℕ). n ≢ 0) c.args.leaf 0 0 (known_so c.requires.cursor (λ st w cursor. cursor.leaf_is.name)) c.count_in.ensures.kept c.count_in.ensures.row (inr (omega arith))

pub follow-requires-clause-there : goal.follow-requires-clause-there
follow-requires-clause-there g c =
    known_now (λ (st : State) (w : Part) (n : ℕ). HasPlace w n (Reference (17 + c.min-at.result))) c.args.leaf 0 0 c.count_in.ensures.kept c.count_in.ensures.row (inr (omega arith))
    (known_so c.in-Ok.ensures.told (λ st w seen. object_place w (name_at c.args.txn.now st c.args.leaf) seen.0.is c.min-at.result
    (least_low c.min-at.result c.args.entry.at c.in-Ok.count c.min-at.ensures c.in-Ok.ensures.range.0 c.in-Ok.ensures.range.1)))

pub returns-in-Err-follow-clause-refused : goal.returns-in-Err-follow-clause-refused
returns-in-Err-follow-clause-refused g c =
    fault_by c.args.txn.now c.count_in.new.txn c.follow.new.txn (λ st w. IsAsked w (name_at c.args.txn.now st c.args.leaf) (name_at c.count_in.new.txn st c.args.leaf) c.args.entry.key c.args.entry.at c.min-at.result)
    (λ st w n. (n ≡ name_at c.count_in.new.txn st c.args.leaf) × (reference (look_of w) n (17 + c.min-at.result) ≡ 0))
    (λ st w n. (n ≡ name_at c.args.txn.now st c.args.leaf) × ((entry_at (look_of w) n c.args.entry.at).1 ≡ 0)) c.count_in.ensures.kept
    (asked c.args.leaf c.args.entry.key c.args.entry.at c.in-Ok.count c.min-at.result c.requires.cursor c.count_in.ensures.kept c.count_in.ensures.row c.in-Ok.ensures.told c.min-at.ensures c.follow.ensures.kept)
    (λ st w n k is. (is.0 ∙ k.same, subst (λ (m : ℕ). reference (look_of w) n (17 + m) ≡ 0) k.least is.1)) c.in-Err-follow.fault c.in-Err-follow.ensures.refused

pub returns-clause-told : goal.returns-clause-told
returns-clause-told g c =
    valued c.args.leaf c.args.entry.key c.args.entry.at c.in-Ok.count c.min-at.result c.requires.cursor c.count_in.ensures.kept c.count_in.ensures.row c.in-Ok.ensures.told c.min-at.ensures c.follow.ensures.kept c.args.j c.in_default.ensures.told

pub returns-in-Err-clause-row : goal.returns-in-Err-clause-row
returns-in-Err-clause-row g c = row_wider c.args.j (c.args.j + 1) c.count_in.ensures.row

pub returns-in-Err-follow-clause-kept : goal.returns-in-Err-follow-clause-kept
returns-in-Err-follow-clause-kept g c = kept_then c.count_in.ensures.kept c.follow.ensures.kept

pub returns-in-Err-follow-clause-row : goal.returns-in-Err-follow-clause-row
returns-in-Err-follow-clause-row g c = row_then c.args.txn.now c.count_in.new.txn c.follow.new.txn c.args.j (c.args.j + 1) c.count_in.ensures.kept.heap (row_wider c.args.j (c.args.j + 1) c.count_in.ensures.row) c.follow.ensures.row

pub returns-clause-kept : goal.returns-clause-kept
returns-clause-kept g c = kept_then c.count_in.ensures.kept c.follow.ensures.kept

pub returns-clause-row : goal.returns-clause-row
returns-clause-row g c = row_then c.args.txn.now c.count_in.new.txn c.follow.new.txn c.args.j (c.args.j + 1) c.count_in.ensures.kept.heap (row_wider c.args.j (c.args.j + 1) c.count_in.ensures.row) c.follow.ensures.row

pub follow-requires-clause-classes : goal.follow-requires-clause-classes
follow-requires-clause-classes g c = classes_later c.count_in.ensures.kept c.requires.classes
