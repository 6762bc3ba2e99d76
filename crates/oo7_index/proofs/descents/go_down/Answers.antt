use Rattle.std.proofs.Common.{◌≡◌, ◌≢◌, ◌+◌, ◌<◌, ◌∙◌, ℕ, inr, arith}
use Rattle.pm3_types.specs.declared.places.Place.TheVariants.{Reference, Word}
use Rattle.pm3_types.specs.Graph.{Part}
use Rattle.pm3_history.specs.State.{State}
use Rattle.oo7_schema.specs.Lookup.{reference}
use Rattle.oo7_objects.specs.Wholes.{HasPlace, look_of, name_at}
use Rattle.oo7_objects.proofs.Knowing.{kept_same, kept_then, known_always, known_later, known_place, known_so}
use Rattle.oo7_objects.proofs.Rows.{refused_before, row_then, row_wider}
use Rattle.oo7_index.specs.Looks.{LacksChild, LooksNode}
use Rattle.oo7_index.proofs.Blaming.{classes_later, fault_by, known_now}
use Rattle.oo7_index.proofs.Looking.{child_place, inner_key}
use Rattle.oo7_index.proofs.Seeking.{lacks, went_down}
use Rattle.oo7_index.proofs.descents.go_down.Goals as goal

pub returns-in-Err-clause-refused : goal.returns-in-Err-clause-refused
returns-in-Err-clause-refused g c =
    fault_by c.args.txn.now c.args.txn.now c.count_in.new.txn (λ st w. Unit {0}) (λ st w n. (n ≡ name_at c.args.txn.now st c.args.node) × (LooksNode w 10 n → ⊥))
    (λ st w n. (n ≡ name_at c.args.txn.now st c.args.node) × (LooksNode w 10 n → LacksChild w n)) (kept_same c.args.txn.now) (known_always c.count_in.new.txn (λ st w. tt))
    (λ st w n k is. (is.0, λ node. absurd (is.1 node))) c.in-Err.fault c.in-Err.ensures.refused

pub first_at_least-requires-clause-there : goal.first_at_least-requires-clause-there
first_at_least-requires-clause-there g c =
    known_now (λ (st : State) (w : Part) (n : ℕ). (k : ℕ) → k < c.in-Ok.count → HasPlace w n (Word (1 + k))) c.args.node 0 0 c.count_in.ensures.kept c.count_in.ensures.row (inr (omega arith))
    (known_so c.in-Ok.ensures.told (λ st w seen k low. inner_key w (name_at c.args.txn.now st c.args.node) seen.0.is k (let most = c.in-Ok.ensures.range.1 in omega (arith, low, most))))

pub returns-in-Err-first_at_least-clause-refused : goal.returns-in-Err-first_at_least-clause-refused
returns-in-Err-first_at_least-clause-refused g c = refused_before c.count_in.ensures.kept c.in-Err-first_at_least.fault c.in-Err-first_at_least.ensures.refused

pub follow-requires-clause-some : goal.follow-requires-clause-some
follow-requires-clause-some g c =
    known_place (λ (st : State) (w : Part) (n : ℕ). n ≢ 0) c.args.node 0 0 c.requires.some (kept_then c.count_in.ensures.kept c.first_at_least.ensures.kept)
    (row_then c.args.txn.now c.count_in.new.txn c.first_at_least.new.txn 0 0 c.count_in.ensures.kept.heap c.count_in.ensures.row c.first_at_least.ensures.row) (inr (omega arith))

pub follow-requires-clause-there : goal.follow-requires-clause-there
follow-requires-clause-there g c =
    known_now (λ (st : State) (w : Part) (n : ℕ). HasPlace w n (Reference (16 + c.in-Ok-first_at_least.at))) c.args.node 0 0 (kept_then c.count_in.ensures.kept c.first_at_least.ensures.kept)
    (row_then c.args.txn.now c.count_in.new.txn c.first_at_least.new.txn 0 0 c.count_in.ensures.kept.heap c.count_in.ensures.row c.first_at_least.ensures.row) (inr (omega arith))
    (known_later (known_so c.in-Ok.ensures.told (λ st w seen. child_place w (name_at c.args.txn.now st c.args.node) seen.0.is c.in-Ok-first_at_least.at
    (let most = c.in-Ok.ensures.range.1 in let within = c.in-Ok-first_at_least.ensures.most in omega (arith, most, within)))) c.first_at_least.ensures.kept)

pub returns-in-Err-follow-clause-refused : goal.returns-in-Err-follow-clause-refused
returns-in-Err-follow-clause-refused g c =
    fault_by c.args.txn.now c.first_at_least.new.txn c.follow.new.txn
    (λ st w. (name_at c.first_at_least.new.txn st c.args.node ≡ name_at c.args.txn.now st c.args.node)
    × ((n : ℕ) → n ≡ name_at c.args.txn.now st c.args.node → reference (look_of w) n (16 + c.in-Ok-first_at_least.at) ≡ 0 → LacksChild w n))
    (λ st w n. (n ≡ name_at c.first_at_least.new.txn st c.args.node) × (reference (look_of w) n (16 + c.in-Ok-first_at_least.at) ≡ 0))
    (λ st w n. (n ≡ name_at c.args.txn.now st c.args.node) × (LooksNode w 10 n → LacksChild w n)) (kept_then c.count_in.ensures.kept c.first_at_least.ensures.kept)
    (lacks c.args.node c.args.key c.in-Ok.count c.in-Ok-first_at_least.at c.count_in.ensures.kept c.count_in.ensures.row c.in-Ok.ensures.told c.first_at_least.ensures.kept c.first_at_least.ensures.row
    c.in-Ok-first_at_least.ensures.told c.follow.ensures.kept)
    (λ st w n k is. (is.0 ∙ k.0, λ node. k.1 n (is.0 ∙ k.0) is.1)) c.in-Err-follow.fault c.in-Err-follow.ensures.refused

pub returns-clause-told : goal.returns-clause-told
returns-clause-told g c =
    went_down c.args.node c.args.key c.in-Ok.count c.in-Ok-first_at_least.at c.count_in.ensures.kept c.count_in.ensures.row c.in-Ok.ensures.told c.first_at_least.ensures.kept c.first_at_least.ensures.row
    c.in-Ok-first_at_least.ensures.told c.follow.ensures.kept c.in_default.ensures.told

pub returns-in-Err-clause-row : goal.returns-in-Err-clause-row
returns-in-Err-clause-row g c = row_wider c.args.node (c.args.node + 1) c.count_in.ensures.row

pub returns-in-Err-first_at_least-clause-kept : goal.returns-in-Err-first_at_least-clause-kept
returns-in-Err-first_at_least-clause-kept g c = kept_then c.count_in.ensures.kept c.first_at_least.ensures.kept

pub returns-in-Err-first_at_least-clause-row : goal.returns-in-Err-first_at_least-clause-row
returns-in-Err-first_at_least-clause-row g c = row_then c.args.txn.now c.count_in.new.txn c.first_at_least.new.txn c.args.node (c.args.node + 1) c.count_in.ensures.kept.heap (row_wider c.args.node (c.args.node + 1) c.count_in.ensures.row) (row_wider c.args.node (c.args.node + 1) c.first_at_least.ensures.row)

pub returns-in-Err-follow-clause-kept : goal.returns-in-Err-follow-clause-kept
returns-in-Err-follow-clause-kept g c = kept_then c.count_in.ensures.kept (kept_then c.first_at_least.ensures.kept c.follow.ensures.kept)

pub returns-in-Err-follow-clause-row : goal.returns-in-Err-follow-clause-row
returns-in-Err-follow-clause-row g c = row_then c.args.txn.now c.count_in.new.txn c.follow.new.txn c.args.node (c.args.node + 1) c.count_in.ensures.kept.heap (row_wider c.args.node (c.args.node + 1) c.count_in.ensures.row) (row_then c.count_in.new.txn c.first_at_least.new.txn c.follow.new.txn c.args.node (c.args.node + 1) c.first_at_least.ensures.kept.heap (row_wider c.args.node (c.args.node + 1) c.first_at_least.ensures.row) c.follow.ensures.row)

pub returns-clause-kept : goal.returns-clause-kept
returns-clause-kept g c = kept_then c.count_in.ensures.kept (kept_then c.first_at_least.ensures.kept c.follow.ensures.kept)

pub returns-clause-row : goal.returns-clause-row
returns-clause-row g c = row_then c.args.txn.now c.count_in.new.txn c.follow.new.txn c.args.node (c.args.node + 1) c.count_in.ensures.kept.heap (row_wider c.args.node (c.args.node + 1) c.count_in.ensures.row) (row_then c.count_in.new.txn c.first_at_least.new.txn c.follow.new.txn c.args.node (c.args.node + 1) c.first_at_least.ensures.kept.heap (row_wider c.args.node (c.args.node + 1) c.first_at_least.ensures.row) c.follow.ensures.row)

pub first_at_least-requires-clause-classes : goal.first_at_least-requires-clause-classes
first_at_least-requires-clause-classes g c = classes_later c.count_in.ensures.kept c.requires.classes

pub follow-requires-clause-classes : goal.follow-requires-clause-classes
follow-requires-clause-classes g c = classes_later (kept_then c.count_in.ensures.kept c.first_at_least.ensures.kept) c.requires.classes
