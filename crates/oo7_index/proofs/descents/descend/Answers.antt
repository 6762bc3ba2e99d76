use Rattle.std.proofs.Common.{rules, ◌≡◌, ◌≢◌, ◌+◌, ◌∙◌, ℕ, inr, arith, subst}
use Rattle.pm3_types.specs.declared.places.Place.TheVariants.{Reference}
use Rattle.pm3_types.specs.Graph.{Part}
use Rattle.pm3_history.specs.State.{State}
use Rattle.oo7_schema.specs.Lookup.{reference, word}
use Rattle.oo7_objects.specs.Wholes.{HasPlace, look_of, name_at}
use Rattle.oo7_objects.proofs.Knowing.{kept_same, kept_then, known_always, known_both, known_later, known_place, known_so}
use Rattle.oo7_objects.proofs.Rows.{row_then, row_wider}
use Rattle.oo7_index.specs.Departures.{Departs}
use Rattle.oo7_index.specs.Descents.{IsOnWayTo}
use Rattle.oo7_index.specs.Looks.{LacksChild, LooksNode, LooksTree}
use Rattle.oo7_index.proofs.Blaming.{classes_later, fault_by, known_now, leads_still}
use Rattle.oo7_index.proofs.Looking.{root_place}
use Rattle.oo7_index.proofs.Reaching.{begun, both_of, goes_down, inner_departs, root_departs, tree_departs}
use Rattle.oo7_index.proofs.descents.descend.Goals as goal

pub returns-in-Err-clause-refused : goal.returns-in-Err-clause-refused
returns-in-Err-clause-refused g c =
    fault_by c.args.txn.now c.args.txn.now c.height_of.new.txn (λ st w. Unit {0}) (λ st w n. (n ≡ name_at c.args.txn.now st c.args.tree) × (LooksTree w n → ⊥))
    (λ st w. Departs w (name_at c.args.txn.now st c.args.tree)) (kept_same c.args.txn.now) (known_always c.height_of.new.txn (λ st w. tt))
    (λ st w n k is. tree_departs w (name_at c.args.txn.now st c.args.tree) n is) c.in-Err.fault c.in-Err.ensures.refused

pub returns-in-Err-clause-row : goal.returns-in-Err-clause-row
returns-in-Err-clause-row g c = row_wider c.args.leaf (c.args.leaf + 1) c.height_of.ensures.row

pub follow-requires-clause-classes : goal.follow-requires-clause-classes
follow-requires-clause-classes g c = classes_later c.height_of.ensures.kept c.requires.classes

pub follow-requires-clause-some : goal.follow-requires-clause-some
follow-requires-clause-some g c = known_place (λ (st : State) (w : Part) (n : ℕ). n ≢ 0) c.args.tree 0 0 c.requires.some c.height_of.ensures.kept c.height_of.ensures.row (inr (omega arith))

pub follow-requires-clause-there : goal.follow-requires-clause-there
follow-requires-clause-there g c =
    known_now (λ (st : State) (w : Part) (n : ℕ). HasPlace w n (Reference 2)) c.args.tree 0 0 c.height_of.ensures.kept c.height_of.ensures.row (inr (omega arith))
    (known_so c.in-Ok.ensures.told (λ st w seen. root_place w (name_at c.args.txn.now st c.args.tree) seen.0.is))

pub returns-then-height-eq0-clause-none : goal.returns-then-height-eq0-clause-none
returns-then-height-eq0-clause-none g c = λ never. known_so c.in-Ok.ensures.told (λ st w seen. seen.1 ∙ c.if-height-eq0.true)

pub returns-in-Err-follow-clause-kept : goal.returns-in-Err-follow-clause-kept
returns-in-Err-follow-clause-kept g c = kept_then c.height_of.ensures.kept c.follow.ensures.kept

pub returns-in-Err-follow-clause-row : goal.returns-in-Err-follow-clause-row
returns-in-Err-follow-clause-row g c =
    row_then c.args.txn.now c.height_of.new.txn c.follow.new.txn c.args.leaf (c.args.leaf + 1) c.height_of.ensures.kept.heap (row_wider c.args.leaf (c.args.leaf + 1) c.height_of.ensures.row) c.follow.ensures.row

pub returns-in-Err-follow-clause-refused : goal.returns-in-Err-follow-clause-refused
returns-in-Err-follow-clause-refused g c =
    fault_by c.args.txn.now c.height_of.new.txn c.follow.new.txn
    (λ st w. (LooksTree w (name_at c.args.txn.now st c.args.tree) × (word (look_of w) (name_at c.args.txn.now st c.args.tree) 0 ≡ c.in-Ok.height))
    × (name_at c.height_of.new.txn st c.args.tree ≡ name_at c.args.txn.now st c.args.tree))
    (λ st w n. (n ≡ name_at c.height_of.new.txn st c.args.tree) × (reference (look_of w) n 2 ≡ 0)) (λ st w. Departs w (name_at c.args.txn.now st c.args.tree)) c.height_of.ensures.kept
    (known_later (known_both c.in-Ok.ensures.told (kept_same c.height_of.new.txn) (leads_still c.args.tree c.height_of.ensures.kept c.height_of.ensures.row) (both_of c.args.txn.now c.height_of.new.txn c.args.tree c.in-Ok.height)) c.follow.ensures.kept)
    (λ st w n k is. root_departs w (name_at c.args.txn.now st c.args.tree) c.in-Ok.height (name_at c.height_of.new.txn st c.args.tree) n c.if-height-eq0.false k.1 k.0.0 k.0.1 is)
    c.in-Err-follow.fault c.in-Err-follow.ensures.refused

pub loop-left-init : goal.loop-left-init
loop-left-init g c = record {
  on = begun c.args.tree c.args.key c.in-Ok.height c.args.leaf c.if-height-eq0.false c.height_of.ensures.kept c.height_of.ensures.row c.follow.ensures.kept c.in-Ok.ensures.told c.in_default.ensures.told;
  kept = kept_then c.height_of.ensures.kept c.follow.ensures.kept;
  row = row_then c.args.txn.now c.height_of.new.txn c.follow.new.txn c.args.leaf (c.args.leaf + 1) c.height_of.ensures.kept.heap (row_wider c.args.leaf (c.args.leaf + 1) c.height_of.ensures.row)
      c.follow.ensures.row;
}

pub go_down-requires-clause-classes : goal.go_down-requires-clause-classes
go_down-requires-clause-classes g c = classes_later c.loop-left.invariant.kept c.requires.classes

pub go_down-requires-clause-some : goal.go_down-requires-clause-some
go_down-requires-clause-some g c = known_so c.loop-left.invariant.on (λ st w on. on.some)

pub returns-in-Err-go_down-clause-kept : goal.returns-in-Err-go_down-clause-kept
returns-in-Err-go_down-clause-kept g c = kept_then c.loop-left.invariant.kept c.go_down.ensures.kept

pub returns-in-Err-go_down-clause-row : goal.returns-in-Err-go_down-clause-row
returns-in-Err-go_down-clause-row g c =
    row_then c.args.txn.now c.loop-left.txn c.go_down.new.txn c.args.leaf (c.args.leaf + 1) c.loop-left.invariant.kept.heap c.loop-left.invariant.row c.go_down.ensures.row

pub returns-in-Err-go_down-clause-refused : goal.returns-in-Err-go_down-clause-refused
returns-in-Err-go_down-clause-refused g c =
    fault_by c.args.txn.now c.loop-left.txn c.go_down.new.txn (λ st w. IsOnWayTo w (name_at c.args.txn.now st c.args.tree) c.args.key c.loop-left.left (name_at c.loop-left.txn st c.args.leaf))
    (λ st w n. (n ≡ name_at c.loop-left.txn st c.args.leaf) × (LooksNode w 10 n → LacksChild w n)) (λ st w. Departs w (name_at c.args.txn.now st c.args.tree)) c.loop-left.invariant.kept
    (known_later c.loop-left.invariant.on c.go_down.ensures.kept)
    (λ st w n on is. inner_departs w (name_at c.args.txn.now st c.args.tree) c.args.key c.loop-left.left (name_at c.loop-left.txn st c.args.leaf) n (search rules) on is)
    c.in-Err-go_down.fault c.in-Err-go_down.ensures.refused

pub loop-left-preserved : goal.loop-left-preserved
loop-left-preserved g c = record {
  on = goes_down c.args.txn.now c.args.tree c.args.key c.loop-left.left c.args.leaf (search rules) c.go_down.ensures.kept c.loop-left.invariant.on c.in_default-go_down.ensures.told;
  kept = kept_then c.loop-left.invariant.kept c.go_down.ensures.kept;
  row = row_then c.args.txn.now c.loop-left.txn c.go_down.new.txn c.args.leaf (c.args.leaf + 1) c.loop-left.invariant.kept.heap c.loop-left.invariant.row c.go_down.ensures.row;
}

pub returns-clause-told : goal.returns-clause-told
returns-clause-told g c = λ always. known_so c.loop-left.invariant.on (λ st w on. subst (λ (h : ℕ). IsOnWayTo w (name_at c.args.txn.now st c.args.tree) c.args.key h (name_at c.loop-left.txn st c.args.leaf)) none on)
  where
    none : c.loop-left.left ≡ 0
    none = search rules

pub returns-clause-kept : goal.returns-clause-kept
returns-clause-kept g c = c.loop-left.invariant.kept
