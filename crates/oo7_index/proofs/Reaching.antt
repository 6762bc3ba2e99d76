-- How the way of a call goes on: from a tree to its root, and from an inner node to a child.
use Rattle.std.proofs.Common.{◌≡◌, ◌≢◌, ◌-◌, ◌<◌, ◌∙◌, ℕ, suc, inr, sym, ap, subst, arith}
use Rattle.pm3_types.specs.Graph.{Part}
use Rattle.pm3_history.specs.State.{State}
use Rattle.pm3_txn.specs.States.{TxnState}
use Rattle.oo7_schema.specs.Lookup.{word, reference}
use Rattle.oo7_objects.specs.Wholes.{Kept, KeepsRow, Knows, look_of, name_at}
use Rattle.oo7_index.specs.Departures.{Departs, Leads, no_inner, no_root, no_tree, root, under}
use Rattle.oo7_index.specs.Descents.{IsBelow, IsOnWay, IsOnWayTo}
use Rattle.oo7_index.specs.Looks.{LacksChild, LooksNode, LooksTree}
use Rattle.oo7_index.proofs.Descending.{way_begins, way_down}

-- a child of a node on the way is on it
on_way_down : (w : Part) (tree key left n below : ℕ) → 0 < left → IsOnWayTo w tree key left n → IsBelow w n key below → IsOnWayTo w tree key (left - 1) below
on_way_down w tree key left n below some on is = record {
  leads = subst (Leads w tree (left - 1)) (sym is.is) (under (left - 1) n is.m leads is.inner is.first.most);
  some = is.some;
  way = λ es index. way_down (look_of w) key es (left - 1) n is.m (subst (λ (h : ℕ). IsOnWay (look_of w) key es h n) next (on.way es index)) is.first below is.is;
}
  where
    next : left ≡ suc (left - 1)
    next = omega (arith, some)

    leads : Leads w tree (suc (left - 1)) n
    leads = subst (λ (h : ℕ). Leads w tree h n) next on.leads

module _ {R : Type 0} where
  -- from the tree to its root
  pub begun : {a b e : TxnState R} (tree key height leaf : ℕ) → (height ≡ 0 → ⊥) → Kept a b → KeepsRow a b 0 0 → Kept b e
      → Knows b (λ st w. LooksTree w (name_at a st tree) × (word (look_of w) (name_at a st tree) 0 ≡ height))
      → Knows e (λ st w. (reference (look_of w) (name_at b st tree) 2 ≡ name_at e st leaf) × (name_at e st leaf ≢ 0))
      → Knows e (λ st w. IsOnWayTo w (name_at a st tree) key (height - 1) (name_at e st leaf))
  begun {a} {b} {e} tree key height leaf some kept row after seen read = record {
    of = λ st g w whole. (let in_b = after.was st g w whole in
        let in_a = kept.was st g w in_b in
        at st w (row.names st in_a.opens tree (inr (omega arith))) (seen.of st g w in_b) (read.of st g w whole));
  }
    where
      next : height ≡ suc (height - 1)
      next = omega (arith, some)

      at : (st : State) (w : Part) → name_at b st tree ≡ name_at a st tree → LooksTree w (name_at a st tree) × (word (look_of w) (name_at a st tree) 0 ≡ height)
          → (reference (look_of w) (name_at b st tree) 2 ≡ name_at e st leaf) × (name_at e st leaf ≢ 0) → IsOnWayTo w (name_at a st tree) key (height - 1) (name_at e st leaf)
      at st w same is there =
          let goes : reference (look_of w) (name_at a st tree) 2 ≡ name_at e st leaf = ap (λ (n : ℕ). reference (look_of w) n 2) (sym same) ∙ there.0 in record {
            leads = subst (Leads w (name_at a st tree) (height - 1)) goes (root (height - 1) is.0 (is.1 ∙ next));
            some = there.1;
            way = λ es index. subst (IsOnWay (look_of w) key es (height - 1)) goes (way_begins (look_of w) key es (name_at a st tree) (height - 1) index (is.1 ∙ next));
          }

  -- and from a node to its child
  pub goes_down : (a : TxnState R) {b c : TxnState R} (tree key left leaf : ℕ) → 0 < left → Kept b c
      → Knows b (λ st w. IsOnWayTo w (name_at a st tree) key left (name_at b st leaf)) → Knows c (λ st w. IsBelow w (name_at b st leaf) key (name_at c st leaf))
      → Knows c (λ st w. IsOnWayTo w (name_at a st tree) key (left - 1) (name_at c st leaf))
  goes_down a {b} {c} tree key left leaf some kept on below = record {
    of = λ st g w whole. on_way_down w (name_at a st tree) key left (name_at b st leaf) (name_at c st leaf) some (on.of st g w (kept.was st g w whole)) (below.of st g w whole);
  }

-- what a look at a tree told, and that its place leads where it led
pub both_of : {R : Type 0} (a b : TxnState R) (tree height : ℕ) (st : State) (w : Part) → LooksTree w (name_at a st tree) × (word (look_of w) (name_at a st tree) 0 ≡ height) → name_at b st tree ≡ name_at a st tree
    → (LooksTree w (name_at a st tree) × (word (look_of w) (name_at a st tree) 0 ≡ height)) × (name_at b st tree ≡ name_at a st tree)
both_of a b tree height st w is same = (is, same)

-- what departs
pub tree_departs : (w : Part) (tree n : ℕ) → (n ≡ tree) × (LooksTree w n → ⊥) → Departs w tree n
tree_departs w tree n is = subst (Departs w tree) (sym is.0) (no_tree (λ looks. is.1 (subst (LooksTree w) (sym is.0) looks)))

pub root_departs : (w : Part) (tree height here n : ℕ) → (height ≡ 0 → ⊥) → here ≡ tree → LooksTree w tree → word (look_of w) tree 0 ≡ height → (n ≡ here) × (reference (look_of w) n 2 ≡ 0) → Departs w tree n
root_departs w tree height here n some same looks is nil =
    let e : n ≡ tree = nil.0 ∙ same in
    let next : height ≡ suc (height - 1) = omega (arith, some) in
    subst (Departs w tree) (sym e) (no_root (height - 1) looks (is ∙ next) (subst (λ (m : ℕ). reference (look_of w) m 2 ≡ 0) e nil.1))

pub inner_departs : (w : Part) (tree key left here n : ℕ) → 0 < left → IsOnWayTo w tree key left here → (n ≡ here) × (LooksNode w 10 n → LacksChild w n) → Departs w tree n
inner_departs w tree key left here n some on is =
    let next : left ≡ suc (left - 1) = omega (arith, some) in
    no_inner (left - 1) n (subst (Leads w tree (suc (left - 1))) (sym is.0) (subst (λ (h : ℕ). Leads w tree h here) next on.leads)) is.1
