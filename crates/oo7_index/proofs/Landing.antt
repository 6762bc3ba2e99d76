-- The end of the way as a call meets it: the first entry from a key on, in a leaf or in the one that follows.
use Rattle.std.proofs.Common.{◌≡◌, ◌≢◌, ◌+◌, ◌<◌, ◌≤◌, ◌∙◌, inl, inr, ℕ, List, [], sym, ap, subst, arith}
use Rattle.pm3_types.specs.Graph.{Part}
use Rattle.pm3_txn.specs.States.{TxnState}
use Rattle.oo7_schema.specs.Entries.{Entry, from_key}
use Rattle.oo7_schema.specs.Lookup.{word, reference}
use Rattle.oo7_objects.specs.Wholes.{Kept, KeepsRow, Knows, look_of, name_at}
use Rattle.oo7_index.specs.Cursors.{From, IsCursor, IsNext}
use Rattle.oo7_index.specs.Departures.{Departs, LacksLeaf, no_leaf, no_next}
use Rattle.oo7_index.specs.Descents.{IsFirst, IsFromKey, IsFromLeaf, IsOnWayTo}
use Rattle.oo7_index.specs.Looks.{LooksNode}
use Rattle.oo7_index.proofs.Arriving.{arrives, arrives_on, arrives_out}
use Rattle.oo7_index.proofs.Descending.{none_there}

-- a leaf that was looked at, and the first of its keys that is not below
pub record IsLanded (w : Part) (leaf here key count at : ℕ) : Type 0 where
  pub seen : LooksNode w 9 leaf
  pub count_is : word (look_of w) leaf 0 ≡ count
  pub first : IsFirst (λ (k : ℕ). word (look_of w) leaf (2 + k)) key (word (look_of w) leaf 0) at
  pub same : here ≡ leaf

module _ {R : Type 0} {a b c e : TxnState R} (leaf key count at : ℕ) (kept_b : Kept a b) (row_b : KeepsRow a b 0 0)
    (seen_b : Knows b (λ st w. LooksNode w 9 (name_at a st leaf) × (word (look_of w) (name_at a st leaf) 0 ≡ count)))
    (kept_c : Kept b c) (row_c : KeepsRow b c 0 0) (found : Knows c (λ st w. IsFirst (λ (k : ℕ). word (look_of w) (name_at b st leaf) (2 + k)) key count at)) (kept_e : Kept c e) where
  pub landed : Knows e (λ st w. IsLanded w (name_at a st leaf) (name_at c st leaf) key count at)
  landed = record {
    of = λ st g w whole. (let in_c = kept_e.was st g w whole in
        let in_b = kept_c.was st g w in_c in
        let in_a = kept_b.was st g w in_b in
        let before = row_b.names st in_a.opens leaf (inr (omega arith)) in
        let is = seen_b.of st g w in_b in
        record {
          seen = is.0;
          count_is = is.1;
          first = subst (λ (n : ℕ). IsFirst (λ (k : ℕ). word (look_of w) (name_at a st leaf) (2 + k)) key n at) (sym is.1)
              (subst (λ (n : ℕ). IsFirst (λ (k : ℕ). word (look_of w) n (2 + k)) key count at) before (found.of st g w in_c));
          same = row_c.names st in_b.opens leaf (inr (omega arith)) ∙ before;
        });
  }

  pub lands_here : (next_key next : ℕ) → at < count → next ≡ at → Knows e (λ st w. name_at e st leaf ≡ name_at a st leaf) → Knows e (λ st w. IsCursor w (name_at c st leaf) next_key at)
      → Knows e (λ st w. IsCursor w (name_at e st leaf) next_key next × ((rest : List Entry) → IsFromLeaf (look_of w) (name_at a st leaf) key rest → From (look_of w) (name_at e st leaf) next rest))
  lands_here next_key next low is still cursor = record {
    of = λ st g w whole. (let land = landed.of st g w whole in
        let here = still.of st g w whole in
        let there : name_at c st leaf ≡ name_at e st leaf = land.same ∙ sym here in (
          subst (λ (n : ℕ). IsCursor w n next_key next) there (subst (IsCursor w (name_at c st leaf) next_key) (sym is) (cursor.of st g w whole)),
          λ rest from. subst (λ (n : ℕ). From (look_of w) n next rest) (sym here) (subst (λ (m : ℕ). From (look_of w) (name_at a st leaf) m rest) (sym is)
              (subst (From (look_of w) (name_at a st leaf) at) (sym from.is)
              (arrives (look_of w) key from.es (name_at a st leaf) at from.way land.first (subst (λ (n : ℕ). at < n) (sym land.count_is) low)))),
        ));
  }

  pub lands_out : count ≤ at → Knows e (λ st w. reference (look_of w) (name_at c st leaf) 1 ≡ 0)
      → Knows e (λ st w. (rest : List Entry) → IsFromLeaf (look_of w) (name_at a st leaf) key rest → rest ≡ [])
  lands_out high none = record {
    of = λ st g w whole. (let land = landed.of st g w whole in
        λ rest from. from.is ∙ arrives_out (look_of w) key from.es (name_at a st leaf) at from.way land.first (subst (λ (n : ℕ). n ≤ at) (sym land.count_is) high)
        (subst (λ (n : ℕ). reference (look_of w) n 1 ≡ 0) land.same (none.of st g w whole)));
  }

  pub lands_on : (next_key next : ℕ) → count ≤ at → Knows e (λ st w. IsNext w (name_at c st leaf) (name_at e st leaf) next_key next)
      → Knows e (λ st w. IsCursor w (name_at e st leaf) next_key next × ((rest : List Entry) → IsFromLeaf (look_of w) (name_at a st leaf) key rest → From (look_of w) (name_at e st leaf) next rest))
  lands_on next_key next high follows = record {
    of = λ st g w whole. (let land = landed.of st g w whole in
        let is = follows.of st g w whole in (
          is.cursor,
          λ rest from. subst (λ (m : ℕ). From (look_of w) (name_at e st leaf) m rest) (sym is.first)
              (subst (From (look_of w) (name_at e st leaf) 0) (sym from.is)
              (arrives_on (look_of w) key from.es (name_at a st leaf) at from.way land.first (name_at e st leaf) (subst (λ (n : ℕ). n ≤ at) (sym land.count_is) high)
              (is.is ∙ ap (λ (n : ℕ). reference (look_of w) n 1) land.same) is.some is.cursor.leaf_is.some)),
        ));
  }

pub follows_lacks : (w : Part) (leaf here key count at n : ℕ) → IsLanded w leaf here key count at → (n ≡ reference (look_of w) here 1) × (n ≢ 0) × (LooksNode w 9 n → ⊥) → LacksLeaf w leaf n
follows_lacks w leaf here key count at n land is = inr (land.seen, is.0 ∙ ap (λ (m : ℕ). reference (look_of w) m 1) land.same, is.1, is.2)

-- said of the tree
pub leaf_departs : (w : Part) (tree key leaf n : ℕ) → IsOnWayTo w tree key 0 leaf → LacksLeaf w leaf n → Departs w tree n
leaf_departs w tree key leaf n on (inl is) = subst (Departs w tree) (sym is.0) (no_leaf leaf on.leads (λ looks. is.1 (subst (LooksNode w 9) (sym is.0) looks)))
leaf_departs w tree key leaf n on (inr is) =
    subst (Departs w tree) (sym is.1) (no_next leaf on.leads is.0 (λ looks. is.3 (subst (LooksNode w 9) (sym is.1) looks)) (λ nil. is.2 (is.1 ∙ nil)))

pub from_leaf : (w : Part) (tree key leaf : ℕ) (rest : List Entry) → IsOnWayTo w tree key 0 leaf → IsFromKey w tree key rest → IsFromLeaf (look_of w) leaf key rest
from_leaf w tree key leaf rest on from = record { es = from.es; way = on.way from.es from.index; is = from.is }

pub none_from : (w : Part) (tree key : ℕ) (rest : List Entry) → word (look_of w) tree 0 ≡ 0 → IsFromKey w tree key rest → rest ≡ []
none_from w tree key rest height from = from.is ∙ ap (from_key key) (none_there (look_of w) key from.es tree from.index height)
