-- Which objects of a tree depart from a design, as far as one call looks at them.
use Rattle.std.specs.Prelude.{ℕ, suc, ◌≡◌, ◌≢◌, ◌≤◌, ◌⊎◌, List, None}
use Rattle.std.specs.FinMap.{get}
use Rattle.pm3_types.specs.Graph.{Part}
use Rattle.oo7_schema.specs.Entries.{Entry}
use Rattle.oo7_schema.specs.Lookup.{word, reference}
use Rattle.oo7_schema.specs.Nodes.{IsIndex, child}
use Rattle.oo7_objects.specs.Wholes.{look_of}
use Rattle.oo7_index.specs.Looks.{LooksNode, LooksTree, LacksChild}

-- a tree leads to the node n, so many levels above its leaves: it is the root, or a child of an inner node to which the tree leads
pub data Leads (w : Part) (tree : ℕ) : ℕ → ℕ → Type 0 where
  root : (h : ℕ) → LooksTree w tree → word (look_of w) tree 0 ≡ suc h → Leads w tree h (reference (look_of w) tree 2)
  under : (h n m : ℕ) → Leads w tree (suc h) n → LooksNode w 10 n → m ≤ word (look_of w) n 0 → Leads w tree h (child (look_of w) n m)

-- The object n departs: it is asked to be a tree, or an inner node, or a leaf, and is none; or what it has to lead to is nil.
pub data Departs (w : Part) (tree : ℕ) : ℕ → Type 0 where
  no_tree : (LooksTree w tree → ⊥) → Departs w tree tree
  no_root : (h : ℕ) → LooksTree w tree → word (look_of w) tree 0 ≡ suc h → reference (look_of w) tree 2 ≡ 0 → Departs w tree tree
  no_inner : (h n : ℕ) → Leads w tree (suc h) n → (LooksNode w 10 n → LacksChild w n) → Departs w tree n
  no_leaf : (n : ℕ) → Leads w tree 0 n → (LooksNode w 9 n → ⊥) → Departs w tree n
  no_next : (n : ℕ) → Leads w tree 0 n → LooksNode w 9 n → (LooksNode w 9 (reference (look_of w) n 1) → ⊥) → reference (look_of w) n 1 ≢ 0
      → Departs w tree (reference (look_of w) n 1)

-- the leaf to which a way leads, or the one that follows it, is none
abbrev pub LacksLeaf : Part → ℕ → ℕ → Type 0
LacksLeaf w leaf n =
    ((n ≡ leaf) × (LooksNode w 9 n → ⊥)) ⊎ (LooksNode w 9 leaf × (n ≡ reference (look_of w) leaf 1) × (n ≢ 0) × (LooksNode w 9 n → ⊥))

-- in a graph, where nil is no object, no object of an index departs
abbrev pub NoneDeparts : Type 0
NoneDeparts = (w : Part) (tree : ℕ) (es : List Entry) → get w.records 0 ≡ None → IsIndex (look_of w) tree es → (n : ℕ) → Departs w tree n → ⊥
