-- Trees of leaves and inner nodes, and the list of entries that one holds: the B+ tree (Comer, "The ubiquitous B-tree").
use Rattle.std.specs.Prelude.{ℕ, zero, suc, ◌≡◌, ◌≢◌, ◌+◌, ◌<◌, ◌≤◌, List, [], ◌∷◌, map, length, Some, flat_map, slice_index}
use Rattle.std.specs.List.{AllByRecursion, range_with_len}
use Rattle.pm3_types.specs.Record.{Record, Fits}
use Rattle.oo7_schema.specs.Lookup.{Look, word, reference, listed_schema}
use Rattle.oo7_schema.specs.Entries.{Entry, AreRising, Once}

-- entry k of a leaf
abbrev pub entry_at : Look → ℕ → ℕ → Entry
entry_at look leaf k = (word look leaf (2 + k), reference look leaf (17 + k))

-- the entries of a leaf, from left to right
abbrev pub leaf_entries : Look → ℕ → List Entry
leaf_entries look leaf = map (entry_at look leaf) (range_with_len 0 (word look leaf 0))

-- child m of an inner node, and its children from left to right
abbrev pub child : Look → ℕ → ℕ → ℕ
child look inner m = reference look inner (16 + m)

abbrev pub children : Look → ℕ → List ℕ
children look inner = map (child look inner) (range_with_len 0 (word look inner 0 + 1))

-- the leaves h levels under a node, from left to right
abbrev pub leaves : Look → ℕ → ℕ → List ℕ
leaves look zero n = n ∷ []
leaves look (suc h) n = flat_map (leaves look h) (children look n)

-- a node and all nodes under it down to its leaves, h levels below
abbrev pub nodes : Look → ℕ → ℕ → List ℕ
nodes look zero n = n ∷ []
nodes look (suc h) n = n ∷ flat_map (nodes look h) (children look n)

-- the entries of leaves
abbrev pub held : Look → List ℕ → List Entry
held look ls = flat_map (leaf_entries look) ls

-- the leaves, and the nodes, of a tree of this height with this root
abbrev pub leaves_of : Look → ℕ → ℕ → List ℕ
leaves_of look zero root = []
leaves_of look (suc h) root = leaves look h root

abbrev pub nodes_of : Look → ℕ → ℕ → List ℕ
nodes_of look zero root = []
nodes_of look (suc h) root = nodes look h root

-- the leaves, the nodes and the entries of a tree
abbrev pub tree_leaves : Look → ℕ → List ℕ
tree_leaves look t = leaves_of look (word look t 0) (reference look t 2)

abbrev pub tree_nodes : Look → ℕ → List ℕ
tree_nodes look t = nodes_of look (word look t 0) (reference look t 2)

abbrev pub tree_entries : Look → ℕ → List Entry
tree_entries look t = held look (tree_leaves look t)

-- the chain that begins with the leaf n has these leaves
abbrev pub IsChain : Look → ℕ → List ℕ → Type 0
IsChain look n [] = n ≡ 0
IsChain look n (l ∷ ls) = (n ≡ l) × (n ≢ 0) × IsChain look (reference look l 1) ls

-- the first of these leaves, or nil
abbrev pub first_of : List ℕ → ℕ
first_of ls = slice_index ls 0

-- an object has this class, and the places that it gives
pub record IsOf (look : Look) (class n : ℕ) : Type 0 where
  pub object : Record
  pub is : look n ≡ Some object
  pub of : object.ty ≡ class
  pub fits : Fits listed_schema object

-- a leaf: from 1 to 15 entries, and zeros in the places behind them
pub record IsLeaf (look : Look) (n : ℕ) : Type 0 where
  pub is : IsOf look 9 n
  pub some : 1 ≤ word look n 0
  pub most : word look n 0 ≤ 15
  pub unused : (k : ℕ) → word look n 0 ≤ k → k < 15 → entry_at look n k ≡ (0, 0)

-- an inner node: from 1 to 15 keys and one child more, and zeros in the places behind them
pub record IsInner (look : Look) (n : ℕ) : Type 0 where
  pub is : IsOf look 10 n
  pub some : 1 ≤ word look n 0
  pub most : word look n 0 ≤ 15
  pub unused : (k : ℕ) → word look n 0 ≤ k → k < 15 → (word look n (1 + k) ≡ 0) × (child look n (k + 1) ≡ 0)

-- key m parts the entries: those under the children up to m have no greater keys, and those behind no smaller ones
pub record Parts (look : Look) (h n m : ℕ) : Type 0 where
  pub upto : (j : ℕ) → j ≤ m → AllByRecursion (λ (e : Entry). e.0 ≤ word look n (1 + m)) (held look (leaves look h (child look n j)))
  pub behind : (j : ℕ) → m < j → j ≤ word look n 0
      → AllByRecursion (λ (e : Entry). word look n (1 + m) ≤ e.0) (held look (leaves look h (child look n j)))

-- a node h levels above its leaves
abbrev pub IsNode : Look → ℕ → ℕ → Type 0
IsNode look zero n = IsLeaf look n
IsNode look (suc h) n =
    IsInner look n
    × ((m : ℕ) → m ≤ word look n 0 → IsNode look h (child look n m))
    × ((m : ℕ) → m < word look n 0 → Parts look h n m)

-- a tree of height 0 has no root, and one of height h + 1 has a root h levels above its leaves
abbrev pub IsRoot : Look → ℕ → ℕ → Type 0
IsRoot look zero root = root ≡ 0
IsRoot look (suc h) root = IsNode look h root

-- the object is a tree that holds these entries
pub record IsIndex (look : Look) (tree : ℕ) (es : List Entry) : Type 0 where
  pub is : IsOf look 11 tree
  pub height : word look tree 0 ≤ 16
  pub count : word look tree 1 ≡ length es
  pub most : length es ≤ 4194304
  pub root : IsRoot look (word look tree 0) (reference look tree 2)
  pub entries : es ≡ tree_entries look tree
  pub rising : AreRising es
  pub chain : IsChain look (first_of (tree_leaves look tree)) (tree_leaves look tree)
  pub once : Once (tree_nodes look tree)
