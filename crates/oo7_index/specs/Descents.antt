-- The way from the root of a tree down to a leaf.
use Rattle.std.specs.Prelude.{ℕ, ◌≡◌, ◌≢◌, ◌+◌, ◌<◌, ◌≤◌, ◌++◌, List}
use Rattle.std.specs.List.{AllByRecursion}
use Rattle.pm3_types.specs.Graph.{Part}
use Rattle.oo7_schema.specs.Entries.{Entry, from_key}
use Rattle.oo7_schema.specs.Lookup.{Look, word}
use Rattle.oo7_schema.specs.Nodes.{IsChain, IsIndex, IsNode, child, first_of, held, leaves}
use Rattle.oo7_objects.specs.Wholes.{look_of}
use Rattle.oo7_index.specs.Departures.{Leads}
use Rattle.oo7_index.specs.Looks.{LooksNode}

-- m is the first of the numbers below count at which f is not below the key, and count where there is none
pub record IsFirst (f : ℕ → ℕ) (key count m : ℕ) : Type 0 where
  pub most : m ≤ count
  pub lower : (k : ℕ) → k < m → f k < key
  pub here : m < count → key ≤ f m

-- the child of an inner node under which a key is looked for
pub record IsBelow (w : Part) (n key below : ℕ) : Type 0 where
  pub inner : LooksNode w 10 n
  pub m : ℕ
  pub first : IsFirst (λ k. word (look_of w) n (1 + k)) key (word (look_of w) n 0) m
  pub is : below ≡ child (look_of w) n m
  pub some : below ≢ 0

-- The node n, h levels above its leaves, is on the way to a key in a tree with these entries: the leaves before those under it have
-- smaller keys alone, and the leaves behind them have none.
pub record IsOnWay (look : Look) (key : ℕ) (es : List Entry) (h n : ℕ) : Type 0 where
  pub before : List ℕ
  pub behind : List ℕ
  pub entries : es ≡ held look (before ++ (leaves look h n ++ behind))
  pub chain : IsChain look (first_of (before ++ (leaves look h n ++ behind))) (before ++ (leaves look h n ++ behind))
  pub low : AllByRecursion (λ (e : Entry). e.0 < key) (held look before)
  pub high : AllByRecursion (λ (e : Entry). key ≤ e.0) (held look behind)
  pub node : IsNode look h n

-- The node n is on the way to a key in a tree: the tree leads to it, and where the tree is an index, what is before it has smaller keys.
pub record IsOnWayTo (w : Part) (tree key h n : ℕ) : Type 0 where
  pub leads : Leads w tree h n
  pub some : n ≢ 0
  pub way : (es : List Entry) → IsIndex (look_of w) tree es → IsOnWay (look_of w) key es h n

-- what is left of the entries from the first whose key is not below this one: of a tree, and seen from the leaf at the end of the way
pub record IsFromKey (w : Part) (tree key : ℕ) (rest : List Entry) : Type 0 where
  pub es : List Entry
  pub index : IsIndex (look_of w) tree es
  pub is : rest ≡ from_key key es

pub record IsFromLeaf (look : Look) (leaf key : ℕ) (rest : List Entry) : Type 0 where
  pub es : List Entry
  pub way : IsOnWay look key es 0 leaf
  pub is : rest ≡ from_key key es
