-- Trees and nodes as a call looks at them: their classes, and the bounds of their words.
use Rattle.std.specs.Prelude.{ℕ, ◌≡◌, ◌≢◌, ◌≤◌}
use Rattle.pm3_types.specs.Graph.{Part}
use Rattle.oo7_schema.specs.Lookup.{word}
use Rattle.oo7_schema.specs.Nodes.{child}
use Rattle.oo7_objects.specs.Wholes.{IsOfClass, look_of}

-- a leaf (9) or an inner node (10): from 1 to 15 entries or keys
pub record LooksNode (w : Part) (class n : ℕ) : Type 0 where
  pub name : n ≢ 0
  pub is : IsOfClass w n class
  pub some : 1 ≤ word (look_of w) n 0
  pub most : word (look_of w) n 0 ≤ 15

-- a tree (11): its height and the number of its entries are within their bounds
pub record LooksTree (w : Part) (n : ℕ) : Type 0 where
  pub name : n ≢ 0
  pub is : IsOfClass w n 11
  pub height : word (look_of w) n 0 ≤ 16
  pub entries : word (look_of w) n 1 ≤ 4194304

-- child m of an inner node is nil
pub record LacksChild (w : Part) (n : ℕ) : Type 0 where
  pub m : ℕ
  pub most : m ≤ word (look_of w) n 0
  pub nil : child (look_of w) n m ≡ 0
