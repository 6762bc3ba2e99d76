-- Cursors: a leaf and an entry of it stand for the entries from there on.
use Rattle.std.specs.Prelude.{ℕ, ◌≡◌, ◌≢◌, ◌+◌, ◌<◌, ◌++◌, List, [], drop, Option, MatchOption}
use Rattle.pm3_types.specs.Graph.{Part}
use Rattle.pm3_history.specs.State.{State}
use Rattle.pm3_txn.specs.States.{TxnState}
use Rattle.oo7_schema.specs.Entries.{Entry}
use Rattle.oo7_schema.specs.Lookup.{Look, word, reference}
use Rattle.oo7_schema.specs.Nodes.{IsChain, held, leaf_entries}
use Rattle.oo7_objects.specs.Wholes.{Knows, look_of, name_at}
use Rattle.oo7_index.specs.declared.entries.Entry as entry
use Rattle.oo7_index.specs.Looks.{LooksNode}

-- the entries from entry `at` of a leaf on, along the chain
pub record From (look : Look) (leaf at : ℕ) (rest : List Entry) : Type 0 where
  pub following : List ℕ
  pub chain : IsChain look (reference look leaf 1) following
  pub here : at < word look leaf 0
  pub is : rest ≡ drop at (leaf_entries look leaf) ++ held look following

-- entry `at` of a leaf, with its key
pub record IsCursor (w : Part) (leaf key at : ℕ) : Type 0 where
  pub leaf_is : LooksNode w 9 leaf
  pub here : at < word (look_of w) leaf 0
  pub key_is : word (look_of w) leaf (2 + at) ≡ key

-- the leaf that follows another, with its first entry
pub record IsNext (w : Part) (leaf next key at : ℕ) : Type 0 where
  pub is : next ≡ reference (look_of w) leaf 1
  pub some : next ≢ 0
  pub cursor : IsCursor w next key at
  pub first : at ≡ 0

-- the entries behind entry `at` of a leaf
pub record IsBehind (look : Look) (leaf at : ℕ) (rest : List Entry) : Type 0 where
  pub whole : List Entry
  pub from : From look leaf at whole
  pub is : rest ≡ drop 1 whole

-- the leaf place and the answer are a cursor before these entries; it is none exactly where there are none
abbrev pub StandsBefore : {R : Type 0} → TxnState R → ℕ → (State → Part → List Entry → Type 0) → Option entry.Entry → Type 0
StandsBefore new leaf are found = MatchOption found
    (Knows new (λ st w. (rest : List Entry) → are st w rest → rest ≡ []))
    (λ next. Knows new (λ st w. IsCursor w (name_at new st leaf) next.key next.at
    × ((rest : List Entry) → are st w rest → From (look_of w) (name_at new st leaf) next.at rest)))
