-- The part of the rule on whose commits are counted by whom.
use Rattle.std.specs.Prelude.{◌≡◌, ◌⊎◌, ℕ, ◌<◌, ◌==◌, ◌||◌, Bool, true, false, if◌then◌else◌, List, [], ◌∷◌}
use Rattle.pm3_history.specs.Entry.{Done}
use Rattle.pm3_table.specs.declared.view.Kept.{Kept}
use Rattle.pm3_table.specs.Histories.{by, AllBelow}
use Rattle.pm3_table.specs.Holds.{is_in}

pub record CountView : Type 0 where
  pub live : Bool
  pub rows : List ℕ
  pub mine : List Done
  pub kept : List Kept

-- an ended mutator is kept in the list
abbrev pub is_kept : List Kept → ℕ → Bool
is_kept [] k = false
is_kept (x ∷ xs) k = (x.mutator == k) || is_kept xs k

-- the commits that the list keeps under a number
abbrev pub kept_under : List Kept → ℕ → List Done
kept_under [] k = []
kept_under (x ∷ xs) k = if x.mutator == k then x.commits else kept_under xs k

-- mutator j counts k: itself, or one that it keeps
abbrev pub counts : ℕ → CountView → ℕ → Bool
counts j v k = (j == k) || is_kept v.kept k

abbrev pub counted_under : ℕ → CountView → ℕ → List Done
counted_under j v k = if j == k then v.mine else kept_under v.kept k

-- no number stands twice in the list
abbrev pub Distinct : List ℕ → Type 0
Distinct [] = Unit {0}
Distinct (x ∷ xs) = (is_in x xs ≡ false) × Distinct xs

-- Each commit is of a mutator that was made. Each row that was made is counted by one live view, or drawn by one that has
-- not split yet. The commits of a mutator are those that are counted under its number; a drawn row has none.
pub record CountsRule (made : ℕ) (history : List Done) (crew : ℕ → CountView) : Type 0 where
  pub low : AllBelow made history
  pub keeper : ℕ → ℕ
  pub lives : (k : ℕ) → k < made → (crew (keeper k)).live ≡ true
  pub kept : (k : ℕ) → k < made
      → (counts (keeper k) (crew (keeper k)) k ≡ true) ⊎ (is_in k (crew (keeper k)).rows ≡ true)
  pub one : (j k : ℕ) → (crew j).live ≡ true → (counts j (crew j) k ≡ true) ⊎ (is_in k (crew j).rows ≡ true)
      → (k < made) × (keeper k ≡ j)
  pub entries : (j k : ℕ) → (crew j).live ≡ true → counts j (crew j) k ≡ true
      → counted_under j (crew j) k ≡ by k history
  pub drawn : (j k : ℕ) → (crew j).live ≡ true → is_in k (crew j).rows ≡ true
      → ((crew k).live ≡ false) × (by k history ≡ []) × (counts j (crew j) k ≡ false)
  pub once : (j : ℕ) → (crew j).live ≡ true → Distinct (crew j).rows
