-- The part of the rule on drawn names.
use Rattle.std.specs.Prelude.{◌≡◌, ℕ, ◌<◌, ◌≤◌, Bool, true, false, if◌then◌else◌, List, [], ◌∷◌}
use Rattle.pm3_history.specs.Entry.{Done}
use Rattle.pm3_table.specs.Histories.{some_has}
use Rattle.pm3_table.specs.Holds.{is_in}

pub record NameView : Type 0 where
  pub live : Bool
  pub names : List ℕ

-- A name that a commit makes is below the counter. A name that a view has drawn and no commit has is from the counter, and
-- no other view has it.
pub record NamesRule (makes : Done → ℕ → Bool) (first top : ℕ) (history : List Done) (crew : ℕ → NameView) : Type 0 where
  pub low : (n : ℕ) → some_has makes history n ≡ true → n < top
  pub drawn : (k : ℕ) → (crew k).live ≡ true → (n : ℕ) → is_in n (crew k).names ≡ true
      → (first ≤ n) × (n < top) × (some_has makes history n ≡ false)
  pub apart : (i j n : ℕ) → (crew i).live ≡ true → (crew j).live ≡ true → is_in n (crew i).names ≡ true
      → is_in n (crew j).names ≡ true → i ≡ j

-- the numbers of a list that lack it
abbrev pub spare : (ℕ → Bool) → List ℕ → List ℕ
spare has [] = []
spare has (n ∷ ns) = if has n then spare has ns else (n ∷ spare has ns)
