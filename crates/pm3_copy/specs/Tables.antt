-- New addresses, by lists of the old and the new ones.
use Rattle.std.specs.Prelude.{ℕ, ◌≡◌, ◌++◌, List, length}
use Rattle.pm3_types.specs.PassMoves.{IsRising, paired, moved_by}
use Rattle.pm3_copy.specs.Blocks.{AreBothNumbered}
use Rattle.pm3_copy.specs.declared.tables.Tables.{Tables}

-- the new address of what is at this one
abbrev pub new_address : List ℕ → List ℕ → ℕ → ℕ
new_address olds news w = moved_by (paired olds news) w

abbrev pub follows : Tables → ℕ → ℕ
follows t w = moved_by (paired t.promoted.olds.items t.promoted.news.items ++ paired t.kept.olds.items t.kept.news.items) w

-- the old addresses rise and are numbered, and each has a new one
pub record AreTables (base : ℕ) (t : Tables) : Type 0 where
  pub promoted : IsRising t.promoted.olds.items
  pub kept : IsRising t.kept.olds.items
  pub numbered : AreBothNumbered base t.index.blocks.by_page.items t.index.numbers.items t.promoted.olds.items t.kept.olds.items
  pub promoted_whole : length t.promoted.news.items ≡ length t.promoted.olds.items
  pub kept_whole : length t.kept.news.items ≡ length t.kept.olds.items
