-- The part of the rule on used and drawn pages, and on the pages of spaces.
use Rattle.std.specs.Prelude.{◌≡◌, ◌≢◌, ◌⊎◌, ℕ, ◌+◌, ◌-◌, ◌<◌, ◌≤◌, ◌==◌, Bool, true, false, List}
use mathlib.Core.Option.{Option, some}
use lib.ListN.{get_elem?}
use Rattle.pm3_history.specs.Entry.{Done}
use Rattle.pm3_table.specs.declared.view.Hold.{Hold}
use Rattle.pm3_table.specs.declared.view.Span.{Span}
use Rattle.pm3_table.specs.Entries.{writes}
use Rattle.pm3_table.specs.Histories.{some_has}
use Rattle.pm3_table.specs.Holds.{holds_of, spans_of, is_in}
use Rattle.pm3_table.specs.Words.{space_unit}

pub record PageView : Type 0 where
  pub live : Bool
  pub holds : List Hold
  pub spans : List Span
  pub steady : List ℕ
  pub pages : List ℕ

-- `empty` is a slot without a value, and `spans` tells the pages of a space's value.
module _ {S : Type 0} (empty : S) (spans : S → List ℕ) (pages frontier : ℕ) (refers : Done → ℕ → Bool) (keeps : ℕ → Done → ℕ → Bool) where
  -- Pages below the first frontier are used and persistent at the start. A used page is below the frontier. A page that is
  -- not used has the word 0, and neither it nor a page of a space has a value. A marked page is of a space that its marker
  -- holds. A space that is at home has the pages whose words show it, and so does one that a view holds, as the view
  -- says. What a view calls persistent is, as is each page that a commit wrote, and what it has drawn no one else has. A page
  -- that an image names is used. A page that a pass left in a space is still in that space, or it is persistent.
  pub record PagesRule (top : ℕ) (used : ℕ → Bool) (mark space holder : ℕ → ℕ) (history : List Done)
      (homes : List (Option S)) (crew : ℕ → PageView) : Type 0 where
    pub opened : (p : ℕ) → p < frontier → used p ≡ true
    pub low : (p : ℕ) → used p ≡ true → (p < pages) × (p < top)
    pub blank : (p : ℕ) → p < pages → used p ≡ false → (holder p ≡ 0) × (space p ≡ 0)
    pub bare : (p : ℕ) → p < pages → (used p ≡ false) ⊎ (space p ≢ 0) → get_elem? homes p ≡ some (some empty)
    pub volatile : (p : ℕ) → space p ≢ 0 → (space p ≤ 32) × (holder p ≡ 0) × (used p ≡ true) × (frontier ≤ p)
    pub marks : (p : ℕ) → mark p ≢ 0 → (space p ≢ 0) × (holder (space_unit pages (space p - 1)) ≡ mark p)
    pub at_home : (j : ℕ) → j < 32 → (x : S) → get_elem? homes (space_unit pages j) ≡ some (some x)
        → (p : ℕ) → is_in p (spans x) ≡ (space p == j + 1)
    pub held : (k : ℕ) → (crew k).live ≡ true → (j : ℕ) → j < 32 → holds_of (crew k).holds (space_unit pages j) ≡ true
        → (p : ℕ) → spans_of (crew k).spans (space_unit pages j) p ≡ (space p == j + 1)
    pub steady : (k : ℕ) → (crew k).live ≡ true → (p : ℕ) → is_in p (crew k).steady ≡ true → (used p ≡ true) × (space p ≡ 0)
    pub drawn : (k : ℕ) → (crew k).live ≡ true → (p : ℕ) → is_in p (crew k).pages ≡ true
        → (frontier ≤ p) × (p < pages) × (p < top) × (used p ≡ false)
    pub apart : (i j p : ℕ) → (crew i).live ≡ true → (crew j).live ≡ true → is_in p (crew i).pages ≡ true
        → is_in p (crew j).pages ≡ true → i ≡ j
    pub named : (p : ℕ) → some_has refers history p ≡ true → used p ≡ true
    pub written : (p : ℕ) → some_has writes history p ≡ true → (used p ≡ true) × (space p ≡ 0)
    pub kept : (j p : ℕ) → some_has (keeps j) history p ≡ true → (space p ≡ j + 1) ⊎ ((used p ≡ true) × (space p ≡ 0))
