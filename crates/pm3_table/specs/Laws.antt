-- What the rule gives at each moment.
use Rattle.std.specs.Prelude.{◌≡◌, ℕ, ◌<◌, true, List, ◌++◌, Option, Some}
use mathlib.Core.Option.{some}
use lib.ListN.{get_elem?}
use Rattle.atomic_table.specs.Table.{State}
use Rattle.pm3_core.specs.declared.events.TheConstants.{ROW_PLACES}
use Rattle.pm3_core.specs.Naming.{Names}
use Rattle.pm3_history.specs.Entry.{Done}
use Rattle.pm3_table.specs.declared.view.Told.{Told}
use Rattle.pm3_table.specs.declared.view.View.{View}
use Rattle.pm3_table.specs.Crew.{Lives}
use Rattle.pm3_table.specs.Deeds.{IsClearedIn, word_of, stands_of}
use Rattle.pm3_table.specs.Holds.{is_in}
use Rattle.pm3_table.specs.Telling.{Lawful}

-- a page that one mutator has cleared is named by no standing word of any
abbrev pub ClearedUnnamed : {S : Type 0} → ℕ → State S View → Type 0
ClearedUnnamed pages s =
    (i j : ℕ) (v w : View) (page q : ℕ) → Lives s.views i v → Lives s.views j w → IsClearedIn pages v.log page
    → q < ROW_PLACES → stands_of w.log q ≡ true → Names pages (word_of w.log q) page → ⊥

-- there is one lawful history: values at home stand for their units after it, and each view has seen a beginning of it
pub record OneHistory {V : Type 0} (stands : Told → List Done → List Done → ℕ → V → Type 0) (told : Told) (s : State (Option V) View) : Type 0 where
  pub history : List Done
  pub lost : List Done
  pub lawful : Lawful told history
  pub stand : (u : ℕ) (x : V) → get_elem? s.homes u ≡ some (some (Some x)) → stands told lost history u x
  pub seen : (i : ℕ) (v : View) → Lives s.views i v → (after : List Done) × (history ≡ v.seen ++ after)

-- no page and no name is drawn by two, and no row is another's
abbrev pub DrawnApart : {S : Type 0} → State S View → Type 0
DrawnApart s =
    (i j : ℕ) (v w : View) (n : ℕ) → Lives s.views i v → Lives s.views j w
    → ((is_in n v.pages ≡ true → is_in n w.pages ≡ true → i ≡ j)
    × (is_in n v.names ≡ true → is_in n w.names ≡ true → i ≡ j)
    × (v.row ≡ w.row → i ≡ j))
