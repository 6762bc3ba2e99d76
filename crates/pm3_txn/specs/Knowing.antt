-- What a mutator knows of the words of its row.
use Rattle.std.specs.Prelude.{ℕ, ◌≡◌, ◌⊎◌, ◌==◌, ◌&&◌, ◌||◌, Bool, true, false, nat_lt, List, is_some, slice_index_or}
use Rattle.std.specs.FinMap.{get}
use Rattle.pm3_core.specs.declared.naming.TheConstants.{BASE}
use Rattle.pm3_types.specs.Layout.{page_in}
use Rattle.pm3_types.specs.PageForm.{is_memory_reference}
use Rattle.pm3_history.specs.Entry.{Done}
use Rattle.pm3_history.specs.Homes.{IsHome}
use Rattle.pm3_history.specs.Opens.{Opens}
use Rattle.pm3_history.specs.Persistent.{persistent_book}
use Rattle.pm3_history.specs.State.{State, now}
use Rattle.pm3_table.specs.declared.view.Told.{Told}
use Rattle.pm3_table.specs.declared.view.View.{View}
use Rattle.pm3_table.specs.Deeds.{word_of}
use Rattle.pm3_table.specs.Entries.{writes}
use Rattle.pm3_table.specs.Histories.{some_has}

-- the state after what the view has seen, from what the files opened to
abbrev pub state_seen : Told → View → State → State
state_seen told v st = now told.opening.catalog BASE st v.seen

-- a persistent object begins at the address, whatever the files opened to
abbrev pub KnowsObject : Told → View → ℕ → Type 0
KnowsObject told v a = (st : State) → Opens BASE told.pages told.opening st
    → is_some (get (persistent_book BASE (state_seen told v st)) a) ≡ true

-- the page is that of the roots or has a persistent object
abbrev pub KnowsHome : Told → View → ℕ → Type 0
KnowsHome told v page = (st : State) → Opens BASE told.pages told.opening st → IsHome BASE (state_seen told v st) page

-- After a history the word may be a reference: nil, or an address on a page that was in use at the start or that a commit wrote.
abbrev pub is_in_use : Told → List Done → ℕ → Bool
is_in_use told h a =
    is_memory_reference BASE told.pages a
    && ((a == 0) || (nat_lt (page_in BASE a) told.frontier || some_has writes h (page_in BASE a)))

-- the word may be a reference, and a persistent object begins there; the first is known also where the files open to nothing
pub record KnowsReference (told : Told) (v : View) (a : ℕ) : Type 0 where
  pub usable : is_in_use told v.seen a ≡ true
  pub object : KnowsObject told v a

-- nil, or an address of a persistent object
abbrev pub KnowsWord : Told → View → ℕ → Type 0
KnowsWord told v a = (a ≡ 0) ⊎ KnowsReference told v a

-- each place of the row that is tagged as a reference holds one
abbrev pub Remembers : Told → View → List Bool → Type 0
Remembers told v refs = (q : ℕ) → slice_index_or refs q false ≡ true → KnowsWord told v (word_of v.log q)
