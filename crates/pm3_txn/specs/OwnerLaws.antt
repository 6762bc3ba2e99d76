-- Laws on what a view that has seen a history knows of new names, of pages that it knows not to be persistent, and of spaces.
use Rattle.std.specs.Prelude.{ℕ, ◌≡◌, ◌≢◌, ◌<◌, ◌≤◌, ◌⊎◌, ◌++◌, true, false, List, Some, None}
use Rattle.std.specs.FinMap.{get}
use Rattle.pm3_core.specs.declared.naming.TheConstants.{BASE}
use Rattle.pm3_types.specs.Fields.{Fields}
use Rattle.pm3_types.specs.Layout.{PageImage, page_in}
use Rattle.pm3_page.specs.PageMap.{IsAtHome}
use Rattle.pm3_page.specs.PageSheets.{sheets_of}
use Rattle.pm3_access.specs.Holding.{Holding, SpaceState, nothing_held, image_in, admitted, with_held_space}
use Rattle.pm3_access.specs.declared.places.Place.{Place}
use Rattle.pm3_access.specs.Access.{is_object_held, value_held, value_written}
use Rattle.pm3_access.specs.Acts.{map_held}
use Rattle.pm3_access.specs.Roots.{root_held, root_written}
use Rattle.pm3_access.specs.Spots.{IsValueFor, has_names}
use Rattle.pm3_history.specs.Entry.{Done}
use Rattle.pm3_history.specs.Opens.{Opens}
use Rattle.pm3_history.specs.Persistent.{persistent_book}
use Rattle.pm3_history.specs.Spaces.{AreOfSpace, NoneOfSpace}
use Rattle.pm3_history.specs.State.{State, now}
use Rattle.pm3_table.specs.declared.view.Told.{Told}
use Rattle.pm3_table.specs.declared.view.View.{View}
use Rattle.pm3_table.specs.Entries.{makes}
use Rattle.pm3_table.specs.Histories.{some_has}
use Rattle.pm3_table.specs.Holds.{holds_of, spans_of, is_in}
use Rattle.pm3_table.specs.Telling.{Lawful, NoneNames, HasInSpace, IsOnlyIn, is_steady}
use Rattle.pm3_table.specs.Words.{space_unit}
use Rattle.pm3_txn.specs.Heaps.{IsBelow}
use Rattle.pm3_txn.specs.Knowing.{KnowsHome, KnowsReference, state_seen}
use Rattle.pm3_txn.specs.Loads.{IsPersistent}
use Rattle.pm3_txn.specs.Slots.{pages_of}
use Rattle.pm3_txn.specs.Underway.{IsUnder}
use Rattle.pm3_txn.specs.Owners.{WorksOn, IsHolding, KnowsHere, KnowsWordHere, reads_here, writes_here, root_reads_here, root_writes_here}
use Rattle.pm3_txn.specs.Values.{IsPageOf, IsSpaceOf}

-- a name from the first next one on that no commit seen has made is none of the graph
abbrev pub NewNamesAreNew : Type 0
NewNamesAreNew = (told : Told) (v : View) (n : ℕ) (st : State) → IsBelow told → Lawful told v.seen → told.next_name ≤ n → some_has makes v.seen n ≡ false
    → Opens BASE told.pages told.opening st → get (state_seen told v st).graph.records n ≡ None

-- no persistent object is on a page that the view knows not to be persistent
abbrev pub OthersAreBare : Type 0
OthersAreBare = (told : Told) (v : View) (p a n : ℕ) (st : State) → IsBelow told → Lawful told v.seen → is_steady told v p ≡ false
    → Opens BASE told.pages told.opening st → get (persistent_book BASE (state_seen told v st)) a ≡ Some n → page_in BASE a ≢ p

-- the value of a space has its last images
abbrev pub SpacesAreLast : Type 0
SpacesAreLast = (told : Told) (h : List Done) (u : ℕ) (space : SpaceState) (st : State) → Lawful told h → IsSpaceOf told h u space
    → Opens BASE told.pages told.opening st → AreOfSpace (now told.opening.catalog BASE st h) space.number (sheets_of space.images)

-- commits that do not name the unit of a space have no pass of it
abbrev pub UnnamedHaveNone : Type 0
UnnamedHaveNone = (told : Told) (between : List Done) (number : ℕ) → NoneNames told between (space_unit told.pages number) → NoneOfSpace between number

-- What stays of one view in another that has seen more commits: it holds the same, its spaces have the same pages, each in no other
-- space and not persistent, and the names that it has drawn are new.
pub record GoesFurther (told : Told) (v w : View) (between : List Done) : Type 0 where
  pub seen : w.seen ≡ v.seen ++ between
  pub lawful : Lawful told w.seen
  pub unnamed : (u : ℕ) → holds_of v.holds u ≡ true → NoneNames told between u
  pub holds : (u : ℕ) → holds_of v.holds u ≡ true → holds_of w.holds u ≡ true
  pub spans : (j p : ℕ) → holds_of v.holds (space_unit told.pages j) ≡ true
      → spans_of w.spans (space_unit told.pages j) p ≡ spans_of v.spans (space_unit told.pages j) p
  pub apart : (j p : ℕ) → HasInSpace told w j p → IsOnlyIn told w j p
  pub names : w.names ≡ v.names
  pub new : (n : ℕ) → is_in n w.names ≡ true → (told.next_name ≤ n) × (some_has makes w.seen n ≡ false)

-- nothing is held by a transaction that begins
abbrev pub HoldingsBegin : Type 0
HoldingsBegin = (told : Told) (v : View) (number : ℕ) → Lawful told v.seen → ((u : ℕ) → holds_of v.holds u ≡ false) → IsHolding told v number nothing_held

-- commits of others leave a transaction as it is, and what its view knows of it
abbrev pub HoldingsGoOn : Type 0
HoldingsGoOn = (told : Told) (v w : View) (number : ℕ) (h : Holding) (between : List Done) → IsBelow told → GoesFurther told v w between
    → IsHolding told v number h → WorksOn told v h w h (λ st ops. ops)
    × (((u : ℕ) → holds_of w.holds u ≡ true → holds_of v.holds u ≡ true) → IsHolding told w number h)

-- a page that was taken since is held with its last image
abbrev pub HoldingsTakePages : Type 0
HoldingsTakePages = (told : Told) (v w : View) (number : ℕ) (h : Holding) (between : List Done) (page : ℕ) (image : PageImage) → IsBelow told → GoesFurther told v w between
    → image_in h page ≡ None → IsPageOf told w.seen page image → KnowsHome told v page → IsPersistent told v.seen page → holds_of w.holds page ≡ true
    → ((u : ℕ) → holds_of w.holds u ≡ true → (u ≡ page) ⊎ (holds_of v.holds u ≡ true)) → IsHolding told v number h
    → WorksOn told v h w (admitted h image) (λ st ops. ops) × IsHolding told w number (admitted h image)

-- a space that was taken since is held with its last images
abbrev pub HoldingsTakeSpaces : Type 0
HoldingsTakeSpaces = (told : Told) (v w : View) (number : ℕ) (h : Holding) (between : List Done) (space : SpaceState) → IsBelow told → GoesFurther told v w between
    → h.space ≡ None → space.number ≡ number → IsSpaceOf told w.seen (space_unit told.pages number) space → IsAtHome space.images
    → holds_of w.holds (space_unit told.pages number) ≡ true
    → ((p : ℕ) → spans_of w.spans (space_unit told.pages number) p ≡ is_in p (pages_of space))
    → ((u : ℕ) → holds_of w.holds u ≡ true → (u ≡ space_unit told.pages number) ⊎ (holds_of v.holds u ≡ true)) → IsHolding told v number h
    → WorksOn told v h w (with_held_space h space) (λ st ops. ops) × IsHolding told w number (with_held_space h space)

-- without its space it is one that holds pages alone
abbrev pub HoldingsAlone : Type 0
HoldingsAlone = (told : Told) (v : View) (number : ℕ) (h : Holding) → Lawful told v.seen → h.space ≡ None → IsHolding told v number h → IsUnder told v h

-- a persistent object that is known is one of its book
abbrev pub KnownAreHere : Type 0
KnownAreHere = (told : Told) (v : View) (number : ℕ) (h : Holding) (a : ℕ) → a ≢ 0 → IsHolding told v number h → KnowsReference told v a → KnowsHere told v h a

-- a read of an object of its book is one operation more, and tells known words
abbrev pub HoldingsRead : Type 0
HoldingsRead = (told : Told) (v : View) (number : ℕ) (h : Holding) (a x : ℕ) (map : Fields) (place : Place) → IsHolding told v number h → KnowsHere told v h a
    → is_object_held BASE h a ≡ true → map_held told.opening.catalog BASE h a ≡ Some map → value_held told.opening.catalog BASE h a place ≡ Some x
    → WorksOn told v h v h (reads_here told v h a map place x) × (has_names map place ≡ true → KnowsWordHere told v h x)

-- so is a write of a known word
abbrev pub HoldingsWrite : Type 0
HoldingsWrite = (told : Told) (v : View) (number : ℕ) (h new : Holding) (a x : ℕ) (map : Fields) (place : Place) → IsHolding told v number h → Lawful told v.seen → KnowsHere told v h a
    → is_object_held BASE h a ≡ true → map_held told.opening.catalog BASE h a ≡ Some map → IsValueFor place x → (has_names map place ≡ true → KnowsWordHere told v h x)
    → value_written told.opening.catalog BASE h a place x ≡ Some new
    → WorksOn told v h v new (writes_here told v h a map place x) × IsHolding told v number new

-- and so are reads and writes of root slots
abbrev pub HoldingsReadRoot : Type 0
HoldingsReadRoot = (told : Told) (v : View) (number : ℕ) (h : Holding) (slot x : ℕ) → slot < 16 → IsHolding told v number h → root_held h slot ≡ Some x
    → WorksOn told v h v h (root_reads_here told v h slot x) × KnowsWordHere told v h x

abbrev pub HoldingsWriteRoot : Type 0
HoldingsWriteRoot = (told : Told) (v : View) (number : ℕ) (h new : Holding) (slot x : ℕ) → slot < 16 → IsHolding told v number h → Lawful told v.seen → KnowsWordHere told v h x
    → root_written h slot x ≡ Some new → WorksOn told v h v new (root_writes_here told v h slot x) × IsHolding told v number new
