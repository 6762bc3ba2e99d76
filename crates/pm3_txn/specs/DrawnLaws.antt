-- Laws on what a view knows of a transaction that draws names and pages, and that makes objects.
use Rattle.std.specs.Prelude.{ℕ, ◌≡◌, ◌<◌, ◌≤◌, ◌+◌, ◌++◌, ◌==◌, ◌||◌, Bool, true, false, [], ◌∷◌, Some, None, slice_get}
use Rattle.std.specs.FinMap.{get}
use Rattle.std.specs.FinSet as set
use Rattle.pm3_core.specs.declared.naming.TheConstants.{BASE}
use Rattle.pm3_types.specs.Fields.{Fields}
use Rattle.pm3_types.specs.Layout.{PageImage, blank_sheet}
use Rattle.pm3_graph.specs.declared.operations.Op.TheVariants as operation
use Rattle.pm3_access.specs.Access.{HaveForm}
use Rattle.pm3_access.specs.Acts.{IsMakeStep, space_left}
use Rattle.pm3_access.specs.Holding.{Holding, HeldSpaceState, FreeIs, image_in, with_free, grown, by_space, undone_space}
use Rattle.pm3_access.specs.Making.{IsMade}
use Rattle.pm3_history.specs.Named.{book_of}
use Rattle.pm3_history.specs.Opens.{Opens}
use Rattle.pm3_history.specs.State.{State}
use Rattle.pm3_table.specs.declared.view.Told.{Told}
use Rattle.pm3_table.specs.declared.view.View.{View}
use Rattle.pm3_table.specs.Entries.{makes}
use Rattle.pm3_table.specs.Histories.{some_has}
use Rattle.pm3_table.specs.Holds.{spans_of, is_in}
use Rattle.pm3_table.specs.Telling.{Lawful, IsNewName, IsNewPage}
use Rattle.pm3_table.specs.Words.{space_unit}
use Rattle.pm3_txn.specs.Heaps.{IsBelow}
use Rattle.pm3_txn.specs.Owners.{WorksOn, IsHolding, KnowsHere}
use Rattle.pm3_txn.specs.Slots.{pages_of}
use Rattle.pm3_txn.specs.Values.{IsSpaceOf}

-- Another view has seen the same and holds the same, and has drawn the same names and maybe more.
pub record IsAlike (v w : View) : Type 0 where
  pub seen : w.seen ≡ v.seen
  pub holds : w.holds ≡ v.holds
  pub steady : w.steady ≡ v.steady
  pub names : (n : ℕ) → is_in n v.names ≡ true → is_in n w.names ≡ true

-- what a view draws leaves the transaction as it is
abbrev pub HoldingsDraw : Type 0
HoldingsDraw = (told : Told) (v w : View) (number : ℕ) (h : Holding) → IsAlike v w → w.spans ≡ v.spans → IsHolding told v number h
    → WorksOn told v h w h (λ st ops. ops) × IsHolding told w number h

-- no object of the space that is held has the name
abbrev pub HasNoName : Told → Holding → ℕ → Type 0
HasNoName told h n = (st : State) → Opens BASE told.pages told.opening st → (a : ℕ) → get (book_of BASE (space_left h.space)) a ≡ Some n → ⊥

abbrev pub DrawnNamesAreUnused : Type 0
DrawnNamesAreUnused = (told : Told) (v : View) (number : ℕ) (h : Holding) (n : ℕ) → IsBelow told → Lawful told v.seen → IsNewName told v n → IsHolding told v number h → HasNoName told h n

-- the space without one of its free pages
abbrev pub unfreed : Holding → ℕ → Holding
unfreed h page = by_space (λ s. with_free s (set.remove s.free page) (s.room + 1)) h

-- no image is held of a page that is free, or was drawn
abbrev pub FreePagesAreBare : Type 0
FreePagesAreBare = (told : Told) (v : View) (number : ℕ) (h : Holding) (page : ℕ) → IsHolding told v number h → FreeIs h.space (λ free. set.contains free page ≡ true)
    → (image_in (unfreed h page) page ≡ None) × (3 ≤ page) × (page < told.pages)

abbrev pub DrawnPagesAreBare : Type 0
DrawnPagesAreBare = (told : Told) (v : View) (number : ℕ) (h : Holding) (page : ℕ) → IsHolding told v number h → IsNewPage told v page → image_in h page ≡ None

-- one has grown to another, with the same objects
abbrev pub HasGrown : Told → View → Holding → View → ℕ → Holding → Type 0
HasGrown told v h w number new = WorksOn told v h w new (λ st ops. ops) × IsHolding told w number new × (book_of BASE (space_left new.space) ≡ book_of BASE (space_left h.space))

-- a free page of the space has a blank image then
abbrev pub HoldingsReuse : Type 0
HoldingsReuse = (told : Told) (v : View) (number : ℕ) (h : Holding) (image : PageImage) → IsBelow told → Lawful told v.seen → IsHolding told v number h
    → FreeIs h.space (λ free. set.contains free image.page ≡ true) → image.sheet ≡ blank_sheet
    → HasGrown told v h v number (by_space (λ s. grown s image) (unfreed h image.page))

-- the space has a page more among its free ones, and other room
abbrev pub with_free_page : Holding → ℕ → (HeldSpaceState → ℕ) → Holding
with_free_page h page room = by_space (λ s. with_free s (set.insert s.free page) (room s)) h

-- a page that was drawn and settled in the space may be a free one there
abbrev pub HoldingsFree : Type 0
HoldingsFree = (told : Told) (v w : View) (number : ℕ) (h : Holding) (page : ℕ) (room : HeldSpaceState → ℕ) → IsHolding told v number h
    → IsNewPage told v page → 3 ≤ page → page < told.pages → IsAlike v w
    → ((p : ℕ) → spans_of w.spans (space_unit told.pages number) p ≡ ((p == page) || spans_of v.spans (space_unit told.pages number) p))
    → HasGrown told v h w number (with_free_page h page room)

-- the room for free pages is nothing to it
abbrev pub HoldingsRoom : Type 0
HoldingsRoom = (told : Told) (v : View) (number : ℕ) (h : Holding) (room : HeldSpaceState → ℕ) → IsHolding told v number h
    → HasGrown told v h v number (by_space (λ s. with_free s s.free (room s)) h)

-- an object made under a name that was drawn and not used is one operation more, and is known
abbrev pub HoldingsMake : Type 0
HoldingsMake = (told : Told) (v : View) (number : ℕ) (h new : Holding) (ty tail n a : ℕ) (map : Fields) → IsBelow told → Lawful told v.seen → IsHolding told v number h
    → is_in n v.names ≡ true → told.next_name ≤ n → some_has makes v.seen n ≡ false → HasNoName told h n
    → slice_get told.opening.catalog ty ≡ Some map → IsMade BASE told.opening.catalog h ty tail n (Some a) new → IsMakeStep told.opening.catalog BASE h ty tail n a new
    → ((refers : ℕ → Bool) → refers 0 ≡ true → HaveForm told.opening.catalog refers h → HaveForm told.opening.catalog refers new)
    → WorksOn told v h v new (λ st ops. ops ++ (operation.New n ty tail, 0) ∷ []) × IsHolding told v number new × KnowsHere told v new a

-- Undone, the space has the value that it was taken with, but for the pages drawn since, which are free; and its pages are those that
-- the view says.
abbrev pub HoldingsUndo : Type 0
HoldingsUndo = (told : Told) (v : View) (number : ℕ) (h : Holding) (s : HeldSpaceState) (room : ℕ) → IsHolding told v number h → h.space ≡ Some s
    → IsSpaceOf told v.seen (space_unit told.pages number) (undone_space s room)
    × ((p : ℕ) → spans_of v.spans (space_unit told.pages number) p ≡ is_in p (pages_of (undone_space s room)))
