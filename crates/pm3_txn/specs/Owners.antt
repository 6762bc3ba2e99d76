-- What a view knows of a transaction that may hold its space.
use Rattle.std.specs.Prelude.{ℕ, ◌≡◌, ◌⊎◌, ◌<◌, ◌≤◌, ◌&&◌, ◌||◌, Bool, true, false, List, Option, Some, None, is_some, unwrap_or, slice_index_or}
use Rattle.std.specs.FinMap as map
use Rattle.std.specs.FinMap.{get}
use Rattle.std.specs.FinSet as set
use Rattle.pm3_core.specs.declared.naming.TheConstants.{BASE}
use Rattle.pm3_types.specs.Layout.{PageImage}
use Rattle.pm3_types.specs.PageForm.{HasForm, is_memory_reference}
use Rattle.pm3_types.specs.Fields.{Fields}
use Rattle.pm3_types.specs.Graph.{Part, PartOf}
use Rattle.pm3_types.specs.Shown.{name_by}
use Rattle.pm3_graph.specs.declared.operations.Op.{Op}
use Rattle.pm3_graph.specs.declared.operations.Op.TheVariants as operation
use Rattle.pm3_page.specs.PageSheets.{sheets_of}
use Rattle.pm3_access.specs.declared.places.Place.{Place}
use Rattle.pm3_access.specs.Access.{HaveForm}
use Rattle.pm3_access.specs.Acts.{AreInPlace, found_part, space_left, space_found, read_op, write_op, answer_of}
use Rattle.pm3_access.specs.Holding.{Holding, HeldSpaceState}
use Rattle.pm3_history.specs.Named.{book_of}
use Rattle.pm3_history.specs.Opens.{Opens}
use Rattle.pm3_history.specs.State.{State}
use Rattle.pm3_table.specs.declared.view.Told.{Told}
use Rattle.pm3_table.specs.declared.view.View.{View}
use Rattle.pm3_table.specs.Deeds.{word_of}
use Rattle.pm3_table.specs.Holds.{holds_of, spans_of, is_in}
use Rattle.pm3_table.specs.Telling.{IsOnlyIn}
use Rattle.pm3_table.specs.Words.{space_unit}
use Rattle.pm3_txn.specs.Answers.{with_step}
use Rattle.pm3_txn.specs.Knowing.{KnowsWord, is_in_use, state_seen}
use Rattle.pm3_txn.specs.Loads.{IsPersistent}
use Rattle.pm3_txn.specs.Values as values
use Rattle.pm3_txn.specs.Values.{IsPageOf}
use Rattle.pm3_txn.specs.Works.{Works, found_book, left_book, is_own_start}

-- From whatever the files opened to, and whatever the transaction had done before a call, it has done this much after it.
abbrev pub WorksOn : Told → View → Holding → View → Holding → (State → List (Op × ℕ) → List (Op × ℕ)) → Type 0
WorksOn told v h v' h' more = (st : State) → Opens BASE told.pages told.opening st → (ops : List (Op × ℕ))
    → Works told.opening.catalog told.pages (state_seen told v st) h ops → Works told.opening.catalog told.pages (state_seen told v' st) h' (more st ops)

-- the word may be a reference: to a page in use, or to where an object begins on a page of the space that is held
abbrev pub own_use : Told → View → Holding → ℕ → Bool
own_use told v h a = is_in_use told v.seen a || (is_memory_reference BASE told.pages a && is_own_start h a)

-- The view holds the space, which was found with its last images. Its pages are those with an image or free ones, as the view
-- says, and each is in no other space and not persistent. Pages drawn since have an image now and had none.
pub record HoldsSpace (told : Told) (v : View) (s : HeldSpaceState) : Type 0 where
  pub low : s.number < 32
  pub unit : holds_of v.holds (space_unit told.pages s.number) ≡ true
  pub last : sheets_of s.images.found ≡ unwrap_or (values.space_left v.seen s.number) map.empty
  pub sound : (page : ℕ) (image : PageImage) → get s.images.found page ≡ Some image
      → (image.page ≡ page) × (3 ≤ page) × (page < told.pages) × HasForm told.opening.catalog (values.space_use told v.seen s.images.found) image.page image.sheet
  pub within : (page : ℕ) → spans_of v.spans (space_unit told.pages s.number) page ≡ true → (3 ≤ page) × (page < told.pages)
  pub spans : (page : ℕ) → spans_of v.spans (space_unit told.pages s.number) page ≡ (is_some (get s.images.left page) || set.contains s.free page)
  pub free : (page : ℕ) → set.contains s.free page ≡ true → get s.images.left page ≡ None
  pub drawn : (page : ℕ) → is_some (get s.images.left page) ≡ (is_some (get s.images.found page) || is_in page s.drawn)
  pub new : (page : ℕ) → is_in page s.drawn ≡ true → get s.images.found page ≡ None
  pub apart : (page : ℕ) → spans_of v.spans (space_unit told.pages s.number) page ≡ true → IsOnlyIn told v s.number page

-- of a space, which has this number, or of none
abbrev pub MayHoldSpace : Told → View → ℕ → Option HeldSpaceState → Type 0
MayHoldSpace told v number None = Unit {0}
MayHoldSpace told v number (Some s) = (s.number ≡ number) × HoldsSpace told v s

-- the unit is that of the held space
abbrev pub IsOwnUnit : Told → Option HeldSpaceState → ℕ → Type 0
IsOwnUnit told None u = ⊥
IsOwnUnit told (Some s) u = u ≡ space_unit told.pages s.number

-- What a view knows of what its transaction holds: pages, each of them persistent and with its last image as it was found, and a
-- space or none. The names of new objects are among those that it has drawn.
pub record IsHolding (told : Told) (v : View) (number : ℕ) (h : Holding) : Type 0 where
  pub places : AreInPlace h
  pub units : (q : ℕ) → is_some (get h.pages.left q) ≡ true → (holds_of v.holds q ≡ true) × (q < told.pages)
  pub only : (u : ℕ) → holds_of v.holds u ≡ true → (is_some (get h.pages.left u) ≡ true) ⊎ IsOwnUnit told h.space u
  pub persistent : (q : ℕ) → is_some (get h.pages.left q) ≡ true → IsPersistent told v.seen q
  pub kept : (q : ℕ) → is_some (get h.pages.found q) ≡ is_some (get h.pages.left q)
  pub found : (q : ℕ) (image : PageImage) → get h.pages.found q ≡ Some image → IsPageOf told v.seen q image
  pub space : MayHoldSpace told v number h.space
  pub form : HaveForm told.opening.catalog (own_use told v h) h
  pub names : (st : State) → Opens BASE told.pages told.opening st → (a n : ℕ) → get (book_of BASE (space_left h.space)) a ≡ Some n
      → (get (book_of BASE (space_found h.space)) a ≡ Some n) ⊎ (is_in n v.names ≡ true)
  pub works : (st : State) → Opens BASE told.pages told.opening st
      → (ops : List (Op × ℕ)) × Works told.opening.catalog told.pages (state_seen told v st) h ops

-- each object of the space that is held was found, or has a name below this one
abbrev pub HasNamesBelow : ℕ → Holding → Type 0
HasNamesBelow next h = (a n : ℕ) → get (book_of BASE (space_left h.space)) a ≡ Some n → (get (book_of BASE (space_found h.space)) a ≡ Some n) ⊎ (n < next)

-- the word may be a reference, and an object of the transaction's book begins there; the first is known also where the files open
-- to nothing
pub record KnowsHere (told : Told) (v : View) (h : Holding) (a : ℕ) : Type 0 where
  pub usable : own_use told v h a ≡ true
  pub object : (st : State) → Opens BASE told.pages told.opening st → is_some (get (left_book (state_seen told v st) h) a) ≡ true

-- nil, or the address of such an object
abbrev pub KnowsWordHere : Told → View → Holding → ℕ → Type 0
KnowsWordHere told v h a = (a ≡ 0) ⊎ KnowsHere told v h a

-- the word is nil or a persistent object, or its place was written in this transaction, and it is an object of the transaction's book
abbrev pub KnowsPlace : Told → View → Holding → Bool → ℕ → Type 0
KnowsPlace told v h wrote a = KnowsWord told v a ⊎ ((wrote ≡ true) × KnowsHere told v h a)

-- each place of the row that is tagged as a reference holds such a word
abbrev pub RemembersHere : Told → View → Holding → List Bool → List Bool → Type 0
RemembersHere told v h refs wrote =
    (q : ℕ) → slice_index_or refs q false ≡ true → KnowsPlace told v h (slice_index_or wrote q false) (word_of v.log q)

-- the name of the object at an address
abbrev pub name_here : Told → View → Holding → State → ℕ → ℕ
name_here told v h st a = unwrap_or (get (left_book (state_seen told v st) h) a) 0

-- what the transaction found shows, under the names that its objects had
abbrev pub found_here : Told → View → Holding → State → Part
found_here told v h st = found_part told.opening.catalog BASE (found_book (state_seen told v st) h) h

-- From one moment to another each object of the book stays one of it, under its name, and what was found stays found.
pub record KeepsObjects (told : Told) (v : View) (h : Holding) (w : View) (g : Holding) : Type 0 where
  pub usable : (a : ℕ) → own_use told v h a ≡ true → own_use told w g a ≡ true
  pub objects : (st : State) → Opens BASE told.pages told.opening st → (a n : ℕ)
      → get (left_book (state_seen told v st) h) a ≡ Some n → get (left_book (state_seen told w st) g) a ≡ Some n
  pub found : (st : State) → Opens BASE told.pages told.opening st → PartOf (found_here told v h st) (found_here told w g st)

-- The transaction has done this much more, and each object is where it was.
pub record AdvancesOn (told : Told) (v : View) (h : Holding) (w : View) (g : Holding) (more : State → List (Op × ℕ) → List (Op × ℕ)) : Type 0 where
  pub works : WorksOn told v h w g more
  pub keeps : KeepsObjects told v h w g

-- the value x was read at a place of the object at a, which has this type map, or was written there
abbrev pub reads_here : Told → View → Holding → ℕ → Fields → Place → ℕ → State → List (Op × ℕ) → List (Op × ℕ)
reads_here told v h a map place x st done =
    with_step done (read_op map (name_here told v h st a) place) (answer_of (left_book (state_seen told v st) h) map place x)

abbrev pub writes_here : Told → View → Holding → ℕ → Fields → Place → ℕ → State → List (Op × ℕ) → List (Op × ℕ)
writes_here told v h a map place x st done =
    with_step done (write_op (left_book (state_seen told v st) h) map (name_here told v h st a) place x) 0

-- the address x was read in a root slot, or written there
abbrev pub root_reads_here : Told → View → Holding → ℕ → ℕ → State → List (Op × ℕ) → List (Op × ℕ)
root_reads_here told v h slot x st done = with_step done (operation.Root slot) (name_by (left_book (state_seen told v st) h) x)

abbrev pub root_writes_here : Told → View → Holding → ℕ → ℕ → State → List (Op × ℕ) → List (Op × ℕ)
root_writes_here told v h slot x st done = with_step done (operation.SetRoot slot (name_by (left_book (state_seen told v st) h) x)) 0
