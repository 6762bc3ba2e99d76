-- Laws of transactions as values, with their spaces or without.
use Rattle.std.specs.Prelude.{ℕ, ◌≡◌, ◌≢◌, ◌<◌, ◌≤◌, ◌++◌, true, List, [], ◌∷◌, Option, Some, None, is_some, slice_get}
use Rattle.std.specs.FinMap.{get}
use Rattle.pm3_core.specs.declared.naming.TheConstants.{BASE}
use Rattle.pm3_types.specs.Fields.{Fields}
use Rattle.pm3_types.specs.Layout.{PageImage, blank_sheet, page_in}
use Rattle.pm3_types.specs.PageForm.{IsSound, is_memory_reference}
use Rattle.pm3_types.specs.Shown.{IsKnown, name_by}
use Rattle.pm3_graph.specs.declared.operations.Op.{Op}
use Rattle.pm3_graph.specs.declared.operations.Op.TheVariants as operation
use Rattle.pm3_page.specs.PageMap.{IsAtHome}
use Rattle.pm3_page.specs.PageSheets.{sheets_of}
use Rattle.pm3_access.specs.declared.places.Place.{Place}
use Rattle.pm3_access.specs.Access.{AreSound, is_object_held, value_held, value_written}
use Rattle.pm3_access.specs.Acts.{IsMakeStep, space_left, map_held, read_op, write_op, answer_of}
use Rattle.pm3_access.specs.Roots.{root_held, root_written}
use Rattle.pm3_access.specs.Spots.{IsValueFor, has_names}
use Rattle.pm3_access.specs.Holding.{Holding, HeldSpaceState, SpaceState, image_in, nothing_held, admitted, with_held_space, with_free, grown, by_space}
use Rattle.pm3_access.specs.FreeList.{Numbers}
use Rattle.pm3_access.specs.Making.{IsMade}
use Rattle.pm3_access.specs.Sound.{ImagesHaveForm}
use Rattle.pm3_history.specs.Entry.{Done}
use Rattle.pm3_history.specs.Homes.{IsHome}
use Rattle.pm3_history.specs.LastImages.{last_written}
use Rattle.pm3_history.specs.Lawful.{AreLawful}
use Rattle.pm3_history.specs.Named.{book_of}
use Rattle.pm3_history.specs.Persistent.{persistent_book}
use Rattle.pm3_history.specs.Spaces.{AreOfSpace, NoneOfSpace}
use Rattle.pm3_history.specs.State.{State, now}
use Rattle.pm3_txn.specs.Runs.{Runs}
use Rattle.pm3_txn.specs.TransactionLaws.{IsSettled}
use Rattle.pm3_txn.specs.Works.{Works, IsOwnName, left_book, is_own_page}

-- a transaction that holds nothing has done nothing
abbrev pub WorksBegin : Type 0
WorksBegin = (catalog : List Fields) (pages : ℕ) (st : State) → IsSettled catalog st → Works catalog pages st nothing_held []

-- without its space it is one that holds pages of no space
abbrev pub WorksAlone : Type 0
WorksAlone = (catalog : List Fields) (pages : ℕ) (st : State) (h : Holding) (ops : List (Op × ℕ)) → IsSettled catalog st → h.space ≡ None
    → Works catalog pages st h ops → Runs catalog st h ops

-- it goes on with the last image of one more persistent page
abbrev pub WorksAdmit : Type 0
WorksAdmit = (catalog : List Fields) (pages : ℕ) (st : State) (h : Holding) (ops : List (Op × ℕ)) (image : PageImage) → IsSettled catalog st
    → image_in h image.page ≡ None → get st.pages image.page ≡ Some image.sheet → IsHome BASE st image.page → 2 ≤ image.page
    → IsSound catalog BASE pages image → Works catalog pages st h ops → Works catalog pages st (admitted h image) ops

-- it goes on with its space, as that was left last
abbrev pub WorksTakeSpace : Type 0
WorksTakeSpace = (catalog : List Fields) (pages : ℕ) (st : State) (h : Holding) (ops : List (Op × ℕ)) (space : SpaceState) → IsSettled catalog st
    → h.space ≡ None → AreOfSpace st space.number (sheets_of space.images) → IsAtHome space.images
    → ImagesHaveForm catalog (is_memory_reference BASE pages) space.images
    → Works catalog pages st h ops → Works catalog pages st (with_held_space h space) ops

-- an object of its book begins at its address once the page is held
abbrev pub ObjectsAreHeld : Type 0
ObjectsAreHeld = (catalog : List Fields) (pages : ℕ) (st : State) (h : Holding) (ops : List (Op × ℕ)) (a n : ℕ)
    → Works catalog pages st h ops → get (left_book st h) a ≡ Some n → is_some (image_in h (page_in BASE a)) ≡ true → is_object_held BASE h a ≡ true

-- a read of its place is one operation more
abbrev pub WorksRead : Type 0
WorksRead = (catalog : List Fields) (pages : ℕ) (st : State) (h : Holding) (ops : List (Op × ℕ)) (a n v : ℕ) (map : Fields) (place : Place)
    → is_object_held BASE h a ≡ true → map_held catalog BASE h a ≡ Some map → get (left_book st h) a ≡ Some n
    → value_held catalog BASE h a place ≡ Some v → Works catalog pages st h ops
    → Works catalog pages st h (ops ++ (read_op map n place, answer_of (left_book st h) map place v) ∷ [])
    × (has_names map place ≡ true → IsKnown (left_book st h) v)

-- so is a write, of nil or of an object of its book where it is to be a reference
abbrev pub WorksWrite : Type 0
WorksWrite = (catalog : List Fields) (pages : ℕ) (st : State) (h new : Holding) (ops : List (Op × ℕ)) (a n v : ℕ) (map : Fields) (place : Place) → IsSettled catalog st
    → is_object_held BASE h a ≡ true → map_held catalog BASE h a ≡ Some map → get (left_book st h) a ≡ Some n
    → IsValueFor place v → (has_names map place ≡ true → IsKnown (left_book st h) v × (is_memory_reference BASE pages v ≡ true))
    → value_written catalog BASE h a place v ≡ Some new → Works catalog pages st h ops
    → Works catalog pages st new (ops ++ (write_op (left_book st h) map n place v, 0) ∷ [])

-- and so are reads and writes of root slots
abbrev pub WorksReadRoot : Type 0
WorksReadRoot = (catalog : List Fields) (pages : ℕ) (st : State) (h : Holding) (ops : List (Op × ℕ)) (slot a : ℕ) → slot < 16
    → root_held h slot ≡ Some a → Works catalog pages st h ops
    → Works catalog pages st h (ops ++ (operation.Root slot, name_by (left_book st h) a) ∷ []) × IsKnown (left_book st h) a

abbrev pub WorksWriteRoot : Type 0
WorksWriteRoot = (catalog : List Fields) (pages : ℕ) (st : State) (h new : Holding) (ops : List (Op × ℕ)) (slot a : ℕ) → IsSettled catalog st → slot < 16
    → IsKnown (left_book st h) a → is_memory_reference BASE pages a ≡ true → root_written h slot a ≡ Some new → Works catalog pages st h ops
    → Works catalog pages st new (ops ++ (operation.SetRoot slot (name_by (left_book st h) a), 0) ∷ [])

-- it goes on with a blank page drawn into the space, on which no persistent object is
abbrev pub WorksGrow : Type 0
WorksGrow = (catalog : List Fields) (pages : ℕ) (st : State) (h : Holding) (ops : List (Op × ℕ)) (image : PageImage)
    → is_some h.space ≡ true → image_in h image.page ≡ None → image.sheet ≡ blank_sheet → 3 ≤ image.page
    → ((a n : ℕ) → get (persistent_book BASE st) a ≡ Some n → page_in BASE a ≢ image.page)
    → Works catalog pages st h ops → Works catalog pages st (by_space (λ s. grown s image) h) ops

-- and with other free pages
abbrev pub WorksFree : Type 0
WorksFree = (catalog : List Fields) (pages : ℕ) (st : State) (h : Holding) (ops : List (Op × ℕ)) (free : HeldSpaceState → Numbers) (room : HeldSpaceState → ℕ)
    → Works catalog pages st h ops → Works catalog pages st (by_space (λ s. with_free s (free s) (room s)) h) ops

-- an object made in the space under a new name is one operation more
abbrev pub WorksMake : Type 0
WorksMake = (catalog : List Fields) (pages : ℕ) (st : State) (h new : Holding) (ops : List (Op × ℕ)) (ty tail n a : ℕ) (map : Fields) → IsSettled catalog st
    → slice_get catalog ty ≡ Some map → get st.graph.records n ≡ None → ((b : ℕ) → get (book_of BASE (space_left h.space)) b ≡ Some n → ⊥)
    → IsMade BASE catalog h ty tail n (Some a) new → IsMakeStep catalog BASE h ty tail n a new → AreSound catalog BASE pages new
    → Works catalog pages st h ops → Works catalog pages st new (ops ++ (operation.New n ty tail, 0) ∷ [])

-- no commit has a pass of the space that is held
abbrev pub NoneOf : List Done → Option HeldSpaceState → Type 0
NoneOf more None = Unit {0}
NoneOf more (Some s) = NoneOfSpace more s.number

-- Commits of others leave it as it is: those that write no page that it holds alone, and no page of its space, that have no
-- pass of its space, and that make none of its new names.
abbrev pub WorksGoOn : Type 0
WorksGoOn = (catalog : List Fields) (pages : ℕ) (st : State) (h : Holding) (ops : List (Op × ℕ)) (more : List Done) → IsSettled catalog st
    → AreLawful catalog BASE pages st more
    → ((page : ℕ) → is_some (get h.pages.left page) ≡ true → last_written more page ≡ None)
    → ((page : ℕ) → is_own_page h page ≡ true → last_written more page ≡ None)
    → NoneOf more h.space
    → ((n : ℕ) → IsOwnName st (space_left h.space) n → get (now catalog BASE st more).graph.records n ≡ None)
    → Works catalog pages st h ops → Works catalog pages (now catalog BASE st more) h ops
