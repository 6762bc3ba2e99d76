-- Laws of holdings as values: under every catalog and every book, each access is one operation on the part of a graph that is left.
use Rattle.std.specs.Prelude.{◌≡◌, ◌≢◌, ◌≤◌, is_some, ℕ, Bool, List, true, Some, None, Err}
use Rattle.std.specs.FinMap.{get, insert, empty, contains_key}
use Rattle.pm3_types.specs.Fields.{Fields}
use Rattle.pm3_types.specs.Graph.{with_part}
use Rattle.pm3_types.specs.Layout.{PageImage, blank_sheet, page_in}
use Rattle.pm3_types.specs.Shown.{Book, FitsImages, IsKnown}
use Rattle.pm3_graph.specs.Operation.{IsStep, outcome}
use Rattle.pm3_graph.specs.declared.operations.Op.TheVariants as ops
use Rattle.pm3_graph.specs.declared.operations.PlainFault.TheVariants as faults
use Rattle.pm3_access.specs.declared.places.Place as place
use Rattle.pm3_access.specs.Access.{AreSound, HaveForm, is_object_held, value_held, value_written}
use Rattle.pm3_access.specs.Acts.{AreInPlace, IsHeldAs, IsNewName, MayBeMade, left_images, found_images, left_part, found_part, image_part, space_part, map_held, read_op, write_op, answer_of}
use Rattle.pm3_access.specs.Making.{IsMade, current_image}
use Rattle.pm3_access.specs.Sound.{HasLowPage}
use Rattle.pm3_access.specs.Spots.{IsValueFor, has_names}
use Rattle.pm3_access.specs.Holding.{Holding, HeldSpaceState, SpaceState, image_in, admitted, with_held_space, by_space, grown}
use Rattle.pm3_page.specs.PageMap.{IsAtHome}
use Rattle.pm3_page.specs.PageSheets.{sheets_of}

-- A read of a place of an object that is held is a read of that place of its record: the answer is the value, or the name that
-- the value stands for.
abbrev pub ReadsAreSteps : Type 0
ReadsAreSteps = (catalog : List Fields) (base : ℕ) (book : Book) (h : Holding) (a n : ℕ) (map : Fields) (at : place.Place) (v : ℕ)
    → IsHeldAs catalog base book h a n map → value_held catalog base h a at ≡ Some v
    → IsStep catalog (read_op map n at) (left_part catalog base book h) (answer_of book map at v) (left_part catalog base book h)

-- where the object has no such place, there is no such step
abbrev pub ReadsOfNoPlace : Type 0
ReadsOfNoPlace = (catalog : List Fields) (base : ℕ) (book : Book) (h : Holding) (a n : ℕ) (map : Fields) (at : place.Place)
    → IsHeldAs catalog base book h a n map → value_held catalog base h a at ≡ None
    → outcome catalog (read_op map n at) (left_part catalog base book h) ≡ Err faults.NoPlace

-- an address that is read is in the book
abbrev pub ReadsAreKnown : Type 0
ReadsAreKnown = (catalog : List Fields) (base : ℕ) (book : Book) (h : Holding) (a n : ℕ) (map : Fields) (at : place.Place) (v : ℕ)
    → IsHeldAs catalog base book h a n map → has_names map at ≡ true → value_held catalog base h a at ≡ Some v → IsKnown book v

-- each object of images that have the form has a type map
abbrev pub ObjectsHaveMaps : Type 0
ObjectsHaveMaps = (catalog : List Fields) (base : ℕ) (refers : ℕ → Bool) (h : Holding) (a : ℕ) → HaveForm catalog refers h → is_object_held base h a ≡ true
    → (map : Fields) × (map_held catalog base h a ≡ Some map)

-- A write to a place of an object that is held is a write to that place of its record, of the value, or of the name that the
-- value stands for.
abbrev pub WritesAreSteps : Type 0
WritesAreSteps = (catalog : List Fields) (base : ℕ) (book : Book) (h new : Holding) (a n : ℕ) (map : Fields) (at : place.Place) (v : ℕ)
    → IsHeldAs catalog base book h a n map → IsValueFor at v → value_written catalog base h a at v ≡ Some new
    → IsStep catalog (write_op book map n at v) (left_part catalog base book h) 0 (left_part catalog base book new)

-- a book that has the value, where it is to be an address, fits what is left as before
abbrev pub WritesFit : Type 0
WritesFit = (catalog : List Fields) (base : ℕ) (book : Book) (h new : Holding) (a n : ℕ) (map : Fields) (at : place.Place) (v : ℕ)
    → IsHeldAs catalog base book h a n map → (has_names map at ≡ true → IsKnown book v) → value_written catalog base h a at v ≡ Some new
    → FitsImages catalog base book (left_images new)

-- where the object has no such place, there is no such step
abbrev pub WritesOfNoPlace : Type 0
WritesOfNoPlace = (catalog : List Fields) (base : ℕ) (book : Book) (h : Holding) (a n : ℕ) (map : Fields) (at : place.Place) (v : ℕ)
    → IsHeldAs catalog base book h a n map → value_written catalog base h a at v ≡ None
    → outcome catalog (write_op book map n at v) (left_part catalog base book h) ≡ Err faults.NoPlace

-- a new object is a new record of zeros, under the book that has its name at the address
abbrev pub MakesAreSteps : Type 0
MakesAreSteps = (catalog : List Fields) (base : ℕ) (book : Book) (h new : Holding) (ty tail n a : ℕ) → AreInPlace h
    → HasLowPage (current_image h.space) → MayBeMade catalog ty tail n → IsNewName catalog base book h n
    → IsMade base catalog h ty tail n (Some a) new
    → IsStep catalog (ops.New n ty tail) (left_part catalog base book h) 0 (left_part catalog base (insert book a n) new)

-- and that book fits what is left
abbrev pub MakesFit : Type 0
MakesFit = (catalog : List Fields) (base : ℕ) (book : Book) (h new : Holding) (ty tail n a : ℕ) → AreInPlace h
    → HasLowPage (current_image h.space) → MayBeMade catalog ty tail n → IsNewName catalog base book h n
    → IsMade base catalog h ty tail n (Some a) new → FitsImages catalog base (insert book a n) (left_images new)

-- the book that fitted before had nothing at the address
abbrev pub MakesAtNewAddress : Type 0
MakesAtNewAddress = (catalog : List Fields) (base : ℕ) (book : Book) (h new : Holding) (ty tail n a : ℕ) → AreInPlace h
    → HasLowPage (current_image h.space) → MayBeMade catalog ty tail n → IsNewName catalog base book h n
    → IsMade base catalog h ty tail n (Some a) new → get book a ≡ None

-- an image whose page is not held adds what it shows alone to what is left
abbrev pub AdmitsToLeft : Type 0
AdmitsToLeft = (catalog : List Fields) (base : ℕ) (book : Book) (h : Holding) (image : PageImage) → image_in h image.page ≡ None
    → left_part catalog base book (admitted h image) ≡ with_part (left_part catalog base book h) (image_part catalog base book image)

-- and alike to what was found
abbrev pub AdmitsToFound : Type 0
AdmitsToFound = (catalog : List Fields) (base : ℕ) (book : Book) (h : Holding) (image : PageImage) → AreInPlace h → image_in h image.page ≡ None
    → found_part catalog base book (admitted h image) ≡ with_part (found_part catalog base book h) (image_part catalog base book image)

-- a book that fits the image as well fits all that is left then
abbrev pub AdmitsFit : Type 0
AdmitsFit = (catalog : List Fields) (base : ℕ) (book : Book) (h : Holding) (image : PageImage) → image_in h image.page ≡ None
    → FitsImages catalog base book (left_images h) → FitsImages catalog base book (insert empty image.page image.sheet)
    → FitsImages catalog base book (left_images (admitted h image))

-- a space adds what its images show to what is left
abbrev pub SpaceToLeft : Type 0
SpaceToLeft = (catalog : List Fields) (base : ℕ) (book : Book) (h : Holding) (space : SpaceState) → h.space ≡ None
    → ((page : ℕ) → contains_key space.images page ≡ true → image_in h page ≡ None)
    → left_part catalog base book (with_held_space h space) ≡ with_part (left_part catalog base book h) (space_part catalog base book space)

-- and alike to what was found
abbrev pub SpaceToFound : Type 0
SpaceToFound = (catalog : List Fields) (base : ℕ) (book : Book) (h : Holding) (space : SpaceState) → AreInPlace h → h.space ≡ None
    → ((page : ℕ) → contains_key space.images page ≡ true → image_in h page ≡ None)
    → found_part catalog base book (with_held_space h space) ≡ with_part (found_part catalog base book h) (space_part catalog base book space)

-- a book that fits its images as well fits all that is left then
abbrev pub SpaceFits : Type 0
SpaceFits = (catalog : List Fields) (base : ℕ) (book : Book) (h : Holding) (space : SpaceState) → h.space ≡ None
    → ((page : ℕ) → contains_key space.images page ≡ true → image_in h page ≡ None)
    → FitsImages catalog base book (left_images h) → FitsImages catalog base book (sheets_of space.images)
    → FitsImages catalog base book (left_images (with_held_space h space))

-- what is held stays in place where a page is admitted
abbrev pub AdmittedInPlace : Type 0
AdmittedInPlace = (h : Holding) (image : PageImage) → AreInPlace h → image_in h image.page ≡ None → AreInPlace (admitted h image)

-- and where a space is
abbrev pub SpaceInPlace : Type 0
SpaceInPlace = (h : Holding) (space : SpaceState) → AreInPlace h → h.space ≡ None → IsAtHome space.images
    → ((page : ℕ) → contains_key space.images page ≡ true → image_in h page ≡ None) → AreInPlace (with_held_space h space)

-- and where a page is drawn
abbrev pub GrownInPlace : Type 0
GrownInPlace = (h : Holding) (image : PageImage) → AreInPlace h → image_in h image.page ≡ None
    → AreInPlace (by_space (λ s. grown s image) h)

-- and after a write
abbrev pub WrittenInPlace : Type 0
WrittenInPlace = (catalog : List Fields) (base : ℕ) (h new : Holding) (a : ℕ) (at : place.Place) (v : ℕ) → AreInPlace h
    → value_written catalog base h a at v ≡ Some new → AreInPlace new

-- and with a new object
abbrev pub MadeInPlace : Type 0
MadeInPlace = (catalog : List Fields) (base : ℕ) (h new : Holding) (ty tail n a : ℕ) → AreInPlace h
    → IsMade base catalog h ty tail n (Some a) new → AreInPlace new

-- a page of zeros that is drawn into the space, of which a book has no address, shows nothing
abbrev pub GrowthShowsNothing : Type 0
GrowthShowsNothing = (catalog : List Fields) (base : ℕ) (book : Book) (h : Holding) (image : PageImage) → is_some h.space ≡ true
    → image_in h image.page ≡ None → image.sheet ≡ blank_sheet → image.page ≢ 2
    → left_part catalog base book (by_space (λ s. grown s image) h) ≡ left_part catalog base book h

-- and leaves what was found
abbrev pub GrowthKeepsFound : Type 0
GrowthKeepsFound = (h : Holding) (image : PageImage) → is_some h.space ≡ true → image_in h image.page ≡ None
    → found_images (by_space (λ s. grown s image) h) ≡ found_images h

-- and the book still fits
abbrev pub GrowthFits : Type 0
GrowthFits = (catalog : List Fields) (base : ℕ) (book : Book) (h : Holding) (image : PageImage) → is_some h.space ≡ true
    → image_in h image.page ≡ None → image.sheet ≡ blank_sheet → image.page ≢ 2
    → ((a n : ℕ) → get book a ≡ Some n → page_in base a ≢ image.page) → FitsImages catalog base book (left_images h)
    → FitsImages catalog base book (left_images (by_space (λ s. grown s image) h))

-- a change of the free pages, or of the page that objects are placed on, changes none of the images
abbrev pub FreeListKeepsLeft : Type 0
FreeListKeepsLeft = (h : Holding) (change : HeldSpaceState → HeldSpaceState) → ((s : HeldSpaceState) → (change s).images ≡ s.images)
    → left_images (by_space change h) ≡ left_images h

-- nor those that were found
abbrev pub FreeListKeepsFound : Type 0
FreeListKeepsFound = (h : Holding) (change : HeldSpaceState → HeldSpaceState) → ((s : HeldSpaceState) → (change s).images ≡ s.images)
    → found_images (by_space change h) ≡ found_images h

-- and all stays in place
abbrev pub FreeListKeepsPlace : Type 0
FreeListKeepsPlace = (h : Holding) (change : HeldSpaceState → HeldSpaceState) → ((s : HeldSpaceState) → (change s).images ≡ s.images)
    → AreInPlace h → AreInPlace (by_space change h)

-- what has the form of pages in a store has it in every larger store
abbrev pub SoundInMorePages : Type 0
SoundInMorePages = (catalog : List Fields) (base few more : ℕ) (h : Holding) → few ≤ more → AreSound catalog base few h → AreSound catalog base more h
