-- Accesses to what is held, as operations on the part of a graph that its images show.
use Rattle.std.specs.Prelude.{ℕ, ◌≡◌, ◌≢◌, ◌^◌, ◌<◌, Bool, true, false, cond, List, length, Option, None, Some, Err, slice_get}
use Rattle.std.specs.FinMap.{get, insert, empty, entries, contains_key}
use Rattle.pm3_types.specs.Fields.{Fields, is_reference}
use Rattle.pm3_types.specs.Layout.{PageImage, has_tail, page_in, word_in}
use Rattle.pm3_types.specs.PageForm.{map_at}
use Rattle.pm3_types.specs.Graph.{Part, with_part}
use Rattle.pm3_types.specs.Shown.{Book, Images, FitsImages, IsKnown, name_by, shown}
use Rattle.pm3_graph.specs.Operation.{IsStep, outcome}
use Rattle.pm3_graph.specs.declared.operations.PlainFault.TheVariants as faults
use Rattle.pm3_graph.specs.declared.operations.Op.{Op}
use Rattle.pm3_graph.specs.declared.operations.Op.TheVariants as ops
use Rattle.pm3_page.specs.PageSheets.{sheets_over, sheets_of}
use Rattle.pm3_access.specs.declared.places.Place.{Place}
use Rattle.pm3_access.specs.declared.places.Place.TheVariants.{Field, Tail, Byte}
use Rattle.pm3_access.specs.Access.{is_object_held, HaveForm}
use Rattle.pm3_access.specs.Spots.{has_names}
use Rattle.pm3_access.specs.Holding.{Holding, HeldSpaceState, SpaceState, image_in, space_now}

-- the sheets of a space, as they are now and as they were found
abbrev pub space_left : Option HeldSpaceState → Images
space_left None = empty
space_left (Some s) = sheets_of s.images.left

abbrev pub space_found : Option HeldSpaceState → Images
space_found None = empty
space_found (Some s) = sheets_of s.images.found

-- the sheets of all pages that are held, as they are now and as they were found
abbrev pub left_images : Holding → Images
left_images h = sheets_over (entries h.pages.left) (space_left h.space)

abbrev pub found_images : Holding → Images
found_images h = sheets_over (entries h.pages.found) (space_found h.space)

-- what they show under a book: the part that is left, and the part that was found
abbrev pub left_part : List Fields → ℕ → Book → Holding → Part
left_part catalog base book h = shown catalog base book (left_images h)

abbrev pub found_part : List Fields → ℕ → Book → Holding → Part
found_part catalog base book h = shown catalog base book (found_images h)

-- the type map of the object at an address
abbrev pub map_by : List Fields → Option PageImage → ℕ → Option Fields
map_by catalog None at = None
map_by catalog (Some image) at = map_at catalog image.sheet at

abbrev pub map_held : List Fields → ℕ → Holding → ℕ → Option Fields
map_held catalog base h a = map_by catalog (image_in h (page_in base a)) (word_in base a)

-- what a value at that place is in the record: the name of the object, where the value is an address
abbrev pub answer_of : Book → Fields → Place → ℕ → ℕ
answer_of book map place v = cond (has_names map place) (name_by book v) v

-- the operation that reads the place of the record with this name
abbrev pub read_op : Fields → ℕ → Place → Op
read_op map n (Field f) = cond (is_reference map f) (ops.Reference n f) (ops.Word n f)
read_op map n (Tail k) = ops.TailRef n k
read_op map n (Byte k) = ops.Byte n k

-- the operation that writes this word, name or byte there
abbrev pub write_with : Fields → ℕ → Place → ℕ → Op
write_with map n (Field f) x = cond (is_reference map f) (ops.SetReference n f x) (ops.SetWord n f x)
write_with map n (Tail k) x = ops.SetTailRef n k x
write_with map n (Byte k) x = ops.SetByte n k x

-- the operation that a write of this value is
abbrev pub write_op : Book → Fields → ℕ → Place → ℕ → Op
write_op book map n place v = write_with map n place (answer_of book map place v)

-- an object with this map is held at a, where what is held has the form of pages, and a book that fits it has it under the name n
pub record IsHeldAs (catalog : List Fields) (base : ℕ) (book : Book) (h : Holding) (a n : ℕ) (map : Fields) : Type 0 where
  pub refers : ℕ → Bool
  pub form : HaveForm catalog refers h
  pub object : is_object_held base h a ≡ true
  pub map_is : map_held catalog base h a ≡ Some map
  pub fits : FitsImages catalog base book (left_images h)
  pub named : get book a ≡ Some n

-- each image stands under its own page; no page of the space is held alone too; what was found is held
pub record AreInPlace (h : Holding) : Type 0 where
  pub home : (page : ℕ) (image : PageImage) → image_in h page ≡ Some image → image.page ≡ page
  pub apart : (page : ℕ) → contains_key h.pages.left page ≡ true → space_now h.space page ≡ None
  pub found : (page : ℕ) → image_in h page ≡ None → get (found_images h) page ≡ None

-- a book fits all that is held, which has the form of pages, and has the name nowhere
pub record IsNewName (catalog : List Fields) (base : ℕ) (book : Book) (h : Holding) (n : ℕ) : Type 0 where
  pub refers : ℕ → Bool
  pub form : HaveForm catalog refers h
  pub fits : FitsImages catalog base book (left_images h)
  pub fresh : (a : ℕ) → get book a ≢ Some n

-- an object of this type, tail and name may be made
pub record MayBeMade (catalog : List Fields) (ty tail n : ℕ) : Type 0 where
  pub there : ty < length catalog
  pub type_low : ty < 2 ^ 16
  pub tail_low : tail < 2 ^ 32
  pub tail_is : has_tail (slice_get catalog ty) ≡ false → tail ≡ 0
  pub named : n ≢ 0

-- what an image alone shows under a book, and what the images of a space show
abbrev pub image_part : List Fields → ℕ → Book → PageImage → Part
image_part catalog base book image = shown catalog base book (insert empty image.page image.sheet)

abbrev pub space_part : List Fields → ℕ → Book → SpaceState → Part
space_part catalog base book space = shown catalog base book (sheets_of space.images)

-- a read that answered v is that operation on the part that is left; a read that found no place is no step
abbrev pub IsReadStep : List Fields → ℕ → Holding → ℕ → Place → Option ℕ → Type 0
IsReadStep catalog base h a place (Some v) = (book : Book) (n : ℕ) (map : Fields) → IsHeldAs catalog base book h a n map
    → IsStep catalog (read_op map n place) (left_part catalog base book h) (answer_of book map place v) (left_part catalog base book h)
IsReadStep catalog base h a place None = (book : Book) (n : ℕ) (map : Fields) → IsHeldAs catalog base book h a n map
    → outcome catalog (read_op map n place) (left_part catalog base book h) ≡ Err faults.NoPlace

-- the same of a write; a book that has the value, where it is to be an address, still fits
abbrev pub IsWriteStep : List Fields → ℕ → Holding → ℕ → Place → ℕ → Option Holding → Type 0
IsWriteStep catalog base h a place v (Some new) = (book : Book) (n : ℕ) (map : Fields) → IsHeldAs catalog base book h a n map
    → IsStep catalog (write_op book map n place v) (left_part catalog base book h) 0 (left_part catalog base book new)
    × ((has_names map place ≡ true → IsKnown book v) → FitsImages catalog base book (left_images new))
IsWriteStep catalog base h a place v None = (book : Book) (n : ℕ) (map : Fields) → IsHeldAs catalog base book h a n map
    → outcome catalog (write_op book map n place v) (left_part catalog base book h) ≡ Err faults.NoPlace

-- an object made at the address is a new record of the part that is left, under the book with its name there, which still fits
abbrev pub IsMakeStep : List Fields → ℕ → Holding → ℕ → ℕ → ℕ → ℕ → Holding → Type 0
IsMakeStep catalog base h ty tail n a new = (book : Book) → IsNewName catalog base book h n
    → IsStep catalog (ops.New n ty tail) (left_part catalog base book h) 0 (left_part catalog base (insert book a n) new)
    × FitsImages catalog base (insert book a n) (left_images new) × (get book a ≡ None)

-- the part that is left, and alike the part that was found, has the records and roots of another part beside its own
abbrev pub HaveGrown : List Fields → ℕ → Holding → Holding → (Book → Part) → Type 0
HaveGrown catalog base h new more = (book : Book)
    → (left_part catalog base book new ≡ with_part (left_part catalog base book h) (more book))
    × (found_part catalog base book new ≡ with_part (found_part catalog base book h) (more book))
