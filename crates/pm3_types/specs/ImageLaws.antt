-- Laws of images: under every catalog and every book.
use Rattle.std.specs.Prelude.{◌≡◌, ◌≢◌, ◌+◌, ◌^◌, ◌<◌, ◌≤◌, ℕ, List, Bool, true, Some, if◌then◌else◌, length, slice_set}
use Rattle.std.specs.FinMap.{get, insert}
use Rattle.pm3_types.specs.Fields.{Fields, is_reference}
use Rattle.pm3_types.specs.Record.{Record}
use Rattle.pm3_types.specs.Layout.{Sheet, IsLaid, address, end_of, is_start, placed, size_at, size_of, with_word}
use Rattle.pm3_types.specs.Shown.{Book, Images, IsOneToOne, object_at, object_in, name_by, record_by, seen, shown_records}

-- two lists of starts, under each of which the objects of a page lie one after another without a gap, are the same
abbrev pub OneLayout : Type 0
OneLayout = (catalog : List Fields) (words : List ℕ) (a b : List Bool) → IsLaid catalog (record { words = words; starts = a })
    → IsLaid catalog (record { words = words; starts = b }) → a ≡ b

-- under each name images show what is seen there
abbrev pub ShowsEachName : Type 0
ShowsEachName = (catalog : List Fields) (base : ℕ) (book : Book) (images : Images) (n : ℕ)
    → get (shown_records catalog base book images) n ≡ seen catalog base book images n

-- the object at an address of the book is shown under its name
abbrev pub ShowsObjects : Type 0
ShowsObjects = (catalog : List Fields) (base : ℕ) (book : Book) (images : Images) (a n : ℕ) → IsOneToOne book → get book a ≡ Some n
    → get (shown_records catalog base book images) n ≡ object_at book catalog base images a

-- nothing else is shown
abbrev pub ShowsNothingElse : Type 0
ShowsNothingElse = (catalog : List Fields) (base : ℕ) (book : Book) (images : Images) (n : ℕ) (r : Record)
    → get (shown_records catalog base book images) n ≡ Some r
    → (a : ℕ) × (get book a ≡ Some n) × (object_at book catalog base images a ≡ Some r)

-- images that agree at the book's addresses show the same
abbrev pub ShowsAlike : Type 0
ShowsAlike = (catalog : List Fields) (base : ℕ) (book : Book) (images now : Images)
    → ((a n : ℕ) → get book a ≡ Some n → object_at book catalog base now a ≡ object_at book catalog base images a)
    → shown_records catalog base book now ≡ shown_records catalog base book images

-- a change of one object changes one record
abbrev pub ShowsOneChange : Type 0
ShowsOneChange = (catalog : List Fields) (base : ℕ) (book : Book) (images now : Images) (a n : ℕ) (r : Record) → IsOneToOne book
    → get book a ≡ Some n → object_at book catalog base now a ≡ Some r
    → ((b m : ℕ) → get book b ≡ Some m → b ≢ a → object_at book catalog base now b ≡ object_at book catalog base images b)
    → shown_records catalog base book now ≡ insert (shown_records catalog base book images) n r

-- so does a change of one object of one page's sheet
abbrev pub ShowsOnePageChange : Type 0
ShowsOnePageChange = (catalog : List Fields) (base : ℕ) (book : Book) (images : Images) (p at n : ℕ) (sheet now : Sheet) (r : Record)
    → IsOneToOne book → at < 512 → get images p ≡ Some sheet → get book (address base p at) ≡ Some n
    → ((t : ℕ) → t ≢ at → object_in book catalog (Some now) t ≡ object_in book catalog (Some sheet) t)
    → object_in book catalog (Some now) at ≡ Some r
    → shown_records catalog base book (insert images p now) ≡ insert (shown_records catalog base book images) n r

-- Where a word written is that of a field, the object's record has the value, or the name that the value stands for, in that
-- field, and is else as it was.
abbrev pub WritesOneField : Type 0
WritesOneField = (book : Book) (fields : Fields) (words : List ℕ) (at head v f : ℕ) → f < fields.count → at + 2 + f < length words
    → let before = record_by book (Some fields) words at head in
    let value = if is_reference fields f then name_by book v else v in
    record_by book (Some fields) (slice_set words (at + 2 + f) v) at head ≡ record before { fields = slice_set before.fields f value }

-- a word written within an object, below its head and its name, leaves the objects where they lie
abbrev pub WritesKeepLayout : Type 0
WritesKeepLayout = (catalog : List Fields) (sheet : Sheet) (s i v : ℕ) → IsLaid catalog sheet → is_start sheet s ≡ true
    → s + 2 ≤ i → i < s + size_at catalog sheet s → IsLaid catalog (with_word sheet i v)

-- and leaves every other object of the page as it was, under every book
abbrev pub WritesKeepOthers : Type 0
WritesKeepOthers = (catalog : List Fields) (sheet : Sheet) (s i v : ℕ) (book : Book) (t : ℕ) → IsLaid catalog sheet → is_start sheet s ≡ true
    → s + 2 ≤ i → i < s + size_at catalog sheet s → t ≢ s
    → object_in book catalog (Some (with_word sheet i v)) t ≡ object_in book catalog (Some sheet) t

-- a new object behind the last one: the objects and the new one lie one after another
abbrev pub PlacesKeepLayout : Type 0
PlacesKeepLayout = (catalog : List Fields) (page : ℕ) (sheet : Sheet) (size head name : ℕ) → IsLaid catalog sheet → page < 2 ^ 32 → 2 ≤ size
    → end_of sheet + size ≤ 512 → size_of catalog head ≡ size → IsLaid catalog (placed page sheet size head name)

-- and every other object of the page is as it was, under every book
abbrev pub PlacesKeepOthers : Type 0
PlacesKeepOthers = (catalog : List Fields) (page : ℕ) (sheet : Sheet) (size head name : ℕ) (book : Book) (t : ℕ) → IsLaid catalog sheet
    → page < 2 ^ 32 → 2 ≤ size → end_of sheet + size ≤ 512 → size_of catalog head ≡ size → t ≢ end_of sheet
    → object_in book catalog (Some (placed page sheet size head name)) t ≡ object_in book catalog (Some sheet) t
