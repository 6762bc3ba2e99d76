-- The names that images tell, and the book that a commit leaves.
use Rattle.std.specs.Prelude.{ℕ, ◌≡◌, ◌+◌, true, not, cond, List, [], ◌∷◌, Option, Some, None, slice_index}
use Rattle.std.specs.List.{flat_map, range_with_len}
use Rattle.std.specs.Ordering.{nat_cmp}
use Rattle.std.specs.FinMap.{FinMap, get, from_entries, keys, contains_key}
use Rattle.pm3_types.specs.Layout.{Sheet, is_unmoved, is_address, page_in, word_in, address}
use Rattle.pm3_types.specs.Shown.{Book, Images}
use Rattle.pm3_history.specs.Laid.{laid, without, where_number}
use Rattle.pm3_history.specs.Entry.{Pass}

-- an object begins at the address, was not forwarded, and has the name in its header
pub record IsNamedOn (base : ℕ) (images : Images) (a n : ℕ) : Type 0 where
  pub sheet : Sheet
  pub on : get images (page_in base a) ≡ Some sheet
  pub address : is_address base a ≡ true
  pub unmoved : is_unmoved sheet (word_in base a) ≡ true
  pub named : slice_index sheet.words (word_in base a + 1) ≡ n

-- the object that begins at a word of a page, with its name
abbrev pub named_at : ℕ → ℕ → Sheet → ℕ → List (ℕ × ℕ)
named_at base page sheet at =
    cond (is_unmoved sheet at) ((address base page at, slice_index sheet.words (at + 1)) ∷ []) []

-- the objects of a page, each with its name
abbrev pub named_on : ℕ → ℕ → Option Sheet → List (ℕ × ℕ)
named_on base page None = []
named_on base page (Some sheet) = flat_map (named_at base page sheet) (range_with_len 0 512)

-- the objects on the images, each with its name
abbrev pub named_in : ℕ → Images → List (ℕ × ℕ)
named_in base images = flat_map (λ page. named_on base page (get images page)) (keys images)

-- the book of what lies on the images
abbrev pub book_of : ℕ → Images → Book
book_of base images = from_entries (named_in base images)

-- the book under which a commit's images are read: objects of its space are added to the book before it
abbrev pub book_by : ℕ → Book → Option Pass → Book
book_by base book None = book
book_by base book (Some p) = laid (book_of base p.before) book

-- the images of a pass that are persistent after it and were not before
abbrev pub promoted : Images → Pass → Images
promoted written p = without written p.changed

-- the book without the addresses on these pages
abbrev pub off_pages : {X : Type 0} → ℕ → Book → FinMap nat_cmp X → Book
off_pages base book pages = where_number book (λ a. not (contains_key pages (page_in base a)))

-- the book after a commit: on the pages of its pass the objects are named anew
abbrev pub next_book : ℕ → Book → Images → Option Pass → Book
next_book base book written None = book
next_book base book written (Some p) = laid (off_pages base book p.before) (book_of base (laid p.after (promoted written p)))
