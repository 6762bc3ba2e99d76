-- When an entry may follow a state, and when a history is lawful.
use Rattle.std.specs.Prelude.{ℕ, ◌≡◌, ◌≢◌, ◌⊎◌, ◌↔◌, ◌+◌, ◌<◌, ◌≤◌, true, false, List, [], ◌∷◌, length, Contains, Option, Some, None, is_some, slice_index}
use Rattle.std.specs.Ordering.{nat_cmp}
use Rattle.std.specs.FinMap.{FinMap, get, contains_key}
use Rattle.std.specs.FinSet as set
use Rattle.pm3_core.specs.Naming.{Names}
use Rattle.pm3_types.specs.Fields.{Fields}
use Rattle.pm3_types.specs.Graph.{Part, PartOf}
use Rattle.pm3_types.specs.Layout.{Sheet, page_in, word_in}
use Rattle.pm3_types.specs.PageForm.{IsReferenceIn, HasForm, is_memory_reference, map_at, tail_at}
use Rattle.pm3_types.specs.Record.{Record}
use Rattle.pm3_types.specs.Shown.{Book, Images, FitsImages, shown}
use Rattle.pm3_history.specs.Laid.{laid}
use Rattle.pm3_history.specs.Entry.{Pass, Done, Entry}
use Rattle.pm3_history.specs.Named.{book_by, next_book}
use Rattle.pm3_history.specs.State.{State, step, entry_after}

-- the images by which an entry is read: those of its pass before it, or the written ones where there is no pass
abbrev pub images_by : Images → Option Pass → Images
images_by written None = written
images_by written (Some p) = laid p.before p.changed

abbrev pub images_of : Entry → Images
images_of e = images_by e.written e.pass

-- the book under which they are read
abbrev pub book_for : ℕ → State → Entry → Book
book_for base st e = book_by base st.book e.pass

-- Of the graph g before an entry and of what its images show: found is part of g, left goes on from it, names that are new
-- in left are new in g, and what left has otherwise than found is shown.
pub record Tells (g s : Part) (e : Entry) : Type 0 where
  pub found : PartOf e.found g
  pub kept : (n : ℕ) (r : Record) → get e.found.records n ≡ Some r → is_some (get e.left.records n) ≡ true
  pub new : (n : ℕ) (r : Record) → get e.left.records n ≡ Some r → get e.found.records n ≡ None → get g.records n ≡ None
  pub shows : PartOf s e.left
  pub unchanged : (n : ℕ) (r : Record) → get e.left.records n ≡ Some r
      → (get e.found.records n ≡ Some r) ⊎ (get s.records n ≡ Some r)
  pub roots : get (images_of e) 2 ≡ None → e.left.roots ≡ e.found.roots

-- a reference on a page leads to a page of no space, or to one of the same space
abbrev pub MayRefer : ℕ → FinMap nat_cmp ℕ → ℕ → ℕ → Type 0
MayRefer base owner page v =
    v ≢ 0 → (get owner (page_in base v) ≡ None) ⊎ (get owner (page_in base v) ≡ get owner page)

-- so do the references of all objects that the book has, and those of the root slots
pub record StayWithin (catalog : List Fields) (base : ℕ) (owner : FinMap nat_cmp ℕ) (book : Book) (images : Images) : Type 0 where
  pub objects : (a n k : ℕ) (sheet : Sheet) → get book a ≡ Some n → get images (page_in base a) ≡ Some sheet
      → IsReferenceIn (map_at catalog sheet (word_in base a)) (tail_at sheet (word_in base a)) k
      → MayRefer base owner (page_in base a) (slice_index sheet.words (word_in base a + 2 + k))
  pub roots : (slot : ℕ) (sheet : Sheet) → slot < 16 → get images 2 ≡ Some sheet
      → MayRefer base owner 2 (slice_index sheet.words (2 + slot))

-- each image has the form of a page in a store of so many pages
abbrev pub HaveForm : List Fields → ℕ → ℕ → Images → Type 0
HaveForm catalog base pages images =
    (page : ℕ) (sheet : Sheet) → get images page ≡ Some sheet
    → (2 ≤ page) × (page < pages) × HasForm catalog (is_memory_reference base pages) page sheet

-- what is written has the form in a store of as many pages as the record's high page, and the marks only grow
pub record Writes (catalog : List Fields) (base pages : ℕ) (st : State) (e : Entry) : Type 0 where
  pub form : HaveForm catalog base e.high_page e.written
  pub names_rise : st.next_name ≤ e.next_name
  pub pages_rise : st.high_page ≤ e.high_page
  pub most : e.high_page ≤ pages

-- without a pass an entry writes persistent pages alone
pub record IsPlain (catalog : List Fields) (base : ℕ) (st : State) (e : Entry) : Type 0 where
  pub persistent : (page : ℕ) (sheet : Sheet) → get e.written page ≡ Some sheet
      → (is_some (get st.pages page) ≡ true) × (get st.owner page ≡ None)
  pub fits : FitsImages catalog base st.book e.written
  pub within : StayWithin catalog base st.owner st.book e.written

-- a page that may be drawn: not the page of the roots, of no space, and without an object that the book has
pub record IsFree (base : ℕ) (st : State) (page : ℕ) : Type 0 where
  pub apart : page ≢ 2
  pub unowned : get st.owner page ≡ None
  pub empty : (a n : ℕ) → get st.book a ≡ Some n → page_in base a ≢ page

-- what becomes of an object of the space: it stays on its pinned page, it moves once, or no one has its name any more
pub data Fate (base : ℕ) (p : Pass) (book : Book) (a n : ℕ) : Type 0 where
  Stays : set.contains p.pinned (page_in base a) ≡ true → get book a ≡ Some n → Fate base p book a n
  Moved : (to : ℕ) → Contains p.moves (record { name = n; from = a; to = to }) → get book to ≡ Some n → Fate base p book a n
  Dead : ((b : ℕ) → get book b ≡ Some n → ⊥) → Fate base p book a n

-- which pages a pass takes, and which it leaves
pub record TakesPages (base : ℕ) (st : State) (e : Entry) (p : Pass) : Type 0 where
  pub space : (page : ℕ) → get st.owner page ≡ Some p.space → contains_key p.before page ≡ true
  pub before : (page : ℕ) → contains_key p.before page ≡ true → (get st.owner page ≡ Some p.space) ⊎ IsFree base st page
  pub changed : (page : ℕ) → contains_key p.changed page ≡ true
      → (get st.owner page ≡ None) × (contains_key p.before page ≡ false) × (contains_key e.written page ≡ true)
  pub after : (page : ℕ) → contains_key p.after page ≡ true → (contains_key p.before page ≡ true) ⊎ IsFree base st page
  pub promoted : (page : ℕ) → contains_key e.written page ≡ true → contains_key p.changed page ≡ false
      → (contains_key p.before page ≡ true) ⊎ IsFree base st page
  pub apart : (page : ℕ) → contains_key p.after page ≡ true → get e.written page ≡ None

-- A pass: it marked each page with an object of its space and read every place, its pinned pages are the marked ones that a
-- word names, the objects of its space that the book lacks are those that its transaction made, and under the new book its
-- images show only what they showed under the old one.
pub record IsPass (catalog : List Fields) (base pages : ℕ) (st : State) (e : Entry) (p : Pass) : Type 0 where
  pub marked : (a n : ℕ) → get (book_for base st e) a ≡ Some n → contains_key p.before (page_in base a) ≡ true
      → set.contains p.marked (page_in base a) ≡ true
  pub words : length p.words ≡ 16384
  pub pinned : (page : ℕ) → set.contains p.pinned page ≡ true
      ↔ ((set.contains p.marked page ≡ true) × ((w : ℕ) × Contains p.words w × Names pages w page))
  pub made : (a n : ℕ) → get (book_for base st e) a ≡ Some n → (get st.book a ≡ Some n) ⊎ (set.contains p.made n ≡ true)
  pub takes : TakesPages base st e p
  pub fits : FitsImages catalog base (book_for base st e) (images_of e)
  pub fits_after : FitsImages catalog base (next_book base st.book e.written (Some p)) (laid p.after e.written)
  pub within : StayWithin catalog base (step base st e).owner (next_book base st.book e.written (Some p)) (laid p.after e.written)
  pub form : HaveForm catalog base pages p.after
  pub only : PartOf (shown catalog base (next_book base st.book e.written (Some p)) (laid p.after e.written))
      (shown catalog base (book_for base st e) (images_of e))
  pub names : (a n : ℕ) → get (next_book base st.book e.written (Some p)) a ≡ Some n → n < e.next_name
  pub fate : (a n : ℕ) → get (book_for base st e) a ≡ Some n → contains_key p.before (page_in base a) ≡ true
      → Fate base p (next_book base st.book e.written (Some p)) a n

abbrev pub MeetsPass : List Fields → ℕ → ℕ → State → Entry → Option Pass → Type 0
MeetsPass catalog base pages st e None = IsPlain catalog base st e
MeetsPass catalog base pages st e (Some p) = IsPass catalog base pages st e p

-- the entry may follow the state
pub record IsLawful (catalog : List Fields) (base pages : ℕ) (st : State) (e : Entry) : Type 0 where
  pub tells : Tells st.graph (shown catalog base (book_for base st e) (images_of e)) e
  pub writes : Writes catalog base pages st e
  pub by_pass : MeetsPass catalog base pages st e e.pass

-- each commit is an entry that may follow the state after those before it
abbrev pub AreLawful : List Fields → ℕ → ℕ → State → List Done → Type 0
AreLawful catalog base pages st [] = Unit {0}
AreLawful catalog base pages st (d ∷ ds) =
    IsLawful catalog base pages st (entry_after catalog base st d)
    × AreLawful catalog base pages (step base st (entry_after catalog base st d)) ds
