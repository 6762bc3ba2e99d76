-- Laws of transactions as values.
use Rattle.std.specs.Prelude.{ℕ, ◌≡◌, ◌⊎◌, ◌<◌, ◌≤◌, ◌++◌, true, List, [], ◌∷◌, Some, None, is_some}
use Rattle.std.specs.FinMap as map
use Rattle.std.specs.FinMap.{get}
use Rattle.pm3_core.specs.declared.naming.TheConstants.{BASE}
use Rattle.pm3_types.specs.Fields.{Fields}
use Rattle.pm3_types.specs.Layout.{PageImage, page_in}
use Rattle.pm3_types.specs.PageForm.{IsSound, is_memory_reference}
use Rattle.pm3_types.specs.Shown.{IsKnown, name_by}
use Rattle.pm3_graph.specs.declared.operations.Op.{Op}
use Rattle.pm3_graph.specs.declared.operations.Op.TheVariants as operation
use Rattle.pm3_graph.specs.Operation.{IsRun}
use Rattle.pm3_page.specs.PageMap as page_map
use Rattle.pm3_page.specs.PageSheets.{sheets_of}
use Rattle.pm3_access.specs.declared.places.Place.{Place}
use Rattle.pm3_access.specs.Access.{is_object_held, value_held, value_written}
use Rattle.pm3_access.specs.Acts.{map_held, read_op, write_op, answer_of, left_images, found_images}
use Rattle.pm3_access.specs.Holding.{Holding, nothing_held, image_in, admitted}
use Rattle.pm3_access.specs.Roots.{root_held, root_written}
use Rattle.pm3_access.specs.Spots.{IsValueFor, has_names}
use Rattle.pm3_history.specs.Bounded.{IsBounded}
use Rattle.pm3_history.specs.Chronicled.{Chronicled}
use Rattle.pm3_history.specs.Entry.{Done}
use Rattle.pm3_history.specs.Homes.{IsHome}
use Rattle.pm3_history.specs.LastImages.{last_written}
use Rattle.pm3_history.specs.Lawful.{AreLawful, IsLawful}
use Rattle.pm3_history.specs.Persistent.{persistent_book}
use Rattle.pm3_history.specs.State.{State, now, entry_after}
use Rattle.pm3_txn.specs.Runs.{Runs}

-- what holds of each state that a lawful history leads to from an opening
pub record IsSettled (catalog : List Fields) (st : State) : Type 0 where
  pub chronicled : Chronicled catalog BASE st
  pub bounded : IsBounded catalog BASE st

-- a transaction that holds nothing has done nothing
abbrev pub TransactionsBegin : Type 0
TransactionsBegin = (catalog : List Fields) (st : State) → IsSettled catalog st → Runs catalog st nothing_held []

-- it goes on with the last image of one more persistent page
abbrev pub PagesAreAdmitted : Type 0
PagesAreAdmitted = (catalog : List Fields) (pages : ℕ) (st : State) (h : Holding) (ops : List (Op × ℕ)) (image : PageImage) → IsSettled catalog st
    → image_in h image.page ≡ None → get st.pages image.page ≡ Some image.sheet → IsHome BASE st image.page → 2 ≤ image.page
    → IsSound catalog BASE pages image → Runs catalog st h ops → Runs catalog st (admitted h image) ops

-- an object that is persistent begins at its address once the page is held
abbrev pub ObjectsAreThere : Type 0
ObjectsAreThere = (catalog : List Fields) (st : State) (h : Holding) (ops : List (Op × ℕ)) (a n : ℕ) → IsSettled catalog st
    → Runs catalog st h ops → get (persistent_book BASE st) a ≡ Some n → is_some (image_in h (page_in BASE a)) ≡ true → is_object_held BASE h a ≡ true

-- a read of its place is one operation more
abbrev pub ReadsGoOn : Type 0
ReadsGoOn = (catalog : List Fields) (st : State) (h : Holding) (ops : List (Op × ℕ)) (a n v : ℕ) (map : Fields) (place : Place) → IsSettled catalog st
    → is_object_held BASE h a ≡ true → map_held catalog BASE h a ≡ Some map → get (persistent_book BASE st) a ≡ Some n
    → value_held catalog BASE h a place ≡ Some v → Runs catalog st h ops
    → Runs catalog st h (ops ++ (read_op map n place, answer_of st.book map place v) ∷ [])

-- what is read at a place of a reference is nil or a persistent object
abbrev pub ReadsAreKnown : Type 0
ReadsAreKnown = (catalog : List Fields) (st : State) (h : Holding) (ops : List (Op × ℕ)) (a n v : ℕ) (map : Fields) (place : Place)
    → is_object_held BASE h a ≡ true → map_held catalog BASE h a ≡ Some map → get (persistent_book BASE st) a ≡ Some n
    → value_held catalog BASE h a place ≡ Some v → has_names map place ≡ true → Runs catalog st h ops → IsKnown (persistent_book BASE st) v

-- so is a write, of nil or of a persistent object where it is to be a reference
abbrev pub WritesGoOn : Type 0
WritesGoOn = (catalog : List Fields) (pages : ℕ) (st : State) (h new : Holding) (ops : List (Op × ℕ)) (a n v : ℕ) (map : Fields) (place : Place) → IsSettled catalog st
    → is_object_held BASE h a ≡ true → map_held catalog BASE h a ≡ Some map → get (persistent_book BASE st) a ≡ Some n
    → IsValueFor place v → (has_names map place ≡ true → IsKnown (persistent_book BASE st) v × (is_memory_reference BASE pages v ≡ true))
    → value_written catalog BASE h a place v ≡ Some new → Runs catalog st h ops
    → Runs catalog st new (ops ++ (write_op st.book map n place v, 0) ∷ [])

-- and so are reads and writes of root slots
abbrev pub RootReadsGoOn : Type 0
RootReadsGoOn = (catalog : List Fields) (st : State) (h : Holding) (ops : List (Op × ℕ)) (slot a : ℕ) → IsSettled catalog st → slot < 16
    → root_held h slot ≡ Some a → Runs catalog st h ops
    → Runs catalog st h (ops ++ (operation.Root slot, name_by st.book a) ∷ []) × IsKnown (persistent_book BASE st) a

abbrev pub RootWritesGoOn : Type 0
RootWritesGoOn = (catalog : List Fields) (pages : ℕ) (st : State) (h new : Holding) (ops : List (Op × ℕ)) (slot a : ℕ) → IsSettled catalog st → slot < 16
    → IsKnown (persistent_book BASE st) a → is_memory_reference BASE pages a ≡ true → root_written h slot a ≡ Some new → Runs catalog st h ops
    → Runs catalog st new (ops ++ (operation.SetRoot slot (name_by st.book a), 0) ∷ [])

-- commits that write no page that it holds leave it as it is
abbrev pub TransactionsGoOn : Type 0
TransactionsGoOn = (catalog : List Fields) (pages : ℕ) (st : State) (h : Holding) (ops : List (Op × ℕ)) (more : List Done) → IsSettled catalog st
    → AreLawful catalog BASE pages st more → ((page : ℕ) → is_some (image_in h page) ≡ true → last_written more page ≡ None)
    → Runs catalog st h ops → Runs catalog (now catalog BASE st more) h ops

-- A commit of what a transaction left, without a pass: of the pages that it holds, those that changed are written.
pub record IsPlainlyDone (h : Holding) (written : page_map.Images) (d : Done) : Type 0 where
  pub changed : (page : ℕ) (image : PageImage) → map.get written page ≡ Some image → map.get h.pages.left page ≡ Some image
  pub others : (page : ℕ) (image : PageImage) → map.get h.pages.left page ≡ Some image
      → (map.get h.pages.found page ≡ Some image) ⊎ (map.get written page ≡ Some image)
  pub found : d.found ≡ found_images h
  pub left : d.left ≡ left_images h
  pub written_is : d.written ≡ sheets_of written
  pub pass : d.pass ≡ None

-- its marks are not below those before it, and within the store; page 2 is always in use
pub record HasMarks (pages : ℕ) (st : State) (d : Done) : Type 0 where
  pub names_rise : st.next_name ≤ d.next_name
  pub pages_rise : st.high_page ≤ d.high_page
  pub most : d.high_page ≤ pages
  pub least : 3 ≤ d.high_page

-- with it a lawful history stays lawful, and the operations, with the answers that they had, lead from the whole graph before it
-- to the one after it
abbrev pub TransactionsCommit : Type 0
TransactionsCommit = (catalog : List Fields) (pages : ℕ) (st : State) (h : Holding) (written : page_map.Images) (ops : List (Op × ℕ)) (d : Done) → IsSettled catalog st
    → st.high_page ≤ pages → Runs catalog st h ops → IsPlainlyDone h written d → HasMarks pages st d
    → IsLawful catalog BASE pages st (entry_after catalog BASE st d) × IsRun catalog ops st.graph (now catalog BASE st (d ∷ [])).graph
