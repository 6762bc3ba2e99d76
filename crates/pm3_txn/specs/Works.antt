-- A transaction between two of its calls, with its space or without it.
use Rattle.std.specs.Prelude.{ℕ, ◌≡◌, ◌⊎◌, ◌≤◌, ◌||◌, ◌&&◌, Bool, true, List, [], ◌∷◌, Option, Some, None, is_some}
use Rattle.std.specs.FinMap.{get}
use Rattle.pm3_core.specs.declared.naming.TheConstants.{BASE}
use Rattle.pm3_types.specs.Fields.{Fields}
use Rattle.pm3_types.specs.Layout.{Sheet, page_in, word_in}
use Rattle.pm3_types.specs.PageForm.{is_memory_reference}
use Rattle.pm3_types.specs.Shown.{Book, Images, FitsImages}
use Rattle.pm3_graph.specs.declared.operations.Op.{Op}
use Rattle.pm3_graph.specs.declared.operations.Op.TheVariants.{New}
use Rattle.pm3_graph.specs.Operation.{IsRun}
use Rattle.pm3_page.specs.PageSheets.{sheets_of}
use Rattle.pm3_access.specs.Access.{AreSound, HaveForm}
use Rattle.pm3_access.specs.Acts.{AreInPlace, left_images, found_images, left_part, found_part, space_left, space_found}
use Rattle.pm3_access.specs.Holding.{Holding, HeldSpaceState, space_now}
use Rattle.pm3_history.specs.Homes.{IsHome}
use Rattle.pm3_history.specs.Laid.{laid}
use Rattle.pm3_history.specs.Named.{book_of}
use Rattle.pm3_history.specs.Persistent.{persistent_book}
use Rattle.pm3_history.specs.Spaces.{AreOfSpace}
use Rattle.pm3_history.specs.State.{State, all_images}
use Rattle.pm3_txn.specs.OwnStarts.{starts_on}

-- the objects of a space, by the names in their headers, over those of the persistent ones
abbrev pub book_with : State → Images → Book
book_with st own = laid (persistent_book BASE st) (book_of BASE own)

-- the books under which what a transaction left, and what it found, is read
abbrev pub left_book : State → Holding → Book
left_book st h = book_with st (space_left h.space)

abbrev pub found_book : State → Holding → Book
found_book st h = book_with st (space_found h.space)

-- the page is one of the space that is held
abbrev pub is_own_page : Holding → ℕ → Bool
is_own_page h page = is_some (space_now h.space page)

-- an object begins at the address, on a page of the space that is held
abbrev pub is_own_start : Holding → ℕ → Bool
is_own_start h a = starts_on (space_now h.space (page_in BASE a)) (word_in BASE a)

-- an object of the space that is held begins at the address
abbrev pub is_own_object : Holding → ℕ → Bool
is_own_object h a = is_some (get (book_of BASE (space_left h.space)) a)

-- what a page that is held alone may refer to: what lies below the high page, and objects of the space
abbrev pub may_hold : ℕ → State → Holding → ℕ → Bool
may_hold pages st h a =
    is_memory_reference BASE st.high_page a || (is_memory_reference BASE pages a && is_own_object h a)

-- what is held without the space
abbrev pub without_space : Holding → Holding
without_space h = record { pages = h.pages; space = None }

-- the space was found with its last images
abbrev pub IsLastSpace : State → Option HeldSpaceState → Type 0
IsLastSpace st None = Unit {0}
IsLastSpace st (Some s) = AreOfSpace st s.number (sheets_of s.images.found)

-- the name that an operation makes is one of these
abbrev pub MakesOf : (ℕ → Type 0) → Op → Type 0
MakesOf P (New name ty tail) = P name
MakesOf P op = Unit {0}

abbrev pub AllMake : (ℕ → Type 0) → List (Op × ℕ) → Type 0
AllMake P [] = Unit {0}
AllMake P (e ∷ es) = MakesOf P e.0 × AllMake P es

-- an object of this name is on images, and the graph has none
pub record IsOwnName (st : State) (own : Images) (n : ℕ) : Type 0 where
  pub address : ℕ
  pub has : get (book_of BASE own) address ≡ Some n
  pub new : get st.graph.records n ≡ None

-- After a state, a transaction has done these operations, with these answers. What it found are last images: its pages are
-- persistent, and its space, if it holds that, has all that it had. No persistent object is on a page of the space. Each object
-- of the space was found or has a new name. The operations run from what was found to what is left, and made new objects alone.
pub record Works (catalog : List Fields) (pages : ℕ) (st : State) (h : Holding) (ops : List (Op × ℕ)) : Type 0 where
  pub places : AreInPlace h
  pub form : AreSound catalog BASE pages h
  pub sound : HaveForm catalog (may_hold pages st h) (without_space h)
  pub fits : FitsImages catalog BASE (left_book st h) (left_images h)
  pub last : (page : ℕ) (sheet : Sheet) → get (found_images h) page ≡ Some sheet → get (all_images st) page ≡ Some sheet
  pub held : (page : ℕ) → is_some (get h.pages.found page) ≡ is_some (get h.pages.left page)
  pub homes : (page : ℕ) → is_some (get h.pages.left page) ≡ true → IsHome BASE st page × (2 ≤ page)
  pub space : IsLastSpace st h.space
  pub apart : (a n : ℕ) → get (persistent_book BASE st) a ≡ Some n → space_now h.space (page_in BASE a) ≡ None
  pub old : (a n : ℕ) → get (book_of BASE (space_left h.space)) a ≡ Some n
      → (get (book_of BASE (space_found h.space)) a ≡ Some n) ⊎ (get st.graph.records n ≡ None)
  pub run : IsRun catalog ops (found_part catalog BASE (found_book st h) h) (left_part catalog BASE (left_book st h) h)
  pub new : AllMake (IsOwnName st (space_left h.space)) ops
