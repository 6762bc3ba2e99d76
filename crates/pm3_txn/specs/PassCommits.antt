-- The commit of a transaction that holds its space, once its pass was carried out.
use Rattle.std.specs.Prelude.{ℕ, ◌≡◌, ◌⊎◌, ◌↔◌, ◌<◌, ◌≤◌, true, List, length, map, Some, None, is_some, unwrap_or}
use Rattle.std.specs.List.{Contains}
use Rattle.std.specs.Ordering.{nat_cmp}
use Rattle.std.specs.FinMap.{get, contains_key}
use Rattle.std.specs.FinSet as set
use Rattle.pm3_core.specs.declared.naming.TheConstants.{BASE}
use Rattle.pm3_core.specs.Naming.{Names}
use Rattle.pm3_types.specs.Fields.{Fields}
use Rattle.pm3_types.specs.Layout.{PageImage, Sheet}
use Rattle.pm3_types.specs.PassMoves as pass_moves
use Rattle.pm3_types.specs.PassSets.{Before}
use Rattle.pm3_types.specs.Shown.{Book, Images}
use Rattle.pm3_graph.specs.declared.operations.Op.{Op}
use Rattle.pm3_page.specs.PageSheets.{sheets_of}
use Rattle.pm3_copy.specs.CarriedOut.{IsCarriedOut}
use Rattle.pm3_access.specs.Acts.{left_images, found_images, space_left, space_found}
use Rattle.pm3_access.specs.Holding.{Holding, HeldSpaceState}
use Rattle.pm3_history.specs.Commits.{IsCommitOf}
use Rattle.pm3_history.specs.Entry.{Done, Move, Pass}
use Rattle.pm3_history.specs.Laid.{laid}
use Rattle.pm3_history.specs.Lawful.{HaveForm, IsFree, IsPass, Writes}
use Rattle.pm3_history.specs.Named.{book_of}
use Rattle.pm3_history.specs.Opens.{Opens}
use Rattle.pm3_history.specs.State.{State, entry_after}
use Rattle.pm3_table.specs.declared.view.Told.{Told}
use Rattle.pm3_table.specs.declared.view.View.{View}
use Rattle.pm3_table.specs.Holds.{spans_of}
use Rattle.pm3_table.specs.Telling.{Lawful}
use Rattle.pm3_table.specs.Words.{space_unit}
use Rattle.pm3_txn.specs.Heaps.{IsBelow}
use Rattle.pm3_txn.specs.Knowing.{state_seen}
use Rattle.pm3_txn.specs.Owners.{IsHolding}
use Rattle.pm3_txn.specs.TransactionLaws.{IsSettled}
use Rattle.pm3_txn.specs.Works.{Works}

-- A pass over a space as its mutator has it: the number of the space; the changed persistent images just before it; the pages that
-- it marked, the words that it read, and the marked pages that these name; the fresh pages and the moves; the images of the space
-- and the written ones after it; and the names of the objects that the transaction made.
pub record PassState : Type 0 where
  pub space : ℕ
  pub changed : Images
  pub marked : set.FinSet nat_cmp
  pub words : List ℕ
  pub pinned : set.FinSet nat_cmp
  pub fresh : List ℕ
  pub moves : List pass_moves.Move
  pub after : Images
  pub written : Images
  pub made : set.FinSet nat_cmp

-- what there is just before the pass of a transaction that holds this
abbrev pub before_pass : Holding → PassState → Before
before_pass h p = record { space = space_left h.space; written = p.changed; pinned = p.pinned }

-- all its images, before and after
abbrev pub all_before : Holding → PassState → Images
all_before h p = laid (space_left h.space) p.changed

abbrev pub all_after : PassState → Images
all_after p = laid p.after p.written

-- the moves, each with the name of its object
abbrev pub named_moves : Book → List pass_moves.Move → List Move
named_moves book list = map (λ m. record { name = unwrap_or (get book m.from) 0; from = m.from; to = m.to }) list

-- the pass as the history has it
abbrev pub pass_of : Holding → PassState → Pass
pass_of h p = record {
  space = p.space;
  before = space_left h.space;
  changed = p.changed;
  marked = p.marked;
  words = p.words;
  pinned = p.pinned;
  moves = named_moves (book_of BASE (space_left h.space)) p.moves;
  after = p.after;
  made = p.made;
}

-- what a commit tells besides its images
pub record Marks : Type 0 where
  pub tag : ℕ
  pub mutator : ℕ
  pub next_name : ℕ
  pub high_page : ℕ

abbrev pub done_with : Marks → Holding → PassState → Done
done_with m h p = record {
  tag = m.tag;
  mutator = m.mutator;
  next_name = m.next_name;
  high_page = m.high_page;
  found = found_images h;
  left = left_images h;
  written = p.written;
  pass = Some (pass_of h p);
}

-- After a state, a transaction that holds its space has had its pass carried out. The changed images are those of its other pages
-- that are not as they were found. It marked the pages of the space and read every place, and pinned the marked pages that a word
-- names. Each page of the space is one that it had or may be drawn, and so may the fresh ones be, of which it holds none. The images
-- after the pass have the form, and the marks bound what is written and all names.
pub record HasPassed (catalog : List Fields) (pages : ℕ) (st : State) (h : Holding) (m : Marks) (p : PassState) : Type 0 where
  pub held : is_some h.space ≡ true
  pub number : (s : HeldSpaceState) → h.space ≡ Some s → s.number ≡ p.space
  pub changed : (page : ℕ) (sheet : Sheet) → get p.changed page ≡ Some sheet → get (sheets_of h.pages.left) page ≡ Some sheet
  pub others : (page : ℕ) (image : PageImage) → get h.pages.left page ≡ Some image
      → (get h.pages.found page ≡ Some image) ⊎ (get p.changed page ≡ Some image.sheet)
  pub marked : (page : ℕ) → set.contains p.marked page ≡ contains_key (space_left h.space) page
  pub words : length p.words ≡ 16384
  pub pinned : (page : ℕ) → set.contains p.pinned page ≡ true
      ↔ ((set.contains p.marked page ≡ true) × ((w : ℕ) × Contains p.words w × Names pages w page))
  pub drawn : (page : ℕ) → contains_key (space_left h.space) page ≡ true → (get st.owner page ≡ Some p.space) ⊎ IsFree BASE st page
  pub fresh : (page : ℕ) → Contains p.fresh page → IsFree BASE st page × (get (space_left h.space) page ≡ None)
  pub carried : IsCarriedOut catalog BASE (before_pass h p) p.fresh (all_before h p) (all_after p) p.after p.written
  pub moves : carried.moves ≡ p.moves
  pub apart : (page : ℕ) → contains_key p.after page ≡ true → get p.written page ≡ None
  pub after_form : HaveForm catalog BASE pages p.after
  pub written_form : HaveForm catalog BASE pages p.written
  pub made : (a n : ℕ) → get (book_of BASE (space_left h.space)) a ≡ Some n
      → (get (book_of BASE (space_found h.space)) a ≡ Some n) ⊎ (set.contains p.made n ≡ true)
  pub names : (n : ℕ) → set.contains p.made n ≡ true → n < m.next_name
  pub names_rise : st.next_name ≤ m.next_name
  pub pages_rise : st.high_page ≤ m.high_page
  pub high : (page : ℕ) → contains_key p.written page ≡ true → page < m.high_page
  pub most : m.high_page ≤ pages

-- it is then a commit of this transaction, whose entry may follow the state with its pass
abbrev pub PassesFollow : Type 0
PassesFollow = (catalog : List Fields) (pages : ℕ) (st : State) (h : Holding) (ops : List (Op × ℕ)) (m : Marks) (p : PassState)
    → IsSettled catalog st → Works catalog pages st h ops → HasPassed catalog pages st h m p
    → IsCommitOf catalog BASE st (done_with m h p) ops
    × Writes catalog BASE pages st (entry_after catalog BASE st (done_with m h p))
    × IsPass catalog BASE pages st (entry_after catalog BASE st (done_with m h p)) (pass_of h p)

-- a page of the space that a view holds is one that the space had when it was found, or it may be drawn
abbrev pub SpacePagesMayGo : Type 0
SpacePagesMayGo = (told : Told) (v : View) (number : ℕ) (h : Holding) (s : HeldSpaceState) (page : ℕ) (st : State) → IsBelow told → Lawful told v.seen
    → IsHolding told v number h → h.space ≡ Some s → Opens BASE told.pages told.opening st → spans_of v.spans (space_unit told.pages number) page ≡ true
    → ((get (state_seen told v st).owner page ≡ Some number) × (is_some (get s.images.found page) ≡ true))
    ⊎ (IsFree BASE (state_seen told v st) page × (get s.images.found page ≡ None))
