-- There is a whole, and what is shown of an object that is held.
use Rattle.std.proofs.Common.{◌≡◌, ◌≢◌, ◌∙◌, ℕ, Bool, true, false, not, List, Option, Some, None, is_some, refl, sym, ap}
use Rattle.std.specs.Prelude.{slice_get, slice_index}
use Rattle.std.specs.Option.{option_or}
use Rattle.std.proofs.lemmas.Bool.{false≢true}
use Rattle.std.specs.FinMap.{get}
use Rattle.pm3_core.specs.declared.naming.TheConstants.{BASE}
use Rattle.pm3_types.specs.declared.places.Place as places_of
use Rattle.pm3_types.specs.Fields.{Fields}
use Rattle.pm3_types.specs.Graph.{Part, with_part}
use Rattle.pm3_types.specs.Layout.{PageImage, Sheet, page_in, type_in, word_in}
use Rattle.pm3_types.specs.PageForm.{is_memory_reference, map_at}
use Rattle.pm3_types.specs.Record.{Record}
use Rattle.pm3_types.specs.Shown.{Book, record_at, record_by}
use Rattle.pm3_types.proofs.Books.{shown_from}
use Rattle.pm3_types.proofs.Parts.{get-with_part}
use Rattle.pm3_graph.specs.declared.operations.Op.{Op}
use Rattle.pm3_graph.specs.Frame.{FrameOfRuns}
use Rattle.pm3_page.specs.PageSheets.{sheet_in}
use Rattle.pm3_access.specs.declared.places.Place.{Place}
use Rattle.pm3_access.specs.Access.{begins_in, is_object_held}
use Rattle.pm3_access.specs.Acts.{IsHeldAs, left_images, left_part, map_by, map_held, space_left}
use Rattle.pm3_access.specs.Holding.{image_in}
use Rattle.pm3_access.specs.Sound.{refers_by, refers_in}
use Rattle.pm3_access.specs.Spots.{has_names}
use Rattle.pm3_access.proofs.HeldObjects.{map_of}
use Rattle.pm3_access.proofs.HeldSheets.{get-left_images}
use Rattle.pm3_history.specs.Opens.{Opens}
use Rattle.pm3_history.specs.State.{State}
use Rattle.pm3_history.proofs.Laying.{some_none, one_value}
use Rattle.pm3_history.proofs.Replacing.{object_shown}
use Rattle.pm3_txn.specs.Knowing.{state_seen}
use Rattle.pm3_txn.specs.Owners.{found_here}
use Rattle.pm3_txn.specs.States.{TxnState, told_in, view_in}
use Rattle.pm3_txn.specs.TransactionLaws.{IsSettled}
use Rattle.pm3_txn.specs.Underway.{IsUnderway}
use Rattle.pm3_txn.specs.Works.{IsOwnName, Works}
use Rattle.pm3_txn.proofs.FoundStays.{found_in_graph}
use Rattle.pm3_txn.proofs.Seeing.{settled_now}
use Rattle.pm3_txn.proofs.WorksBegin.{all_new_to}
use Rattle.oo7_objects.specs.Wholes.{HasPlace, IsWhole, Knows, name_at}
use Rattle.oo7_objects.proofs.Moves.{has_done}
use Rattle.oo7_objects.proofs.Rows.{book_at}

-- the graph that the transaction has seen, and what it left over it
abbrev pub graph_at : {R : Type 0} → TxnState R → State → Part
graph_at t st = (state_seen (told_in t) (view_in t) st).graph

abbrev pub left_at : {R : Type 0} → TxnState R → State → Part
left_at t st = left_part (told_in t).opening.catalog BASE (book_at t st) t.held

module _ {R : Type 0} (frame : FrameOfRuns) (content : R → Option (List ℕ)) (t : TxnState R) (underway : IsUnderway content t) (st : State)
    (opens : Opens BASE (told_in t).pages (told_in t).opening st) where
  settled : IsSettled (told_in t).opening.catalog (state_seen (told_in t) (view_in t) st)
  settled = settled_now (told_in t) (view_in t).seen st underway.mutator.lawful opens

  -- there is a whole: what was left, over the graph that was seen
  pub whole_here : IsWhole t st (graph_at t st) (with_part (graph_at t st) (left_at t st))
  whole_here =
      let was = has_done content t underway st opens in record {
        opens = opens;
        found = found_in_graph (told_in t).opening.catalog (told_in t).pages (state_seen (told_in t) (view_in t) st) settled t.held was.0 was.1;
        runs = λ ops works. frame (told_in t).opening.catalog ops (found_here (told_in t) (view_in t) t.held st) (graph_at t st) (left_at t st)
            (found_in_graph (told_in t).opening.catalog (told_in t).pages (state_seen (told_in t) (view_in t) st) settled t.held ops works)
            (all_new_to (IsOwnName (state_seen (told_in t) (view_in t) st) (space_left t.held.space)) (graph_at t st) (λ n is. is.new) ops works.new) works.run;
      }

  -- which has no object of the name 0
  pub nil_here : get (with_part (graph_at t st) (left_at t st)).records 0 ≡ None
  nil_here =
      get-with_part (graph_at t st) (left_at t st) 0 ∙ ap (λ (o : Option Record). option_or o (get (graph_at t st).records 0)) (of (get (left_at t st).records 0) refl) ∙ settled.chronicled.no_nil
    where
      was : (ops : List (Op × ℕ)) × Works (told_in t).opening.catalog (told_in t).pages (state_seen (told_in t) (view_in t) st) t.held ops
      was = has_done content t underway st opens

      of : (o : Option Record) → get (left_at t st).records 0 ≡ o → o ≡ None
      of None none = refl
      of (Some r) is = absurd (let from = shown_from (told_in t).opening.catalog BASE (book_at t st) (left_images t.held) 0 r is in was.1.fits.named from.0 0 from.1 refl)

  pub some_name : (i : ℕ) (p : places_of.Place) → Knows t (λ st w. HasPlace w (name_at t st i) p) → name_at t st i ≢ 0
  some_name i p known nil =
      let place = known.of st (graph_at t st) (with_part (graph_at t st) (left_at t st)) whole_here in
      some_none (get (with_part (graph_at t st) (left_at t st)).records (name_at t st i)) place.object place.is
      (ap (get (with_part (graph_at t st) (left_at t st)).records) nil ∙ nil_here)

type_by : (book : Book) (o : Option Fields) (words : List ℕ) (at head : ℕ) → (record_by book o words at head).ty ≡ type_in head
type_by book None words at head = refl
type_by book (Some map) words at head = refl

pub map_refers : (catalog : List Fields) (o : Option PageImage) (at : ℕ) (place : Place) (map : Fields) → map_by catalog o at ≡ Some map → refers_in catalog o at place ≡ has_names map place
map_refers catalog None at place map is = absurd (false≢true (ap is_some is))
map_refers catalog (Some image) at place map is = ap (λ (o : Option Fields). refers_by o place) is

begins_there : (o : Option PageImage) (a : ℕ) → begins_in BASE o a ≡ true → is_some o ≡ true
begins_there None a is = absurd (false≢true is)
begins_there (Some image) a is = refl

pub both_ways : (b : Bool) → b ≡ not b → ⊥
both_ways true is = false≢true (sym is)
both_ways false is = false≢true is

sheet_map : (catalog : List Fields) (o : Option PageImage) (sheet : Sheet) (at : ℕ) → sheet_in o ≡ Some sheet → map_by catalog o at ≡ map_at catalog sheet at
sheet_map catalog None sheet at is = absurd (false≢true (ap is_some is))
sheet_map catalog (Some image) sheet at is = ap (λ (s : Sheet). map_at catalog s at) (one_value (Some image.sheet) image.sheet sheet refl is)

-- the record that is shown of an object which is held, and the map of its type
pub record IsShown {R : Type 0} (t : TxnState R) (st : State) (address n : ℕ) : Type 0 where
  pub map : Fields
  pub map_is : map_held (told_in t).opening.catalog BASE t.held address ≡ Some map
  pub sheet : Sheet
  pub on : sheet_in (image_in t.held (page_in BASE address)) ≡ Some sheet
  pub shown : get (left_at t st).records n ≡ Some (record_at (book_at t st) (told_in t).opening.catalog sheet.words (word_in BASE address))
  pub at_map : map_at (told_in t).opening.catalog sheet (word_in BASE address) ≡ Some map
  pub type_is : (record_at (book_at t st) (told_in t).opening.catalog sheet.words (word_in BASE address)).ty ≡ type_in (slice_index sheet.words (word_in BASE address))
  pub typed : slice_get (told_in t).opening.catalog (record_at (book_at t st) (told_in t).opening.catalog sheet.words (word_in BASE address)).ty ≡ Some map
  pub held : IsHeldAs (told_in t).opening.catalog BASE (book_at t st) t.held address n map

module _ {R : Type 0} (content : R → Option (List ℕ)) (t : TxnState R) (underway : IsUnderway content t) (st : State) (opens : Opens BASE (told_in t).pages (told_in t).opening st)
    (address n : ℕ) (named : get (book_at t st) address ≡ Some n) (object : is_object_held BASE t.held address ≡ true) where
  pub shown_here : IsShown t st address n
  shown_here =
      let done = has_done content t underway st opens in
      let map = map_of (told_in t).opening.catalog BASE (is_memory_reference BASE (told_in t).pages) t.held address done.1.form object in
      let shown = object_shown (told_in t).opening.catalog BASE (book_at t st) (left_images t.held) address n done.1.fits on_page named in
      let on : sheet_in (image_in t.held (page_in BASE address)) ≡ Some shown.0 = sym (get-left_images t.held (page_in BASE address)) ∙ shown.1 in
      let at_map : map_at (told_in t).opening.catalog shown.0 (word_in BASE address) ≡ Some map.0 =
      sym (sheet_map (told_in t).opening.catalog (image_in t.held (page_in BASE address)) shown.0 (word_in BASE address) on) ∙ map.1 in
      let type_is = type_by (book_at t st) (map_at (told_in t).opening.catalog shown.0 (word_in BASE address)) shown.0.words (word_in BASE address) (slice_index shown.0.words (word_in BASE address)) in
      record {
        map = map.0;
        map_is = map.1;
        sheet = shown.0;
        on = on;
        shown = shown.2;
        at_map = at_map;
        type_is = type_is;
        typed = ap (slice_get (told_in t).opening.catalog) type_is ∙ at_map;
        held = record { refers = is_memory_reference BASE (told_in t).pages; form = done.1.form; object = object; map_is = map.1; fits = done.1.fits; named = named };
      }
    where
      on_page : is_some (get (left_images t.held) (page_in BASE address)) ≡ true
      on_page = ap is_some (get-left_images t.held (page_in BASE address)) ∙ sheet_some (image_in t.held (page_in BASE address)) (begins_there (image_in t.held (page_in BASE address)) address object)
        where
          sheet_some : (o : Option PageImage) → is_some o ≡ true → is_some (sheet_in o) ≡ true
          sheet_some None is = absurd (false≢true is)
          sheet_some (Some image) is = refl
