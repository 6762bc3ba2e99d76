-- The class of an object that is held, and the length of its tail, are those in each whole.
use Rattle.std.proofs.Common.{◌≡◌, ◌∙◌, ℕ, List, length, Option, Some, None, is_some, unwrap_or, refl, sym, ap, subst, ◌+◌, ◌/◌, ◌%◌, true}
use Rattle.std.specs.Prelude.{slice_get, slice_index}
use Rattle.std.proofs.lemmas.List.FromFn.{length-map-range_with_len}
use Rattle.std.proofs.lemmas.Bool.{false≢true}
use Rattle.std.specs.Option.{option_map}
use Rattle.std.specs.FinMap.{get}
use Rattle.atomic_table.specs.Seated.{TableId}
use Rattle.pm3_core.specs.declared.naming.TheConstants.{BASE}
use Rattle.pm3_types.specs.declared.type_map.Tail.{Tail}
use Rattle.pm3_types.specs.declared.type_map.Tail.TheVariants.{Empty, Refs, Bytes}
use Rattle.pm3_types.specs.Fields.{Fields}
use Rattle.pm3_types.specs.Graph.{Part, with_part}
use Rattle.pm3_types.specs.Layout.{PageImage, Sheet, has_tail_by, head_at, page_in, tail_in, type_in, word_in}
use Rattle.pm3_types.specs.Record.{Record}
use Rattle.pm3_types.specs.Shown.{Book, byte_in, field_of, name_by, record_at, record_by, tail_of}
use Rattle.pm3_types.proofs.Parts.{part_of_with}
use Rattle.pm3_graph.specs.Frame.{FrameOfRuns}
use Rattle.pm3_page.specs.PageSheets.{sheet_in}
use Rattle.pm3_access.specs.Holding.{image_in}
use Rattle.pm3_history.specs.Opens.{Opens}
use Rattle.pm3_history.specs.State.{State}
use Rattle.pm3_history.proofs.Laying.{some_of, one_value}
use Rattle.pm3_table.specs.declared.view.Told.{Told}
use Rattle.pm3_txn.specs.Describing.{IsDescribed}
use Rattle.pm3_txn.specs.ObjectValues.{tail_held, type_held}
use Rattle.pm3_txn.specs.Refusals.{HasObject}
use Rattle.pm3_txn.specs.States.{TxnState, told_in}
use Rattle.pm3_txn.specs.Underway.{IsUnderway}
use Rattle.oo7_schema.specs.Schema.{schema}
use Rattle.oo7_objects.specs.Wholes.{HasClasses, HasTail, IsOfClass, IsWhole, Knows, name_at}
use Rattle.oo7_objects.proofs.Here.{IsShown, left_at, shown_here}
use Rattle.oo7_objects.proofs.Moves.{has_done, whole_left}
use Rattle.oo7_objects.proofs.Rows.{book_at}
use Rattle.oo7_objects.proofs.Writing.{touched_at}

type_on : (o : Option PageImage) (sheet : Sheet) (a ty : ℕ) → sheet_in o ≡ Some sheet → option_map (λ image. type_in (head_at BASE image a)) o ≡ Some ty
    → type_in (slice_index sheet.words (word_in BASE a)) ≡ ty
type_on None sheet a ty on is = absurd (false≢true (ap is_some is))
type_on (Some image) sheet a ty on is =
    ap (λ (s : Sheet). type_in (slice_index s.words (word_in BASE a))) (sym (one_value (Some image.sheet) image.sheet sheet refl on))
    ∙ one_value (Some (type_in (head_at BASE image a))) (type_in (head_at BASE image a)) ty refl is

count_by : (book : Book) (m : Fields) (words : List ℕ) (at head : ℕ) → length (record_by book (Some m) words at head).fields ≡ m.count
count_by book m words at head = length-map-range_with_len (field_of book m words at) 0 m.count

tail_on : (o : Option PageImage) (sheet : Sheet) (a len : ℕ) → sheet_in o ≡ Some sheet → option_map (λ image. tail_in (head_at BASE image a)) o ≡ Some len
    → tail_in (slice_index sheet.words (word_in BASE a)) ≡ len
tail_on None sheet a len on is = absurd (false≢true (ap is_some is))
tail_on (Some image) sheet a len on is =
    ap (λ (s : Sheet). tail_in (slice_index s.words (word_in BASE a))) (sym (one_value (Some image.sheet) image.sheet sheet refl on))
    ∙ one_value (Some (tail_in (head_at BASE image a))) (tail_in (head_at BASE image a)) len refl is

items_by : (book : Book) (t : Tail) (words : List ℕ) (at len : ℕ) → has_tail_by t ≡ true → length (tail_of book t words at len) ≡ len
items_by book Empty words at len is = absurd (false≢true is)
items_by book Refs words at len is = length-map-range_with_len (λ k. name_by book (slice_index words (at + k))) 0 len
items_by book Bytes words at len is = length-map-range_with_len (λ k. byte_in (slice_index words (at + k / 8)) (k % 8)) 0 len

module _ {R : Type 0} (frame : FrameOfRuns) (content : R → Option (List ℕ)) (old new : TxnState R) (same : new.heap ≡ old.heap) (was : IsUnderway content old) (underway : IsUnderway content new)
    (classes : HasClasses old) where
  classes_now : (told_in new).opening.catalog ≡ schema
  classes_now = ap (λ (x : TableId × Told). x.1.opening.catalog) same ∙ classes

  -- an object that is held stands in each whole as it is shown
  record IsIn (st : State) (w : Part) (i address : ℕ) : Type 0 where
    pub name : ℕ
    pub is : IsShown new st address name
    pub there : get w.records (name_at old st i) ≡ Some (record_at (book_at new st) (told_in new).opening.catalog is.sheet.words (word_in BASE address))

  is_in : (i address : ℕ) → HasObject old new i address → (st : State) (g w : Part) → IsWhole new st g w → IsIn st w i address
  is_in i address object st g w whole =
      let done = has_done content new underway st whole.opens in
      let has = some_of (get (book_at new st) address) (object.known.object st whole.opens) in
      let named : name_at old st i ≡ has.0 =
      sym ((touched_at content old was new same i address object).named st (subst (λ (x : TableId × Told). Opens BASE x.1.pages x.1.opening st) same whole.opens))
      ∙ ap (λ (o : Option ℕ). unwrap_or o 0) has.1 in
      let is = shown_here content new underway st whole.opens address has.0 has.1 object.object in
      let left : w ≡ with_part g (left_at new st) = whole_left frame new st g w done.0 done.1 whole.found (whole.runs done.0 done.1) in
      record {
        name = has.0;
        is = is;
        there = ap (λ (x : Part). get x.records (name_at old st i)) left ∙ ap (get (with_part g (left_at new st)).records) named
            ∙ (part_of_with g (left_at new st)).records has.0 (record_at (book_at new st) (told_in new).opening.catalog is.sheet.words (word_in BASE address)) is.shown;
      }

  pub type_told : (i ty : ℕ) → IsDescribed old new i type_held ty → Knows new (λ st w. IsOfClass w (name_at old st i) ty)
  type_told i ty described = record { of = λ st g w whole. told st w (is_in i described.address described.object st g w whole) }
    where
      told : (st : State) (w : Part) → IsIn st w i described.address → IsOfClass w (name_at old st i) ty
      told st w found =
          let is = found.is in
          let shown_as : Record = record_at (book_at new st) (told_in new).opening.catalog is.sheet.words (word_in BASE described.address) in
          let ty_is : shown_as.ty ≡ ty = is.type_is ∙ type_on (image_in new.held (page_in BASE described.address)) is.sheet described.address ty is.on described.is in
          record {
            object = shown_as;
            is = found.there;
            of = ty_is;
            map = is.map;
            map_is = sym (ap (slice_get schema) ty_is) ∙ ap (λ (c : List Fields). slice_get c shown_as.ty) (sym classes_now) ∙ is.typed;
            fields = ap (λ (o : Option Fields). length (record_by (book_at new st) o is.sheet.words (word_in BASE described.address) (slice_index is.sheet.words (word_in BASE described.address))).fields) is.at_map
                ∙ count_by (book_at new st) is.map is.sheet.words (word_in BASE described.address) (slice_index is.sheet.words (word_in BASE described.address));
          }

  pub tail_told : (i len : ℕ) → IsDescribed old new i tail_held len → Knows new (λ st w. HasTail w (name_at old st i) len)
  tail_told i len described = record { of = λ st g w whole. told st w (is_in i described.address described.object st g w whole) }
    where
      told : (st : State) (w : Part) → IsIn st w i described.address → HasTail w (name_at old st i) len
      told st w found =
          let is = found.is in
          let head : ℕ = slice_index is.sheet.words (word_in BASE described.address) in
          let shown_as : Record = record_at (book_at new st) (told_in new).opening.catalog is.sheet.words (word_in BASE described.address) in
          record {
            object = shown_as;
            is = found.there;
            map = is.map;
            map_is = ap (λ (c : List Fields). slice_get c shown_as.ty) (sym classes_now) ∙ is.typed;
            long = λ kind. ap (λ (o : Option Fields). length (record_by (book_at new st) o is.sheet.words (word_in BASE described.address) head).tail) is.at_map
                ∙ items_by (book_at new st) is.map.tail is.sheet.words (word_in BASE described.address + 2 + is.map.count) (tail_in head) kind
                ∙ tail_on (image_in new.held (page_in BASE described.address)) is.sheet described.address len is.on described.is;
          }
