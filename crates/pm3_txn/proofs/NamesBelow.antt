-- Each new object of the space that is held has a name below the next one.
use Rattle.std.proofs.Common.{◌≡◌, ◌≢◌, ◌⊎◌, ◌<◌, ◌≤◌, ◌+◌, ◌∙◌, inl, inr, ℕ, Bool, true, not, List, Option, Some, None, is_some, refl, sym, ap, subst, arith, get_or-set_other}
use Rattle.std.proofs.lemmas.Bool.{cases_eq, cases_lt, and_parts, and_from, false≢true}
use Rattle.std.specs.Prelude.{slice_index}
use Rattle.std.specs.FinMap.{get}
use Rattle.pm3_core.specs.declared.naming.TheConstants.{BASE}
use Rattle.pm3_types.specs.Fields.{Fields}
use Rattle.pm3_types.specs.Layout.{Sheet, PageImage, IsLaid, page_in, word_in, is_address, is_start, is_forwarded, begins_at, end_of, placed_on, with_word_at}
use Rattle.pm3_types.specs.Shown.{Book, Images}
use Rattle.pm3_types.proofs.FormedObjects.{begins, objects_of, start_of}
use Rattle.pm3_access.specs.declared.places.Place.{Place}
use Rattle.pm3_access.specs.Access.{HaveForm, begins_in, is_object_held, value_written}
use Rattle.pm3_access.specs.Acts.{AreInPlace, space_left, space_found}
use Rattle.pm3_access.specs.BodyWrites.{IsBodyWrite}
use Rattle.pm3_access.specs.Holding.{Holding, HeldSpaceState, image_in, nothing_held}
use Rattle.pm3_access.proofs.Bodies as bodies
use Rattle.pm3_access.proofs.BodyWriting.{one_word_written}
use Rattle.pm3_access.proofs.HeldSheets.{changed, changed_here, changed_else}
use Rattle.pm3_access.proofs.NewObjects.{at_name, word_before, start_else}
use Rattle.pm3_history.specs.Named.{IsNamedOn, book_of}
use Rattle.pm3_history.proofs.Laying.{there_none, one_value}
use Rattle.pm3_history.proofs.NamedOn.{book_of_named, book_of_has}
use Rattle.pm3_txn.specs.Owners.{HasNamesBelow}
use Rattle.pm3_txn.proofs.OwnerMakes.{placed_starts}
use Rattle.pm3_txn.proofs.Changing.{IsChange, written_change}
use Rattle.pm3_txn.proofs.KeepingWrites.{change_found}
use Rattle.pm3_txn.proofs.WorksBegin.{no_own}
use Rattle.pm3_txn.proofs.WorksMake.{IsPut}
use Rattle.pm3_txn.proofs.WorksOwn.{IsOwn, own_held, held_own, alone_still}

-- the next name rose
pub names_rise : (next later : ℕ) (h : Holding) → next ≤ later → HasNamesBelow next h → HasNamesBelow later h
names_rise next later h rose was a n has = of (was a n has)
  where
    of : (get (book_of BASE (space_found h.space)) a ≡ Some n) ⊎ (n < next) → (get (book_of BASE (space_found h.space)) a ≡ Some n) ⊎ (n < later)
    of (inl found) = inl found
    of (inr below) = inr (omega (arith, rose, below))

-- the space has the same objects, and was found with the same images
pub names_alike : (next : ℕ) (h g : Holding) → book_of BASE (space_left g.space) ≡ book_of BASE (space_left h.space) → space_found g.space ≡ space_found h.space
    → HasNamesBelow next h → HasNamesBelow next g
names_alike next h g left found was a n has =
    subst (λ (m : Images). (get (book_of BASE m) a ≡ Some n) ⊎ (n < next)) (sym found) (was a n (sym (ap (λ (b : Book). get b a) left) ∙ has))

-- it is the same space
pub names_same : (next : ℕ) (h g : Holding) → g.space ≡ h.space → HasNamesBelow next h → HasNamesBelow next g
names_same next h g same =
    names_alike next h g (ap (λ (s : Option HeldSpaceState). book_of BASE (space_left s)) same) (ap (λ (s : Option HeldSpaceState). space_found s) same)

-- there is no space
pub names_none : (next : ℕ) (h : Holding) → h.space ≡ None → HasNamesBelow next h
names_none next h none = names_same next nothing_held h none (λ a n has. absurd (no_own a n has))

-- at a word of a sheet an object begins that began there on another one under the same name, or has a name below the next one
abbrev StaysNamed : ℕ → Sheet → Sheet → ℕ → Type 0
StaysNamed next old now t = ((is_start old t ≡ true) × (slice_index old.words (t + 1) ≡ slice_index now.words (t + 1))) ⊎ (slice_index now.words (t + 1) < next)

none_by : (o : Option PageImage) → (is_some o ≡ true → ⊥) → o ≡ None
none_by None never = refl
none_by (Some x) never = absurd (never refl)

-- an image is another, on which this holds of each object
module _ (next : ℕ) (h new : Holding) (page : ℕ) (change : IsChange h new page) (places : AreInPlace h) (places_now : AreInPlace new) (catalog : List Fields) (refers : ℕ → Bool) (form : HaveForm catalog refers h)
    (stays : (t : ℕ) → is_start change.now.sheet t ≡ true → StaysNamed next change.image.sheet change.now.sheet t) where
  off : (q : ℕ) → get new.pages.left q ≡ None → get h.pages.left q ≡ None
  off q none = none_by (get h.pages.left q) (λ is. there_none (get new.pages.left q)
      (ap (λ (k : Holding). is_some (get k.pages.left q)) (sym change.is) ∙ alone_still h page change.image change.now change.there q ∙ is) none)

  here : image_in new page ≡ Some change.now
  here = ap (λ (k : Holding). image_in k page) (sym change.is) ∙ changed_here h page change.image change.now change.there

  -- what an image had, the space had
  named_old : (b m : ℕ) (x : PageImage) → image_in h (page_in BASE b) ≡ Some x → get h.pages.left (page_in BASE b) ≡ None → is_address BASE b ≡ true → is_start x.sheet (word_in BASE b) ≡ true
      → slice_index x.sheet.words (word_in BASE b + 1) ≡ m → get (book_of BASE (space_left h.space)) b ≡ Some m
  named_old b m x held bare address start name =
      let begun : begins_at BASE x b ≡ true = begins BASE x b address (sym (places.home (page_in BASE b) x held)) start in
      book_of_has BASE (space_left h.space) b m (record {
        sheet = x.sheet;
        on = held_own h (page_in BASE b) x bare held;
        address = address;
        unmoved = and_from (is_start x.sheet (word_in BASE b)) (not (is_forwarded (slice_index x.sheet.words (word_in BASE b)))) start
            (ap not (bodies.is_unmoved catalog BASE refers x b (form (page_in BASE b) x held) begun));
        named = name;
      })

  pub names_changed : HasNamesBelow next h → HasNamesBelow next new
  names_changed was b m has = elim (cases_eq (page_in BASE b) page) [
    | inl e ↦ on_page e
    | inr ne ↦ old (named_old b m own.image
        (sym (changed_else h page change.now (page_in BASE b) ne) ∙ ap (λ (k : Holding). image_in k (page_in BASE b)) change.is ∙ own.held) (off (page_in BASE b) own.off) is.address
        (ap (λ (s : Sheet). is_start s (word_in BASE b)) own.sheet_is ∙ start) (ap (λ (s : Sheet). slice_index s.words (word_in BASE b + 1)) own.sheet_is ∙ is.named))
  ]
    where
      is : IsNamedOn BASE (space_left new.space) b m
      is = book_of_named BASE (space_left new.space) b m has

      own : IsOwn new (page_in BASE b) is.sheet
      own = own_held new places_now (page_in BASE b) is.sheet is.on

      start : is_start is.sheet (word_in BASE b) ≡ true
      start = (and_parts (is_start is.sheet (word_in BASE b)) (not (is_forwarded (slice_index is.sheet.words (word_in BASE b)))) is.unmoved).0

      old : get (book_of BASE (space_left h.space)) b ≡ Some m → (get (book_of BASE (space_found new.space)) b ≡ Some m) ⊎ (m < next)
      old had = subst (λ (x : Images). (get (book_of BASE x) b ≡ Some m) ⊎ (m < next)) (sym (change_found h new page change).space) (was b m had)

      on_page : page_in BASE b ≡ page → (get (book_of BASE (space_found new.space)) b ≡ Some m) ⊎ (m < next)
      on_page e = of (stays (word_in BASE b) (ap (λ (s : Sheet). is_start s (word_in BASE b)) now_is ∙ start))
        where
          now_is : change.now.sheet ≡ is.sheet
          now_is = ap (λ (x : PageImage). x.sheet) (one_value (image_in new (page_in BASE b)) change.now own.image (ap (image_in new) e ∙ here) own.held) ∙ own.sheet_is

          name : slice_index change.now.sheet.words (word_in BASE b + 1) ≡ m
          name = ap (λ (s : Sheet). slice_index s.words (word_in BASE b + 1)) now_is ∙ is.named

          of : StaysNamed next change.image.sheet change.now.sheet (word_in BASE b) → (get (book_of BASE (space_found new.space)) b ≡ Some m) ⊎ (m < next)
          of (inl stayed) = old (named_old b m change.image (ap (image_in h) e ∙ change.there) (off (page_in BASE b) own.off) is.address stayed.0 (stayed.1 ∙ name))
          of (inr below) = inr (subst (λ (k : ℕ). k < next) name below)

-- a word of the body of an object is another
module _ (next : ℕ) (h new : Holding) (catalog : List Fields) (refers : ℕ → Bool) (a x : ℕ) (place : Place) (places : AreInPlace h) (places_now : AreInPlace new) (form : HaveForm catalog refers h)
    (object : is_object_held BASE h a ≡ true) (is : value_written catalog BASE h a place x ≡ Some new) where
  body : IsBodyWrite catalog BASE h new a
  body = one_word_written catalog BASE h new a place x object is

  change : IsChange h new (page_in BASE a)
  change =
      let first = written_change catalog h new a place x is in
      let now : first.now ≡ with_word_at body.image body.word body.value =
      one_value (image_in new (page_in BASE a)) first.now (with_word_at body.image body.word body.value)
      (ap (λ (k : Holding). image_in k (page_in BASE a)) (sym first.is) ∙ changed_here h (page_in BASE a) first.image first.now first.there) body.is in
      record { image = body.image; now = with_word_at body.image body.word body.value; there = body.was; is = ap (changed h (page_in BASE a)) (sym now) ∙ first.is; starts = λ t begun. begun }

  start : is_start body.image.sheet (word_in BASE a) ≡ true
  start = start_of BASE body.image a (sym (ap (λ (o : Option PageImage). begins_in BASE o a) body.was) ∙ object)

  laid : IsLaid catalog body.image.sheet
  laid = (objects_of catalog refers body.image.page body.image.sheet (word_in BASE a) (form (page_in BASE a) body.image body.was) start).1.laid

  -- it is no object's name
  apart : (t : ℕ) → is_start body.image.sheet t ≡ true → t + 1 ≢ body.word
  apart t begun e = elim (cases_lt (word_in BASE a) t) [
    | inl above ↦ (let within = body.within in false≢true (sym (laid.apart (word_in BASE a) t start above (omega (arith, e, within))) ∙ begun))
    | inr below ↦ (let behind = body.behind in omega (arith, e, behind, below))
  ]

  pub names_written : HasNamesBelow next h → HasNamesBelow next new
  unfolding change
  names_written = names_changed next h new (page_in BASE a) change places places_now catalog refers form
      (λ t begun. inl (begun, sym (get_or-set_other body.image.sheet.words body.word (t + 1) body.value 0 (apart t begun))))

-- an object was placed behind the last one of a page, under a name below the next one
pub names_put : (next : ℕ) (h new : Holding) (size head n a : ℕ) (put : IsPut h new size head n a) → AreInPlace h → AreInPlace new → (catalog : List Fields) (refers : ℕ → Bool) → HaveForm catalog refers h
    → IsLaid catalog put.image.sheet → 2 ≤ size → n < next → HasNamesBelow next h → HasNamesBelow next new
names_put next h new size head n a put places places_now catalog refers form laid two low =
    names_changed next h new put.page (record { image = put.image; now = placed_on put.image size head n; there = put.there; is = put.is; starts = placed_starts put.image.page put.image.sheet size head n }) places places_now catalog refers form stays
  where
    fits : end_of put.image.sheet + size ≤ 512
    fits = let room = put.room in omega (arith, room)

    now : Sheet
    now = (placed_on put.image size head n).sheet

    before : (t : ℕ) → is_start put.image.sheet t ≡ true → slice_index now.words (t + 1) ≡ slice_index put.image.sheet.words (t + 1)
    before t begun = (let whole = laid.whole t begun in
        word_before catalog put.image.page put.image.sheet size head n laid two fits (t + 1) (omega arith) (omega (arith, whole.1, whole.2)))

    stays : (t : ℕ) → is_start now t ≡ true → StaysNamed next put.image.sheet now t
    stays t begun = elim (cases_eq t (end_of put.image.sheet)) [
      | inl e ↦ inr (subst (λ (k : ℕ). k < next) (sym (ap (λ (k : ℕ). slice_index now.words (k + 1)) e ∙ at_name catalog put.image.page put.image.sheet size head n laid two fits)) low)
      | inr ne ↦ (let old = sym (start_else catalog put.image.page put.image.sheet size head n laid two fits t ne) ∙ begun in inl (old, sym (before t old)))
    ]
