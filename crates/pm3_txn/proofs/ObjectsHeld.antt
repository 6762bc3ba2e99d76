-- Objects that are held: where they lie, their types, and the form of what is held.
use Rattle.std.proofs.Common.{◌≡◌, ◌≢◌, ◌<◌, ◌≤◌, ◌+◌, ◌∙◌, ℕ, Bool, true, false, leb, List, Option, Some, None, unwrap_or, slice_get, slice_index, refl, sym, ap, subst, arith}
use Rattle.std.proofs.lemmas.Bool.{and_parts, leb-true, false≢true}
use Rattle.std.specs.FinMap.{get}
use Rattle.std.specs.Option.{option_map}
use Rattle.pm3_core.specs.declared.naming.TheConstants.{BASE}
use Rattle.pm3_types.specs.Fields.{Fields}
use Rattle.pm3_types.specs.Layout.{PageImage, page_in, word_in, is_address, begins_at, head_at, type_in, is_forwarded}
use Rattle.pm3_types.specs.PageForm.{HasForm, is_memory_reference}
use Rattle.pm3_types.proofs.FormedObjects.{address_of, start_of, whole_start}
use Rattle.pm3_access.specs.Access.{HaveForm, AreSound, begins_in, is_object_held}
use Rattle.pm3_access.specs.Holding.{Holding, image_in}
use Rattle.pm3_access.proofs.Bodies.{is_unmoved}
use Rattle.pm3_access.proofs.HeldSheets.{get-left_images}
use Rattle.pm3_page.specs.PageSheets.{sheet_in}
use Rattle.pm3_access.proofs.Homes.{is_some_none}
use Rattle.pm3_access.proofs.SoundingPages.{form_for_more}
use Rattle.pm3_history.proofs.Laying.{one_value, some_of}
use Rattle.pm3_table.specs.declared.view.Told.{Told}
use Rattle.pm3_table.specs.declared.view.View.{View}
use Rattle.pm3_txn.specs.Describing.{IsNameHere}
use Rattle.pm3_txn.specs.Knowing.{state_seen}
use Rattle.pm3_txn.specs.ObjectValues.{name_held, type_held}
use Rattle.pm3_txn.specs.Owners.{IsHolding, KnowsHere, own_use}
use Rattle.pm3_txn.specs.Works.{left_book}
use Rattle.pm3_txn.proofs.Going.{form_rises}
use Rattle.pm3_txn.proofs.OwnerAnswers.{own_form}

-- the image of an object's page
pub record HasImage (h : Holding) (a : ℕ) : Type 0 where
  pub image : PageImage
  pub there : image_in h (page_in BASE a) ≡ Some image
  pub begins : begins_at BASE image a ≡ true

pub image_of : (h : Holding) (a : ℕ) → is_object_held BASE h a ≡ true → HasImage h a
image_of h a is = of (image_in h (page_in BASE a)) refl
  where
    of : (o : Option PageImage) → image_in h (page_in BASE a) ≡ o → HasImage h a
    of None none = absurd (false≢true (sym (ap (λ (o : Option PageImage). begins_in BASE o a) none) ∙ is))
    of (Some image) on = record { image = image; there = on; begins = sym (ap (λ (o : Option PageImage). begins_in BASE o a) on) ∙ is }

-- no object lies at 0
pub object_some : (h : Holding) (a : ℕ) → is_object_held BASE h a ≡ true → a ≢ 0
unfolding is_address
object_some h a is zero =
    let has = image_of h a is in
    let parts = and_parts (leb BASE a) _ (address_of BASE has.image a has.begins) in
    let above : BASE ≤ a = leb-true BASE a parts.0 in
    omega (arith, above, zero)

module _ (catalog : List Fields) (refers : ℕ → Bool) (h : Holding) (a : ℕ) (form : HaveForm catalog refers h) (object : is_object_held BASE h a ≡ true) where
  -- an object that is held was not forwarded
  pub object_unmoved : (image : PageImage) → Some image ≡ image_in h (page_in BASE a) → is_forwarded (head_at BASE image a) ≡ false
  object_unmoved image on = is_unmoved catalog BASE refers image a (form (page_in BASE a) image (sym on)) (ap (λ (o : Option PageImage). begins_in BASE o a) on ∙ object)

  -- its name stands on its page
  pub name_within : word_in BASE a + 1 < 512
  name_within =
      let has = image_of h a object in
      let whole = whole_start catalog refers has.image.page has.image.sheet (word_in BASE a) (form (page_in BASE a) has.image has.there) (start_of BASE has.image a has.begins) in
      let size = whole.size in
      let end = whole.within in
      omega (arith, size, end)

  -- its type is in the catalog
  pub type_there : (type : ℕ) → type_held h a ≡ Some type → slice_get catalog type ≡ None → ⊥
  type_there type is none =
      let has = image_of h a object in
      let whole = whole_start catalog refers has.image.page has.image.sheet (word_in BASE a) (form (page_in BASE a) has.image has.there) (start_of BASE has.image a has.begins) in
      let same : type_in (head_at BASE has.image a) ≡ type =
      one_value (type_held h a) (type_in (head_at BASE has.image a)) type (ap (λ (o : Option PageImage). option_map (λ image. type_in (head_at BASE image a)) o) has.there) is in
      is_some_none whole.fields (sym none ∙ ap (slice_get catalog) (sym same) ∙ whole.of)

-- what is held has the form in a store of the most pages
pub wide_form : (told : Told) (catalog : List Fields) (h : Holding) → told.opening.catalog ≡ catalog → told.pages < 16385
    → AreSound told.opening.catalog BASE told.pages h → AreSound catalog BASE 16384 h
wide_form told catalog h same small sound page image on =
    subst (λ (c : List Fields). HasForm c (is_memory_reference BASE 16384) image.page image.sheet) same
    (form_rises told.opening.catalog told.pages 16384 image.page image.sheet (omega (arith, small)) (sound page image on))

-- what a transaction holds has the form
pub holding_sound : (told : Told) (v : View) (number : ℕ) (h : Holding) → IsHolding told v number h → AreSound told.opening.catalog BASE told.pages h
holding_sound told v number h holding page image on =
    form_for_more told.opening.catalog (own_use told v h) (is_memory_reference BASE told.pages) (own_form told v h) image.page image.sheet (holding.form page image on)

-- the name that stands on the page of a known object is its name in the transaction's book
pub name_known : (told : Told) (v : View) (number : ℕ) (h : Holding) (a x : ℕ) → IsHolding told v number h → KnowsHere told v h a → is_object_held BASE h a ≡ true → name_held h a ≡ Some x
    → IsNameHere told v h a x
name_known told v number h a x holding known object is st opens =
    let was = holding.works st opens in
    let has = image_of h a object in
    let named = some_of (get (left_book (state_seen told v st) h) a) (known.object st opens) in
    let fits = was.1.fits.objects a named.0 has.image.sheet named.1 (get-left_images h (page_in BASE a) ∙ ap sheet_in has.there) in
    let same : slice_index has.image.sheet.words (word_in BASE a + 1) ≡ x =
    one_value (name_held h a) (slice_index has.image.sheet.words (word_in BASE a + 1)) x
    (ap (λ (o : Option PageImage). option_map (λ (i : PageImage). slice_index i.sheet.words (word_in BASE a + 1)) o) has.there) is in
    ap (λ (o : Option ℕ). unwrap_or o 0) named.1 ∙ sym fits.2 ∙ same
