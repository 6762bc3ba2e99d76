-- What a pass may be planned over: the images of a parted holding.
use Rattle.std.proofs.Common.{◌≡◌, ◌<◌, ◌≤◌, ◌+◌, ◌||◌, ◌&&◌, ◌∙◌, inl, inr, ℕ, Bool, true, false, nat_le, List, [], ◌∷◌, length, Option, Some, None, is_some, refl, sym, ap, subst, arith}
use Rattle.std.proofs.lemmas.Bool.{cases_Bool, cond-true, cond-false, false≢true}
use Rattle.std.specs.Option.{option_map, option_or}
use Rattle.std.specs.FinSet as set
use Rattle.std.specs.FinMap.{contains_key, get}
use Rattle.pm3_core.specs.declared.naming.TheConstants.{BASE}
use Rattle.pm3_types.specs.Fields.{Fields}
use Rattle.pm3_types.specs.Layout.{PageImage}
use Rattle.pm3_types.specs.PageForm.{is_memory_reference}
use Rattle.pm3_types.specs.PassMoves.{pages_behind, pages_wanted, sizes}
use Rattle.pm3_types.specs.Shown.{Images as Sheets}
use Rattle.pm3_page.specs.PageMap.{Images}
use Rattle.pm3_page.specs.PageSheets.{AreSoundPages}
use Rattle.pm3_access.specs.declared.parted.Parted.{Parted}
use Rattle.pm3_access.specs.Holding.{Holding, image_in, space_now}
use Rattle.pm3_access.specs.Parting.{joined}
use Rattle.pm3_access.specs.Parts.{SpaceRest, with_images}
use Rattle.pm3_access.proofs.SoundingPages.{form_for_more, image_for_more}
use Rattle.pm3_table.specs.declared.view.Told.{Told}
use Rattle.pm3_table.specs.declared.view.View.{View}
use Rattle.pm3_txn.specs.Committing.{IsParted}
use Rattle.pm3_txn.specs.Knowing.{is_in_use}
use Rattle.pm3_txn.specs.Owners.{IsHolding, MayHoldSpace, own_use}
use Rattle.pm3_txn.specs.Works.{is_own_start}
use Rattle.pm3_txn.proofs.Seeing.{use_form}

-- each page gets an object, so there are no more pages than objects
behind_few : (list : List ℕ) (end : ℕ) → pages_behind list end ≤ length list
behind_few [] end = omega arith
behind_few (s ∷ ss) end = elim (cases_Bool (nat_le (end + s) 512)) [
  | inl fits ↦ (let e = cond-true (nat_le (end + s) 512) (pages_behind ss (end + s)) (1 + pages_behind ss (2 + s)) fits in let few = behind_few ss (end + s) in omega (arith, e, few))
  | inr not_ ↦ (let e = cond-false (nat_le (end + s) 512) (pages_behind ss (end + s)) (1 + pages_behind ss (2 + s)) not_ in let few = behind_few ss (2 + s) in omega (arith, e, few))
]

sizes_long : (catalog : List Fields) (before : Sheets) (list : List ℕ) → length (sizes catalog BASE before list) ≡ length list
sizes_long catalog before [] = refl
sizes_long catalog before (a ∷ others) = (let rest = sizes_long catalog before others in omega (arith, rest))

pub wanted_few : (catalog : List Fields) (before : Sheets) (list : List ℕ) → pages_wanted (sizes catalog BASE before list) ≤ length list
wanted_few catalog before list = (let few = behind_few (sizes catalog BASE before list) 512 in let long = sizes_long catalog before list in omega (arith, few, long))

-- what may be a reference here is one in memory
own_form : (x y o : Bool) → (x ≡ true → y ≡ true) → (x || (y && o)) ≡ true → y ≡ true
own_form true y o form is = form refl
own_form false true o form is = refl
own_form false false o form is = absurd (false≢true is)

module _ (told : Told) (v : View) (number : ℕ) (p : Parted) (holding : IsHolding told v number (joined p)) (parted : IsParted p) (small : told.pages < 16385) where
  abbrev h : Holding
  h = joined p

  own_high : (a : ℕ) → own_use told v h a ≡ true → is_memory_reference BASE told.pages a ≡ true
  own_high a = own_form (is_in_use told v.seen a) (is_memory_reference BASE told.pages a) (is_own_start h a) (use_form told v.seen a)

  -- the images of the space are those of its parts
  now_is : (o : Option SpaceRest) → is_some o ≡ true → (q : ℕ) → space_now (option_map (with_images p.volatile.images) o) q ≡ get p.volatile.images q
  now_is None there q = absurd (false≢true there)
  now_is (Some s) there q = refl

  module _ (there : is_some p.rest.space ≡ true) where
    -- no page of the space is held alone too
    pub alone_none : (q : ℕ) → contains_key p.volatile.images q ≡ true → get h.pages.left q ≡ None
    alone_none q on = of (get h.pages.left q) refl
      where
        of : (o : Option PageImage) → get h.pages.left q ≡ o → get h.pages.left q ≡ None
        of None none = none
        of (Some x) some = absurd (false≢true (ap is_some (sym (sym (now_is p.rest.space there q) ∙ holding.places.apart q (ap is_some some))) ∙ on))

    pub volatile_in : (q : ℕ) (image : PageImage) → get p.volatile.images q ≡ Some image → image_in h q ≡ Some image
    volatile_in q image on = ap (λ (o : Option PageImage). option_or o (space_now h.space q)) (alone_none q (ap is_some on)) ∙ now_is p.rest.space there q ∙ on

    pub volatile_low : (q : ℕ) → contains_key p.volatile.images q ≡ true → (3 ≤ q) × (q < told.pages)
    volatile_low q on = of p.rest.space there holding.space
      where
        first : (a b : Bool) → a ≡ true → (a || b) ≡ true
        first true b is = refl
        first false b is = absurd (false≢true is)

        of : (o : Option SpaceRest) → is_some o ≡ true → MayHoldSpace told v number (option_map (with_images p.volatile.images) o) → (3 ≤ q) × (q < told.pages)
        of None some held = absurd (false≢true some)
        of (Some s) some held = held.1.within q (held.1.spans q ∙ first (is_some (get p.volatile.images q)) (set.contains s.free q) on)

    pub volatile_sound : AreSoundPages told.opening.catalog BASE told.pages p.volatile.images
    volatile_sound = record {
      home = parted.rejoin.volatile_home;
      low = λ q on. (let low = (volatile_low q on).1 in omega (arith, low, small));
      form = λ q image on. form_for_more told.opening.catalog (own_use told v h) (is_memory_reference BASE told.pages) own_high image.page image.sheet (holding.form q image (volatile_in q image on));
    }

    pub no_roots : get p.volatile.images 2 ≡ None
    no_roots = of (get p.volatile.images 2) refl
      where
        of : (o : Option PageImage) → get p.volatile.images 2 ≡ o → get p.volatile.images 2 ≡ None
        of None none = none
        of (Some x) some = absurd (let high = (volatile_low 2 (ap is_some some)).0 in omega (arith, high))

    pub parts_apart : (q : ℕ) → contains_key p.volatile.images q ≡ true → get p.written.images q ≡ None
    parts_apart q on = of (get p.written.images q) refl
      where
        of : (o : Option PageImage) → get p.written.images q ≡ o → get p.written.images q ≡ None
        of None none = none
        of (Some x) some = absurd (false≢true (ap is_some (sym (alone_none q on)) ∙ ap is_some ((parted.written q x).0 some).0))

  pub written_in : (q : ℕ) (image : PageImage) → get p.written.images q ≡ Some image → image_in h q ≡ Some image
  written_in q image on = ap (λ (o : Option PageImage). option_or o (space_now h.space q)) ((parted.written q image).0 on).0

  pub written_sound : AreSoundPages told.opening.catalog BASE told.pages p.written.images
  written_sound = record {
    home = parted.rejoin.written_home;
    low = λ q on. of q (get p.written.images q) refl on;
    form = λ q image on. form_for_more told.opening.catalog (own_use told v h) (is_memory_reference BASE told.pages) own_high image.page image.sheet
        (holding.form q image (written_in q image on));
  }
    where
      of : (q : ℕ) (o : Option PageImage) → get p.written.images q ≡ o → contains_key p.written.images q ≡ true → q < 16384
      of q None none on = absurd (false≢true (ap is_some (sym none) ∙ on))
      of q (Some x) some on = (let low = (holding.units q (ap is_some ((parted.written q x).0 some).0)).1 in omega (arith, low, small))

-- so they are in the greatest store, under each name of the catalog
pub sound_wide : (catalog other : List Fields) (pages : ℕ) (list : Images) → catalog ≡ other → pages < 16385 → AreSoundPages catalog BASE pages list → AreSoundPages other BASE 16384 list
sound_wide catalog other pages list same small sound = subst (λ (k : List Fields). AreSoundPages k BASE 16384 list) same (record {
  home = sound.home;
  low = sound.low;
  form = λ q image on. image_for_more catalog BASE pages 16384 image (omega (arith, small)) (sound.form q image on);
})
