-- Where the references of what a pass left lead, by what its mutator held.
use Rattle.std.proofs.Common.{◌≡◌, ◌==◌, ◌||◌, ◌&&◌, ◌∙◌, ◌⊎◌, inl, inr, ℕ, Bool, true, false, nat_le, nat_lt, List, Option, Some, None, is_some, refl, sym, ap, subst, arith}
use Rattle.std.proofs.lemmas.Bool.{and_parts, cases_eq, eqb-true, false≢true}
use Rattle.std.specs.FinMap as map_of
use Rattle.std.specs.FinMap.{get, contains_key}
use Rattle.std.specs.FinSet as set
use Rattle.pm3_core.specs.declared.naming.TheConstants.{BASE}
use Rattle.pm3_types.specs.Layout.{PageImage, Sheet, is_address, page_in, word_in}
use Rattle.pm3_types.specs.PageForm.{HasForm, is_memory_reference}
use Rattle.pm3_types.specs.Shown.{Images as Sheets}
use Rattle.pm3_page.specs.PageMap.{Images}
use Rattle.pm3_page.specs.PageSheets.{sheet_in, sheets_of}
use Rattle.pm3_page.proofs.SheetsOf.{get-sheets_of}
use Rattle.pm3_copy.specs.PassLaws.{OthersAreQuiet}
use Rattle.pm3_access.specs.Holding.{Holding}
use Rattle.pm3_access.specs.Parting.{joined}
use Rattle.pm3_access.proofs.SoundingPages.{form_for_more}
use Rattle.pm3_history.specs.Laid.{laid}
use Rattle.pm3_history.proofs.Laying.{laid_cases}
use Rattle.pm3_history.specs.Entry.{Done}
use Rattle.pm3_table.specs.declared.view.Deed.{Deed}
use Rattle.pm3_table.specs.declared.view.Told.{Told}
use Rattle.pm3_table.specs.declared.view.View.{View}
use Rattle.pm3_table.specs.Telling.{is_steady}
use Rattle.pm3_txn.specs.CarriedPass.{Carried, IsCarriedBy, parts_of}
use Rattle.pm3_txn.specs.Knowing.{is_in_use}
use Rattle.pm3_txn.specs.OwnStarts.{starts_on}
use Rattle.pm3_txn.specs.Owners.{own_use}
use Rattle.pm3_txn.proofs.CommitLaws.{persistent_steady}
use Rattle.pm3_txn.proofs.PassCarried.{after_apart, before_apart, done, sheet_from, sheet_of, space_low}
use Rattle.pm3_txn.proofs.PassPlans.{no_roots, volatile_in, written_in}
use Rattle.pm3_txn.proofs.PassRefs.{leads_by, space_use_after, starts_at, written_use}
use Rattle.pm3_txn.proofs.Seeing.{page_use}

or_first : (a b : Bool) → a ≡ true → (a || b) ≡ true
or_first a b is = ap (λ (x : Bool). x || b) is

-- an object begins on an image where it does on its sheet
pub starts_same : (o : Option PageImage) (s : ℕ) → starts_on o s ≡ starts_at (sheet_in o) s
starts_same None s = refl
starts_same (Some image) s = refl

-- nil may be a reference
nil_use : (told : Told) (seen : List Done) → is_in_use told seen 0 ≡ true
unfolding is_memory_reference
nil_use told seen = refl

-- what may be one is nil or an address
address_of : (pages w : ℕ) → is_memory_reference BASE pages w ≡ true → (w ≡ 0) ⊎ (is_address BASE w ≡ true)
unfolding is_memory_reference
address_of pages w is = of (w == 0) refl is
  where
    of : (b : Bool) → (w == 0) ≡ b → (b || (is_address BASE w && ((nat_le 3 (page_in BASE w) && nat_lt (page_in BASE w) pages) && nat_le 2 (word_in BASE w)))) ≡ true
        → (w ≡ 0) ⊎ (is_address BASE w ≡ true)
    of true nil form = inl (eqb-true w 0 nil)
    of false other form = inr (and_parts (is_address BASE w) ((nat_le 3 (page_in BASE w) && nat_lt (page_in BASE w) pages) && nat_le 2 (word_in BASE w)) form).0

module _ (others : OthersAreQuiet) (told : Told) (v : View) (number next : ℕ) (log : List Deed) (c : Carried) (has : IsCarriedBy told v number next log c) where
  abbrev h : Holding
  h = joined (parts_of c)

  abbrev space : Sheets
  space = sheets_of c.volatile.images

  abbrev changed : Sheets
  changed = sheets_of c.written.images

  -- a word of what is held leads to an object of the space, or to a page in use
  leads : (a : ℕ) → own_use told v h a ≡ true → leads_by told.pages (is_in_use told v.seen) space a ≡ true
  leads a is = ap (λ (b : Bool). is_in_use told v.seen a || (is_memory_reference BASE told.pages a && b))
      (ap (λ (o : Option Sheet). starts_at o (word_in BASE a)) (get-sheets_of c.volatile.images (page_in BASE a)) ∙ sym (starts_same (get c.volatile.images (page_in BASE a)) (word_in BASE a))) ∙ is

  form : (q : ℕ) (sheet : Sheet) → get (laid space changed) q ≡ Some sheet → HasForm told.opening.catalog (leads_by told.pages (is_in_use told v.seen) space) q sheet
  form q sheet is = of (laid_cases space changed q sheet is)
    where
      by : (images : Images) → get (sheets_of images) q ≡ Some sheet → ((image : PageImage) → get images q ≡ Some image → HasForm told.opening.catalog (own_use told v h) image.page image.sheet)
          → ((image : PageImage) → get images q ≡ Some image → image.page ≡ q) → HasForm told.opening.catalog (leads_by told.pages (is_in_use told v.seen) space) q sheet
      by images on formed home =
          let image = sheet_from images q sheet on in
          subst (λ (x : Sheet). HasForm told.opening.catalog (leads_by told.pages (is_in_use told v.seen) space) q x) image.2
          (subst (λ (n : ℕ). HasForm told.opening.catalog (leads_by told.pages (is_in_use told v.seen) space) n image.0.sheet) (home image.0 image.1)
          (form_for_more told.opening.catalog (own_use told v h) (leads_by told.pages (is_in_use told v.seen) space) leads image.0.page image.0.sheet (formed image.0 image.1)))

      of : (get changed q ≡ Some sheet) ⊎ ((get changed q ≡ None) × (get space q ≡ Some sheet)) → HasForm told.opening.catalog (leads_by told.pages (is_in_use told v.seen) space) q sheet
      of (inl on) = by c.written.images on (λ image there. has.holding.form q image (written_in told v number (parts_of c) has.holding has.parted has.small q image there))
          (λ image there. has.parted.rejoin.written_home q image there)
      of (inr on) = by c.volatile.images on.1 (λ image there. has.holding.form q image (volatile_in told v number (parts_of c) has.holding has.parted has.small refl q image there))
          (λ image there. has.parted.rejoin.volatile_home q image there)

  -- no page of the space is in use
  bare : (w : ℕ) → is_in_use told v.seen w ≡ true → (w ≡ 0) ⊎ (get space (page_in BASE w) ≡ None)
  bare w is = elim (cases_eq w 0) [
    | inl nil ↦ inl nil
    | inr other ↦ inr (of (get c.volatile.images (page_in BASE w)) refl (persistent_steady told v (page_in BASE w) (page_use told v.seen w other is)))
  ]
    where
      of : (o : Option PageImage) → get c.volatile.images (page_in BASE w) ≡ o → is_steady told v (page_in BASE w) ≡ true → get space (page_in BASE w) ≡ None
      of None none steady = get-sheets_of c.volatile.images (page_in BASE w) ∙ ap sheet_in none
      of (Some image) on steady = absurd (false≢true (sym (has.holding.space.1.apart (page_in BASE w)
          (has.holding.space.1.spans (page_in BASE w) ∙ or_first (is_some (get c.volatile.images (page_in BASE w))) (set.contains c.space.free (page_in BASE w)) (ap is_some on))).bare ∙ steady))

  own_roots : get space 2 ≡ None
  own_roots = get-sheets_of c.volatile.images 2 ∙ ap sheet_in (no_roots told v number (parts_of c) has.holding has.parted has.small refl)

  -- so is each after it, whatever test passes those, what leads to a written page, and where objects of the space begin
  module _ (new_use : ℕ → Bool) (still : (w : ℕ) → is_in_use told v.seen w ≡ true → new_use w ≡ true)
      (on_written : (w : ℕ) → is_memory_reference BASE told.pages w ≡ true → contains_key (sheets_of c.written_now) (page_in BASE w) ≡ true → new_use w ≡ true) where
    pub written_uses : (q : ℕ) (image : PageImage) → get c.written_now q ≡ Some image → HasForm told.opening.catalog new_use image.page image.sheet
    written_uses q image on =
        let home : image.page ≡ q = has.written_sound.home q image on in
        subst (λ (n : ℕ). HasForm told.opening.catalog new_use n image.sheet) (sym home)
        (written_use others told.opening.catalog told.pages space changed c.pins (map_of.keys c.fresh) (sheets_of c.space_now) (sheets_of c.written_now)
        (done told v number next log c has) (after_apart told v number next log c has) (before_apart told v number next log c has) own_roots
        (is_in_use told v.seen) bare (address_of told.pages) (nil_use told v.seen) form new_use still (is_memory_reference BASE told.pages) on_written
        q image.sheet (sheet_of c.written_now q image on)
        (subst (λ (n : ℕ). HasForm told.opening.catalog (is_memory_reference BASE told.pages) n image.sheet) home (has.written_sound.form q image on)))

    pub space_uses : ((w : ℕ) → is_memory_reference BASE told.pages w ≡ true → starts_at (get (sheets_of c.space_now) (page_in BASE w)) (word_in BASE w) ≡ true → new_use w ≡ true)
        → (q : ℕ) (image : PageImage) → get c.space_now q ≡ Some image → HasForm told.opening.catalog new_use image.page image.sheet
    space_uses on_space q image on =
        let home : image.page ≡ q = has.space_sound.home q image on in
        let low = (space_low told v number next log c has q (ap is_some on)).0 in
        subst (λ (n : ℕ). HasForm told.opening.catalog new_use n image.sheet) (sym home)
        (space_use_after others told.opening.catalog told.pages space changed c.pins (map_of.keys c.fresh) (sheets_of c.space_now) (sheets_of c.written_now)
        (done told v number next log c has) (after_apart told v number next log c has) (before_apart told v number next log c has) own_roots
        (is_in_use told v.seen) bare (address_of told.pages) (nil_use told v.seen) form new_use still (is_memory_reference BASE told.pages) on_written
        q image.sheet (sheet_of c.space_now q image on) (λ two. omega (arith, two, low)) on_space
        (subst (λ (n : ℕ). HasForm told.opening.catalog (is_memory_reference BASE told.pages) n image.sheet) home (has.space_sound.form q image on)))
