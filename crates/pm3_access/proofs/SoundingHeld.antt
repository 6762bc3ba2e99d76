-- What is held keeps the form of pages.
use Rattle.std.proofs.Common.{◌≡◌, ◌⊎◌, ◌≤◌, ◌∙◌, inl, inr, ℕ, Bool, true, List, Option, Some, None, Ok, Err, Result, is_some, refl, sym, ap, subst, arith}
use Rattle.std.specs.Prelude.{MatchResult, MatchOption, OnOk, OnErr}
use Rattle.std.specs.Option.{option_map, option_or}
use Rattle.std.specs.FinMap as map
use Rattle.std.proofs.lemmas.Bool.{cases_eq, cond-true, cond-false}
use Rattle.pm3_types.specs.Fields.{Fields}
use Rattle.pm3_types.specs.Layout.{PageImage, blank_sheet, page_in, word_in}
use Rattle.pm3_page.specs.PageMap.{Images}
use Rattle.pm3_access.specs.declared.places.Place.{Place}
use Rattle.pm3_access.specs.declared.places.NoPlace.{NoPlace}
use Rattle.pm3_access.specs.Access.{HaveForm, ImageHasForm, begins_in, is_object_held, written_by, written_in_space, value_written}
use Rattle.pm3_access.specs.Holding.{Holding, HeldImages, HeldSpaceState, SpaceState, image_in, space_now, nothing_held, with_image, space_with, by_space, admitted, with_admitted, held_space, with_held_space, grown}
use Rattle.pm3_access.specs.Sound.{refers_in, IsReferenceFor, ImagesHaveForm}
use Rattle.pm3_access.specs.Spots.{IsValueFor, with_value_at_place}
use Rattle.pm3_access.proofs.Homes.{get_same, get_other, some_of, is_some_none, nothing_there}
use Rattle.pm3_types.proofs.FormedObjects.{start_of}
use Rattle.pm3_access.proofs.SoundingPlaces.{sound_written}

abbrev held_by : HeldImages → Option HeldSpaceState → Holding
held_by p space = record { pages = p; space = space }

mapped : {A B : Type 0} (f : A → B) (o : Option A) (y : B) → option_map f o ≡ Some y → (x : A) × (o ≡ Some x) × (f x ≡ y)
mapped f None y e = absurd (is_some_none y e)
mapped f (Some x) y e = (x, refl, some_of (f x) y e)

-- an image behind another one
behind : (o : Option PageImage) (new other : PageImage) → option_or o (Some new) ≡ Some other → (o ≡ Some other) ⊎ ((o ≡ None) × (new ≡ other))
behind None new other e = inr (refl, some_of new other e)
behind (Some x) new other e = inl e

either : (o r : Option PageImage) (other : PageImage) → option_or o r ≡ Some other → (o ≡ Some other) ⊎ ((o ≡ None) × (r ≡ Some other))
either None r other e = inr (refl, e)
either (Some x) r other e = inl e

module _ (catalog : List Fields) (base : ℕ) (refers : ℕ → Bool) where
  -- an image held alone is another one, or new
  pub sound_alone : (p t : HeldImages) (space : Option HeldSpaceState) (page : ℕ) (new : PageImage) → t.left ≡ map.insert p.left page new → ImageHasForm catalog refers new
      → HaveForm catalog refers (record { pages = p; space = space }) → HaveForm catalog refers (record { pages = t; space = space })
  sound_alone p t space page new is fine sound q other there = elim (cases_eq q page) [
    | inl e ↦ subst (ImageHasForm catalog refers)
        (some_of new other (sym (ap (λ (o : Option PageImage). option_or o (space_now space q)) (ap (λ (m : Images). map.get m q) is ∙ get_same p.left page q new e)) ∙ there)) fine
    | inr away ↦ sound q other (sym (ap (λ (o : Option PageImage). option_or o (space_now space q)) (ap (λ (m : Images). map.get m q) is ∙ get_other p.left page q new away)) ∙ there)
  ]

  -- an image of the space is another one, or new
  pub sound_in_space : (p : HeldImages) (s t : HeldSpaceState) (page : ℕ) (new : PageImage) → t.images.left ≡ map.insert s.images.left page new
      → (map.get p.left page ≡ None → ImageHasForm catalog refers new)
      → HaveForm catalog refers (record { pages = p; space = Some s }) → HaveForm catalog refers (record { pages = p; space = Some t })
  sound_in_space p s t page new is fine sound q other there = elim (cases_eq q page) [
    | inl e ↦ elim (behind (map.get p.left q) new other (sym (ap (option_or (map.get p.left q)) (ap (λ (m : Images). map.get m q) is ∙ get_same s.images.left page q new e)) ∙ there)) [
      | inl alone ↦ sound q other (ap (λ (o : Option PageImage). option_or o (map.get s.images.left q)) alone)
      | inr own ↦ subst (ImageHasForm catalog refers) own.1 (fine (sym (ap (map.get p.left) e) ∙ own.0))
    ]
    | inr away ↦ sound q other (sym (ap (option_or (map.get p.left q)) (ap (λ (m : Images). map.get m q) is ∙ get_other s.images.left page q new away)) ∙ there)
  ]

  -- a space of sound images is held where none was
  pub sound_with_space : (p : HeldImages) (t : HeldSpaceState) → ImagesHaveForm catalog refers t.images.left
      → HaveForm catalog refers (record { pages = p; space = None }) → HaveForm catalog refers (record { pages = p; space = Some t })
  sound_with_space p t fine sound q other there = elim (either (map.get p.left q) (map.get t.images.left q) other there) [
    | inl alone ↦ sound q other (ap (λ (o : Option PageImage). option_or o None) alone)
    | inr own ↦ fine q other own.1
  ]

  -- the same images in another space
  pub sound_same : (p : HeldImages) (s t : HeldSpaceState) → t.images.left ≡ s.images.left
      → HaveForm catalog refers (record { pages = p; space = Some s }) → HaveForm catalog refers (record { pages = p; space = Some t })
  sound_same p s t is sound q other there = sound q other (sym (ap (λ (m : Images). option_or (map.get p.left q) (map.get m q)) is) ∙ there)

  module _ (h : Holding) (a v : ℕ) (place : Place) (object : is_object_held base h a ≡ true) (value : IsValueFor place v)
      (fits : IsReferenceFor catalog base refers h a place v) (sound : HaveForm catalog refers h) where
    image_written : (image new : PageImage) → image_in h (page_in base a) ≡ Some image
        → with_value_at_place catalog image (word_in base a) place v ≡ Some new → ImageHasForm catalog refers new
    image_written image new is w =
        sound_written catalog base refers image (word_in base a) (sound (page_in base a) image is)
        (start_of base image a (sym (ap (λ (o : Option PageImage). begins_in base o a) is) ∙ object)) new place v value
        (λ e. fits (ap (λ (o : Option PageImage). refers_in catalog o (word_in base a) place) is ∙ e)) w

    alone : (new : Holding) (o : Option PageImage) → map.get h.pages.left (page_in base a) ≡ o
        → option_map (λ (p : HeldImages). held_by p h.space) (option_map (with_image h.pages (page_in base a)) (written_by catalog o (word_in base a) place v)) ≡ Some new
        → HaveForm catalog refers new
    alone new None is e = absurd (is_some_none new e)
    alone new (Some image) is e =
        let outer = mapped (λ (p : HeldImages). held_by p h.space) (option_map (with_image h.pages (page_in base a)) (with_value_at_place catalog image (word_in base a) place v)) new e in
        let inner = mapped (with_image h.pages (page_in base a)) (with_value_at_place catalog image (word_in base a) place v) outer.0 outer.1 in
        subst (HaveForm catalog refers) outer.2
        (sound_alone h.pages outer.0 h.space (page_in base a) inner.0 (sym (ap (λ (p : HeldImages). p.left) inner.2))
        (image_written image inner.0 (ap (λ (o : Option PageImage). option_or o (space_now h.space (page_in base a))) is) inner.1) sound)

    in_space : (new : Holding) (space : Option HeldSpaceState) → h.space ≡ space → map.get h.pages.left (page_in base a) ≡ None
        → written_in_space catalog base h.pages space (page_in base a) a place v ≡ Some new → HaveForm catalog refers new
    in_space new None is none e = absurd (is_some_none new e)
    in_space new (Some s) is none e = on_page (map.get s.images.left (page_in base a)) refl e
      where
        here : image_in h (page_in base a) ≡ map.get s.images.left (page_in base a)
        here = ap (λ (o : Option PageImage). option_or o (space_now h.space (page_in base a))) none ∙ ap (λ (o : Option HeldSpaceState). space_now o (page_in base a)) is

        on_page : (o : Option PageImage) → map.get s.images.left (page_in base a) ≡ o
            → option_map (λ (t : HeldSpaceState). held_by h.pages (Some t)) (option_map (space_with s (page_in base a)) (written_by catalog o (word_in base a) place v)) ≡ Some new
            → HaveForm catalog refers new
        on_page None on f = absurd (is_some_none new f)
        on_page (Some image) on f =
            let outer = mapped (λ (t : HeldSpaceState). held_by h.pages (Some t)) (option_map (space_with s (page_in base a)) (with_value_at_place catalog image (word_in base a) place v)) new f in
            let inner = mapped (space_with s (page_in base a)) (with_value_at_place catalog image (word_in base a) place v) outer.0 outer.1 in
            subst (HaveForm catalog refers) outer.2
            (sound_in_space h.pages s outer.0 (page_in base a) inner.0 (sym (ap (λ (t : HeldSpaceState). t.images.left) inner.2))
            (λ _. image_written image inner.0 (here ∙ on) inner.1)
            (subst (λ (o : Option HeldSpaceState). HaveForm catalog refers (held_by h.pages o)) is sound))

    written : (new : Holding) → value_written catalog base h a place v ≡ Some new → HaveForm catalog refers new
    written new e = by_page (map.get h.pages.left (page_in base a)) refl
      where
        by_page : (o : Option PageImage) → map.get h.pages.left (page_in base a) ≡ o → HaveForm catalog refers new
        by_page None is = in_space new h.space refl is (sym (cond-false (map.contains_key h.pages.left (page_in base a)) _ _ (ap is_some is)) ∙ e)
        by_page (Some image) is = alone new (map.get h.pages.left (page_in base a)) refl (sym (cond-true (map.contains_key h.pages.left (page_in base a)) _ _ (ap is_some is)) ∙ e)

    -- a write keeps the form of what is held
    pub sound_value : (new : Holding) (result : Result (Unit {0}) NoPlace)
        → MatchResult result (λ _. value_written catalog base h a place v ≡ Some new) (λ _. (value_written catalog base h a place v ≡ None) × (new ≡ h))
        → HaveForm catalog refers new
    sound_value new (Ok done) is = written new is
    sound_value new (Err refusal) is = subst (HaveForm catalog refers) (sym is.1) sound

  -- nothing is held
  pub sound_nothing : HaveForm catalog refers nothing_held
  sound_nothing q other there = absurd (is_some_none other (sym (nothing_there q) ∙ there))

  -- a sound page is held
  pub sound_admitted : (h : Holding) (image : PageImage) → ImageHasForm catalog refers image → HaveForm catalog refers h → HaveForm catalog refers (admitted h image)
  sound_admitted h image fine sound = sound_alone h.pages (with_admitted h.pages image) h.space image.page image refl fine sound

  -- a space of sound images is held
  pub sound_held_space : (h : Holding) (space : SpaceState) → h.space ≡ None → ImagesHaveForm catalog refers space.images
      → HaveForm catalog refers h → HaveForm catalog refers (with_held_space h space)
  sound_held_space h space none fine sound =
      sound_with_space h.pages (held_space space) fine (subst (λ (o : Option HeldSpaceState). HaveForm catalog refers (held_by h.pages o)) none sound)

  -- a blank image on a page of objects
  sound_blank : (image : PageImage) → image.sheet ≡ blank_sheet → 3 ≤ image.page → ImageHasForm catalog refers image
  sound_blank image blank high = record { roots = λ e. absurd (omega arith); objects = λ apart. inl blank }

  -- a blank page is drawn
  pub sound_grown : (h : Holding) (image : PageImage) → image.sheet ≡ blank_sheet → 3 ≤ image.page → HaveForm catalog refers h
      → HaveForm catalog refers (by_space (λ s. grown s image) h)
  sound_grown h image blank high sound = drawn h.pages h.space sound
    where
      drawn : (p : HeldImages) (space : Option HeldSpaceState) → HaveForm catalog refers (record { pages = p; space = space })
          → HaveForm catalog refers (record { pages = p; space = option_map (λ s. grown s image) space })
      drawn p None fine = fine
      drawn p (Some s) fine = sound_in_space p s (grown s image) image.page image refl (λ none. sound_blank image blank high) fine

  -- what a call did at Ok and at Err
  pub sound_result : {T E : Type 0} (result : Result T E) (old new wanted : Holding) → OnOk result (new ≡ wanted) → OnErr result (new ≡ old)
      → (HaveForm catalog refers old → HaveForm catalog refers wanted) → HaveForm catalog refers old → HaveForm catalog refers new
  sound_result (Ok value) old new wanted is same keeps sound = subst (HaveForm catalog refers) (sym is) (keeps sound)
  sound_result (Err fault) old new wanted is same keeps sound = subst (HaveForm catalog refers) (sym same) sound

  -- a change of the space that leaves its images
  pub sound_by_space : (change : HeldSpaceState → HeldSpaceState) (h : Holding) → ((s : HeldSpaceState) → (change s).images.left ≡ s.images.left)
      → HaveForm catalog refers h → HaveForm catalog refers (by_space change h)
  sound_by_space change h kept sound = changed h.pages h.space sound
    where
      changed : (p : HeldImages) (space : Option HeldSpaceState) → HaveForm catalog refers (record { pages = p; space = space })
          → HaveForm catalog refers (record { pages = p; space = option_map change space })
      changed p None fine = fine
      changed p (Some s) fine = sound_same p s (change s) (kept s) fine

  -- what a call did at None and at Some
  pub sound_option : (result : Option ℕ) (old new : Holding) (wanted : ℕ → Holding) → MatchOption result (new ≡ old) (λ page. new ≡ wanted page)
      → ((page : ℕ) → HaveForm catalog refers (wanted page)) → HaveForm catalog refers old → HaveForm catalog refers new
  sound_option None old new wanted is keeps sound = subst (HaveForm catalog refers) (sym is) sound
  sound_option (Some page) old new wanted is keeps sound = subst (HaveForm catalog refers) (sym is) (keeps page)
