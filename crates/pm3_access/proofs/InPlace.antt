-- What is held stays in place.
use Rattle.std.proofs.Common.{◌≡◌, ◌≢◌, ◌∙◌, inl, inr, ℕ, true, List, Option, Some, None, Ok, Err, Result, is_some, refl, sym, ap, subst}
use Rattle.std.proofs.lemmas.Bool.{cases_eq}
use Rattle.std.specs.Prelude.{OnOk, OnErr}
use Rattle.std.specs.Option.{option_or, option_map}
use Rattle.std.specs.Ordering.{nat_cmp}
use Rattle.std.specs.FinMap as map
use Rattle.std.specs.FinMap.{get-empty}
use mathlib.Core.Bool.{true≢false}
use Rattle.pm3_types.specs.Fields.{Fields}
use Rattle.pm3_types.specs.Layout.{Sheet, PageImage, page_in, word_in}
use Rattle.pm3_access.specs.declared.places.Place.{Place}
use Rattle.pm3_access.specs.Access.{written_by, value_written}
use Rattle.pm3_page.specs.PageSheets.{sheet_in}
use Rattle.pm3_page.proofs.SheetsOf.{get-sheets_of}
use Rattle.pm3_access.specs.Acts.{space_found, found_images, AreInPlace}
use Rattle.pm3_access.specs.Holding.{Holding, HeldSpaceState, SpaceState, nothing_held, image_in, space_now, space_with, admitted, with_held_space, grown, by_space}
use Rattle.pm3_access.proofs.Homes as images_at
use Rattle.pm3_access.proofs.Homes.{some_of, is_some_none, nothing_there}
use Rattle.pm3_access.proofs.HeldSheets.{get-found_images, changed, changed_by, changed_here, changed_else, written_is}
use Rattle.pm3_access.proofs.AdmitSteps.{found_joined, space_found_joined, left_here, left_else, none_else, left_alone}
use Rattle.pm3_access.proofs.Writing.{page_kept}

pub nothing_in_place : AreInPlace nothing_held
nothing_in_place = record {
  home = λ page image is. absurd (is_some_none image (sym (nothing_there page) ∙ is));
  apart = λ page is. refl;
  found = λ page none. get-found_images nothing_held page ∙ ap (λ (o : Option PageImage). option_or (sheet_in o) (map.get (space_found None) page)) (get-empty nat_cmp page) ∙ get-empty nat_cmp page;
}

first_none : {A : Type 0} (o u : Option A) → option_or o u ≡ None → o ≡ None
first_none None u is = refl
first_none (Some x) u is = is

second_none : {A : Type 0} (o u : Option A) → option_or o u ≡ None → u ≡ None
second_none None u is = is
second_none (Some x) u is = absurd (is_some_none x (sym is))

or_first : {A : Type 0} (o u : Option A) (x : A) → o ≡ Some x → option_or o u ≡ Some x
or_first {A = A} o u x is = ap (λ (p : Option A). option_or p u) is

module _ (h : Holding) (places : AreInPlace h) where
  -- an image that is not of the space or alone
  not_alone : (q : ℕ) → image_in h q ≡ None → map.contains_key h.pages.left q ≡ true → ⊥
  not_alone q none is = true≢false (sym is ∙ ap is_some (first_none (map.get h.pages.left q) (space_now h.space q) none))

  module _ (image : PageImage) (absent : image_in h image.page ≡ None) where
    pub admitted_in_place : AreInPlace (admitted h image)
    admitted_in_place = record {
      home = λ q other is. elim (cases_eq q image.page) [
        | inl e ↦ ap (λ (i : PageImage). i.page) (sym (some_of image other (sym (left_here h image absent q e) ∙ is))) ∙ sym e
        | inr ne ↦ places.home q other (sym (left_else h image absent q ne) ∙ is)
      ];
      apart = λ q is. elim (cases_eq q image.page) [
        | inl e ↦ second_none (map.get h.pages.left q) (space_now h.space q) (ap (image_in h) e ∙ absent)
        | inr ne ↦ places.apart q (sym (ap is_some (images_at.get_other h.pages.left image.page q image ne)) ∙ is)
      ];
      found = λ q none. elim (cases_eq q image.page) [
        | inl e ↦ absurd (is_some_none image (sym none ∙ left_here h image absent q e))
        | inr ne ↦ (found_joined h image absent places).each q ∙ ap (λ (o : Option Sheet). option_or o (map.get (found_images h) q)) (none_else image q ne)
            ∙ places.found q (sym (left_else h image absent q ne) ∙ none)
      ];
    }

    space_here : (s : Option HeldSpaceState) (q : ℕ) → q ≡ image.page → (other : PageImage) → space_now (option_map (λ t. grown t image) s) q ≡ Some other → other ≡ image
    space_here None q e other is = absurd (is_some_none other is)
    space_here (Some s) q e other is = some_of other image (sym is ∙ images_at.get_same s.images.left image.page q image e)

    space_else : (s : Option HeldSpaceState) (q : ℕ) → q ≢ image.page → space_now (option_map (λ t. grown t image) s) q ≡ space_now s q
    space_else None q ne = refl
    space_else (Some s) q ne = images_at.get_other s.images.left image.page q image ne

    grown_found : (s : Option HeldSpaceState) (q : ℕ) → map.get (space_found (option_map (λ t. grown t image) s)) q ≡ map.get (space_found s) q
    grown_found None q = refl
    grown_found (Some s) q = refl

    alone_here : (q : ℕ) → q ≡ image.page → map.get h.pages.left q ≡ None
    alone_here q e = first_none (map.get h.pages.left q) (space_now h.space q) (ap (image_in h) e ∙ absent)

    still_none : (s : Option HeldSpaceState) (q : ℕ) → space_now (option_map (λ t. grown t image) s) q ≡ None → space_now s q ≡ None
    still_none None q none = refl
    still_none (Some s) q none = elim (cases_eq q image.page) [
      | inl e ↦ absurd (is_some_none image (sym none ∙ images_at.get_same s.images.left image.page q image e))
      | inr ne ↦ sym (images_at.get_other s.images.left image.page q image ne) ∙ none
    ]

    pub grown_in_place : AreInPlace (by_space (λ s. grown s image) h)
    grown_in_place = record {
      home = λ q other is. elim (cases_eq q image.page) [
        | inl e ↦ (let same = space_here h.space q e other (sym (ap (λ (o : Option PageImage). option_or o (space_now (option_map (λ t. grown t image) h.space) q)) (alone_here q e)) ∙ is) in ap (λ (i : PageImage). i.page) same ∙ sym e)
        | inr ne ↦ places.home q other (sym (ap (option_or (map.get h.pages.left q)) (space_else h.space q ne)) ∙ is)
      ];
      apart = λ q is. elim (cases_eq q image.page) [
        | inl e ↦ absurd (true≢false (sym is ∙ ap is_some (alone_here q e)))
        | inr ne ↦ space_else h.space q ne ∙ places.apart q is
      ];
      found = λ q none. get-found_images (by_space (λ s. grown s image) h) q ∙ ap (option_or (sheet_in (map.get h.pages.found q))) (grown_found h.space q) ∙ sym (get-found_images h q)
          ∙ places.found q (both_none q none);
    }
      where
        both_none : (q : ℕ) → image_in (by_space (λ s. grown s image) h) q ≡ None → image_in h q ≡ None
        both_none q none =
            ap (λ (o : Option PageImage). option_or o (space_now h.space q)) (first_none (map.get h.pages.left q) (space_now (option_map (λ t. grown t image) h.space) q) none)
            ∙ still_none h.space q (second_none (map.get h.pages.left q) (space_now (option_map (λ t. grown t image) h.space) q) none)

  module _ (space : SpaceState) (none : h.space ≡ None) (home : (page : ℕ) (image : PageImage) → map.get space.images page ≡ Some image → image.page ≡ page)
      (absent : (page : ℕ) → map.contains_key space.images page ≡ true → image_in h page ≡ None) where
    alone_home : (q : ℕ) (image : PageImage) → map.get h.pages.left q ≡ Some image → image.page ≡ q
    alone_home q image is = places.home q image (or_first (map.get h.pages.left q) (space_now h.space q) image is)

    home_of : (q : ℕ) (image : PageImage) (o : Option PageImage) → map.get h.pages.left q ≡ o → option_or o (map.get space.images q) ≡ Some image → image.page ≡ q
    home_of q image None here is = home q image is
    home_of q image (Some other) here is = alone_home q image (here ∙ is)

    no_space : (q : ℕ) → map.contains_key h.pages.left q ≡ true → (o : Option PageImage) → map.get space.images q ≡ o → o ≡ None
    no_space q is None there = refl
    no_space q is (Some image) there = absurd (not_alone q (absent q (ap is_some there)) is)

    pub space_in_place : AreInPlace (with_held_space h space)
    space_in_place = record {
      home = λ q image is. home_of q image (map.get h.pages.left q) refl is;
      apart = λ q is. no_space q is (map.get space.images q) refl;
      found = λ q nowhere. (space_found_joined h space none absent places).each q
          ∙ ap (λ (o : Option Sheet). option_or o (map.get (found_images h) q)) (get-sheets_of space.images q ∙ ap sheet_in (second_none (map.get h.pages.left q) (map.get space.images q) nowhere))
          ∙ places.found q (left_alone h space none absent q ∙ ap (λ (o : Option PageImage). option_or o None) (first_none (map.get h.pages.left q) (map.get space.images q) nowhere));
    }

  module _ (page : ℕ) (image now : PageImage) (there : image_in h page ≡ Some image) (own : now.page ≡ image.page) where
    changed_apart : (o : Option PageImage) → map.get h.pages.left page ≡ o → (q : ℕ) → map.contains_key (changed_by o h page now).pages.left q ≡ true → space_now (changed_by o h page now).space q ≡ None
    changed_apart None is q has = elim (cases_eq q page) [
      | inl e ↦ absurd (true≢false (sym has ∙ ap is_some (ap (map.get h.pages.left) e ∙ is)))
      | inr ne ↦ other h.space q ne ∙ places.apart q has
    ]
      where
        other : (s : Option HeldSpaceState) (q : ℕ) → q ≢ page → space_now (option_map (λ t. space_with t page now) s) q ≡ space_now s q
        other None q ne = refl
        other (Some s) q ne = images_at.get_other s.images.left page q now ne
    changed_apart (Some old) is q has = elim (cases_eq q page) [
      | inl e ↦ places.apart q (ap (λ (p : ℕ). map.contains_key h.pages.left p) e ∙ ap is_some is)
      | inr ne ↦ places.apart q (sym (ap is_some (images_at.get_other h.pages.left page q now ne)) ∙ has)
    ]

    changed_found : (o : Option PageImage) (q : ℕ) → map.get (found_images (changed_by o h page now)) q ≡ map.get (found_images h) q
    changed_found None q = get-found_images (changed_by None h page now) q ∙ ap (option_or (sheet_in (map.get h.pages.found q))) (same h.space) ∙ sym (get-found_images h q)
      where
        same : (s : Option HeldSpaceState) → map.get (space_found (option_map (λ t. space_with t page now) s)) q ≡ map.get (space_found s) q
        same None = refl
        same (Some s) = refl
    changed_found (Some old) q = refl

    -- another image of a page that is held, under the same number
    pub changed_in_place : AreInPlace (changed h page now)
    changed_in_place = record {
      home = λ q other is. elim (cases_eq q page) [
        | inl e ↦ (let same = some_of now other (sym (ap (image_in (changed h page now)) e ∙ changed_here h page image now there) ∙ is) in sym (ap (λ (i : PageImage). i.page) same) ∙ own ∙ places.home page image there ∙ sym e)
        | inr ne ↦ places.home q other (sym (changed_else h page now q ne) ∙ is)
      ];
      apart = λ q has. changed_apart (map.get h.pages.left page) refl q has;
      found = λ q none. elim (cases_eq q page) [
        | inl e ↦ absurd (is_some_none now (sym none ∙ ap (image_in (changed h page now)) e ∙ changed_here h page image now there))
        | inr ne ↦ changed_found (map.get h.pages.left page) q ∙ places.found q (sym (changed_else h page now q ne) ∙ none)
      ];
    }

  -- so after a write
  pub written_in_place : (catalog : List Fields) (base a : ℕ) (place : Place) (v : ℕ) (new : Holding) → value_written catalog base h a place v ≡ Some new → AreInPlace new
  written_in_place catalog base a place v new is = of (image_in h (page_in base a)) refl
    where
      with_now : (image : PageImage) → image_in h (page_in base a) ≡ Some image → (o : Option PageImage) → written_by catalog (Some image) (word_in base a) place v ≡ o
          → option_map (changed h (page_in base a)) o ≡ Some new → AreInPlace new
      with_now image there None same e = absurd (is_some_none new e)
      with_now image there (Some now) same e =
          subst AreInPlace (some_of (changed h (page_in base a) now) new e)
          (changed_in_place (page_in base a) image now there (page_kept catalog image now (word_in base a) place v same))

      of : (o : Option PageImage) → image_in h (page_in base a) ≡ o → AreInPlace new
      of None none = absurd (is_some_none new (sym (ap (λ (o : Option PageImage). option_map (changed h (page_in base a)) (written_by catalog o (word_in base a) place v)) none)
          ∙ sym (written_is catalog base h a place v) ∙ is))
      of (Some image) there =
          with_now image there (written_by catalog (Some image) (word_in base a) place v) refl
          (sym (ap (λ (o : Option PageImage). option_map (changed h (page_in base a)) (written_by catalog o (word_in base a) place v)) there)
          ∙ sym (written_is catalog base h a place v) ∙ is)

-- in place, whether the call refused or not
pub place_result : {T E : Type 0} (result : Result T E) (h new target : Holding) → OnOk result (new ≡ target) → OnErr result (new ≡ h) → (AreInPlace h → AreInPlace target) → AreInPlace h → AreInPlace new
place_result (Ok x) h new target done same kept places = subst AreInPlace (sym done) (kept places)
place_result (Err e) h new target done same kept places = subst AreInPlace (sym same) places
