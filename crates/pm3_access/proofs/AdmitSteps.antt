-- What is admitted is added to what was found and to what is left.
use Rattle.std.proofs.Common.{◌≡◌, ◌≢◌, ◌∙◌, inl, inr, ℕ, true, Option, Some, None, is_some, refl, sym, ap}
use Rattle.std.proofs.lemmas.Bool.{cases_eq}
use Rattle.std.specs.Option.{option_or}
use Rattle.std.specs.FinMap as map
use Rattle.std.specs.FinMap.{get-empty}
use Rattle.std.specs.Ordering.{nat_cmp}
use mathlib.Core.Bool.{true≢false}
use Rattle.pm3_types.specs.Layout.{Sheet, PageImage}
use Rattle.pm3_types.specs.Shown.{Images}
use Rattle.pm3_page.specs.PageSheets.{sheet_in, sheets_of}
use Rattle.pm3_page.proofs.SheetsOf.{get-sheets_of}
use Rattle.pm3_access.specs.Acts.{space_found, left_images, found_images, AreInPlace}
use Rattle.pm3_access.specs.Holding.{Holding, HeldSpaceState, SpaceState, image_in, space_now, admitted, with_held_space}
use Rattle.pm3_access.proofs.Homes as images_at
use Rattle.pm3_access.proofs.HeldSheets.{sheet_same, sheet_other, get-left_images, get-found_images}
use Rattle.pm3_access.proofs.JoinedParts.{AreJoined}

abbrev pub alone : PageImage → Images
alone image = map.insert map.empty image.page image.sheet

pub none_else : (image : PageImage) (q : ℕ) → q ≢ image.page → map.get (alone image) q ≡ None
none_else image q ne = sheet_other map.empty image.page q image.sheet ne ∙ get-empty nat_cmp q

no_sheet : (o : Option PageImage) → o ≡ None → sheet_in o ≡ None
no_sheet o is = ap sheet_in is

module _ (h : Holding) (image : PageImage) (absent : image_in h image.page ≡ None) where
  pub left_here : (q : ℕ) → q ≡ image.page → image_in (admitted h image) q ≡ Some image
  left_here q e = ap (λ (o : Option PageImage). option_or o (space_now h.space q)) (images_at.get_same h.pages.left image.page q image e)

  pub left_else : (q : ℕ) → q ≢ image.page → image_in (admitted h image) q ≡ image_in h q
  left_else q ne = ap (λ (o : Option PageImage). option_or o (space_now h.space q)) (images_at.get_other h.pages.left image.page q image ne)

  pub left_joined : AreJoined (left_images h) (alone image) (left_images (admitted h image))
  left_joined = record {
    each = λ q. get-left_images (admitted h image) q ∙ elim (cases_eq q image.page) [
      | inl e ↦ ap sheet_in (left_here q e) ∙ sym (ap (λ (o : Option Sheet). option_or o (map.get (left_images h) q)) (sheet_same map.empty image.page q image.sheet e))
      | inr ne ↦ ap sheet_in (left_else q ne) ∙ sym (get-left_images h q) ∙ sym (ap (λ (o : Option Sheet). option_or o (map.get (left_images h) q)) (none_else image q ne))
    ];
    apart = λ q is. elim (cases_eq q image.page) [
      | inl e ↦ get-left_images h q ∙ no_sheet (image_in h q) (ap (image_in h) e ∙ absent)
      | inr ne ↦ absurd (true≢false (sym is ∙ ap is_some (none_else image q ne)))
    ];
  }

  pub found_joined : AreInPlace h → AreJoined (found_images h) (alone image) (found_images (admitted h image))
  found_joined places = record {
    each = λ q. get-found_images (admitted h image) q ∙ elim (cases_eq q image.page) [
      | inl e ↦ ap (λ (o : Option PageImage). option_or (sheet_in o) (map.get (space_found h.space) q)) (images_at.get_same h.pages.found image.page q image e)
          ∙ sym (ap (λ (o : Option Sheet). option_or o (map.get (found_images h) q)) (sheet_same map.empty image.page q image.sheet e))
      | inr ne ↦ ap (λ (o : Option PageImage). option_or (sheet_in o) (map.get (space_found h.space) q)) (images_at.get_other h.pages.found image.page q image ne)
          ∙ sym (get-found_images h q) ∙ sym (ap (λ (o : Option Sheet). option_or o (map.get (found_images h) q)) (none_else image q ne))
    ];
    apart = λ q is. elim (cases_eq q image.page) [
      | inl e ↦ places.found q (ap (image_in h) e ∙ absent)
      | inr ne ↦ absurd (true≢false (sym is ∙ ap is_some (none_else image q ne)))
    ];
  }

module _ (h : Holding) (space : SpaceState) (none : h.space ≡ None) (absent : (page : ℕ) → map.contains_key space.images page ≡ true → image_in h page ≡ None) where
  pub left_alone : (q : ℕ) → image_in h q ≡ option_or (map.get h.pages.left q) None
  left_alone q = ap (λ (s : Option HeldSpaceState). option_or (map.get h.pages.left q) (space_now s q)) none

  found_alone : (q : ℕ) → map.get (found_images h) q ≡ option_or (sheet_in (map.get h.pages.found q)) None
  found_alone q = get-found_images h q ∙ ap (λ (s : Option HeldSpaceState). option_or (sheet_in (map.get h.pages.found q)) (map.get (space_found s) q)) none
      ∙ ap (option_or (sheet_in (map.get h.pages.found q))) (get-empty nat_cmp q)

  in_space : (q : ℕ) → is_some (map.get (sheets_of space.images) q) ≡ true → map.contains_key space.images q ≡ true
  in_space q is = same (map.get space.images q) ∙ sym (ap is_some (get-sheets_of space.images q)) ∙ is
    where
      same : (o : Option PageImage) → is_some o ≡ is_some (sheet_in o)
      same None = refl
      same (Some image) = refl

  -- the first of two, of which one is nothing
  swapped : {A : Type 0} (o u : Option A) → (is_some u ≡ true → o ≡ None) → option_or o u ≡ option_or u (option_or o None)
  swapped None None apart = refl
  swapped None (Some x) apart = refl
  swapped (Some x) None apart = refl
  swapped (Some x) (Some y) apart = absurd (true≢false (ap is_some (apart refl)))

  sheets : (o u : Option PageImage) → (is_some u ≡ true → option_or o None ≡ None) → sheet_in (option_or o u) ≡ option_or (sheet_in u) (sheet_in (option_or o None))
  sheets None None apart = refl
  sheets None (Some x) apart = refl
  sheets (Some x) None apart = refl
  sheets (Some x) (Some y) apart = absurd (true≢false (ap is_some (apart refl)))

  pub space_left_joined : AreJoined (left_images h) (sheets_of space.images) (left_images (with_held_space h space))
  space_left_joined = record {
    each = λ q. get-left_images (with_held_space h space) q ∙ sheets (map.get h.pages.left q) (map.get space.images q) (λ is. sym (left_alone q) ∙ absent q is)
        ∙ sym (ap (λ (o : Option Sheet). option_or o (map.get (left_images h) q)) (get-sheets_of space.images q)
        ∙ ap (option_or (sheet_in (map.get space.images q))) (get-left_images h q ∙ ap sheet_in (left_alone q)));
    apart = λ q is. get-left_images h q ∙ no_sheet (image_in h q) (absent q (in_space q is));
  }

  pub space_found_joined : AreInPlace h → AreJoined (found_images h) (sheets_of space.images) (found_images (with_held_space h space))
  space_found_joined places = record {
    each = λ q. get-found_images (with_held_space h space) q
        ∙ swapped (sheet_in (map.get h.pages.found q)) (map.get (sheets_of space.images) q) (λ is. sym (or_none _) ∙ sym (found_alone q) ∙ places.found q (absent q (in_space q is)))
        ∙ ap (option_or (map.get (sheets_of space.images) q)) (sym (found_alone q));
    apart = λ q is. places.found q (absent q (in_space q is));
  }
    where
      or_none : (o : Option Sheet) → option_or o None ≡ o
      or_none None = refl
      or_none (Some x) = refl
