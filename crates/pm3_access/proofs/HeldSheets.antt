-- The sheets of what is held, page by page.
use Rattle.std.proofs.Common.{◌≡◌, ◌≢◌, ℕ, Bool, cond, List, Option, None, Some, is_some, refl, sym, ap, ◌∙◌, inl, inr}
use Rattle.std.proofs.lemmas.Bool.{cases_eq, eq-eqb, ne_eqb}
use Rattle.std.specs.Option.{option_map, option_or}
use Rattle.std.specs.Ordering.{nat_cmp}
use Rattle.std.specs.Cmp.{nat_cmp_total, unsigned_tied}
use Rattle.std.specs.FinMap as map
use Rattle.std.specs.FinMap.{nat_cmp-IsAntisymmetric, same_map, get-empty, get-insert}
use Rattle.pm3_types.specs.Fields.{Fields}
use Rattle.pm3_types.specs.Layout.{Sheet, PageImage, page_in, word_in}
use Rattle.pm3_types.specs.Shown.{Images}
use Rattle.pm3_access.specs.declared.places.Place.{Place}
use Rattle.pm3_access.specs.Access.{written_by, written_in_space, value_written}
use Rattle.pm3_page.specs.PageSheets.{sheet_in}
use Rattle.pm3_page.proofs.SheetsOf.{get-over, get-sheets_of}
use Rattle.pm3_access.specs.Acts.{space_left, space_found, left_images, found_images}
use Rattle.pm3_access.specs.Holding.{Holding, HeldSpaceState, image_in, space_now, with_image, space_with}
use Rattle.pm3_access.proofs.Homes as images_at
use Rattle.pm3_access.proofs.Homes.{some_of, is_some_none}

pub sheet_same : (images : Images) (page q : ℕ) (sheet : Sheet) → q ≡ page → map.get (map.insert images page sheet) q ≡ Some sheet
sheet_same images page q sheet is = get-insert nat_cmp_total images page sheet q ∙ ap (λ (b : Bool). cond b (Some sheet) (map.get images q)) (unsigned_tied q page ∙ eq-eqb q page is)

pub sheet_other : (images : Images) (page q : ℕ) (sheet : Sheet) → q ≢ page → map.get (map.insert images page sheet) q ≡ map.get images q
sheet_other images page q sheet ne = get-insert nat_cmp_total images page sheet q ∙ ap (λ (b : Bool). cond b (Some sheet) (map.get images q)) (unsigned_tied q page ∙ ne_eqb q page ne)

either : (o p : Option PageImage) → option_or (sheet_in o) (sheet_in p) ≡ sheet_in (option_or o p)
either None p = refl
either (Some image) p = refl

get-space_left : (s : Option HeldSpaceState) (q : ℕ) → map.get (space_left s) q ≡ sheet_in (space_now s q)
get-space_left None q = get-empty nat_cmp q
get-space_left (Some s) q = get-sheets_of s.images.left q

-- the sheets as they are now are those of the images
pub get-left_images : (h : Holding) (q : ℕ) → map.get (left_images h) q ≡ sheet_in (image_in h q)
get-left_images h q =
    get-over h.pages.left (space_left h.space) q ∙ ap (option_or (sheet_in (map.get h.pages.left q))) (get-space_left h.space q)
    ∙ either (map.get h.pages.left q) (space_now h.space q)

pub get-found_images : (h : Holding) (q : ℕ) → map.get (found_images h) q ≡ option_or (sheet_in (map.get h.pages.found q)) (map.get (space_found h.space) q)
get-found_images h q = get-over h.pages.found (space_found h.space) q

-- what is held with another image of one page
abbrev pub changed_by : Option PageImage → Holding → ℕ → PageImage → Holding
changed_by (Some image) h page now = record { pages = with_image h.pages page now; space = h.space }
changed_by None h page now = record { pages = h.pages; space = option_map (λ s. space_with s page now) h.space }

abbrev pub changed : Holding → ℕ → PageImage → Holding
changed h page now = changed_by (map.get h.pages.left page) h page now

mapped : {A B C : Type 0} (f : A → B) (g : B → C) (o : Option A) → option_map g (option_map f o) ≡ option_map (λ x. g (f x)) o
mapped f g None = refl
mapped f g (Some x) = refl

-- a write changes the image of one page, held alone or in the space
pub written_is : (catalog : List Fields) (base : ℕ) (h : Holding) (a : ℕ) (place : Place) (v : ℕ)
    → value_written catalog base h a place v ≡ option_map (changed h (page_in base a)) (written_by catalog (image_in h (page_in base a)) (word_in base a) place v)
written_is catalog base h a place v = of (map.get h.pages.left (page_in base a))
  where
    in_space : (s : Option HeldSpaceState)
        → written_in_space catalog base h.pages s (page_in base a) a place v
        ≡ option_map (λ now. record { pages = h.pages; space = option_map (λ t. space_with t (page_in base a) now) s }) (written_by catalog (space_now s (page_in base a)) (word_in base a) place v)
    in_space None = refl
    in_space (Some s) = mapped (space_with s (page_in base a)) (λ t. record { pages = h.pages; space = Some t }) (written_by catalog (map.get s.images.left (page_in base a)) (word_in base a) place v)

    of : (o : Option PageImage)
        → cond (is_some o) (option_map (λ pages. record { pages = pages; space = h.space }) (option_map (with_image h.pages (page_in base a)) (written_by catalog o (word_in base a) place v)))
        (written_in_space catalog base h.pages h.space (page_in base a) a place v)
        ≡ option_map (changed_by o h (page_in base a)) (written_by catalog (option_or o (space_now h.space (page_in base a))) (word_in base a) place v)
    of None = in_space h.space
    of (Some image) = mapped (with_image h.pages (page_in base a)) (λ pages. record { pages = pages; space = h.space }) (written_by catalog (Some image) (word_in base a) place v)

space_other : (s : Option HeldSpaceState) (page q : ℕ) (now : PageImage) → q ≢ page → space_now (option_map (λ t. space_with t page now) s) q ≡ space_now s q
space_other None page q now ne = refl
space_other (Some s) page q now ne = images_at.get_other s.images.left page q now ne

space_same : (s : Option HeldSpaceState) (page : ℕ) (image now : PageImage) → space_now s page ≡ Some image → space_now (option_map (λ t. space_with t page now) s) page ≡ Some now
space_same None page image now is = absurd (is_some_none image is)
space_same (Some s) page image now is = images_at.get_same s.images.left page page now refl

-- then that page has that image, and the others are as they were
pub changed_here : (h : Holding) (page : ℕ) (image now : PageImage) → image_in h page ≡ Some image → image_in (changed h page now) page ≡ Some now
changed_here h page image now is = of (map.get h.pages.left page) refl
  where
    of : (o : Option PageImage) → map.get h.pages.left page ≡ o → image_in (changed_by o h page now) page ≡ Some now
    of None e = ap (λ (o : Option PageImage). option_or o (space_now (option_map (λ t. space_with t page now) h.space) page)) e
        ∙ space_same h.space page image now (sym (ap (λ (o : Option PageImage). option_or o (space_now h.space page)) e) ∙ is)
    of (Some old) e = ap (λ (o : Option PageImage). option_or o (space_now h.space page)) (images_at.get_same h.pages.left page page now refl)

pub changed_else : (h : Holding) (page : ℕ) (now : PageImage) (q : ℕ) → q ≢ page → image_in (changed h page now) q ≡ image_in h q
changed_else h page now q ne = of (map.get h.pages.left page)
  where
    of : (o : Option PageImage) → image_in (changed_by o h page now) q ≡ image_in h q
    of None = ap (option_or (map.get h.pages.left q)) (space_other h.space page q now ne)
    of (Some old) = ap (λ (o : Option PageImage). option_or o (space_now h.space q)) (images_at.get_other h.pages.left page q now ne)

-- so one sheet is another
pub left_changed : (h : Holding) (page : ℕ) (image now : PageImage) → image_in h page ≡ Some image → left_images (changed h page now) ≡ map.insert (left_images h) page now.sheet
left_changed h page image now is = same_map nat_cmp_total nat_cmp-IsAntisymmetric _ _ (λ q. get-left_images (changed h page now) q ∙ elim (cases_eq q page) [
  | inl same ↦ ap sheet_in (ap (image_in (changed h page now)) same ∙ changed_here h page image now is) ∙ sym (sheet_same (left_images h) page q now.sheet same)
  | inr ne ↦ ap sheet_in (changed_else h page now q ne) ∙ sym (sheet_other (left_images h) page q now.sheet ne ∙ get-left_images h q)
])
