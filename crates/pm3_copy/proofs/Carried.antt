-- What the images of a pass are, page by page, and what stands on them.
use Rattle.std.proofs.Common.{◌≡◌, ◌∙◌, ◌⊎◌, ◌↔◌, inl, inr, ℕ, true, false, List, ◌++◌, Option, Some, None, is_some, refl, sym, ap, subst}
use Rattle.std.specs.FinMap as map_of
use Rattle.std.specs.FinSet as set
use Rattle.std.specs.Ordering.{nat_cmp}
use Rattle.std.specs.List.{Contains}
use Rattle.std.specs.Option.{option_or}
use Rattle.std.proofs.lemmas.Bool.{cases_eq, cases_Bool, false≢true}
use Rattle.std.proofs.lemmas.List.Elements.{Contains-append_cases, Contains-append_left, Contains-append_right}
use Rattle.pm3_types.specs.Fields.{Fields}
use Rattle.pm3_types.specs.Layout.{Sheet, PageImage}
use Rattle.pm3_types.specs.PassShown.{AreJoined}
use Rattle.pm3_types.specs.Shown as shown
use Rattle.pm3_page.specs.PageMap.{Images}
use Rattle.pm3_page.specs.PageSheets.{AreSoundPages, sheets_of}
use Rattle.pm3_copy.specs.Renaming.{IsUpdated, AreUpdated}
use Rattle.pm3_copy.specs.Sending.{ArePlaced}
use Rattle.pm3_copy.proofs.BothMoves.{among}
use Rattle.pm3_copy.proofs.Wholes.{some_of, same_some, none_some, image_on, sheet_on}

-- an image is among two collections
abbrev pub IsHere : Images → Images → ℕ → PageImage → Type 0
IsHere xs ys p image = (map_of.get xs p ≡ Some image) ⊎ (map_of.get ys p ≡ Some image)

no_page : (o : Option PageImage) → is_some o ≡ false → o ≡ None
no_page None is = refl
no_page (Some x) is = absurd (false≢true (sym is))

-- the sheet of an image among two that are joined
pub joined_has : (xs ys : Images) (both : shown.Images) (p : ℕ) (image : PageImage) → AreJoined (sheets_of xs) (sheets_of ys) both → IsHere xs ys p image → map_of.get both p ≡ Some image.sheet
joined_has xs ys both p image joined (inl on) = joined.has p ∙ ap (λ (o : Option Sheet). option_or o (map_of.get (sheets_of ys) p)) (sheet_on xs p image on)
joined_has xs ys both p image joined (inr on) = elim (joined.apart p) [
  | inl none ↦ joined.has p ∙ ap (λ (o : Option Sheet). option_or o (map_of.get (sheets_of ys) p)) none ∙ sheet_on ys p image on
  | inr none ↦ none_some image.sheet _ (sym none ∙ sheet_on ys p image on)
]

-- a sheet among the joined ones is that of an image
pub joined_from : (xs ys : Images) (both : shown.Images) (p : ℕ) (sheet : Sheet) → AreJoined (sheets_of xs) (sheets_of ys) both → map_of.get both p ≡ Some sheet
    → (image : PageImage) × IsHere xs ys p image × (image.sheet ≡ sheet)
joined_from xs ys both p sheet joined on = by (map_of.get (sheets_of xs) p) refl
  where
    by : (o : Option Sheet) → map_of.get (sheets_of xs) p ≡ o → (image : PageImage) × IsHere xs ys p image × (image.sheet ≡ sheet)
    by None none =
        let there = image_on ys p sheet (sym (joined.has p ∙ ap (λ (o : Option Sheet). option_or o (map_of.get (sheets_of ys) p)) none) ∙ on) in
        (there.0, inr there.1, there.2)
    by (Some other) is =
        let same : other ≡ sheet = same_some other sheet (sym (joined.has p ∙ ap (λ (o : Option Sheet). option_or o (map_of.get (sheets_of ys) p)) is) ∙ on) in
        let there = image_on xs p other is in
        (there.0, inl there.1, there.2 ∙ same)

pub joined_none : (xs ys : Images) (both : shown.Images) (p : ℕ) → AreJoined (sheets_of xs) (sheets_of ys) both → ((image : PageImage) → IsHere xs ys p image → ⊥) → map_of.get both p ≡ None
joined_none xs ys both p joined never = by (map_of.get both p) refl
  where
    by : (o : Option Sheet) → map_of.get both p ≡ o → map_of.get both p ≡ None
    by None none = none
    by (Some sheet) on = (let there = joined_from xs ys both p sheet joined on in absurd (never there.0 there.1))

-- an updated image is that of the same page with the same objects
pub starts_same : (catalog : List Fields) (to : ℕ → ℕ) (old new : PageImage) → IsUpdated catalog to old new → new.sheet.starts ≡ old.sheet.starts
starts_same catalog to old new updated = elim (cases_eq old.page 2) [ inl two ↦ (updated.roots two).starts | inr other ↦ (updated.objects other).starts ]

module _ (catalog : List Fields) (to : ℕ → ℕ) (xs ys new_xs new_ys : Images) (first : AreUpdated catalog to xs new_xs) (second : AreUpdated catalog to ys new_ys) where
  -- what becomes of an image
  pub updated_here : (p : ℕ) (image : PageImage) → IsHere xs ys p image → (now : PageImage) × IsHere new_xs new_ys p now × (now.page ≡ image.page) × IsUpdated catalog to image now
  updated_here p image (inl on) = (let is = first.each p image on in (is.0, inl is.1, is.2, is.3))
  updated_here p image (inr on) = (let is = second.each p image on in (is.0, inr is.1, is.2, is.3))

  one_from : (old new : Images) → AreUpdated catalog to old new → (p : ℕ) (now : PageImage) → map_of.get new p ≡ Some now → (image : PageImage) × (map_of.get old p ≡ Some image) × IsUpdated catalog to image now
  one_from old new are p now on = by (map_of.get old p) refl
    where
      by : (o : Option PageImage) → map_of.get old p ≡ o → (image : PageImage) × (map_of.get old p ≡ Some image) × IsUpdated catalog to image now
      by None none = none_some now _ (sym (are.none p none) ∙ on)
      by (Some image) is =
          let there = are.each p image is in
          (image, is, subst (IsUpdated catalog to image) (same_some there.0 now (sym there.1 ∙ on)) there.3)

  -- what an image was
  pub updated_from : (p : ℕ) (now : PageImage) → IsHere new_xs new_ys p now → (image : PageImage) × IsHere xs ys p image × IsUpdated catalog to image now
  updated_from p now (inl on) = (let is = one_from xs new_xs first p now on in (is.0, inl is.1, is.2))
  updated_from p now (inr on) = (let is = one_from ys new_ys second p now on in (is.0, inr is.1, is.2))

-- the pages of images that are updated
pub updated_pages : (catalog : List Fields) (to : ℕ → ℕ) (old new : Images) → AreUpdated catalog to old new → (p : ℕ) → map_of.contains_key new p ≡ map_of.contains_key old p
updated_pages catalog to old new are p = by (map_of.get old p) refl
  where
    by : (o : Option PageImage) → map_of.get old p ≡ o → map_of.contains_key new p ≡ map_of.contains_key old p
    by None none = ap is_some (are.none p none) ∙ sym (ap is_some none)
    by (Some image) is = (let there = are.each p image is in ap is_some there.1 ∙ sym (ap is_some is))

-- the images of a pass have been parted: the pinned pages of the space stay or turn, its others are given up, and the filled pages,
-- which are these, are handed out
pub record AreParted (first second : List ℕ) (turned freed pinned : set.FinSet nat_cmp) (space written filled now_space now_written : Images) : Type 0 where
  pub placed : ArePlaced first second turned freed space written filled now_space now_written
  pub turned_pinned : (p : ℕ) → set.contains turned p ≡ true → set.contains pinned p ≡ true
  pub frees : (p : ℕ) → (set.contains freed p ≡ true) ↔ ((map_of.contains_key space p ≡ true) × (set.contains pinned p ≡ false))
  pub within : (p : ℕ) → set.contains pinned p ≡ true → map_of.contains_key space p ≡ true
  pub apart : (p : ℕ) → map_of.contains_key space p ≡ true → map_of.get written p ≡ None
  pub filled_apart : (p : ℕ) → map_of.contains_key filled p ≡ true → (map_of.get written p ≡ None) × (map_of.get space p ≡ None)
  pub pages : (p : ℕ) → (map_of.contains_key filled p ≡ true) ↔ Contains (first ++ second) p
  pub lists_apart : (p : ℕ) → Contains first p → Contains second p → ⊥

module _ (first second : List ℕ) (turned freed pinned : set.FinSet nat_cmp) (space written filled now_space now_written : Images)
    (are : AreParted first second turned freed pinned space written filled now_space now_written) where
  not_filled : (p : ℕ) → Contains (first ++ second) p → map_of.contains_key space p ≡ true → ⊥
  not_filled p there here = false≢true (sym (ap is_some (are.filled_apart p ((are.pages p).1 there)).1) ∙ here)

  pub not_freed : (p : ℕ) → set.contains pinned p ≡ true → set.contains freed p ≡ false
  not_freed p is = elim (cases_Bool (set.contains freed p)) [ inl out ↦ absurd (false≢true (sym ((are.frees p).0 out).1 ∙ is)) | inr stays ↦ stays ]

  not_turned : (p : ℕ) → map_of.contains_key space p ≡ false → set.contains turned p ≡ false
  not_turned p none = elim (cases_Bool (set.contains turned p)) [ inl is ↦ absurd (false≢true (sym none ∙ are.within p (are.turned_pinned p is))) | inr never ↦ never ]

  -- images of pinned are.pages and written ones stay, and filled ones are there
  pub from_space : (p : ℕ) (image : PageImage) → map_of.get space p ≡ Some image → set.contains pinned p ≡ true → IsHere now_space now_written p image
  from_space p image on is = elim (cases_Bool (set.contains turned p)) [
    | inl turns ↦ inr (are.placed.turns p turns ∙ on)
    | inr stays ↦ inl (are.placed.stays p stays (not_freed p is) (λ there. not_filled p (Contains-append_right first second p there) (ap is_some on)) ∙ on)
  ]

  pub from_written : (p : ℕ) (image : PageImage) → map_of.get written p ≡ Some image → IsHere now_space now_written p image
  from_written p image on =
      inr (are.placed.stay_written p (not_turned p none) (λ there. none_some image _ (sym (are.filled_apart p ((are.pages p).1 (Contains-append_left first second p there))).0 ∙ on)) ∙ on)
    where
      none : map_of.contains_key space p ≡ false
      none = elim (cases_Bool (map_of.contains_key space p)) [ inl here ↦ none_some image _ (sym (are.apart p here) ∙ on) | inr never ↦ never ]

  pub from_filled : (p : ℕ) (image : PageImage) → map_of.get filled p ≡ Some image → IsHere now_space now_written p image
  from_filled p image on = elim (Contains-append_cases first second p ((are.pages p).0 (ap is_some on))) [
    | inl there ↦ inr (are.placed.persistent p there ∙ on)
    | inr there ↦ inl (are.placed.volatile p there ∙ on)
  ]

  -- and no others
  pub origin : (p : ℕ) (image : PageImage) → IsHere now_space now_written p image
      → ((map_of.get space p ≡ Some image) × (set.contains pinned p ≡ true)) ⊎ ((map_of.get written p ≡ Some image) ⊎ (map_of.get filled p ≡ Some image))
  origin p image (inl on) = elim (among second p) [
    | inl there ↦ inr (inr (sym (are.placed.volatile p there) ∙ on))
    | inr away ↦ elim (cases_Bool (set.contains turned p)) [
      | inl turns ↦ none_some image _ (sym (are.placed.gone p (inl turns) away) ∙ on)
      | inr stays ↦ elim (cases_Bool (set.contains freed p)) [
        | inl out ↦ none_some image _ (sym (are.placed.gone p (inr out) away) ∙ on)
        | inr kept ↦ (let was = sym (are.placed.stays p stays kept away) ∙ on in inl (was, pinned_by was kept))
      ]
    ]
  ]
    where
      pinned_by : map_of.get space p ≡ Some image → set.contains freed p ≡ false → set.contains pinned p ≡ true
      pinned_by was kept = elim (cases_Bool (set.contains pinned p)) [ inl is ↦ is | inr none ↦ absurd (false≢true (sym kept ∙ (are.frees p).1 (ap is_some was, none))) ]
  origin p image (inr on) = elim (cases_Bool (set.contains turned p)) [
    | inl turns ↦ inl (sym (are.placed.turns p turns) ∙ on, are.turned_pinned p turns)
    | inr stays ↦ elim (among first p) [
      | inl there ↦ inr (inr (sym (are.placed.persistent p there) ∙ on))
      | inr away ↦ inr (inl (sym (are.placed.stay_written p stays away) ∙ on))
    ]
  ]

  -- the are.pages of each kind
  pub written_now : (p : ℕ) → (map_of.contains_key now_written p ≡ true) ↔ ((map_of.contains_key written p ≡ true) ⊎ ((set.contains turned p ≡ true) ⊎ Contains first p))
  written_now p = (on, back)
    where
      on : map_of.contains_key now_written p ≡ true → (map_of.contains_key written p ≡ true) ⊎ ((set.contains turned p ≡ true) ⊎ Contains first p)
      on is = elim (cases_Bool (set.contains turned p)) [
        | inl turns ↦ inr (inl turns)
        | inr stays ↦ elim (among first p) [ inl there ↦ inr (inr there) | inr away ↦ inl (sym (ap is_some (are.placed.stay_written p stays away)) ∙ is) ]
      ]

      back : (map_of.contains_key written p ≡ true) ⊎ ((set.contains turned p ≡ true) ⊎ Contains first p) → map_of.contains_key now_written p ≡ true
      back (inl was) = ap is_some (are.placed.stay_written p (not_turned p none) (λ there. false≢true (sym (ap is_some (are.filled_apart p ((are.pages p).1 (Contains-append_left first second p there))).0) ∙ was))) ∙ was
        where
          none : map_of.contains_key space p ≡ false
          none = elim (cases_Bool (map_of.contains_key space p)) [ inl here ↦ absurd (false≢true (sym (ap is_some (are.apart p here)) ∙ was)) | inr never ↦ never ]
      back (inr (inl turns)) = ap is_some (are.placed.turns p turns) ∙ are.within p (are.turned_pinned p turns)
      back (inr (inr there)) = ap is_some (are.placed.persistent p there) ∙ (are.pages p).1 (Contains-append_left first second p there)

  pub space_now : (p : ℕ) → (map_of.contains_key now_space p ≡ true) ↔ (((set.contains pinned p ≡ true) × (set.contains turned p ≡ false)) ⊎ Contains second p)
  space_now p = (on, back)
    where
      on : map_of.contains_key now_space p ≡ true → ((set.contains pinned p ≡ true) × (set.contains turned p ≡ false)) ⊎ Contains second p
      on is = elim (among second p) [
        | inl there ↦ inr there
        | inr away ↦ elim (cases_Bool (set.contains turned p)) [
          | inl turns ↦ absurd (false≢true (sym (ap is_some (are.placed.gone p (inl turns) away)) ∙ is))
          | inr stays ↦ elim (cases_Bool (set.contains freed p)) [
            | inl out ↦ absurd (false≢true (sym (ap is_some (are.placed.gone p (inr out) away)) ∙ is))
            | inr kept ↦ elim (cases_Bool (set.contains pinned p)) [
              | inl pin ↦ inl (pin, stays)
              | inr none ↦ absurd (false≢true (sym kept ∙ (are.frees p).1 (sym (ap is_some (are.placed.stays p stays kept away)) ∙ is, none)))
            ]
          ]
        ]
      ]

      back : ((set.contains pinned p ≡ true) × (set.contains turned p ≡ false)) ⊎ Contains second p → map_of.contains_key now_space p ≡ true
      back (inl (pin, stays)) = ap is_some (are.placed.stays p stays (not_freed p pin) (λ there. not_filled p (Contains-append_right first second p there) (are.within p pin))) ∙ are.within p pin
      back (inr there) = ap is_some (are.placed.volatile p there) ∙ (are.pages p).1 (Contains-append_right first second p there)

  -- no page is of both kinds
  pub apart_now : (p : ℕ) → map_of.contains_key now_space p ≡ true → map_of.get now_written p ≡ None
  apart_now p is = elim (cases_Bool (map_of.contains_key now_written p)) [ inl other ↦ absurd (clash ((space_now p).0 is) ((written_now p).0 other)) | inr none ↦ no_page (map_of.get now_written p) none ]
    where
      clash : ((set.contains pinned p ≡ true) × (set.contains turned p ≡ false)) ⊎ Contains second p → (map_of.contains_key written p ≡ true) ⊎ ((set.contains turned p ≡ true) ⊎ Contains first p) → ⊥
      clash (inl (pin, stays)) (inl was) = false≢true (sym (ap is_some (are.apart p (are.within p pin))) ∙ was)
      clash (inl (pin, stays)) (inr (inl turns)) = false≢true (sym stays ∙ turns)
      clash (inl (pin, stays)) (inr (inr there)) = not_filled p (Contains-append_left first second p there) (are.within p pin)
      clash (inr there) (inl was) = false≢true (sym (ap is_some (are.filled_apart p ((are.pages p).1 (Contains-append_right first second p there))).0) ∙ was)
      clash (inr there) (inr (inl turns)) = not_filled p (Contains-append_right first second p there) (are.within p (are.turned_pinned p turns))
      clash (inr there) (inr (inr other)) = are.lists_apart p other there

  -- they have the form
  pub sound_now : (catalog : List Fields) (base : ℕ) (images : Images) → AreSoundPages catalog base 16384 space → AreSoundPages catalog base 16384 written → AreSoundPages catalog base 16384 filled
      → ((p : ℕ) (image : PageImage) → map_of.get images p ≡ Some image → IsHere now_space now_written p image) → AreSoundPages catalog base 16384 images
  sound_now catalog base images of_space of_written of_filled here = record {
    home = λ p image on. elim (origin p image (here p image on)) [ inl was ↦ of_space.home p image was.0 | inr others ↦ elim others [ inl was ↦ of_written.home p image was | inr was ↦ of_filled.home p image was ] ];
    low = λ p is. (let there = some_of (map_of.get images p) is in elim (origin p there.0 (here p there.0 there.1)) [
      | inl was ↦ of_space.low p (ap is_some was.0)
      | inr others ↦ elim others [ inl was ↦ of_written.low p (ap is_some was) | inr was ↦ of_filled.low p (ap is_some was) ]
    ]);
    form = λ p image on. elim (origin p image (here p image on)) [ inl was ↦ of_space.form p image was.0 | inr others ↦ elim others [ inl was ↦ of_written.form p image was | inr was ↦ of_filled.form p image was ] ];
  }
