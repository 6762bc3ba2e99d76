-- One image, under its page.
use Rattle.std.proofs.Common.{◌≡◌, ℕ, ◌<◌, ◌≤◌, Bool, true, false, cond, List, Some, None, refl, sym, ap, subst, ◌∙◌}
use Rattle.std.specs.declared.cmp.Ordering.{Ordering}
use Rattle.std.specs.declared.cmp.Ordering.TheVariants.{Less, Equal, Greater}
use Rattle.std.specs.Ordering.{nat_cmp, eq_by_cmp, is_eq}
use Rattle.std.specs.Cmp.{nat_cmp_total}
use Rattle.std.specs.FinMap as map
use Rattle.std.specs.FinMap.{nat_cmp-IsAntisymmetric}
use Rattle.pm3_types.specs.Fields.{Fields}
use Rattle.pm3_types.specs.Layout.{PageImage}
use Rattle.pm3_types.specs.PageForm.{IsSound}
use Rattle.pm3_page.specs.PageMap.{Images}
use Rattle.pm3_pagefile.specs.Writing.{AreWritable}

abbrev pub alone_images : PageImage → Images
alone_images image = map.insert map.empty image.page image

picked : (b : Bool) (x y : PageImage) → cond b (Some x) None ≡ Some y → (b ≡ true) × (x ≡ y)
picked true x y is = (refl, cc)
picked false x y is = absurd (cc is)

equal_is : (r : Ordering) → is_eq r ≡ true → r ≡ Equal
equal_is Less is = absurd (cc is)
equal_is Equal is = refl
equal_is Greater is = absurd (cc is)

-- what is there is the image, under its own page
there : (image other : PageImage) (page : ℕ) → map.get (alone_images image) page ≡ Some other → (page ≡ image.page) × (image ≡ other)
there image other page is =
    let looked : cond (eq_by_cmp nat_cmp page image.page) (Some image) None ≡ Some other =
    ap (cond (eq_by_cmp nat_cmp page image.page) (Some image)) (sym (map.get-empty nat_cmp page)) ∙ sym (map.get-insert nat_cmp_total map.empty image.page image page) ∙ is
    in
    let parts = picked (eq_by_cmp nat_cmp page image.page) image other looked in
    (nat_cmp-IsAntisymmetric page image.page (equal_is (nat_cmp page image.page) parts.0), parts.1)

pub alone_writable : (catalog : List Fields) (base pages : ℕ) (image : PageImage) (images : Images) → images ≡ alone_images image → (2 ≤ image.page) × (image.page < pages)
    → IsSound catalog base 16384 image → AreWritable catalog base pages images
alone_writable catalog base pages image images is place sound = subst (AreWritable catalog base pages) (sym is) (record {
  within = λ page other at. subst (λ (p : ℕ). (2 ≤ p) × (p < pages)) (sym (there image other page at).0) place;
  sound = λ page other at. subst (IsSound catalog base 16384) (there image other page at).1 sound;
})

pub nothing_there : (images : Images) (page : ℕ) → images ≡ map.empty → map.get images page ≡ None
nothing_there images page is = ap (λ (m : Images). map.get m page) is ∙ map.get-empty nat_cmp page
