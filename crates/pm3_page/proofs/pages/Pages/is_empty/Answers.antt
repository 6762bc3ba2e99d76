use Rattle.std.proofs.Common.{rules, ◌≡◌, ℕ, eqb, length, sym, ap, ◌∙◌, vec_len}
use Rattle.pm3_page.specs.PageMap.{PageMap, images_of}
use Rattle.pm3_types.specs.Layout.{PageImage}
use Rattle.std.specs.FinMap as map
use Rattle.std.specs.Ordering.{nat_cmp}
use Rattle.pm3_page.proofs.PageMaps.{few_images, len-images_of}
use Rattle.std.proofs.lemmas.Bool.{eqb-true, eq-eqb}
use Rattle.pm3_page.proofs.pages.Pages.is_empty.Goals as goal

pub returns : goal.returns
returns c =
    let few = few_images c.self.inside.slots.by_page.items c.self.inside.slots.homes.items c.self.inside.slots.held.words.items c.self.inside.images.items c.self.invariant.index c.self.invariant.as_many in
    let view : images_of c.self.inside.slots.by_page.items c.self.inside.images.items ≡ c.args.self.now.images = ap (λ (m : PageMap). m.images) c.self.view_is in
    let len : vec_len c.self.inside.images ≡ length c.self.inside.images.items = search rules in
    let number : map.len c.args.self.now.images ≡ length c.self.inside.images.items = ap map.len (sym view) ∙ len-images_of c.self.inside.slots.by_page.items c.self.inside.slots.homes.items c.self.inside.slots.held.words.items c.self.inside.images.items c.self.invariant.index c.self.invariant.as_many in
    let is : c.is_empty.result ≡ eqb (length c.self.inside.images.items) 0 = c.is_empty.ensures ∙ ap (λ (n : ℕ). eqb n 0) len in (
      λ none. map.empty_of_len c.args.self.now.images (number ∙ eqb-true (length c.self.inside.images.items) 0 (sym is ∙ none)),
      λ empty. is ∙ eq-eqb (length c.self.inside.images.items) 0 (sym number ∙ ap map.len empty ∙ map.len-empty nat_cmp PageImage),
    )
