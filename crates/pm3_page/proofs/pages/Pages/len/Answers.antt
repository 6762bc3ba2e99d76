use Rattle.std.proofs.Common.{rules, ◌≡◌, length, sym, ap, ◌∙◌, arith, vec_len}
use Rattle.pm3_page.specs.PageMap.{PageMap, images_of}
use Rattle.std.specs.FinMap as map
use Rattle.pm3_page.proofs.PageMaps.{few_images, len-images_of}
use Rattle.pm3_page.proofs.pages.Pages.len.Goals as goal

pub overflow_cast-result : goal.overflow_cast-result
overflow_cast-result c =
    let few = few_images c.self.inside.slots.by_page.items c.self.inside.slots.homes.items c.self.inside.slots.held.words.items c.self.inside.images.items c.self.invariant.index c.self.invariant.as_many in
    let view : images_of c.self.inside.slots.by_page.items c.self.inside.images.items ≡ c.args.self.now.images = ap (λ (m : PageMap). m.images) c.self.view_is in
    let len : vec_len c.self.inside.images ≡ length c.self.inside.images.items = search rules in
    omega (arith, c.len.ensures)

pub returns-clause-count : goal.returns-clause-count
returns-clause-count c =
    let few = few_images c.self.inside.slots.by_page.items c.self.inside.slots.homes.items c.self.inside.slots.held.words.items c.self.inside.images.items c.self.invariant.index c.self.invariant.as_many in
    let view : images_of c.self.inside.slots.by_page.items c.self.inside.images.items ≡ c.args.self.now.images = ap (λ (m : PageMap). m.images) c.self.view_is in
    let len : vec_len c.self.inside.images ≡ length c.self.inside.images.items = search rules in
    c.len.ensures ∙ len ∙ sym (len-images_of c.self.inside.slots.by_page.items c.self.inside.slots.homes.items c.self.inside.slots.held.words.items c.self.inside.images.items c.self.invariant.index c.self.invariant.as_many) ∙ ap map.len view

pub returns-clause-few : goal.returns-clause-few
returns-clause-few c =
    let few = few_images c.self.inside.slots.by_page.items c.self.inside.slots.homes.items c.self.inside.slots.held.words.items c.self.inside.images.items c.self.invariant.index c.self.invariant.as_many in
    let view : images_of c.self.inside.slots.by_page.items c.self.inside.images.items ≡ c.args.self.now.images = ap (λ (m : PageMap). m.images) c.self.view_is in
    let len : vec_len c.self.inside.images ≡ length c.self.inside.images.items = search rules in
    omega (arith, c.len.ensures)
