use Rattle.std.proofs.Common.{◌≡◌, ap, ◌∙◌}
use Rattle.pm3_page.specs.PageMap.{PageMap, images_of}
use Rattle.std.specs.FinMap as map
use Rattle.pm3_page.proofs.PageMaps.{few_images, absent_slot, images_put}
use Rattle.pm3_page.proofs.pages.Pages.put.Goals as goal

pub put-requires-clause-absent : goal.put-requires-clause-absent
put-requires-clause-absent c =
    let few = few_images c.self.inside.slots.by_page.items c.self.inside.slots.homes.items c.self.inside.slots.held.words.items c.self.inside.images.items c.self.invariant.index c.self.invariant.as_many in
    let view : images_of c.self.inside.slots.by_page.items c.self.inside.images.items ≡ c.args.self.now.images = ap (λ (m : PageMap). m.images) c.self.view_is in
    let page = c.page-page.ensures.page in
    absent_slot c.self.inside.slots.by_page.items c.self.inside.slots.homes.items c.self.inside.slots.held.words.items c.self.inside.images.items c.self.invariant.index c.self.invariant.as_many c.page-page.result (ap (map.get (images_of c.self.inside.slots.by_page.items c.self.inside.images.items)) page ∙ ap (λ m. map.get m c.args.image.page) view ∙ c.requires.absent)

pub returns-clause-images : goal.returns-clause-images
returns-clause-images c =
    let few = few_images c.self.inside.slots.by_page.items c.self.inside.slots.homes.items c.self.inside.slots.held.words.items c.self.inside.images.items c.self.invariant.index c.self.invariant.as_many in
    let view : images_of c.self.inside.slots.by_page.items c.self.inside.images.items ≡ c.args.self.now.images = ap (λ (m : PageMap). m.images) c.self.view_is in
    let page = c.page-page.ensures.page in
    ap (images_of c.put.new.self.by_page.items) c.in-Ok.ensures.items
    ∙ images_put c.self.inside.slots.by_page.items c.self.inside.slots.homes.items c.self.inside.slots.held.words.items c.self.inside.images.items c.self.invariant.index c.self.invariant.as_many c.put.new.self.by_page.items c.page-page.result c.args.image c.put.ensures.slots
    ∙ (λ i. map.insert (view i) (page i) c.args.image)
