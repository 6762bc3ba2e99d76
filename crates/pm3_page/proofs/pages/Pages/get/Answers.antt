use Rattle.std.proofs.Common.{◌≡◌, sym, ap, ◌∙◌, arith}
use Rattle.pm3_page.specs.PageMap.{PageMap, images_of}
use Rattle.std.specs.FinMap as map
use Rattle.pm3_page.proofs.PageMaps.{get-images_of, few_images, copied_get}
use Rattle.std.specs.Option.{option_copied}
use Rattle.std.specs.Prelude.{slice_get}
use Rattle.pm3_page.proofs.pages.Pages.get.Goals as goal

pub returns : goal.returns
returns c =
    let few = few_images c.self.inside.slots.by_page.items c.self.inside.slots.homes.items c.self.inside.slots.held.words.items c.self.inside.images.items c.self.invariant.index c.self.invariant.as_many in
    let view : images_of c.self.inside.slots.by_page.items c.self.inside.images.items ≡ c.args.self.now.images = ap (λ (m : PageMap). m.images) c.self.view_is in
    let copied : option_copied c.get.result ≡ slice_get c.self.inside.images.items c.slot.result = rw (← c.deref.ensures.value) (copied_get c.get.result c.deref.result.now c.slot.result c.get.ensures.lookup.0 c.get.ensures.lookup.1) in
    copied ∙ ap (slice_get c.self.inside.images.items) c.slot.ensures ∙ sym (get-images_of c.self.inside.slots.by_page.items c.self.inside.images.items c.args.page (omega arith)) ∙ ap (λ m. map.get m c.args.page) view
