use Rattle.std.proofs.Common.{◌≡◌, sym, ap, ◌∙◌}
use Rattle.pm3_page.specs.Bits.{has_bit}
use Rattle.pm3_page.specs.PageMap.{PageMap, images_of}
use Rattle.std.specs.FinMap as map
use Rattle.pm3_page.proofs.PageMaps.{few_images, contains-images_of}
use Rattle.pm3_page.proofs.Bitmaps.{next_same}
use Rattle.pm3_page.proofs.pages.Pages.next.Goals as goal

pub returns-clause-next : goal.returns-clause-next
returns-clause-next c =
    let few = few_images c.self.inside.slots.by_page.items c.self.inside.slots.homes.items c.self.inside.slots.held.words.items c.self.inside.images.items c.self.invariant.index c.self.invariant.as_many in
    let view : images_of c.self.inside.slots.by_page.items c.self.inside.images.items ≡ c.args.self.now.images = ap (λ (m : PageMap). m.images) c.self.view_is in
    next_same (has_bit c.self.inside.slots.held.words.items) (map.contains_key c.args.self.now.images) c.args.start c.next.result
    (λ q. ap (λ m. map.contains_key m q) (sym view) ∙ contains-images_of c.self.inside.slots.by_page.items c.self.inside.slots.homes.items c.self.inside.slots.held.words.items c.self.inside.images.items c.self.invariant.index c.self.invariant.as_many q) c.next.ensures.next
