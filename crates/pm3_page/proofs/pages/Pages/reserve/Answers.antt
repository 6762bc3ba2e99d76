use Rattle.std.proofs.Common.{◌≡◌, ap, ◌∙◌, arith}
use Rattle.pm3_page.specs.PageMap.{PageMap, images_of}
use Rattle.pm3_page.proofs.PageMaps.{same_images, few_images}
use Rattle.pm3_page.proofs.pages.Pages.reserve.Goals as goal

pub returns-in_default-clause-images : goal.returns-in_default-clause-images
returns-in_default-clause-images c =
    let few = few_images c.self.inside.slots.by_page.items c.self.inside.slots.homes.items c.self.inside.slots.held.words.items c.self.inside.images.items c.self.invariant.index c.self.invariant.as_many in
    let view : images_of c.self.inside.slots.by_page.items c.self.inside.images.items ≡ c.args.self.now.images = ap (λ (m : PageMap). m.images) c.self.view_is in
    let images : images_of c.reserve.new.self.by_page.items c.self.inside.images.items ≡ c.args.self.now.images = same_images c.self.inside.slots.by_page.items c.reserve.new.self.by_page.items c.self.inside.images.items (omega arith) c.in_default.ensures.slots ∙ view in
    images

pub returns-in_default-clause-refused : goal.returns-in_default-clause-refused
returns-in_default-clause-refused c =
    let few = few_images c.self.inside.slots.by_page.items c.self.inside.slots.homes.items c.self.inside.slots.held.words.items c.self.inside.images.items c.self.invariant.index c.self.invariant.as_many in
    let view : images_of c.self.inside.slots.by_page.items c.self.inside.images.items ≡ c.args.self.now.images = ap (λ (m : PageMap). m.images) c.self.view_is in
    let images : images_of c.reserve.new.self.by_page.items c.self.inside.images.items ≡ c.args.self.now.images = same_images c.self.inside.slots.by_page.items c.reserve.new.self.by_page.items c.self.inside.images.items (omega arith) c.in_default.ensures.slots ∙ view in
    λ i. record { images = images i; spare = (c.self.view_is i).spare }

pub returns-in_default-reserve-clause-images : goal.returns-in_default-reserve-clause-images
returns-in_default-reserve-clause-images c =
    let few = few_images c.self.inside.slots.by_page.items c.self.inside.slots.homes.items c.self.inside.slots.held.words.items c.self.inside.images.items c.self.invariant.index c.self.invariant.as_many in
    let view : images_of c.self.inside.slots.by_page.items c.self.inside.images.items ≡ c.args.self.now.images = ap (λ (m : PageMap). m.images) c.self.view_is in
    let images : images_of c.reserve.new.self.by_page.items c.reserve-2.new.self.items ≡ c.args.self.now.images = ap (images_of c.reserve.new.self.by_page.items) c.in_default-reserve.ensures.items ∙ same_images c.self.inside.slots.by_page.items c.reserve.new.self.by_page.items c.self.inside.images.items (omega arith) c.in-Ok.ensures.slots ∙ view in
    images

pub returns-in_default-reserve-clause-refused : goal.returns-in_default-reserve-clause-refused
returns-in_default-reserve-clause-refused c =
    let few = few_images c.self.inside.slots.by_page.items c.self.inside.slots.homes.items c.self.inside.slots.held.words.items c.self.inside.images.items c.self.invariant.index c.self.invariant.as_many in
    let view : images_of c.self.inside.slots.by_page.items c.self.inside.images.items ≡ c.args.self.now.images = ap (λ (m : PageMap). m.images) c.self.view_is in
    let images : images_of c.reserve.new.self.by_page.items c.reserve-2.new.self.items ≡ c.args.self.now.images = ap (images_of c.reserve.new.self.by_page.items) c.in_default-reserve.ensures.items ∙ same_images c.self.inside.slots.by_page.items c.reserve.new.self.by_page.items c.self.inside.images.items (omega arith) c.in-Ok.ensures.slots ∙ view in
    λ i. record { images = images i; spare = (c.self.view_is i).spare }

pub returns-clause-images : goal.returns-clause-images
returns-clause-images c =
    let few = few_images c.self.inside.slots.by_page.items c.self.inside.slots.homes.items c.self.inside.slots.held.words.items c.self.inside.images.items c.self.invariant.index c.self.invariant.as_many in
    let view : images_of c.self.inside.slots.by_page.items c.self.inside.images.items ≡ c.args.self.now.images = ap (λ (m : PageMap). m.images) c.self.view_is in
    let images : images_of c.reserve.new.self.by_page.items c.reserve-2.new.self.items ≡ c.args.self.now.images = ap (images_of c.reserve.new.self.by_page.items) c.in-Ok-reserve.ensures.items ∙ same_images c.self.inside.slots.by_page.items c.reserve.new.self.by_page.items c.self.inside.images.items (omega arith) c.in-Ok.ensures.slots ∙ view in
    images
