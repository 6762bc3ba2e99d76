use Rattle.std.proofs.Common.{rules, ◌≡◌, ℕ, ◌+◌, ◌-◌, ◌<◌, length, get_or, sym, ap, ◌∙◌, arith, None, vec_len}
use Rattle.pm3_page.specs.PageMap.{slot_of}
use Rattle.pm3_page.specs.PageMap.{PageMap, images_of}
use Rattle.std.specs.FinMap as map
use Rattle.pm3_page.proofs.PageMaps.{few_images, images_take, remove_absent, get_none, get_some}
use Rattle.pm3_page.proofs.pages.Pages.take.Goals as goal

pub returns-then-slot-len-clause-image : goal.returns-then-slot-len-clause-image
returns-then-slot-len-clause-image c =
    let few = few_images c.self.inside.slots.by_page.items c.self.inside.slots.homes.items c.self.inside.slots.held.words.items c.self.inside.images.items c.self.invariant.index c.self.invariant.as_many in
    let view : images_of c.self.inside.slots.by_page.items c.self.inside.images.items ≡ c.args.self.now.images = ap (λ (m : PageMap). m.images) c.self.view_is in
    let len : vec_len c.self.inside.images ≡ length c.self.inside.images.items = search rules in
    let none : map.get (images_of c.self.inside.slots.by_page.items c.self.inside.images.items) c.args.page ≡ None = get_none c.self.inside.slots.by_page.items c.self.inside.images.items c.args.page (omega arith) (omega (arith, c.if-slot-len.true, c.len.ensures, c.slot-slot.ensures)) in
    let now : map.get c.args.self.now.images c.args.page ≡ None = ap (λ m. map.get m c.args.page) (sym view) ∙ none in
    sym now

pub returns-then-slot-len-clause-images : goal.returns-then-slot-len-clause-images
returns-then-slot-len-clause-images c =
    let few = few_images c.self.inside.slots.by_page.items c.self.inside.slots.homes.items c.self.inside.slots.held.words.items c.self.inside.images.items c.self.invariant.index c.self.invariant.as_many in
    let view : images_of c.self.inside.slots.by_page.items c.self.inside.images.items ≡ c.args.self.now.images = ap (λ (m : PageMap). m.images) c.self.view_is in
    let len : vec_len c.self.inside.images ≡ length c.self.inside.images.items = search rules in
    let none : map.get (images_of c.self.inside.slots.by_page.items c.self.inside.images.items) c.args.page ≡ None = get_none c.self.inside.slots.by_page.items c.self.inside.images.items c.args.page (omega arith) (omega (arith, c.if-slot-len.true, c.len.ensures, c.slot-slot.ensures)) in
    let now : map.get c.args.self.now.images c.args.page ≡ None = ap (λ m. map.get m c.args.page) (sym view) ∙ none in
    remove_absent c.args.self.now.images c.args.page now

pub returns-clause-image : goal.returns-clause-image
returns-clause-image c =
    let few = few_images c.self.inside.slots.by_page.items c.self.inside.slots.homes.items c.self.inside.slots.held.words.items c.self.inside.images.items c.self.invariant.index c.self.invariant.as_many in
    let view : images_of c.self.inside.slots.by_page.items c.self.inside.images.items ≡ c.args.self.now.images = ap (λ (m : PageMap). m.images) c.self.view_is in
    let len : vec_len c.self.inside.images ≡ length c.self.inside.images.items = search rules in
    let at : slot_of c.self.inside.slots.by_page.items c.args.page < length c.self.inside.images.items = omega (arith, c.if-slot-len.false, c.len.ensures, c.slot-slot.ensures) in
    let read : c.swap_remove.result ≡ get_or c.self.inside.images.items (slot_of c.self.inside.slots.by_page.items c.args.page) c.swap_remove.result = c.swap_remove.ensures.value ∙ ap (λ (i : ℕ). get_or c.self.inside.images.items i c.swap_remove.result) c.slot-slot.ensures in
    sym (ap (λ m. map.get m c.args.page) (sym view) ∙ get_some c.self.inside.slots.by_page.items c.self.inside.images.items c.args.page c.swap_remove.result (omega arith) at read)

pub returns-clause-images : goal.returns-clause-images
returns-clause-images c =
    let few = few_images c.self.inside.slots.by_page.items c.self.inside.slots.homes.items c.self.inside.slots.held.words.items c.self.inside.images.items c.self.invariant.index c.self.invariant.as_many in
    let view : images_of c.self.inside.slots.by_page.items c.self.inside.images.items ≡ c.args.self.now.images = ap (λ (m : PageMap). m.images) c.self.view_is in
    let len : vec_len c.self.inside.images ≡ length c.self.inside.images.items = search rules in
    let at : slot_of c.self.inside.slots.by_page.items c.args.page < length c.self.inside.images.items = omega (arith, c.if-slot-len.false, c.len.ensures, c.slot-slot.ensures) in
    let one_less : length c.swap_remove.new.self.items + 1 ≡ length c.self.inside.images.items = search rules in
    images_take c.self.inside.slots.by_page.items c.self.inside.slots.homes.items c.self.inside.slots.held.words.items c.self.inside.images.items c.self.invariant.index c.self.invariant.as_many c.take.new.self.by_page.items c.swap_remove.new.self.items c.args.page c.slot-slot.result c.swap_remove.result c.slot-slot.ensures (omega (arith, c.slot-slot.ensures)) one_less
    (λ lt. c.swap_remove.ensures.by_index.0 c.swap_remove.result (omega arith) ∙ ap (λ (n : ℕ). get_or c.self.inside.images.items (n - 1) c.swap_remove.result) len)
    (λ k ne lt. c.swap_remove.ensures.by_index.1 k c.swap_remove.result ne (omega arith))
    c.take.ensures.slots
    ∙ ap (λ m. map.remove m c.args.page) view
