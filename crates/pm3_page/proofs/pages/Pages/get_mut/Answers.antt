use Rattle.std.proofs.Common.{rules, ◌≡◌, ℕ, ◌<◌, length, set, refl, sym, ap, ◌∙◌, arith, inl, inr, Some, None, vec_len}
use Rattle.pm3_page.specs.PageMap.{slot_of}
use Rattle.pm3_page.specs.PageMap.{PageMap, images_of}
use Rattle.pm3_types.specs.Layout.{PageImage}
use Rattle.std.specs.FinMap as map
use Rattle.pm3_page.proofs.PageMaps.{get-images_of, few_images, images_set, copied_get_mut}
use borrow.Follows.Closed.{read_of}
use Rattle.std.specs.Option.{IsSome, ghost_name_of, option_copied_mut}
use Rattle.std.specs.Borrow.{MutBor}
use Rattle.std.specs.Prelude.{slice_get, Option}
use Rattle.pm3_page.specs.PageLends.{with_image}
use Rattle.pm3_page.proofs.pages.Pages.get_mut.Goals as goal

-- what is lent, by cases
lent : (r : Option (MutBor PageImage)) (F G : PageImage → PageMap) (v w : PageMap) → (IsSome r → (image : PageImage) → F image ≡ G image) → v ≡ w
    → read_of (ghost_name_of r) F v ≡ read_of (ghost_name_of r) G w
lent None F G v w written same = λ i. inr (same i)
lent (Some x) F G v w written same = λ i. inl (x.ghost_name, λ image. written refl image i)

pub returns : goal.returns
returns c =
    let few = few_images c.self.inside.slots.by_page.items c.self.inside.slots.homes.items c.self.inside.slots.held.words.items c.self.inside.images.items c.self.invariant.index c.self.invariant.as_many in
    let view : images_of c.self.inside.slots.by_page.items c.self.inside.images.items ≡ c.args.self.now.images = ap (λ (m : PageMap). m.images) c.self.view_is in
    let len : vec_len c.self.inside.images ≡ length c.self.inside.images.items = search rules in
    let copied : option_copied_mut c.get_mut.result ≡ slice_get c.self.inside.images.items c.slot-slot.result =
    copied_get_mut c.get_mut.result c.self.inside.images.items c.slot-slot.result (λ there. let lt = c.get_mut.ensures.variant.0 there in omega arith) (λ lt. c.get_mut.ensures.variant.1 (omega arith)) c.get_mut.ensures.value in
    let written : (image : PageImage) → slot_of c.self.inside.slots.by_page.items c.args.page < length c.self.inside.images.items → images_of c.self.inside.slots.by_page.items (set c.self.inside.images.items c.slot-slot.result image) ≡ map.insert c.args.self.now.images c.args.page image =
    λ image lt. ap (λ (i : ℕ). images_of c.self.inside.slots.by_page.items (set c.self.inside.images.items i image)) c.slot-slot.ensures
    ∙ images_set c.self.inside.slots.by_page.items c.self.inside.slots.homes.items c.self.inside.slots.held.words.items c.self.inside.images.items c.self.invariant.index c.self.invariant.as_many c.args.page image lt ∙ ap (λ m. map.insert m c.args.page image) view in (
      lent c.get_mut.result _ (with_image c.args.self.now c.args.page) _ c.args.self.now
          (λ there w i. record { images = written w (omega (arith, c.get_mut.ensures.variant.0 there, c.slot-slot.ensures)) i; spare = (c.self.view_is i).spare }) c.self.view_is,
      record {
        writes_back = tt;
        value = copied ∙ ap (slice_get c.self.inside.images.items) c.slot-slot.ensures ∙ sym (get-images_of c.self.inside.slots.by_page.items c.self.inside.images.items c.args.page (omega arith)) ∙ ap (λ m. map.get m c.args.page) view;
      },
    )
