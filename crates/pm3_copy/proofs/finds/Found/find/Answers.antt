use Rattle.std.proofs.Common.{◌≡◌, ◌<◌, ◌∙◌, ℕ, true, false, get_or, set, length, ap, sym, subst, arith, rules, length-set}
use Rattle.std.proofs.lemmas.List.{get_or_default}
use Rattle.pm3_core.specs.declared.naming.TheConstants.{BASE}
use Rattle.pm3_copy.specs.Blocks.{slot_of, AreWaiting}
use Rattle.pm3_copy.proofs.Waiting.{adds_nothing, no_place, no_mark, room, waiting_less, adds_word}
use Rattle.pm3_copy.proofs.finds.Found.find.Goals as goal

pub returns-in_default : goal.returns-in_default
returns-in_default c = rw (← c.self.view_is) (
    let words = c.self.invariant.1 in
    adds_nothing BASE c.self.inside.blocks.by_page.items c.self.inside.objects.items c.self.inside.waiting.items c.self.inside.list.items c.self.invariant.0 c.args.word
    (λ there away. no_place BASE c.self.inside.blocks.by_page.items c.self.inside.objects.items c.self.inside.waiting.items c.self.inside.list.items c.self.invariant.0 c.args.word
    (λ at low. c.in_default.ensures at (omega arith)) there))

pub returns-then-not-index : goal.returns-then-not-index
returns-then-not-index c = rw (← c.self.view_is) (
    let words = c.self.invariant.1 in
    let inside : c.in-Some.place < length c.self.inside.waiting.items = omega (arith, c.in-Some.ensures.2) in
    let none : get_or c.self.inside.waiting.items (slot_of BASE c.self.inside.blocks.by_page.items c.args.word) false ≡ false =
    ap (λ s. get_or c.self.inside.waiting.items s false) (sym c.in-Some.ensures.1) ∙ sym (c.index.ensures ∙ get_or_default c.self.inside.waiting.items c.in-Some.place c.index.result.now false inside) ∙ c.if-not-index.true in
    adds_nothing BASE c.self.inside.blocks.by_page.items c.self.inside.objects.items c.self.inside.waiting.items c.self.inside.list.items c.self.invariant.0 c.args.word
    (no_mark BASE c.self.inside.blocks.by_page.items c.self.inside.objects.items c.self.inside.waiting.items c.self.inside.list.items c.self.invariant.0 c.args.word c.in-Some.ensures.0 none))

pub unreachable-requires : goal.unreachable-requires
unreachable-requires c =
    let words = c.self.invariant.1 in
    let inside : c.in-Some.place < length c.self.inside.waiting.items = omega (arith, c.in-Some.ensures.2) in
    let low : slot_of BASE c.self.inside.blocks.by_page.items c.args.word < length c.self.inside.waiting.items = omega (arith, c.in-Some.ensures.1, inside) in
    let waits : get_or c.self.inside.waiting.items (slot_of BASE c.self.inside.blocks.by_page.items c.args.word) false ≡ true =
    ap (λ s. get_or c.self.inside.waiting.items s false) (sym c.in-Some.ensures.1) ∙ sym (c.index.ensures ∙ get_or_default c.self.inside.waiting.items c.in-Some.place c.index.result.now false inside) ∙ c.if-not-index.false in
    let short = room BASE c.self.inside.blocks.by_page.items c.self.inside.objects.items c.self.inside.waiting.items c.self.inside.list.items c.self.invariant.0 c.args.word c.in-Some.ensures.0 low waits in
    let most = c.self.invariant.2 in
    search rules

pub invariant_of-self : goal.invariant_of-self
invariant_of-self c =
    let words = c.self.invariant.1 in
    let inside : c.in-Some.place < length c.self.inside.waiting.items = omega (arith, c.in-Some.ensures.2) in
    let low : slot_of BASE c.self.inside.blocks.by_page.items c.args.word < length c.self.inside.waiting.items = omega (arith, c.in-Some.ensures.1, inside) in
    let waits : get_or c.self.inside.waiting.items (slot_of BASE c.self.inside.blocks.by_page.items c.args.word) false ≡ true =
    ap (λ s. get_or c.self.inside.waiting.items s false) (sym c.in-Some.ensures.1) ∙ sym (c.index.ensures ∙ get_or_default c.self.inside.waiting.items c.in-Some.place c.index.result.now false inside) ∙ c.if-not-index.false in
    let less = waiting_less BASE c.self.inside.blocks.by_page.items c.self.inside.objects.items c.self.inside.waiting.items c.self.inside.list.items c.self.invariant.0 c.args.word c.in-Some.ensures.0 low waits in
    let most = c.self.invariant.2 in (
      subst (λ (s : ℕ). AreWaiting BASE c.self.inside.blocks.by_page.items c.self.inside.objects.items (set c.self.inside.waiting.items s false) c.push.new.self.items) (sym c.in-Some.ensures.1)
          (subst (AreWaiting BASE c.self.inside.blocks.by_page.items c.self.inside.objects.items (set c.self.inside.waiting.items (slot_of BASE c.self.inside.blocks.by_page.items c.args.word) false)) (sym c.in-Ok.ensures.items) less),
      words ∙ sym (length-set c.self.inside.waiting.items c.in-Some.place false),
      omega (arith, most, c.in-Ok.ensures.capacity),
    )

pub returns : goal.returns
returns c = rw (← c.self.view_is) (
    let words = c.self.invariant.1 in
    let inside : c.in-Some.place < length c.self.inside.waiting.items = omega (arith, c.in-Some.ensures.2) in
    let low : slot_of BASE c.self.inside.blocks.by_page.items c.args.word < length c.self.inside.waiting.items = omega (arith, c.in-Some.ensures.1, inside) in
    let waits : get_or c.self.inside.waiting.items (slot_of BASE c.self.inside.blocks.by_page.items c.args.word) false ≡ true =
    ap (λ s. get_or c.self.inside.waiting.items s false) (sym c.in-Some.ensures.1) ∙ sym (c.index.ensures ∙ get_or_default c.self.inside.waiting.items c.in-Some.place c.index.result.now false inside) ∙ c.if-not-index.false in
    let pushed = c.in-Ok.ensures.items in
    adds_word BASE c.self.inside.blocks.by_page.items c.self.inside.objects.items c.self.inside.waiting.items c.self.inside.list.items c.self.invariant.0 c.args.word c.in-Some.ensures.0 low waits
    (record { objects = c.self.inside.objects.items; list = c.push.new.self.items }) (λ i. record { objects = c.self.inside.objects.items; list = pushed i }))
