use Rattle.std.proofs.Common.{◌≡◌, ◌∙◌, ◌↔◌, Bool, true, false, not, IsTrue, get_or, length, vec_len, ap, sym, arith, rules}
use Rattle.std.proofs.lemmas.Bool.{false≢true}
use Rattle.std.proofs.lemmas.List.{get_or_default}
use Rattle.std.proofs.lemmas.List.Elements.{Contains-get_or}
use Rattle.pm3_core.specs.declared.naming.TheConstants.{BASE}
use Rattle.pm3_copy.specs.Blocks.{slot_of}
use Rattle.pm3_copy.proofs.Numbered.{slot_low}
use Rattle.pm3_copy.proofs.Waiting.{is_found}
use Rattle.pm3_copy.proofs.finds.Found.is_found.Goals as goal

pub index-requires : goal.index-requires
index-requires c =
    let low = rw (← c.self.view_is) at c.requires in
    let len : vec_len c.self.inside.objects ≡ length c.self.inside.objects.items = search rules in
    omega arith

pub index-requires-2 : goal.index-requires-2
index-requires-2 c =
    let low = rw (← c.self.view_is) at c.requires in
    let are = c.self.invariant.0 in
    let at : c.index.result.now ≡ get_or c.self.inside.objects.items c.args.i 0 = c.index.ensures ∙ get_or_default c.self.inside.objects.items c.args.i c.index.result.now 0 low in
    let slot = c.slot_of.ensures ∙ ap (slot_of BASE c.self.inside.blocks.by_page.items) at in
    let there = slot_low BASE c.self.inside.blocks.by_page.items (length c.self.inside.waiting.items) are.whole (get_or c.self.inside.objects.items c.args.i 0)
    (are.on (get_or c.self.inside.objects.items c.args.i 0) (Contains-get_or c.self.inside.objects.items c.args.i 0 low)).1 in
    let len : vec_len c.self.inside.waiting ≡ length c.self.inside.waiting.items = search rules in
    omega arith

by : (b mark : Bool) (P : Type 0) → (mark ≡ true) ↔ P → b ≡ mark → IsTrue b ↔ P
by true mark P is same = (λ _. is.0 (sym same), λ _. search rules)
by false mark P is same = (λ never. absurd (search rules), λ p. absurd (false≢true (same ∙ is.1 p)))

pub returns : goal.returns
returns c = rw (← c.self.view_is) (
    let low = rw (← c.self.view_is) at c.requires in
    let are = c.self.invariant.0 in
    let a = get_or c.self.inside.objects.items c.args.i 0 in
    let at : c.index.result.now ≡ a = c.index.ensures ∙ get_or_default c.self.inside.objects.items c.args.i c.index.result.now 0 low in
    let slot = c.slot_of.ensures ∙ ap (slot_of BASE c.self.inside.blocks.by_page.items) at in
    let there = Contains-get_or c.self.inside.objects.items c.args.i 0 low in
    let inside = slot_low BASE c.self.inside.blocks.by_page.items (length c.self.inside.waiting.items) are.whole a (are.on a there).1 in
    by (not c.index-2.result.now) (not (get_or c.self.inside.waiting.items (slot_of BASE c.self.inside.blocks.by_page.items a) false)) _
    (is_found BASE c.self.inside.blocks.by_page.items c.self.inside.objects.items c.self.inside.waiting.items c.self.inside.list.items are a there)
    (ap not (c.index-2.ensures ∙ get_or_default c.self.inside.waiting.items c.slot_of.result c.index-2.result.now false (omega arith)
    ∙ ap (λ s. get_or c.self.inside.waiting.items s false) slot)))
