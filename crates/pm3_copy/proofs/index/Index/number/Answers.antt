use Rattle.std.proofs.Common.{◌≡◌, ◌<◌, ◌≤◌, ◌+◌, ◌∙◌, ℕ, length, get_or, set, vec_len, sym, ap, subst, arith, rules}
use Rattle.std.proofs.lemmas.List.Elements.{Contains-get_or}
use Rattle.pm3_core.specs.declared.naming.TheConstants.{BASE}
use Rattle.pm3_copy.specs.Blocks.{slot_of, number_of}
use Rattle.pm3_copy.specs.declared.blocks.Blocks.{Blocks}
use Rattle.pm3_copy.proofs.Numbered.{AreNumberedBelow, slot_low, below_more, below_others}
use Rattle.pm3_copy.proofs.index.Index.number.Goals as goal

pub index_mut-requires : goal.index_mut-requires
index_mut-requires c =
    let a = get_or c.args.list.now c.loop-i.i 0 in
    let slot : c.slot_of-slot.result ≡ slot_of BASE c.args.self.now.blocks.by_page.items a = c.slot_of-slot.ensures ∙ ap (λ (blocks : Blocks). slot_of BASE blocks.by_page.items a) c.loop-i.invariant.blocks in
    let low : c.loop-i.i < length c.args.list.now = search rules in
    let there = slot_low BASE c.args.self.now.blocks.by_page.items c.args.self.now.blocks.words c.requires.blocks a (c.requires.on_blocks a (Contains-get_or c.args.list.now c.loop-i.i 0 low)).1 in
    let long = c.loop-i.invariant.numbers.long in
    let words = c.requires.long in
    let len : vec_len c.loop-i.self.numbers ≡ length c.loop-i.self.numbers.items = search rules in
    omega arith

pub loop-i-preserved : goal.loop-i-preserved
loop-i-preserved c =
    let a = get_or c.args.list.now c.loop-i.i 0 in
    let slot : c.slot_of-slot.result ≡ slot_of BASE c.args.self.now.blocks.by_page.items a = c.slot_of-slot.ensures ∙ ap (λ (blocks : Blocks). slot_of BASE blocks.by_page.items a) c.loop-i.invariant.blocks in
    let low : c.loop-i.i < length c.args.list.now = search rules in
    record {
      blocks = c.loop-i.invariant.blocks;
      numbers =
          subst (λ (s : ℕ). AreNumberedBelow BASE c.args.self.now.blocks.by_page.items c.args.first c.args.list.now (c.loop-i.i + 1) c.args.self.now.numbers.items (set c.loop-i.self.numbers.items s (c.args.first + c.loop-i.i))) (sym slot)
          (below_more BASE c.args.self.now.blocks.by_page.items c.args.first c.args.list.now c.args.self.now.numbers.items c.args.self.now.blocks.words c.requires.long c.requires.blocks c.requires.on_blocks c.requires.rising
          c.loop-i.i c.loop-i.self.numbers.items low c.loop-i.invariant.numbers);
    }

pub returns-clause-numbered : goal.returns-clause-numbered
returns-clause-numbered c i low =
    ap (λ (blocks : Blocks). number_of BASE blocks.by_page.items c.loop-i.self.numbers.items (get_or c.args.list.now i 0)) c.loop-i.invariant.blocks
    ∙ c.loop-i.invariant.numbers.done i (let end : length c.args.list.now ≤ c.loop-i.i = search rules in omega arith)

pub returns-clause-others : goal.returns-clause-others
returns-clause-others c a address has never =
    ap (λ (blocks : Blocks). number_of BASE blocks.by_page.items c.loop-i.self.numbers.items a) c.loop-i.invariant.blocks
    ∙ below_others BASE c.args.self.now.blocks.by_page.items c.args.first c.args.list.now c.args.self.now.numbers.items c.args.self.now.blocks.words c.requires.long c.requires.blocks c.requires.on_blocks c.requires.rising
    c.loop-i.i c.loop-i.self.numbers.items a (let end : c.loop-i.i ≤ length c.args.list.now = search rules in end) c.loop-i.invariant.numbers address has never
