use Rattle.std.proofs.Common.{◌≡◌, ◌<◌, ◌+◌, ◌∙◌, ℕ, length, get_or, ap, sym, subst}
use Rattle.std.proofs.lemmas.List.Elements.{Contains-get_or}
use Rattle.pm3_core.specs.declared.naming.TheConstants.{BASE}
use Rattle.pm3_copy.specs.Blocks.{AreBlocks, AreOnBlocks, number_of}
use Rattle.pm3_copy.specs.declared.blocks.Blocks.{Blocks}
use Rattle.pm3_copy.proofs.planning.index_of.Goals as goal

pub number-requires-clause-blocks : goal.number-requires-clause-blocks
number-requires-clause-blocks c = subst (λ (r : Blocks). AreBlocks r.by_page.items r.words) (sym c.in_ok-index.ensures.blocks) c.in_ok-of.ensures.blocks

pub number-requires-clause-long : goal.number-requires-clause-long
number-requires-clause-long c = c.in_ok-index.ensures.long ∙ sym (ap (λ (r : Blocks). r.words) c.in_ok-index.ensures.blocks)

pub number-requires-clause-on_blocks : goal.number-requires-clause-on_blocks
number-requires-clause-on_blocks c =
    subst (λ (r : Blocks). AreOnBlocks BASE r.by_page.items r.words c.args.promoted.now) (sym c.in_ok-index.ensures.blocks)
    (λ a is. ((c.requires.promoted a is).0, c.in_ok-of.ensures.all _ (c.requires.promoted a is).1))

pub number-requires-2-clause-blocks : goal.number-requires-2-clause-blocks
number-requires-2-clause-blocks c = subst (λ (r : Blocks). AreBlocks r.by_page.items r.words) (sym (c.number.ensures.blocks ∙ c.in_ok-index.ensures.blocks)) c.in_ok-of.ensures.blocks

pub number-requires-2-clause-long : goal.number-requires-2-clause-long
number-requires-2-clause-long c = c.number.ensures.long ∙ c.in_ok-index.ensures.long ∙ sym (ap (λ (r : Blocks). r.words) (c.number.ensures.blocks ∙ c.in_ok-index.ensures.blocks))

pub number-requires-2-clause-on_blocks : goal.number-requires-2-clause-on_blocks
number-requires-2-clause-on_blocks c =
    subst (λ (r : Blocks). AreOnBlocks BASE r.by_page.items r.words c.args.kept.now) (sym (c.number.ensures.blocks ∙ c.in_ok-index.ensures.blocks))
    (λ a is. ((c.requires.kept a is).0, c.in_ok-of.ensures.all _ (c.requires.kept a is).1))

pub returns : goal.returns
returns c = (first, c.number-2.ensures.numbered)
  where
    first : (i : ℕ) → i < length c.args.promoted.now → number_of BASE c.number-2.new.self.blocks.by_page.items c.number-2.new.self.numbers.items (get_or c.args.promoted.now i 0) ≡ 0 + i
    first i low =
        let a = get_or c.args.promoted.now i 0 in
        let there = Contains-get_or c.args.promoted.now i 0 low in
        let on = subst (λ (r : Blocks). AreOnBlocks BASE r.by_page.items r.words c.args.promoted.now) (sym (c.number.ensures.blocks ∙ c.in_ok-index.ensures.blocks))
        (λ a is. ((c.requires.promoted a is).0, c.in_ok-of.ensures.all _ (c.requires.promoted a is).1)) a there in
        c.number-2.ensures.others a on.0 on.1 (λ other. c.requires.apart a there other) ∙ c.number.ensures.numbered i low
