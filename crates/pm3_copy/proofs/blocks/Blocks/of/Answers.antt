use Rattle.std.proofs.Common.{◌∙◌, inl, inr, sym, subst, arith}
use Rattle.std.proofs.lemmas.Bool.{cases_eq, cases_lt, false≢true}
use Rattle.pm3_copy.specs.Blocks.{HasBlock}
use Rattle.pm3_copy.proofs.Numbered.{blocks_none}
use Rattle.pm3_copy.proofs.blocks.Blocks.of.Goals as goal

pub loop-page-init : goal.loop-page-init
loop-page-init c = record {
  blocks = blocks_none c.in_ok-by_page.by_page.items c.in_ok-by_page.ensures;
  few = omega arith;
  has = λ p low. absurd (omega arith);
  low = omega arith;
}

pub add-requires-clause-few : goal.add-requires-clause-few
add-requires-clause-few c = (let few = c.loop-page.invariant.few in let reached = c.in-Some.ensures.next.reached in omega arith)

pub loop-page-preserved : goal.loop-page-preserved
loop-page-preserved c =
    let few = c.loop-page.invariant.few in
    let reached = c.in-Some.ensures.next.reached in
    let within = c.in-Some.ensures.within in
    let step = c.add.ensures in
    record {
      blocks = step.blocks;
      few = (let words = step.words in omega arith);
      has = λ p low there. elim (cases_eq p c.in-Some.page) [
        | inl same ↦ subst (HasBlock c.add.new.self.by_page.items c.add.new.self.words) (sym same) step.here
        | inr apart ↦ elim (cases_lt p c.loop-page.from) [
          | inl before ↦ step.others p (c.loop-page.invariant.has p before there)
          | inr behind ↦ absurd (false≢true (sym (c.in-Some.ensures.next.least p behind (omega arith)) ∙ there))
        ]
      ];
      low = omega arith;
    }

pub returns-clause-all : goal.returns-clause-all
returns-clause-all c p there = elim (cases_lt p c.loop-page.from) [
  | inl before ↦ c.loop-page.invariant.has p before there
  | inr behind ↦ absurd (false≢true (sym (c.in_default.ensures.next p behind) ∙ there))
]
