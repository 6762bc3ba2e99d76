use Rattle.std.proofs.Common.{rules, ◌≡◌, ℕ, ◌+◌, List, Option, None, length, refl, sym, ap, ◌∙◌, subst, arith}
use Rattle.std.proofs.lemmas.List.{length-replicate}
use Rattle.pm3_txn.specs.declared.values.Value.{Value}
use Rattle.pm3_txn.specs.Starts.{IsFilled, page_home}
use Rattle.pm3_txn.proofs.Filling.{empty_behind, filled_none, page_moved}
use Rattle.pm3_txn.proofs.homes.with_pages.Goals as goal

pub loop-page-init : goal.loop-page-init
loop-page-init g c = record {
  wide = ap (λ (l : List (Option (Value g.row.D.Denot g.row.D-Reader.Denot))). length l) c.requires.blank ∙ length-replicate (c.args.pages + 33) None;
  filled = subst (λ (l : List (Option (Value g.row.D.Denot g.row.D-Reader.Denot))). IsFilled l (page_home c.args.images.images) 0) (sym c.requires.blank) (filled_none (c.args.pages + 33) (page_home c.args.images.images));
  left = λ q low. refl;
}

pub move_page-requires-clause-empty : goal.move_page-requires-clause-empty
move_page-requires-clause-empty g c = empty_behind c.loop-page.homes (page_home c.args.images.images) c.loop-page.page c.loop-page.invariant.filled c.loop-page.page (omega arith)

pub loop-page-preserved : goal.loop-page-preserved
loop-page-preserved g c =
    let page : ℕ = c.loop-page.page in
    let moved = page_moved c.args.pages page c.args.images.images c.loop-page.images.images c.move_page.new.images.images c.loop-page.homes c.move_page.new.homes
    c.loop-page-test.true c.loop-page.invariant.wide (c.loop-page.invariant.left page (omega arith)) c.loop-page.invariant.filled c.move_page.ensures.homes
    in
    record {
      wide = moved.0;
      filled = moved.1;
      left = λ q low. c.move_page.ensures.others q (λ same. omega (arith, low, same)) ∙ c.loop-page.invariant.left q (omega (arith, low));
    }

pub returns-clause-filled : goal.returns-clause-filled
returns-clause-filled g c =
    let done : c.loop-page.page ≡ c.args.pages = search rules in
    subst (λ (n : ℕ). IsFilled c.loop-page.homes (page_home c.args.images.images) n) done c.loop-page.invariant.filled

pub returns-clause-empty : goal.returns-clause-empty
returns-clause-empty g c = empty_behind c.loop-page.homes (page_home c.args.images.images) c.args.pages (returns-clause-filled g c)
