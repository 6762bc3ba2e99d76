use Rattle.std.proofs.Common.{◌≡◌, ◌+◌, ◌<◌, ◌++◌, ◌∷◌, [], take, length, get_or, sym, ap, ◌∙◌, arith}
use Rattle.std.proofs.lemmas.List.{take_more}
use Rattle.std.specs.FinSet as set_of
use Rattle.pm3_access.specs.FreeList.{with_pages}
use Rattle.pm3_access.proofs.FreeLists.{union_none, union_pushed}
use Rattle.pm3_access.proofs.free_pages.FreePages.add_all.Goals as goal

pub loop-page-init : goal.loop-page-init
loop-page-init c = record { pages = union_none c.args.self.now.pages; room = omega arith }

pub loop-page-preserved : goal.loop-page-preserved
loop-page-preserved c =
    let lt : c.loop-page.page-index < length c.args.pages.now = omega arith in
    let step : take (c.loop-page.page-index + 1) c.args.pages.now ≡ take c.loop-page.page-index c.args.pages.now ++ get_or c.args.pages.now c.loop-page.page-index 0 ∷ [] = take_more c.args.pages.now c.loop-page.page-index 0 lt in
    record {
      pages = c.add.ensures.pages ∙ ap (λ s. set_of.insert s (get_or c.args.pages.now c.loop-page.page-index 0)) c.loop-page.invariant.pages
          ∙ sym (ap (with_pages c.args.self.now.pages) step ∙ union_pushed c.args.self.now.pages (take c.loop-page.page-index c.args.pages.now) (get_or c.args.pages.now c.loop-page.page-index 0));
      room = omega (arith, c.add.ensures.room, c.loop-page.invariant.room);
    }
