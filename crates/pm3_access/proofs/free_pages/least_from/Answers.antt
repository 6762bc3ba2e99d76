use Rattle.std.proofs.Common.{◌≡◌, ◌<◌, ◌++◌, ◌∷◌, ℕ, List, [], length, get_or, take, sym, subst, ◌+◌, arith}
use Rattle.std.proofs.lemmas.List.{take_more}
use Rattle.std.specs.FinSet as set_of
use Rattle.std.specs.Ordering.{nat_cmp}
use Rattle.pm3_page.specs.Next.{IsNext}
use Rattle.pm3_access.proofs.FreeLists.{nearer_pushed, none_yet}
use Rattle.pm3_access.proofs.free_pages.least_from.Goals as goal

pub loop-page-init : goal.loop-page-init
loop-page-init c = none_yet c.args.start

pub loop-page-preserved : goal.loop-page-preserved
loop-page-preserved c =
    let low : c.loop-page.page-index < length c.args.pages.now = omega arith in
    let step : take (c.loop-page.page-index + 1) c.args.pages.now ≡ take c.loop-page.page-index c.args.pages.now ++ get_or c.args.pages.now c.loop-page.page-index 0 ∷ [] = take_more c.args.pages.now c.loop-page.page-index 0 low in
    subst (λ (l : List ℕ). IsNext (set_of.contains (set_of.from_list {R = nat_cmp} l)) c.args.start c.nearer-least.result) (sym step)
    (nearer_pushed (take c.loop-page.page-index c.args.pages.now) (get_or c.args.pages.now c.loop-page.page-index 0) c.args.start c.nearer-least.result
    (c.nearer-least.ensures (set_of.contains (set_of.from_list {R = nat_cmp} (take c.loop-page.page-index c.args.pages.now))) c.loop-page.invariant))
