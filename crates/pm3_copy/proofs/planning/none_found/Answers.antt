use Rattle.std.proofs.Common.{◌≡◌, ◌∙◌, false, is_some, ap}
use Rattle.std.specs.Ordering.{nat_cmp}
use Rattle.std.specs.FinSet as set
use Rattle.std.specs.FinSet.{contains-empty}
use Rattle.pm3_core.specs.declared.naming.TheConstants.{BASE}
use Rattle.pm3_types.specs.Layout.{page_in}
use Rattle.pm3_copy.proofs.PlanParts.{on_page}
use Rattle.pm3_copy.proofs.planning.none_found.Goals as goal

pub none-requires-clause-on : goal.none-requires-clause-on
none-requires-clause-on c a is =
    let object = c.in_ok-objects.ensures.only a is in
    let free : set.contains c.new.result (page_in BASE a) ≡ false = ap (λ (pages : set.FinSet nat_cmp). set.contains pages (page_in BASE a)) c.new.ensures ∙ contains-empty nat_cmp (page_in BASE a) in
    ((on_page c.requires.0 BASE c.args.images.now.images c.requires.1 a object).0, c.in_ok-blocks.ensures.all (page_in BASE a) ((c.in_ok-pages.ensures (page_in BASE a)).1 (ap is_some object.on, free)))
