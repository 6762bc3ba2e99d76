use Rattle.std.proofs.Common.{◌≡◌, ◌≤◌, ℕ, true, subst, arith}
use Rattle.pm3_core.specs.declared.naming.TheConstants.{BASE}
use Rattle.pm3_types.specs.PageForm.{is_memory_reference}
use Rattle.pm3_types.proofs.FormedObjects.{whole_start}
use Rattle.pm3_page.specs.PageSheets.{sheets_of}
use Rattle.pm3_table.specs.Entries.{images_refer}
use Rattle.pm3_txn.specs.Frontiers.{IsTop, Below, IsNamedUnder}
use Rattle.pm3_txn.proofs.Referred.{frontier_is}
use Rattle.pm3_txn.proofs.frontiers.frontier_of.Given.{Over}
use Rattle.pm3_txn.proofs.frontiers.frontier_of.Goals as goal

pub above_images-requires : goal.above_images-requires
above_images-requires g c = λ page image there s begins.
    whole_start c.args.opened.now.catalog (is_memory_reference BASE c.args.opened.now.marks.pages) image.page image.sheet s (c.requires.sound page image there).3 begins

abbrev Found : (g : Over) → goal.After-above_images g → Type 0
Found g c = (c.above_images.result ≤ c.args.opened.now.marks.pages)
    × IsTop (λ p. images_refer c.args.opened.now.catalog (sheets_of c.args.opened.now.images.images) p ≡ true) c.args.opened.now.marks.high_page c.above_images.result

found : (g : Over) (c : goal.After-above_images g) → Found g c
found g c =
    let store = c.args.opened.now in
    let pages = c.requires.bounds.pages in let high = c.requires.bounds.high_page in
    let some = pages.0 in let most = pages.1 in
    frontier_is store.catalog store.marks.pages store.images.images store.marks.high_page c.above_images.result (omega (arith, some)) high.1 (omega (arith, most)) c.requires.sound
    (subst (λ (a : ℕ). IsTop (Below (IsNamedUnder store.catalog store.images.images) 16384) a c.above_images.result) c.from.ensures c.above_images.ensures)

pub overflow_cast-result : goal.overflow_cast-result
overflow_cast-result g c = let low = (found g c).0 in let most = c.requires.bounds.pages.1 in omega (arith, low, most)

pub returns-clause-top : goal.returns-clause-top
returns-clause-top g c = (found g c).1

pub returns-clause-low : goal.returns-clause-low
returns-clause-low g c = let least = (found g c).1.most in let high = c.requires.bounds.high_page.0 in (omega (arith, least, high), (found g c).0)
