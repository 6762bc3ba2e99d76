use Rattle.std.proofs.Common.{rules}
use Rattle.pm3_page.proofs.PageReads.{free_pass}
use Rattle.pm3_page.proofs.conversion.convert_page.Goals as goal

pub returns-then-is_zero : goal.returns-then-is_zero
returns-then-is_zero c =
    free_pass c.args.catalog.now _ c.args.page c.args.words.now c.args.starts.now c.if-page-ne-ROOTS_PAGE.true c.requires.words c.requires.starts
    (search rules)
