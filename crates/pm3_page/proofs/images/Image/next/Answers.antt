use Rattle.pm3_types.specs.Layout.{PageImage}
use Rattle.pm3_page.proofs.ObjectOrder.{next_by_start, none_by_starts}
use Rattle.pm3_page.proofs.images.Image.next.Goals as goal

pub returns-in-Some : goal.returns-in-Some
returns-in-Some c =
    let image : PageImage = record { page = c.self.inside.page; sheet = record { words = c.self.inside.words.items; starts = c.self.inside.starts } } in
    rw (c.address_of.ensures, ← c.self.view_is) (
    next_by_start _ image _ c.args.at c.in-Some.word c.words_before.ensures c.in-Some.ensures)

pub returns-in-None : goal.returns-in-None
returns-in-None c =
    let image : PageImage = record { page = c.self.inside.page; sheet = record { words = c.self.inside.words.items; starts = c.self.inside.starts } } in
    rw (← c.self.view_is) (none_by_starts _ image _ c.args.at c.words_before.ensures c.in-None.ensures)
