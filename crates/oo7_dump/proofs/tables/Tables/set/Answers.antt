use Rattle.oo7_dump.proofs.Noted.{noted_set}
use Rattle.oo7_dump.proofs.tables.Tables.set.Goals as goal

pub returns-clause-set : goal.returns-clause-set
returns-clause-set c = λ a.
    rw (c.end-end.ensures, c.page_within.ensures.page, c.word_within.ensures.word)
    (noted_set c.args.self.now.ends.items c.args.self.now.numbers.items c.args.at c.args.number c.requires.tables c.requires.address c.requires.made c.requires.some a)
