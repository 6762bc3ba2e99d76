use Rattle.pm3_txn.proofs.ReadPages.{bare_of, bare_low, loaded_page}
use Rattle.pm3_txn.proofs.mutator.Mutator.image_of.Goals as goal

pub loaded-requires-clause-page : goal.loaded-requires-clause-page
loaded-requires-clause-page g c =
    bare_low c.args.heap.now.1 c.args.self.now.pass.1.seen c.args.page c.requires.page
    (bare_of g.D.Disk c.args.heap.now.1 c.args.self.now.pass.1.lost c.args.self.now.pass.1.seen c.args.page c.args.slot c.requires.good c.in-None.is)

pub returns-in-None-clause-image : goal.returns-in-None-clause-image
returns-in-None-clause-image g c =
    loaded_page c.args.heap.now.1 c.args.self.now.pass.1.seen c.args.page c.requires.page
    (bare_of g.D.Disk c.args.heap.now.1 c.args.self.now.pass.1.lost c.args.self.now.pass.1.seen c.args.page c.args.slot c.requires.good c.in-None.is)
    c.requires.frontier c.requires.small c.page_form_law.ensures.sound c.page_form_law.ensures.same_words c.page_form_law.ensures.same_image
    c.loaded.result c.loaded.ensures.page c.loaded.ensures.sound c.loaded.ensures.read
