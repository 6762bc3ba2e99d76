use Rattle.pm3_copy.proofs.Numbered.{blocks_more, block_here, block_kept}
use Rattle.pm3_copy.proofs.blocks.Blocks.add.Goals as goal

pub returns-clause-blocks : goal.returns-clause-blocks
returns-clause-blocks c = blocks_more c.args.self.now.by_page.items c.args.self.now.words c.args.page c.requires.blocks c.requires.page c.requires.few

pub returns-clause-here : goal.returns-clause-here
returns-clause-here c = block_here c.args.self.now.by_page.items c.args.self.now.words c.args.page c.requires.blocks c.requires.page c.requires.few

pub returns-clause-others : goal.returns-clause-others
returns-clause-others c = block_kept c.args.self.now.by_page.items c.args.self.now.words c.args.page c.requires.blocks c.requires.page c.requires.few
