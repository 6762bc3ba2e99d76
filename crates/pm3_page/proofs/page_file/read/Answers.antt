use Rattle.pm3_page.proofs.page_file.read.Goals as goal

pub returns : goal.returns
returns c = rw c.into_words.ensures at c.convert_page.ensures
