use Rattle.std.proofs.Common.{◌∙◌, List, ℕ, ap}
use Rattle.pm3_page.specs.References.{from_file}
use Rattle.pm3_page.specs.Scan.{pass}
use Rattle.pm3_page.proofs.FileForms.{written_same}
use Rattle.pm3_page.proofs.images.Image.to_file.Goals as goal

pub returns-clause-read : goal.returns-clause-read
returns-clause-read c = λ pages most sound.
    ap (λ (words : List ℕ). pass c.args.catalog.now (from_file 17592186044416 pages) c.args.self.now.page words) (c.into_bytes.ensures.back ∙ c.write.ensures)
    ∙ written_same c.args.catalog.now 17592186044416 pages c.args.self.now.page c.args.self.now.sheet most sound
