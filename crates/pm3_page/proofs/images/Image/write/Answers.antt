use Rattle.std.proofs.Common.{rules, arith, ◌≡◌, ◌∙◌, List, ℕ, Ok, Err, sym, ap}
use Rattle.pm3_types.specs.Layout.{Sheet}
use Rattle.pm3_page.specs.References.{to_file}
use Rattle.pm3_page.specs.Scan.{pass}
use Rattle.pm3_page.proofs.FileForms.{sound_written}
use Rattle.pm3_page.proofs.images.Image.write.Goals as goal

pub unreachable-requires : goal.unreachable-requires
unreachable-requires c =
    let words : c.copy_from_slice.new.self ≡ c.self.inside.words.items = search rules in
    let sheet : Sheet = record { words = c.self.inside.words.items; starts = c.self.inside.starts } in
    let out = sound_written c.args.catalog.now 17592186044416 16384 c.self.inside.page sheet (omega arith) (rw (← c.self.view_is) at c.requires.sound) in
    let good : pass c.args.catalog.now (to_file 17592186044416 16384) c.self.inside.page c.self.inside.words.items ≡ Ok (record { words = out.0; starts = c.self.inside.starts }) = out.1 in
    let bad : pass c.args.catalog.now (to_file 17592186044416 16384) c.self.inside.page c.self.inside.words.items ≡ Err c.in-Err.field-0 =
    ap (λ (ws : List ℕ). pass c.args.catalog.now (to_file 17592186044416 16384) c.self.inside.page ws) (sym words) ∙ c.in-Err.ensures in
    cc (sym good ∙ bad)
