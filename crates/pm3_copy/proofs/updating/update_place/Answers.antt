use Rattle.std.proofs.Common.{◌≡◌, ◌<◌, ◌+◌, ◌∙◌, length, get_or, ap, arith}
use Rattle.pm3_core.specs.declared.naming.TheConstants.{BASE}
use Rattle.pm3_types.specs.Layout.{PageImage, word_in, with_word}
use Rattle.pm3_copy.specs.Tables.{follows}
use Rattle.pm3_copy.proofs.Renamed.{renamed_word}
use Rattle.pm3_copy.proofs.updating.update_place.Goals as goal

pub returns-clause-sheet : goal.returns-clause-sheet
returns-clause-sheet c =
    let i = word_in BASE c.args.at + 2 + c.args.place in
    let word : c.follow.result ≡ follows c.args.tables.now (get_or c.args.image.now.sheet.words i 0) = c.follow.ensures ∙ ap (follows c.args.tables.now) c.field-word.ensures in
    let sheet : c.set_field.new.self.sheet ≡ with_word c.args.image.now.sheet i (follows c.args.tables.now (get_or c.args.image.now.sheet.words i 0)) =
    ap (λ (x : PageImage). x.sheet) c.set_field.ensures ∙ ap (with_word c.args.image.now.sheet i) word in
    let low : i < length c.args.image.now.sheet.words = omega (arith, c.requires.within, c.requires.long) in
    renamed_word (follows c.args.tables.now) c.args.image.now.sheet c.set_field.new.self.sheet i low sheet
