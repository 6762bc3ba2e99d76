use Rattle.std.proofs.Common.{◌≡◌, ◌<◌, ◌+◌, ◌∙◌, length, get_or, ap, arith}
use Rattle.pm3_types.specs.Layout.{PageImage, with_word}
use Rattle.pm3_copy.specs.Tables.{follows}
use Rattle.pm3_copy.proofs.Renamed.{slots_more, renamed_word}
use Rattle.pm3_copy.proofs.updating.update_roots.Goals as goal

pub loop-slot-preserved : goal.loop-slot-preserved
loop-slot-preserved c =
    let i = 2 + c.loop-slot.slot in
    let word : c.follow.result ≡ follows c.args.tables.now (get_or c.loop-slot.image.sheet.words i 0) = c.follow.ensures ∙ ap (follows c.args.tables.now) c.root-at.ensures in
    let sheet : c.set_root.new.self.sheet ≡ with_word c.loop-slot.image.sheet i (follows c.args.tables.now (get_or c.loop-slot.image.sheet.words i 0)) =
    ap (λ (x : PageImage). x.sheet) c.set_root.ensures ∙ ap (with_word c.loop-slot.image.sheet i) word in
    let low : i < length c.loop-slot.image.sheet.words = omega (arith, c.requires.long, c.loop-slot.invariant.sheet.words, c.loop-slot-test.true) in
    record {
      page = ap (λ (x : PageImage). x.page) c.set_root.ensures ∙ c.loop-slot.invariant.page;
      sheet = slots_more (follows c.args.tables.now) c.loop-slot.slot c.args.image.now.sheet c.loop-slot.image.sheet c.set_root.new.self.sheet c.loop-slot.invariant.sheet
          (renamed_word (follows c.args.tables.now) c.loop-slot.image.sheet c.set_root.new.self.sheet i low sheet);
    }
