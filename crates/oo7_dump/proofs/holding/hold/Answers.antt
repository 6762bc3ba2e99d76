use Rattle.std.proofs.Common.{rules, ◌≡◌, ℕ, None, Some, Err, is_some, refl, sym, ap, ◌∙◌}
use Rattle.std.specs.FinMap.{get, insert}
use Rattle.pm3_page.specs.PageMap.{Images}
use Rattle.oo7_dump.specs.declared.faults.DumpFault.TheVariants.{PageFault, Memory}
use Rattle.pm3_store.proofs.Moving.{get_same}
use Rattle.oo7_dump.proofs.Loading.{loads_none, loads_one}
use Rattle.oo7_dump.proofs.holding.hold.Goals as goal

pub returns-then-is_err-clause-loads : goal.returns-then-is_err-clause-loads
returns-then-is_err-clause-loads g c =
    loads_none g.R.Reader c.args.catalog.now c.args.pages c.args.reader.now c.args.reader.now c.args.images.now.images c.reserve.new.self.images (Some Memory)
    refl c.reserve.ensures.images c.requires.sound (λ e. absurd (cc e)) (λ _. refl)

pub returns-in-Ok-clause-loads : goal.returns-in-Ok-clause-loads
returns-in-Ok-clause-loads g c =
    let absent : get c.args.images.now.images c.args.page ≡ None = search rules in
    let put = c.put.ensures.images ∙ ap (λ (m : Images). insert m c.in-Ok.image.page c.in-Ok.image) c.reserve.ensures.images in
    loads_one g.R.Reader c.args.catalog.now c.args.pages c.args.reader.now c.load.new.reader c.args.images.now.images c.put.new.self.images c.args.page c.in-Ok.image
    c.load.ensures.same (c.load.ensures.calm (λ e. cc (sym c.in-Ok.is ∙ e))) put absent c.in-Ok.ensures.page c.requires.page c.in-Ok.ensures.sound c.requires.sound c.in-Ok.ensures.read

pub returns-in-Ok-clause-held : goal.returns-in-Ok-clause-held
returns-in-Ok-clause-held g c =
    ap (λ (m : Images). is_some (get m c.args.page)) c.put.ensures.images
    ∙ ap is_some (get_same c.reserve.new.self.images c.in-Ok.image.page c.in-Ok.image c.args.page (sym c.in-Ok.ensures.page))

pub returns-in-Err-PageFault-clause-loads : goal.returns-in-Err-PageFault-clause-loads
returns-in-Err-PageFault-clause-loads g c =
    let failed = c.in-Err-PageFault.is ∙ ap Err c.in-Err-PageFault.field-0-is in
    loads_none g.R.Reader c.args.catalog.now c.args.pages c.args.reader.now c.load.new.reader c.args.images.now.images c.reserve.new.self.images (Some PageFault)
    c.load.ensures.same c.reserve.ensures.images c.requires.sound (λ _. c.load.ensures.cause failed) (λ never. absurd (never refl))

pub returns-in-Err-Damaged-clause-loads : goal.returns-in-Err-Damaged-clause-loads
returns-in-Err-Damaged-clause-loads g c =
    let other = c.in-Err-Damaged.is ∙ ap Err c.in-Err-Damaged.field-0-is in
    loads_none g.R.Reader c.args.catalog.now c.args.pages c.args.reader.now c.load.new.reader c.args.images.now.images c.reserve.new.self.images _
    c.load.ensures.same c.reserve.ensures.images c.requires.sound (λ e. absurd (cc e)) (λ _. c.load.ensures.calm (λ e. cc (sym other ∙ e)))

pub returns-in-Err-Damaged-clause-damaged : goal.returns-in-Err-Damaged-clause-damaged
returns-in-Err-Damaged-clause-damaged g c = λ number word is.
    let absent : get c.args.images.now.images c.args.page ≡ None = search rules in
    let page : number ≡ c.args.page = cc is in
    let same : c.in-Err-Damaged.word ≡ word = cc is in (
      page,
      record {
        absent = ap (λ (m : Images). get m c.args.page) c.reserve.ensures.images ∙ absent;
        read = λ bytes told. (rw c.in-Err-Damaged.field-0-is at c.in-Err-Damaged.ensures.read bytes told).1 ∙ ap (λ (w : ℕ). Err w) same;
      },
    )

pub returns-in-Err-Memory-clause-loads : goal.returns-in-Err-Memory-clause-loads
returns-in-Err-Memory-clause-loads g c =
    let other = c.in-Err-Memory.is ∙ ap Err c.in-Err-Memory.field-0-is in
    loads_none g.R.Reader c.args.catalog.now c.args.pages c.args.reader.now c.load.new.reader c.args.images.now.images c.reserve.new.self.images (Some Memory)
    c.load.ensures.same c.reserve.ensures.images c.requires.sound (λ e. absurd (cc e)) (λ _. c.load.ensures.calm (λ e. cc (sym other ∙ e)))
