use Rattle.std.proofs.Common.{◌≡◌, List, None, Some, Err, sym, ap, subst, ◌∙◌}
use Rattle.std.proofs.lemmas.Result.{IfOk-weaker}
use Rattle.pm3_core.specs.declared.naming.TheConstants.{BASE}
use Rattle.pm3_types.specs.Dump.{dump}
use Rattle.pm3_types.specs.Fields.{Fields}
use Rattle.pm3_types.specs.PageLaws.{IsCatalog}
use Rattle.pm3_page.specs.declared.marks.Marks.{Marks}
use Rattle.oo7_dump.specs.ByAddress.{IsTextOf}
use Rattle.oo7_dump.specs.Held.{AreAmong}
use Rattle.oo7_dump.specs.declared.faults.DumpFault.{DumpFault}
use Rattle.oo7_dump.specs.declared.faults.DumpFault.TheVariants.{Damaged}
use Rattle.oo7_dump.proofs.NeverLost.{dumped, lost_as, never_lost, text_met}
use Rattle.oo7_dump.proofs.dumping.dump.Goals as goal

pub returns-in-Ok-clause-shown : goal.returns-in-Ok-clause-shown
returns-in-Ok-clause-shown g c = IfOk-weaker c.write_text.result _ _
    (λ text is.
    let now = c.meet_opened.new.opened in
    text_met c.args.opened.now.catalog now.catalog now.images.images c.in-Ok.met text c.meet_opened.ensures.catalog c.in-Ok.ensures.met is)
    c.write_text.ensures.text

pub returns-in-Ok-clause-text : goal.returns-in-Ok-clause-text
returns-in-Ok-clause-text g c = IfOk-weaker c.write_text.result _ _
    (λ text shown file journal graph told told_journal runs o.
    let now = c.meet_opened.new.opened in
    let types : now.catalog ≡ c.args.opened.now.catalog = c.meet_opened.ensures.catalog in
    let told_now : g.D.Disk.content now.pages ≡ Some file = c.meet_opened.ensures.reads.same ∙ told in
    let told_then : g.D.Disk.content now.journal.disk ≡ Some journal = ap (λ j. g.D.Disk.content j.disk) c.meet_opened.ensures.journal ∙ told_journal in
    let runs_now : now.journal.stopped ≡ None = ap (λ j. j.stopped) c.meet_opened.ensures.journal ∙ runs in
    let sound : IsCatalog now.catalog = subst IsCatalog (sym types) c.types_are_sound.ensures in
    subst (λ (types : List Fields). text ≡ dump types graph) types
    (dumped g.D.Disk (g.D.Disk.content now.pages) now.journal now.catalog now.images.images now.marks c.meet_opened.ensures.open sound file journal graph told_now told_then runs_now o text
    (subst (λ (types : List Fields). IsTextOf types BASE (AreAmong now.images.images) text) (sym types) shown)))
    (returns-in-Ok-clause-shown g c)

pub returns-in-Err-clause-sound : goal.returns-in-Err-clause-sound
returns-in-Err-clause-sound g c = λ page word file journal graph told told_journal runs o is.
    let same : c.in-Err.fault ≡ Damaged page word = cc is in
    let now = c.meet_opened.new.opened in
    let types : now.catalog ≡ c.args.opened.now.catalog = c.meet_opened.ensures.catalog in
    let count : now.marks.pages ≡ c.args.opened.now.marks.pages = ap (λ (m : Marks). m.pages) c.meet_opened.ensures.marks in
    let told_now : g.D.Disk.content now.pages ≡ Some file = c.meet_opened.ensures.reads.same ∙ told in
    let told_then : g.D.Disk.content now.journal.disk ≡ Some journal = ap (λ j. g.D.Disk.content j.disk) c.meet_opened.ensures.journal ∙ told_journal in
    let runs_now : now.journal.stopped ≡ None = ap (λ j. j.stopped) c.meet_opened.ensures.journal ∙ runs in
    let sound : IsCatalog now.catalog = subst IsCatalog (sym types) c.types_are_sound.ensures in
    never_lost g.D.Disk (g.D.Disk.content now.pages) now.journal now.catalog now.images.images now.marks c.meet_opened.ensures.open sound file journal graph told_now told_then runs_now o page word
    (lost_as c.args.opened.now.catalog now.catalog c.args.opened.now.marks.pages now.marks.pages (g.D.Disk.content c.args.opened.now.pages) (g.D.Disk.content now.pages)
    now.images.images now.images.images page word (sym types) (sym count) (sym c.meet_opened.ensures.reads.same) (λ _. now.images.images)
    (c.in-Err.ensures.lost page word (ap (λ (f : DumpFault). Err f) same)))
