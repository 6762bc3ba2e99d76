use Rattle.std.proofs.Common.{sym, ap, ◌∙◌}
use Rattle.oo7_dump.proofs.NeverLost.{lost_as}
use Rattle.oo7_dump.proofs.StillOpen.{still_open}
use Rattle.oo7_dump.proofs.dumping.meet_opened.Goals as goal

pub meet_reached-met-requires-clause-sound : goal.meet_reached-met-requires-clause-sound
meet_reached-met-requires-clause-sound g c = (c.reader.ensures.kept c.requires.open).sound

pub returns-clause-open : goal.returns-clause-open
returns-clause-open g c =
    let mid = c.reader.new.self in
    let loads = c.meet_reached-met.ensures.loads in
    c.absorb.ensures.kept
    (still_open g.D.Disk (g.D.Disk.content mid.pages) mid.journal mid.catalog mid.images.images c.meet_reached-met.new.images.images mid.marks (c.reader.ensures.kept c.requires.open)
    loads.sound loads.kept (λ bytes told. loads.loaded bytes (c.in-Ok.ensures.reader ∙ sym c.reader.ensures.reads.same ∙ told)))

pub returns-clause-lost : goal.returns-clause-lost
returns-clause-lost g c = λ page word is.
    lost_as c.reader.new.self.catalog c.args.opened.now.catalog c.reader.new.self.marks.pages c.args.opened.now.marks.pages (g.D.Reader.Reader.content c.in-Ok.reader)
    (g.D.Disk.content c.args.opened.now.pages) c.meet_reached-met.new.images.images c.absorb.new.self.images.images page word
    (ap (λ s. s.catalog) c.reader.ensures.rest) (ap (λ s. s.marks.pages) c.reader.ensures.rest) c.in-Ok.ensures.reader
    (sym (ap (λ s. s.images.images) c.absorb.ensures.rest)) (c.meet_reached-met.ensures.damaged page word is)
