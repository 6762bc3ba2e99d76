use Rattle.std.proofs.Common.{◌*◌, sym, ◌∙◌, ap}
use Rattle.pm3_core.specs.declared.naming.TheConstants.{BASE}
use Rattle.pm3_disk.proofs.OnlyReading.{reads_on, still_synced}
use Rattle.pm3_store.specs.Damage.{catalog_departure, head_departure_below, length_departure}
use Rattle.pm3_store.proofs.Opening.{catalog_departs, departures, head_departs, image_cause, nothing_departs, opened, opened_now, page_cause, placed_now, within_now, without_images}
use Rattle.pm3_store.proofs.Pictures.{pictures_from}
use Rattle.pm3_store.proofs.opens.read_parts.Goals as goal

pub returns-in-Err-read_store_marks-clause-cause : goal.returns-in-Err-read_store_marks-clause-cause
returns-in-Err-read_store_marks-clause-cause g c file told bytes told_journal =
    page_cause file bytes (head_departure_below c.args.journal.now.pages c.args.journal.now.summaries file) c.in-Err-read_store_marks.cause
    (head_departs file bytes c.args.journal.now.pages c.args.journal.now.summaries (departures g.D.Disk c.args.journal.now c.requires file bytes told_journal) (ap (λ p. length_departure p file) (sym c.pages.ensures) ∙ c.in-Ok.ensures.read file told)) (c.in-Err-read_store_marks.ensures.read file (c.check_length.ensures.reads.same ∙ told))

pub returns-in-Err-read_types-clause-cause : goal.returns-in-Err-read_types-clause-cause
returns-in-Err-read_types-clause-cause g c file told bytes told_journal =
    page_cause file bytes (catalog_departure file) c.in-Err-read_types.cause
    (catalog_departs file bytes c.args.journal.now.pages c.args.journal.now.summaries (departures g.D.Disk c.args.journal.now c.requires file bytes told_journal) (ap (λ p. length_departure p file) (sym c.pages.ensures) ∙ c.in-Ok.ensures.read file told) (c.in-Ok-read_store_marks.ensures.read file (c.check_length.ensures.reads.same ∙ told))) (c.in-Err-read_types.ensures.read file (c.read_store_marks.ensures.reads.same ∙ (c.check_length.ensures.reads.same ∙ told)))

pub read_images-requires-clause-within : goal.read_images-requires-clause-within
read_images-requires-clause-within g c = within_now g.D.Disk c.args.journal.now c.requires c.read_store_marks.new.journal _ c.read_store_marks.ensures.journal

pub read_images-requires-clause-placed : goal.read_images-requires-clause-placed
read_images-requires-clause-placed g c = placed_now g.D.Disk c.args.journal.now c.requires c.read_store_marks.new.journal _ c.read_store_marks.ensures.journal

pub returns-in-Ok-read_images-clause-open : goal.returns-in-Ok-read_images-clause-open
returns-in-Ok-read_images-clause-open g c =
    let reads = (reads_on (reads_on c.check_length.ensures.reads c.read_store_marks.ensures.reads) c.read_types.ensures.reads) in
    let pictures = pictures_from c.in-Ok-read_types.catalog BASE c.args.journal.now.pages _ c.args.journal.now.images _ c.in-Ok-read_images.images.images (ap (λ k. k.pages) c.read_store_marks.ensures.journal)
    (ap (λ k. k.images) c.read_store_marks.ensures.journal) c.in-Ok-read_images.ensures.pictures in
    let marks = c.in-Ok-read_store_marks.ensures in
    opened_now g.D.Disk c.args.journal.now c.requires (g.D.Disk.content c.args.pages.now) (g.D.Disk.content c.read_types.new.pages) c.read_images.new.journal c.in-Ok-read_types.catalog c.in-Ok-read_images.images.images c.in-Ok-read_store_marks.marks c.read_store_marks.new.journal.next reads.same
    (without_images c.read_images.new.journal c.read_store_marks.new.journal c.args.journal.now c.read_store_marks.new.journal.next c.read_images.ensures.journal c.read_store_marks.ensures.journal)
    (opened g.D.Disk c.args.journal.now c.requires (g.D.Disk.content c.args.pages.now) c.in-Ok-read_types.catalog c.in-Ok-read_images.images.images c.in-Ok-read_store_marks.marks c.read_store_marks.new.journal.next pictures marks.bounds.0 marks.bounds.1 marks.bounds.2 marks.last
    (λ bytes told. c.in-Ok.ensures.size bytes told ∙ ap (λ p. 4096 * p) c.pages.ensures)
    (λ bytes told. marks.head bytes (c.check_length.ensures.reads.same ∙ told))
    (λ bytes told. c.in-Ok-read_types.ensures.catalog bytes (c.read_store_marks.ensures.reads.same ∙ (c.check_length.ensures.reads.same ∙ told))))

pub returns-in-Ok-read_images-clause-told : goal.returns-in-Ok-read_images-clause-told
returns-in-Ok-read_images-clause-told g c file told bytes told_journal =
    nothing_departs file bytes c.args.journal.now.pages c.args.journal.now.summaries (departures g.D.Disk c.args.journal.now c.requires file bytes told_journal) (ap (λ p. length_departure p file) (sym c.pages.ensures) ∙ c.in-Ok.ensures.read file told) (c.in-Ok-read_store_marks.ensures.read file (c.check_length.ensures.reads.same ∙ told)) (c.in-Ok-read_types.ensures.read file (c.read_store_marks.ensures.reads.same ∙ (c.check_length.ensures.reads.same ∙ told)))

pub returns-in-Ok-read_images-clause-settled : goal.returns-in-Ok-read_images-clause-settled
returns-in-Ok-read_images-clause-settled g c = still_synced (reads_on c.read_store_marks.ensures.reads c.read_types.ensures.reads) c.in-Ok.ensures.settled

pub returns-in-Ok-read_images-clause-reads : goal.returns-in-Ok-read_images-clause-reads
returns-in-Ok-read_images-clause-reads g c = (reads_on (reads_on c.check_length.ensures.reads c.read_store_marks.ensures.reads) c.read_types.ensures.reads)

pub returns-in-Err-read_images-clause-cause : goal.returns-in-Err-read_images-clause-cause
returns-in-Err-read_images-clause-cause g c file told bytes told_journal =
    image_cause g.D.Disk c.args.journal.now c.requires file bytes told_journal (nothing_departs file bytes c.args.journal.now.pages c.args.journal.now.summaries (departures g.D.Disk c.args.journal.now c.requires file bytes told_journal) (ap (λ p. length_departure p file) (sym c.pages.ensures) ∙ c.in-Ok.ensures.read file told) (c.in-Ok-read_store_marks.ensures.read file (c.check_length.ensures.reads.same ∙ told)) (c.in-Ok-read_types.ensures.read file (c.read_store_marks.ensures.reads.same ∙ (c.check_length.ensures.reads.same ∙ told))))
    _ (c.in-Ok-read_types.ensures.catalog file (c.read_store_marks.ensures.reads.same ∙ (c.check_length.ensures.reads.same ∙ told))) _ _ _ (ap (λ k. k.pages) c.read_store_marks.ensures.journal) (ap (λ k. k.images) c.read_store_marks.ensures.journal)
    (ap (λ k. k.offsets) c.read_store_marks.ensures.journal) c.in-Err-read_images.cause c.in-Err-read_images.ensures.first

pub returns-in-Err-read_images-clause-reads : goal.returns-in-Err-read_images-clause-reads
returns-in-Err-read_images-clause-reads g c = (reads_on (reads_on c.check_length.ensures.reads c.read_store_marks.ensures.reads) c.read_types.ensures.reads)

pub returns-in-Ok-read_images-clause-catalog : goal.returns-in-Ok-read_images-clause-catalog
returns-in-Ok-read_images-clause-catalog g c file told = c.in-Ok-read_types.ensures.catalog file (c.read_store_marks.ensures.reads.same ∙ (c.check_length.ensures.reads.same ∙ told))
