use Rattle.std.proofs.Common.{◌++◌, Option, sym, ap, ◌∙◌}
use Rattle.std.specs.Prelude.{codes}
use Rattle.std.specs.Fmt.{decimal}
use Rattle.std.proofs.lemmas.Result.{on_ok_weaker}
use Rattle.pm3_core.specs.declared.naming.TheConstants.{BASE}
use Rattle.pm3_types.specs.Dump.{record_text}
use Rattle.pm3_types.specs.Layout.{page_in, word_in}
use Rattle.pm3_types.specs.PageForm.{is_memory_reference}
use Rattle.pm3_types.specs.Record.{Record}
use Rattle.pm3_types.proofs.FormedObjects.{start_of, whole_start}
use Rattle.oo7_dump.proofs.MeetingOne.{raw_there}
use Rattle.oo7_dump.proofs.dumping.put_object_at.Goals as goal

pub image_at-image-requires-clause-low : goal.image_at-image-requires-clause-low
image_at-image-requires-clause-low c = (c.requires.sound _ c.requires.held.image c.requires.held.on).2

pub put_object-requires-clause-whole : goal.put_object-requires-clause-whole
put_object-requires-clause-whole c =
    let image = c.image_at-image.result.now in
    let sound = (c.requires.sound (page_in BASE c.args.at) image c.image_at-image.ensures.on).3 in
    whole_start c.args.catalog.now (is_memory_reference BASE c.args.pages) image.page image.sheet (word_in BASE c.args.at) sound (start_of BASE image c.args.at c.image_at-image.ensures.begins)

pub returns : goal.returns
returns c =
    let image = c.image_at-image.result.now in
    let sound = (c.requires.sound (page_in BASE c.args.at) image c.image_at-image.ensures.on).3 in
    on_ok_weaker c.put_object.result
    (λ is all among.
    is ∙ ap (λ (o : Option Record). c.args.text.now ++ (decimal c.args.number ++ codes " " ++ record_text c.args.catalog.now c.args.met.now o ++ codes "\n"))
    (sym (raw_there c.args.catalog.now c.args.pages c.args.images.now.images all image c.args.at among c.image_at-image.ensures.on c.image_at-image.ensures.begins sound)))
    c.put_object.ensures
