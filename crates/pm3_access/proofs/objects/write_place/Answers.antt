use Rattle.pm3_types.specs.Layout.{word_in}
use Rattle.pm3_types.specs.PageForm.{map_at, tail_at}
use Rattle.pm3_core.specs.declared.naming.TheConstants.{BASE}
use Rattle.pm3_access.proofs.Writing.{byte_value}
use Rattle.pm3_access.proofs.objects.write_place.Goals as goal

pub set_byte-requires-clause-byte : goal.set_byte-requires-clause-byte
set_byte-requires-clause-byte c =
    byte_value (map_at c.args.catalog.now c.args.image.now.sheet (word_in BASE c.args.at)) (tail_at c.args.image.now.sheet (word_in BASE c.args.at)) c.args.place c.args.value
    c.in-Some-ByteOf.field-0 _ _ c.in-Some-ByteOf.field-0-is c.in-Some-ByteOf.ensures.spot c.requires.value
