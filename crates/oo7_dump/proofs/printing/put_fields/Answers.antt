use Rattle.std.proofs.Common.{◌<◌, ◌+◌, slice_index, ap, arith}
use Rattle.pm3_core.specs.declared.naming.TheConstants.{BASE}
use Rattle.pm3_types.specs.Fields.{Fields}
use Rattle.pm3_types.specs.Layout.{word_in}
use Rattle.oo7_dump.proofs.Written.{field_more}
use Rattle.oo7_dump.proofs.printing.put_fields.Goals as goal

pub loop-field-preserved : goal.loop-field-preserved
loop-field-preserved c =
    let within : c.loop-field.field < c.args.map.count = let count = ap (λ (m : Fields). m.count) c.map.view_is in omega (arith, c.loop-field-test.true, c.from-field-end.ensures, count) in
    field_more c.args.met.now c.args.map (λ f. slice_index c.args.image.now.sheet.words (word_in BASE c.args.at + 2 + f)) c.loop-field.field c.is_reference_field-is_reference.result c.field.result
    c.loop-field.text c.put_field.new.text _ within c.is_reference_field-is_reference.ensures c.field.ensures c.in_ok-put_field.ensures c.loop-field.invariant
