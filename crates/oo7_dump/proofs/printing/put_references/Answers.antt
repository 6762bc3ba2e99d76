use Rattle.std.proofs.Common.{◌+◌, ◌++◌, slice_index, ap, ◌∙◌, ◌≡◌, arith}
use Rattle.std.specs.Prelude.{codes}
use Rattle.pm3_core.specs.declared.naming.TheConstants.{BASE}
use Rattle.pm3_types.specs.Dump.{name_text}
use Rattle.pm3_types.specs.Layout.{word_in}
use Rattle.oo7_dump.proofs.Written.{item_more}
use Rattle.oo7_dump.proofs.printing.put_references.Goals as goal

pub loop-place-preserved : goal.loop-place-preserved
loop-place-preserved c =
    let words = c.args.image.now.sheet.words in
    let there : word_in BASE c.args.at + 2 + (c.args.from + c.loop-place.place) ≡ word_in BASE c.args.at + 2 + c.args.from + c.loop-place.place = omega arith in
    item_more (λ n. codes " @" ++ name_text c.args.met.now n) (λ k. slice_index words (word_in BASE c.args.at + 2 + c.args.from + k)) _ c.loop-place.text c.put_reference.new.text
    c.loop-place.place c.field.result c.loop-place.invariant (c.field.ensures ∙ ap (slice_index words) there) c.in_ok-put_reference.ensures
