use Rattle.std.proofs.Common.{◌≡◌, ◌+◌, ◌*◌, ◌/◌, ◌%◌, ◌++◌, ℕ, slice_index, ap, ◌∙◌, arith}
use Rattle.std.specs.List.{flat_map}
use Rattle.pm3_core.specs.declared.naming.TheConstants.{BASE}
use Rattle.pm3_types.specs.Dump.{byte_text}
use Rattle.pm3_types.specs.Layout.{word_in}
use Rattle.pm3_types.specs.Shown.{byte_in, list_of}
use Rattle.oo7_dump.proofs.Written.{bytes_more}
use Rattle.oo7_dump.proofs.printing.put_words.Goals as goal

pub loop-place-preserved : goal.loop-place-preserved
loop-place-preserved c =
    let words = c.args.image.now.sheet.words in
    let base = word_in BASE c.args.at + 2 + c.args.from in
    let there : word_in BASE c.args.at + 2 + (c.args.from + c.loop-place.place) ≡ base + c.loop-place.place = omega arith in
    let more : 8 * c.loop-place.place + 8 ≡ 8 * (c.loop-place.place + 1) = omega arith in
    bytes_more words base c.loop-place.place 8 c.field.result c.args.text.now c.loop-place.text c.put_word.new.self (omega arith) c.loop-place.invariant (c.field.ensures ∙ ap (slice_index words) there) c.in_ok-put_word.ensures
    ∙ ap (λ (n : ℕ). c.args.text.now ++ flat_map byte_text (list_of n (λ k. byte_in (slice_index words (base + k / 8)) (k % 8)))) more
