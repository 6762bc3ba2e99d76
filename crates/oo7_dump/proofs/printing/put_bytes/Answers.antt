use Rattle.std.proofs.Common.{◌≡◌, ◌+◌, ◌*◌, ◌/◌, ◌%◌, ◌++◌, ℕ, List, slice_index, ap, ◌∙◌, arith, append_assoc}
use Rattle.std.specs.Prelude.{codes}
use Rattle.std.specs.List.{flat_map}
use Rattle.std.proofs.lemmas.Result.{on_ok_weaker}
use Rattle.pm3_core.specs.declared.naming.TheConstants.{BASE}
use Rattle.pm3_types.specs.Dump.{byte_text}
use Rattle.pm3_types.specs.Layout.{word_in}
use Rattle.pm3_types.specs.Shown.{byte_in, list_of}
use Rattle.oo7_dump.proofs.Written.{bytes_more}
use Rattle.oo7_dump.proofs.printing.put_bytes.Goals as goal

pub returns : goal.returns
returns c =
    let words = c.args.image.now.sheet.words in
    let base = word_in BASE c.args.at + 2 + c.args.from in
    let count = c.args.count in
    let bytes : ℕ → List ℕ = λ n. flat_map byte_text (list_of n (λ k. byte_in (slice_index words (base + k / 8)) (k % 8))) in
    let there : word_in BASE c.args.at + 2 + (c.args.from + count / 8) ≡ base + count / 8 = omega arith in
    let sum : 8 * (count / 8) + count % 8 ≡ count = omega arith in
    on_ok_weaker c.put_part.result
    (λ is.
    bytes_more words base (count / 8) (count % 8) c.field.result (c.args.text.now ++ codes " #") c.put_words.new.text c.put_part.new.self (omega arith)
    (c.in_ok-put_words.ensures ∙ ap (λ (l : List ℕ). l ++ bytes (8 * (count / 8))) c.in_ok-put.ensures) (c.field.ensures ∙ ap (slice_index words) there) is
    ∙ ap (λ (n : ℕ). (c.args.text.now ++ codes " #") ++ bytes n) sum ∙ append_assoc c.args.text.now (codes " #") (bytes count))
    c.put_part.ensures
