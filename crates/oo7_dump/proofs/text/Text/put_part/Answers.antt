use Rattle.std.proofs.Common.{◌++◌, ◌∷◌, [], ◌/◌, ℕ, refl, ap, ◌∙◌}
use Rattle.std.specs.Prelude.{false}
use Rattle.std.specs.Fmt.{digit_glyph}
use Rattle.pm3_types.specs.Dump.{byte_text}
use Rattle.pm3_types.specs.Shown.{byte_in}
use Rattle.oo7_dump.proofs.Written.{item_more}
use Rattle.oo7_dump.proofs.text.Text.put_part.Goals as goal

pub loop-place-preserved : goal.loop-place-preserved
loop-place-preserved c =
    let byte = byte_in c.args.word c.loop-place.place in
    item_more byte_text (byte_in c.args.word) c.args.self.now c.loop-place.self c.put.new.self c.loop-place.place byte c.loop-place.invariant refl
    (c.in_ok-put.ensures ∙ ap (λ (d : ℕ). c.loop-place.self ++ d ∷ c.low.result ∷ []) c.high.ensures
    ∙ ap (λ (d : ℕ). c.loop-place.self ++ digit_glyph false (byte / 16) ∷ d ∷ []) c.low.ensures)
