use Rattle.std.proofs.Common.{◌≡◌, true, sym}
use Rattle.oo7.specs.Words.{is_decimal}
use Rattle.oo7.proofs.Numbers.{too_large}
use Rattle.oo7.proofs.words.read_number.Goals as goal

pub returns-in_default : goal.returns-in_default
returns-in_default c =
    let decimal : is_decimal c.args.text.now ≡ true = rw c.as_bytes.ensures.value at (sym c.if-not-is_decimal.ensures) in
    sym (too_large c.args.least c.args.most c.args.text.now c.in_default.field-0 decimal c.ranges.most.fits c.in_default.ensures.value.0)
