use Rattle.std.proofs.Common.{sym, ap, ◌∙◌}
use Rattle.pm3_types.specs.Bytes.{is_zero}
use Rattle.pm3_types.proofs.Reading.{head_of}
use Rattle.pm3_types.proofs.page_one.read_head.Goals as goal

pub returns-clause-same : goal.returns-clause-same
returns-clause-same c =
    head_of c.args.head.now _ c.requires
    c.u32_at-count.ensures.bytes
    (ap is_zero (sym c.split_at.ensures.back) ∙ sym c.is_zero.ensures ∙ c.if-not-is_zero.false)
