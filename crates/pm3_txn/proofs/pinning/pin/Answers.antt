use Rattle.std.proofs.Common.{inl, inr, is_some, sym, ap}
use Rattle.std.specs.FinMap as map
use Rattle.pm3_txn.proofs.Pinned.{pinned_more}
use Rattle.pm3_txn.proofs.pinning.pin.Goals as goal

pub returns-in_default : goal.returns-in_default
returns-in_default c = λ p. (
  inl,
  λ either. elim either [
    | inl is ↦ is
    | inr named ↦ absurd (c.in_default.ensures p named.1)
  ],
)

pub returns : goal.returns
returns c = pinned_more c.args.pages c.args.word c.in-Some.page (map.contains_key c.args.volatile.now.images) c.args.pinned.now c.add.new.self c.in-Some.ensures (ap is_some (sym c.in-Some-get.ensures)) c.in-Ok.ensures.added
