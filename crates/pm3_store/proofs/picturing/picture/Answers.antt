use Rattle.pm3_page.proofs.ReadBounds.{read_within}
use Rattle.pm3_store.proofs.picturing.picture.Goals as goal

pub damage_at-requires-clause-word : goal.damage_at-requires-clause-word
damage_at-requires-clause-word g c =
    let fault = rw c.in-Err-Damaged.field-0-is at c.in-Err-Damaged.ensures.fault in
    read_within _ _ _ _ _ _ fault.1
