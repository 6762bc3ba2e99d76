use Rattle.pm3_store.proofs.Fresh.{new_store_opens}
use Rattle.pm3_store.proofs.laws.new_store_opens.Goals as goal

pub returns : goal.returns
returns c = new_store_opens
