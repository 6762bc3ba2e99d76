use Rattle.std.proofs.Common.{rules, ℕ, eqb, not}
use Rattle.std.proofs.lemmas.Fn.{filter_same}
use Rattle.pm3_access.proofs.free_pages.take_out.Goals as goal

pub returns-clause-others : goal.returns-clause-others
returns-clause-others c = filter_same _ (λ (other : ℕ). not (eqb other c.args.page)) _ (λ x b f' told. (search rules, search rules)) _ _ c.retain.ensures.filtered
