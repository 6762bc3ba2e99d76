use Rattle.pm3_types.proofs.Addressing.{above_base}
use Rattle.pm3_page.proofs.addresses.word_within.Goals as goal

pub overflow_sub-result : goal.overflow_sub-result
overflow_sub-result c = above_base _ c.args.at c.requires
