use Rattle.pm3_types.proofs.Writes.{still_laid, others_kept}
use Rattle.pm3_types.proofs.PlaceWrites.{field_written}
use Rattle.pm3_types.proofs.laws.write_law.Goals as goal

pub returns-clause-laid : goal.returns-clause-laid
returns-clause-laid c = λ catalog sheet s i v laid start from until. still_laid catalog sheet s i v laid start from until

pub returns-clause-others : goal.returns-clause-others
returns-clause-others c = λ catalog sheet s i v book t laid start from until apart. others_kept catalog sheet s i v laid start from until book t apart

pub returns-clause-field : goal.returns-clause-field
returns-clause-field c = λ book fields words at head v f low within. field_written book fields words at head v f low within
