use Rattle.pm3_table.proofs.LawsKept.{pins_law, history_law, apart_law}
use Rattle.pm3_table.proofs.law.table_law.Goals as goal

pub returns : goal.returns
returns g c = let v = g.V.Chronicle in let laws = g.met.V.Chronicle in record {
  pins = λ told s r. pins_law v.stands v.spans v.counted told (laws.frame told) (laws.alike told) s r;
  history = λ told s r. history_law v.stands v.spans v.counted told (laws.frame told) (laws.alike told) s r;
  apart = λ told s r. apart_law v.stands v.spans v.counted told (laws.frame told) (laws.alike told) s r;
}
