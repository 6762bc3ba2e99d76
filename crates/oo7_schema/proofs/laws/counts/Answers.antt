use Rattle.oo7_schema.proofs.Counting.{changes_are_counted, bases_are_counted, assemblies_are_counted, documents_are_long, objects_are_counted, insert_makes_few, insert_makes_five}
use Rattle.oo7_schema.proofs.laws.counts.Goals as goal

pub returns-clause-changes : goal.returns-clause-changes
returns-clause-changes c = changes_are_counted

pub returns-clause-bases : goal.returns-clause-bases
returns-clause-bases c = bases_are_counted

pub returns-clause-assemblies : goal.returns-clause-assemblies
returns-clause-assemblies c = assemblies_are_counted

pub returns-clause-documents : goal.returns-clause-documents
returns-clause-documents c = documents_are_long

pub returns-clause-objects : goal.returns-clause-objects
returns-clause-objects c = objects_are_counted

pub returns-clause-few : goal.returns-clause-few
returns-clause-few c = insert_makes_few

pub returns-clause-five : goal.returns-clause-five
returns-clause-five c = insert_makes_five
