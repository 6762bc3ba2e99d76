use Rattle.std.proofs.Common.{false}
use Rattle.pm3_types.specs.declared.places.Place.TheVariants as places
use Rattle.pm3_access.specs.declared.places.Place.TheVariants.{Field}
use Rattle.oo7_objects.proofs.Excluding.{place_refusal, word_spot}
use Rattle.oo7_objects.proofs.Reading.{read_row, word_told}
use Rattle.oo7_objects.proofs.Stays.{place_stayed, stayed_kept, stayed_row}
use Rattle.oo7_objects.proofs.fields.word.Goals as goal

pub returns-clause-told : goal.returns-clause-told
returns-clause-told g c = (word_told g.D.Reader.Reader.content c.args.txn.now c.stand.ensures.underway c.stand.ensures.frame c.requires.classes c.word.new.self c.word.ensures.heap c.args.i c.args.f c.in-Ok.value c.in-Ok.ensures.read).told

pub returns-clause-kept : goal.returns-clause-kept
returns-clause-kept g c = (word_told g.D.Reader.Reader.content c.args.txn.now c.stand.ensures.underway c.stand.ensures.frame c.requires.classes c.word.new.self c.word.ensures.heap c.args.i c.args.f c.in-Ok.value c.in-Ok.ensures.read).kept

pub returns-clause-row : goal.returns-clause-row
returns-clause-row g c = read_row g.D.Reader.Reader.content c.args.txn.now c.stand.ensures.underway c.stand.ensures.frame c.requires.classes c.word.new.self c.word.ensures.heap c.args.i (Field c.args.f) false c.in-Ok.value c.in-Ok.ensures.read 0 0

pub returns-in-Err-clause-kept : goal.returns-in-Err-clause-kept
returns-in-Err-clause-kept g c = stayed_kept c.args.txn.now c.word.new.self c.word.ensures.heap (place_stayed g.D.Reader.Reader.faults c.args.txn.now c.word.new.self c.args.i (Field c.args.f) false c.in-Err.fault c.in-Err.ensures.refused)

pub returns-in-Err-clause-row : goal.returns-in-Err-clause-row
returns-in-Err-clause-row g c = stayed_row g.D.Reader.Reader.content c.args.txn.now c.word.new.self c.word.ensures.heap c.stand.ensures.underway (place_stayed g.D.Reader.Reader.faults c.args.txn.now c.word.new.self c.args.i (Field c.args.f) false c.in-Err.fault c.in-Err.ensures.refused) 0 0

pub returns-in-Err-clause-refused : goal.returns-in-Err-clause-refused
returns-in-Err-clause-refused g c = place_refusal c.stand.ensures.frame g.D.Reader.Reader.content c.args.txn.now c.word.new.self c.word.ensures.heap c.stand.ensures.underway c.stand-in-Err.ensures.underway c.requires.classes g.D.Reader.Reader.faults c.args.i (Field c.args.f) false (places.Word c.args.f) c.in-Err.fault (word_spot c.args.f) c.requires.there c.in-Err.ensures.refused
