use Rattle.std.proofs.Common.{◌≡◌, ◌∙◌, Err, refl, rules, inr, ap, List}
use Rattle.pm3_types.specs.Dump.{dump}
use Rattle.pm3_types.specs.Fields.{Fields}
use Rattle.oo7_dump.specs.declared.faults.DumpFault.TheVariants.{Damaged}
use Rattle.oo7.proofs.dumping.text_of.Goals as goal

pub returns-in-Ok-clause-ends : goal.returns-in-Ok-clause-ends
returns-in-Ok-clause-ends g c = (
  c.in-Ok.text,
  refl,
  record {
    read = search rules;
    honest = search rules;
    text_is = λ graph opens.
        c.in-Ok.ensures.text opens.file opens.journal graph opens.file_told opens.journal_told c.requires.runs opens.opens
        ∙ ap (λ (types : List Fields). dump types graph) c.requires.catalog;
  },
)

pub returns-in-Err-Damaged-clause-ends : goal.returns-in-Err-Damaged-clause-ends
returns-in-Err-Damaged-clause-ends g c =
    let is : c.dump.result ≡ Err (Damaged c.in-Err-Damaged.page c.in-Err-Damaged.word) = c.in-Err-Damaged.is ∙ ap Err c.in-Err-Damaged.field-0-is in
    inr (record {
      store = c.dump.new.opened;
      page = c.in-Err-Damaged.page;
      word = c.in-Err-Damaged.word;
      open_ = c.dump.ensures.open;
      files = refl;
      lost = rw c.dump.ensures.catalog (rw c.dump.ensures.marks (c.dump.ensures.damaged c.in-Err-Damaged.page c.in-Err-Damaged.word is));
      told = c.damage.ensures;
      read = search rules;
      honest = search rules;
      none = λ graph opens. c.dump.ensures.sound c.in-Err-Damaged.page c.in-Err-Damaged.word opens.file opens.journal graph opens.file_told opens.journal_told c.requires.runs opens.opens is;
    })
