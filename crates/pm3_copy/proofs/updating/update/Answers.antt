use Rattle.std.proofs.Common.{◌∙◌, sym}
use Rattle.pm3_core.specs.declared.naming.TheConstants.{BASE}
use Rattle.pm3_copy.specs.Tables.{follows}
use Rattle.pm3_copy.proofs.RenamedForm.{renamed_sound, roots_sound}
use Rattle.pm3_copy.proofs.updating.update.Goals as goal

pub returns-then-page-eq-ROOTS_PAGE-clause-updated : goal.returns-then-page-eq-ROOTS_PAGE-clause-updated
returns-then-page-eq-ROOTS_PAGE-clause-updated c = record {
  roots = λ _. c.update_roots.ensures.sheet;
  objects = λ other. absurd (other (sym c.page.ensures.page ∙ c.if-page-eq-ROOTS_PAGE.true));
}

pub returns-then-page-eq-ROOTS_PAGE-clause-sound : goal.returns-then-page-eq-ROOTS_PAGE-clause-sound
returns-then-page-eq-ROOTS_PAGE-clause-sound c =
    roots_sound c.args.catalog.now BASE c.args.image.now c.update_roots.new.image c.requires.sound (follows c.args.tables.now) (sym c.page.ensures.page ∙ c.if-page-eq-ROOTS_PAGE.true) c.update_roots.ensures.page
    c.update_roots.ensures.sheet c.requires.keeps

pub returns-else-page-eq-ROOTS_PAGE-clause-updated : goal.returns-else-page-eq-ROOTS_PAGE-clause-updated
returns-else-page-eq-ROOTS_PAGE-clause-updated c = record {
  roots = λ two. absurd (c.if-page-eq-ROOTS_PAGE.false (c.page.ensures.page ∙ two));
  objects = λ _. c.update_objects.ensures.sheet;
}

pub returns-else-page-eq-ROOTS_PAGE-clause-sound : goal.returns-else-page-eq-ROOTS_PAGE-clause-sound
returns-else-page-eq-ROOTS_PAGE-clause-sound c =
    renamed_sound c.args.catalog.now BASE c.args.image.now c.update_objects.new.image c.requires.sound (follows c.args.tables.now) c.update_objects.ensures.page c.update_objects.ensures.sheet c.requires.keeps
    (λ two. c.if-page-eq-ROOTS_PAGE.false (c.page.ensures.page ∙ two))
