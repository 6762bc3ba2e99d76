use Rattle.std.proofs.Common.{◌≡◌, ℕ, is_some, sym, ap, subst, ◌∙◌, inr}
use Rattle.std.specs.FinMap.{get}
use Rattle.std.proofs.lemmas.List.Elements.{All-push}
use Rattle.pm3_core.specs.declared.naming.TheConstants.{BASE}
use Rattle.pm3_types.specs.Layout.{is_start}
use Rattle.oo7_dump.specs.Held.{AreHeld, IsHeld}
use Rattle.oo7_dump.specs.Raw.{raw_at}
use Rattle.oo7_dump.proofs.Loading.{bare_word, held_after}
use Rattle.oo7_dump.proofs.MeetingOne.{meets_new, raw_there}
use Rattle.oo7_dump.proofs.meeting.meet_new.Goals as goal

pub returns-then-not-is_object-clause-damaged : goal.returns-then-not-is_object-clause-damaged
returns-then-not-is_object-clause-damaged g c = λ page word is.
    let on : c.page_of-page.result ≡ page = cc is in
    let at : c.word_of.result ≡ word = cc is in
    let held = sym c.in-Some.ensures in
    let home = (c.in-Ok.ensures.loads.sound c.page_of-page.result c.in-Some.image.now held).0 in
    let bare = bare_word c.in-Some.image.now c.args.name c.requires.address (home ∙ c.page_of-page.ensures) (sym c.is_object.ensures ∙ c.if-not-is_object.true) in
    record {
      some = c.requires.some;
      on = sym on ∙ c.page_of-page.ensures;
      why = inr (
        sym at ∙ c.word_of.ensures,
        record {
          image = c.in-Some.image.now;
          on = ap (get c.hold.new.images.images) (sym on) ∙ held;
          bare = ap (λ (w : ℕ). is_start c.in-Some.image.now.sheet w) (sym at ∙ c.word_of.ensures) ∙ bare;
        },
      );
    }

pub returns-in-Ok-add-clause-held : goal.returns-in-Ok-add-clause-held
returns-in-Ok-add-clause-held g c =
    subst (AreHeld c.hold.new.images.images) (sym c.in-Ok-add.ensures.added)
    (All-push (IsHeld c.hold.new.images.images) c.args.met.now c.args.name
    (held_after c.in-Ok.ensures.loads c.args.met.now c.requires.held)
    (record {
      image = c.in-Some.image.now;
      on = ap (get c.hold.new.images.images) (sym c.page_of-page.ensures) ∙ sym c.in-Some.ensures;
      begins = sym c.is_object.ensures ∙ c.if-not-is_object.false;
    }))

pub returns-in-Ok-add-clause-met : goal.returns-in-Ok-add-clause-met
returns-in-Ok-add-clause-met g c = λ all among.
    let held = sym c.in-Some.ensures in
    let sound = (c.in-Ok.ensures.loads.sound c.page_of-page.result c.in-Some.image.now held).3 in
    let there = raw_there c.args.catalog.now c.args.pages c.hold.new.images.images all c.in-Some.image.now c.args.name among
    (ap (get c.hold.new.images.images) (sym c.page_of-page.ensures) ∙ held) (sym c.is_object.ensures ∙ c.if-not-is_object.false) sound in
    c.in-Ok-add.ensures.added ∙ meets_new (raw_at c.args.catalog.now BASE all) c.args.met.now c.args.name (ap is_some there) c.requires.new
