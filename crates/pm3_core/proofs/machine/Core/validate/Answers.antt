use Rattle.std.proofs.Common.{◌≡◌, ◌∙◌, ap, sym, ℕ, not, get_or, None, is_some, arith}
use Rattle.std.proofs.lemmas.List.{get_or_read}
use Rattle.pm3_core.specs.Snapshot.{snapshot, mark_of, state_of}
use Rattle.pm3_core.specs.Naming.{Names}
use Rattle.pm3_core.proofs.Names.{unmarked_none}
use Rattle.pm3_core.proofs.Effects.{validate_done, validate_idle, free_of}
use Rattle.pm3_core.proofs.machine.Core.validate.Goals as goal

pub returns-then-is_none-clause-answer : goal.returns-then-is_none-clause-answer
returns-then-is_none-clause-answer c =
    let word : c.index.result.now ≡ get_or c.self.inside.words.items c.in-Some.at 0 =
    get_or_read c.self.inside.words.items c.in-Some.at c.index.result.now (omega (arith, c.self.invariant.words_are, c.in-Some.ensures.below)) c.index.ensures 0 in
    let names : Names c.self.inside.pages (get_or c.self.inside.words.items c.in-Some.at 0) c.in-Some-page_of.page = rw word at c.in-Some-page_of.ensures in
    let free : mark_of (get_or c.self.inside.marks c.in-Some-page_of.page None) ≡ 0 =
    free_of (get_or c.self.inside.marks c.in-Some-page_of.page None) (ap is_some (sym c.marker.ensures) ∙ (c.is_none.ensures ∙ ap not c.if-is_none.true)) in
    rw (← c.self.view_is) (validate_done (snapshot c.self.inside.pages c.self.inside.words.items c.self.inside.stands.items c.self.inside.marks) c.args.who c.args.place c.in-Some.at c.in-Some-page_of.page c.self.invariant c.in-Some.ensures.found.0 c.in-Some.ensures.found.1 c.in-Some.ensures.below names free)

pub returns-in_default-page_of-clause-answer : goal.returns-in_default-page_of-clause-answer
returns-in_default-page_of-clause-answer c =
    let word : c.index.result.now ≡ get_or c.self.inside.words.items c.in-Some.at 0 =
    get_or_read c.self.inside.words.items c.in-Some.at c.index.result.now (omega (arith, c.self.invariant.words_are, c.in-Some.ensures.below)) c.index.ensures 0 in
    let none : (page : ℕ) → Names c.self.inside.pages (get_or c.self.inside.words.items c.in-Some.at 0) page → ⊥ = rw word at c.in_default-page_of.ensures in
    rw (← c.self.view_is) (validate_idle (snapshot c.self.inside.pages c.self.inside.words.items c.self.inside.stands.items c.self.inside.marks) c.args.who c.args.place c.in-Some.at c.in-Some.ensures.found.0 c.in-Some.ensures.found.1 (unmarked_none c.self.inside.pages (get_or c.self.inside.words.items c.in-Some.at 0) (state_of (snapshot c.self.inside.pages c.self.inside.words.items c.self.inside.stands.items c.self.inside.marks)).mark none))
