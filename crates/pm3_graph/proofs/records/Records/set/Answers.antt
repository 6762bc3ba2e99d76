use Rattle.std.proofs.Common.{rules, ◌≡◌, sym, ap, ◌∙◌, Option, Some, None}
use Rattle.std.specs.FinMap.{get, insert}
use Rattle.pm3_types.specs.Record.{Record}
use Rattle.pm3_types.specs.Places.{with_value}
use Rattle.pm3_types.specs.Graph.{Records}
use Rattle.pm3_graph.proofs.Views.{get-entries_of, inserted}
use Rattle.pm3_graph.proofs.records.Records.set.Goals as goal

same_given : (r s : Record) (o : Option Record) → o ≡ Some r → o ≡ Some s → r ≡ s
same_given r s o is also = cc

pub returns-in_default : goal.returns-in_default
returns-in_default c = λ r is.
    let none : get c.args.self.now c.args.name ≡ None =
    ap (λ (m : Records). get m c.args.name) (sym c.self.view_is)
    ∙ get-entries_of c.self.inside.kept.entries c.args.name ∙ sym c.in_default.ensures.value in
    cc (none, is)

pub set-requires : goal.set-requires
set-requires c =
    c.requires c.in-Some.kept.now
    (ap (λ (m : Records). get m c.args.name) (sym c.self.view_is)
    ∙ get-entries_of c.self.inside.kept.entries c.args.name ∙ sym c.in-Some.ensures.value)

pub returns : goal.returns
returns c = λ r is.
    let found : get c.args.self.now c.args.name ≡ Some c.in-Some.kept.now =
    ap (λ (m : Records). get m c.args.name) (sym c.self.view_is)
    ∙ get-entries_of c.self.inside.kept.entries c.args.name ∙ sym c.in-Some.ensures.value in
    inserted c.self.inside.kept.entries (c.get_mut.follows.lender c.set.new.self).entries c.args.name c.set.new.self
    (((c.get_mut.follows.holds c.set.new.self).3 (search rules)).0)
    ∙ ap (λ (m : Records). insert m c.args.name c.set.new.self) c.self.view_is
    ∙ ap (insert c.args.self.now c.args.name)
    (c.set.ensures ∙ ap (λ (s : Record). with_value s c.args.place c.args.value) (same_given _ _ _ found is))
