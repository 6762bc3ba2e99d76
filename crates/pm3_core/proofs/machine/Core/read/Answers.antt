use Rattle.std.proofs.Common.{◌≡◌, ℕ, get_or, MatchOption, arith}
use Rattle.std.proofs.lemmas.List.{get_or_read}
use Rattle.pm3_core.specs.Naming.{Names}
use Rattle.pm3_core.specs.Snapshot.{snapshot}
use Rattle.pm3_core.proofs.Effects.{read_done}
use Rattle.pm3_core.proofs.machine.Core.read.Goals as goal

pub returns-clause-answer : goal.returns-clause-answer
returns-clause-answer c =
    let word : c.index.result.now ≡ get_or c.self.inside.words.items c.in-Some.at 0 =
    get_or_read c.self.inside.words.items c.in-Some.at c.index.result.now (omega (arith, c.self.invariant.words_are, c.in-Some.ensures.below)) c.index.ensures 0 in
    let finds : MatchOption c.page_of-named.result ((page : ℕ) → Names c.self.inside.pages (get_or c.self.inside.words.items c.in-Some.at 0) page → ⊥) (Names c.self.inside.pages (get_or c.self.inside.words.items c.in-Some.at 0)) =
    rw word at c.page_of-named.ensures in
    rw (← c.self.view_is) (read_done (snapshot c.self.inside.pages c.self.inside.words.items c.self.inside.stands.items c.self.inside.marks) c.args.who c.args.row c.args.place c.in-Some.at c.page_of-named.result c.read_off.new.self c.self.invariant (omega arith) c.in-Some.ensures.found.0 c.in-Some.ensures.found.1 c.in-Some.ensures.below finds c.read_off.ensures.marks)
