use Rattle.std.proofs.Common.{◌≡◌, List, drop, rules, subst}
use Rattle.std.specs.Prelude.{String}
use Rattle.std.specs.Global.{Global}
use Rattle.oo7.specs.Answer.{Answers}
use Rattle.oo7.specs.Words.{command_of, texts}
use Rattle.oo7.proofs.outside.Outside.end.Goals as goal

pub returns-clause-answer : goal.returns-clause-answer
returns-clause-answer g c =
    let words : c.behind_first.result.now ≡ drop 1 c.args.self.arguments.items = search rules in
    let answer = subst (λ (w : List (String Global)). Answers g.D.Disk g.K.Sink (record {
      command = command_of (texts w);
      before = record { pages = c.args.self.pages; journal = c.args.self.journal };
      after = record { pages = c.oo7-done.result.pages; journal = c.oo7-done.result.journal };
      status = c.oo7-done.result.status;
    }) c.args.self.sink c.oo7-done.new.sink) words c.oo7-done.ensures.answer in
    (record { pages = c.oo7-done.result.pages; journal = c.oo7-done.result.journal }, c.oo7-done.new.sink, rw c.from.ensures answer)
