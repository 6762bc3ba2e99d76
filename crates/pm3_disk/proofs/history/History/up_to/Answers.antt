use Rattle.std.proofs.Common.{◌≡◌, ◌∙◌, List, take, reverse, sym, ap, ◌+◌, arith}
use Rattle.std.proofs.lemmas.List.{reverse-reverse}
use Rattle.pm3_disk.specs.Past.{Past}
use Rattle.pm3_disk.specs.declared.call.Call.{Call}
use Rattle.pm3_disk.proofs.Crashed.{reverse_oldest}
use Rattle.pm3_disk.proofs.history.History.up_to.Goals as goal

pub returns : goal.returns
returns c =
    let calls = c.args.self.now.calls in
    let viewed : reverse c.self.inside.calls.items ≡ calls = ap (λ (past : Past). past.calls) c.self.view_is in
    let items : c.deref.result.now ≡ reverse calls = c.deref.ensures.value ∙ sym (reverse-reverse c.self.inside.calls.items) ∙ ap reverse viewed in
    ap (λ (l : List Call). reverse (take (c.args.number + 1) l)) items ∙ reverse_oldest (c.args.number + 1) calls (omega (arith, c.requires))
