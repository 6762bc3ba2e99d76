use Rattle.std.proofs.Common.{◌≡◌, ◌+◌, List, [], ◌∷◌, ◌++◌, Option, length, length-append, ap, ◌∙◌, arith}
use Rattle.std.specs.Option.{option_to_list}
use Rattle.pm3_txn.specs.declared.values.Value.{Value}
use Rattle.pm3_txn.proofs.Drained.{last_no_turn, rest_no_turns}
use Rattle.pm3_txn.proofs.draining.let_go.Goals as goal

pub let_slot_go-requires : goal.let_slot_go-requires
let_slot_go-requires g c =
    let V : Type 0 = Option (Value g.row.D.Denot g.row.D-Reader.Denot) in
    let rest : List V = c.pop-last.new.self.items in
    let is : c.loop-n.slots.items ≡ rest ++ c.in-Some.slot ∷ [] = c.pop-last.ensures.items ∙ ap (λ (o : Option V). rest ++ option_to_list o) c.in-Some.is in
    last_no_turn c.loop-n.slots.items rest c.in-Some.slot is c.loop-n.invariant.none

pub loop-n-preserved : goal.loop-n-preserved
loop-n-preserved g c =
    let V : Type 0 = Option (Value g.row.D.Denot g.row.D-Reader.Denot) in
    let rest : List V = c.pop-last.new.self.items in
    let is : c.loop-n.slots.items ≡ rest ++ c.in-Some.slot ∷ [] = c.pop-last.ensures.items ∙ ap (λ (o : Option V). rest ++ option_to_list o) c.in-Some.is in
    let long : length c.loop-n.slots.items ≡ length rest + 1 = ap (λ (l : List V). length l) is ∙ length-append rest (c.in-Some.slot ∷ []) in
    let before = c.loop-n.invariant.long in
    record {
      long = omega (arith, long, before);
      none = rest_no_turns c.loop-n.slots.items rest c.in-Some.slot (length c.loop-n.slots.items) is (omega arith) c.loop-n.invariant.none;
    }
