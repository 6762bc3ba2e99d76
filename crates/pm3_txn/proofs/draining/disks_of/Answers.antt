use Rattle.std.proofs.Common.{◌≡◌, List, [], ◌∷◌, ◌++◌, Option, sym, ap, ◌∙◌}
use Rattle.std.specs.Option.{option_to_list}
use Rattle.pm3_txn.specs.declared.values.Value.{Value}
use Rattle.pm3_txn.proofs.Drained.{others_are, slot_is_turn, disks_are}
use Rattle.pm3_txn.proofs.draining.disks_of.Goals as goal

pub let_go-requires : goal.let_go-requires
let_go-requires g c =
    let V : Type 0 = Option (Value g.row.D.Denot g.row.D-Reader.Denot) in
    let rest : List V = c.pop-last.new.self.items in
    let is : c.args.homes ≡ rest ++ c.in-Some.slot ∷ [] = sym c.into_slots-slots.ensures ∙ c.pop-last.ensures.items ∙ ap (λ (o : Option V). rest ++ option_to_list o) c.in-Some.is in
    others_are c.args.homes rest c.in-Some.slot is c.requires

pub turn_of-journal-requires : goal.turn_of-journal-requires
turn_of-journal-requires g c =
    let V : Type 0 = Option (Value g.row.D.Denot g.row.D-Reader.Denot) in
    let rest : List V = c.pop-last.new.self.items in
    let is : c.args.homes ≡ rest ++ c.in-Some.slot ∷ [] = sym c.into_slots-slots.ensures ∙ c.pop-last.ensures.items ∙ ap (λ (o : Option V). rest ++ option_to_list o) c.in-Some.is in
    slot_is_turn c.args.homes rest c.in-Some.slot is c.requires

pub returns : goal.returns
returns g c =
    let V : Type 0 = Option (Value g.row.D.Denot g.row.D-Reader.Denot) in
    let rest : List V = c.pop-last.new.self.items in
    let is : c.args.homes ≡ rest ++ c.in-Some.slot ∷ [] = sym c.into_slots-slots.ensures ∙ c.pop-last.ensures.items ∙ ap (λ (o : Option V). rest ++ option_to_list o) c.in-Some.is in
    disks_are c.args.homes rest c.in-Some.slot c.turn_of-journal.result c.into_disk.result is c.turn_of-journal.ensures c.into_disk.ensures
