use Rattle.std.proofs.Common.{◌≡◌, List, [], ◌∷◌, ◌++◌, Option, sym, ap, ◌∙◌, arith}
use Rattle.std.specs.Option.{option_to_list}
use Rattle.pm3_txn.specs.declared.values.Value.{Value}
use Rattle.pm3_txn.proofs.ClosingSteps.{ends_by, no_image}
use Rattle.pm3_txn.proofs.Collecting.{rest_all, rest_home}
use Rattle.pm3_txn.proofs.Drained.{others_are, slot_is_turn}
use Rattle.pm3_txn.proofs.gathering.gathered.Goals as goal

pub turn_of-turn-requires : goal.turn_of-turn-requires
turn_of-turn-requires g c =
    let V : Type 0 = Option (Value g.row.D.Denot g.row.D-Reader.Denot) in
    let rest : List V = c.pop-last.new.self.items in
    let is : c.args.homes ≡ rest ++ c.in-Some.slot ∷ [] = sym c.into_slots-slots.ensures ∙ c.pop-last.ensures.items ∙ ap (λ (o : Option V). rest ++ option_to_list o) c.in-Some.is in
    slot_is_turn c.args.homes rest c.in-Some.slot is c.requires.last

pub put_images-requires-clause-none : goal.put_images-requires-clause-none
put_images-requires-clause-none g c =
    let V : Type 0 = Option (Value g.row.D.Denot g.row.D-Reader.Denot) in
    let rest : List V = c.pop-last.new.self.items in
    let is : c.args.homes ≡ rest ++ c.in-Some.slot ∷ [] = sym c.into_slots-slots.ensures ∙ c.pop-last.ensures.items ∙ ap (λ (o : Option V). rest ++ option_to_list o) c.in-Some.is in
    others_are c.args.homes rest c.in-Some.slot is c.requires.last

pub put_images-requires-clause-home : goal.put_images-requires-clause-home
put_images-requires-clause-home g c =
    let V : Type 0 = Option (Value g.row.D.Denot g.row.D-Reader.Denot) in
    let rest : List V = c.pop-last.new.self.items in
    let is : c.args.homes ≡ rest ++ c.in-Some.slot ∷ [] = sym c.into_slots-slots.ensures ∙ c.pop-last.ensures.items ∙ ap (λ (o : Option V). rest ++ option_to_list o) c.in-Some.is in
    rest_home c.args.homes rest c.in-Some.slot is c.requires.home

pub put_images-requires-clause-room : goal.put_images-requires-clause-room
put_images-requires-clause-room g c =
    let room = c.in-Some-room_for.ensures.room in
    let count = c.len-count.ensures in
    omega (arith, room, count)

pub returns-in-Some-room_for-clause-turn : goal.returns-in-Some-room_for-clause-turn
returns-in-Some-room_for-clause-turn g c =
    let V : Type 0 = Option (Value g.row.D.Denot g.row.D-Reader.Denot) in
    let rest : List V = c.pop-last.new.self.items in
    let is : c.args.homes ≡ rest ++ c.in-Some.slot ∷ [] = sym c.into_slots-slots.ensures ∙ c.pop-last.ensures.items ∙ ap (λ (o : Option V). rest ++ option_to_list o) c.in-Some.is in
    ends_by c.args.homes rest c.in-Some.slot c.turn_of-turn.result is c.requires.last c.turn_of-turn.ensures

pub returns-in-Some-room_for-clause-images : goal.returns-in-Some-room_for-clause-images
returns-in-Some-room_for-clause-images g c =
    let V : Type 0 = Option (Value g.row.D.Denot g.row.D-Reader.Denot) in
    let rest : List V = c.pop-last.new.self.items in
    let is : c.args.homes ≡ rest ++ c.in-Some.slot ∷ [] = sym c.into_slots-slots.ensures ∙ c.pop-last.ensures.items ∙ ap (λ (o : Option V). rest ++ option_to_list o) c.in-Some.is in
    rest_all c.args.homes rest c.in-Some.slot c.put_images.new.images.images is (no_image c.in-Some.slot c.turn_of-turn.result c.turn_of-turn.ensures) c.put_images.ensures

pub let_go-requires : goal.let_go-requires
let_go-requires g c =
    let V : Type 0 = Option (Value g.row.D.Denot g.row.D-Reader.Denot) in
    let rest : List V = c.pop-last.new.self.items in
    let is : c.args.homes ≡ rest ++ c.in-Some.slot ∷ [] = sym c.into_slots-slots.ensures ∙ c.pop-last.ensures.items ∙ ap (λ (o : Option V). rest ++ option_to_list o) c.in-Some.is in
    others_are c.args.homes rest c.in-Some.slot is c.requires.last

pub returns-in-None-clause-turn : goal.returns-in-None-clause-turn
returns-in-None-clause-turn g c =
    let V : Type 0 = Option (Value g.row.D.Denot g.row.D-Reader.Denot) in
    let rest : List V = c.pop-last.new.self.items in
    let is : c.args.homes ≡ rest ++ c.in-Some.slot ∷ [] = sym c.into_slots-slots.ensures ∙ c.pop-last.ensures.items ∙ ap (λ (o : Option V). rest ++ option_to_list o) c.in-Some.is in
    ends_by c.args.homes rest c.in-Some.slot c.turn_of-turn.result is c.requires.last c.turn_of-turn.ensures
