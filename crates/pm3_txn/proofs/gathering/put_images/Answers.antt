use Rattle.std.proofs.Common.{◌≡◌, ◌+◌, List, [], ◌∷◌, ◌++◌, Option, length, length-append, ap, ◌∙◌, arith}
use Rattle.std.specs.Option.{option_to_list}
use Rattle.pm3_txn.specs.declared.values.Value.{Value}
use Rattle.pm3_txn.proofs.Collecting.{all_there, is_new, none_yet, one_put}
use Rattle.pm3_txn.proofs.Drained.{last_no_turn, rest_no_turns}
use Rattle.pm3_txn.proofs.gathering.put_images.Goals as goal

pub loop-n-init : goal.loop-n-init
loop-n-init g c = record {
  long = omega arith;
  none = c.requires.none;
  room = c.requires.room;
  gathered = none_yet c.args.slots.items c.args.images.now.images c.requires.empty;
}

pub put_image-requires-clause-none : goal.put_image-requires-clause-none
put_image-requires-clause-none g c =
    let V : Type 0 = Option (Value g.row.D.Denot g.row.D-Reader.Denot) in
    let rest : List V = c.pop-last.new.self.items in
    let is : c.loop-n.slots.items ≡ rest ++ c.in-Some.slot ∷ [] = c.pop-last.ensures.items ∙ ap (λ (o : Option V). rest ++ option_to_list o) c.in-Some.is in
    last_no_turn c.loop-n.slots.items rest c.in-Some.slot is c.loop-n.invariant.none

pub put_image-requires-clause-new : goal.put_image-requires-clause-new
put_image-requires-clause-new g c =
    let V : Type 0 = Option (Value g.row.D.Denot g.row.D-Reader.Denot) in
    let rest : List V = c.pop-last.new.self.items in
    let is : c.loop-n.slots.items ≡ rest ++ c.in-Some.slot ∷ [] = c.pop-last.ensures.items ∙ ap (λ (o : Option V). rest ++ option_to_list o) c.in-Some.is in
    is_new c.args.slots.items c.loop-n.slots.items rest c.in-Some.slot c.loop-n.images.images is c.loop-n.invariant.gathered c.requires.home

pub loop-n-preserved : goal.loop-n-preserved
loop-n-preserved g c =
    let V : Type 0 = Option (Value g.row.D.Denot g.row.D-Reader.Denot) in
    let rest : List V = c.pop-last.new.self.items in
    let is : c.loop-n.slots.items ≡ rest ++ c.in-Some.slot ∷ [] = c.pop-last.ensures.items ∙ ap (λ (o : Option V). rest ++ option_to_list o) c.in-Some.is in
    let long : length c.loop-n.slots.items ≡ length rest + 1 = ap (λ (l : List V). length l) is ∙ length-append rest (c.in-Some.slot ∷ []) in
    let before = c.loop-n.invariant.long in
    let room = c.loop-n.invariant.room in
    let spare = c.put_image.ensures.spare in
    record {
      long = omega (arith, long, before);
      none = rest_no_turns c.loop-n.slots.items rest c.in-Some.slot (length c.loop-n.slots.items) is (omega arith) c.loop-n.invariant.none;
      room = omega (arith, long, room, spare);
      gathered = one_put c.args.slots.items c.loop-n.slots.items rest c.in-Some.slot c.loop-n.images.images is c.loop-n.invariant.gathered c.requires.home c.put_image.new.images.images c.put_image.ensures.images;
    }

pub returns : goal.returns
returns g c =
    let long = c.loop-n.invariant.long in
    let end = c.loop-n-test.false in
    let count = c.len-n-end.ensures in
    all_there c.args.slots.items c.loop-n.slots.items c.loop-n.images.images (omega (arith, long, end, count)) c.loop-n.invariant.gathered
