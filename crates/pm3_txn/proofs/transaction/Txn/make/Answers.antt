use Rattle.std.proofs.Common.{◌⊎◌, ◌∙◌, slice_get, subst}
use Rattle.atomic_table.specs.Seated.{TableId}
use Rattle.pm3_types.specs.Layout.{size_by}
use Rattle.pm3_table.specs.declared.view.Told.{Told}
use Rattle.pm3_txn.specs.Making.{HasNoRoom}
use Rattle.pm3_txn.specs.Spaces.{IsOutOfPages, IsShortOfMemory}
use Rattle.pm3_txn.specs.States.{told_in}
use Rattle.pm3_txn.specs.Underway.{IsUnderway}
use Rattle.pm3_txn.proofs.Made.{has_made, no_name, no_room, never_marked}
use Rattle.pm3_txn.proofs.transaction.Txn.make.Goals as goal

pub returns-in-Err-draw_name-clause-refused : goal.returns-in-Err-draw_name-clause-refused
returns-in-Err-draw_name-clause-refused g c = no_name c.args.self.now c.hold_space.new.self c.draw_name.new.self (size_by (slice_get (told_in c.args.self.now).opening.catalog c.args.ty) c.args.tail) c.in_default.ensures.taken c.in-Err-draw_name.fault c.in-Err-draw_name.ensures.full

pub returns-in-Err-place_new-clause-refused : goal.returns-in-Err-place_new-clause-refused
returns-in-Err-place_new-clause-refused g c = no_room c.args.self.now c.hold_space.new.self c.place_new.new.self (size_by (slice_get (told_in c.args.self.now).opening.catalog c.args.ty) c.args.tail) c.in_default.ensures.taken c.draw_name.new.self c.in-Ok.name c.in-Ok.ensures.drawn c.in-Err-place_new.fault
    (subst (λ (heap : TableId × Told). (IsOutOfPages c.draw_name.new.self c.place_new.new.self (size_by (slice_get heap.1.opening.catalog c.args.ty) c.args.tail) c.in-Err-place_new.fault
    × HasNoRoom c.place_new.new.self (size_by (slice_get heap.1.opening.catalog c.args.ty) c.args.tail)) ⊎ IsShortOfMemory c.draw_name.new.self c.place_new.new.self c.in-Err-place_new.fault)
    (c.draw_name.ensures.heap ∙ c.hold_space.ensures.heap) c.in-Err-place_new.ensures.refused)

pub unreachable-requires : goal.unreachable-requires
unreachable-requires g c = never_marked g.D.Reader.Reader.content c.place_new.new.self c.put_reference.new.self c.args.j c.in-Ok-place_new.at c.in_default-put_reference.field-0
    (subst (IsUnderway g.D.Reader.Reader.content) c.self.view_is c.self.invariant) c.in_default-put_reference.ensures.marked c.in-Ok-place_new.ensures.placed.object.own c.in_default-put_reference.ensures.own

pub returns-clause-made : goal.returns-clause-made
returns-clause-made g c = has_made c.args.self.now c.hold_space.new.self c.draw_name.new.self c.place_new.new.self c.args.ty c.args.tail c.in-Ok.name c.in-Ok-place_new.at c.in_default.ensures.taken c.in-Ok.ensures.drawn
    c.in-Ok-place_new.ensures.placed c.put_reference.new.self c.args.j c.in-Ok-put_reference.ensures.placed
