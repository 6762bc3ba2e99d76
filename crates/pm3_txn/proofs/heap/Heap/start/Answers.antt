use Rattle.std.proofs.Common.{rules, List, Option, refl, sym, ap, ◌∙◌, subst}
use Rattle.pm3_journal.specs.Journals.{Keeps}
use Rattle.pm3_table.specs.declared.view.Told.{Told}
use Rattle.pm3_table.specs.FirstHomes.{FirstHomes}
use Rattle.pm3_table.specs.OpensBelow.{OpensBelow}
use Rattle.pm3_table.specs.Starting.{first_view}
use Rattle.pm3_txn.specs.declared.values.Turn.{Turn as Turns}
use Rattle.pm3_txn.specs.declared.values.Value.{Value}
use Rattle.pm3_txn.specs.Draining.{EndsWithTurn, HasTurnLast}
use Rattle.pm3_txn.specs.Slots.{stands_for, pages_in}
use Rattle.pm3_txn.proofs.HomesStand as stand
use Rattle.pm3_txn.proofs.heap.Heap.start.Goals as goal

pub start-requires-clause-opening : goal.start-requires-clause-opening
start-requires-clause-opening g c =
    let s = c.args.opened in
    let turn : Turns g.row.D.Denot g.row.D-Reader.Denot = record { journal = s.journal; next_name = s.marks.next_name; high_page = s.marks.high_page; file = s.pages; opened = c.of-whole.result } in
    let keeps : Keeps g.D.Disk s.journal = search rules in
    subst OpensBelow
    (stand.told_here g.D.Disk s c.requires.open c.frontier_of-frontier.result c.frontier_of-frontier.ensures.top turn c.of-whole.ensures refl refl refl refl c.filled-homes.result c.filled-homes.ensures.wide c.filled-homes.ensures.filled)
    (stand.opens_below g.D.Disk s c.requires.open c.frontier_of-frontier.result c.frontier_of-frontier.ensures.top turn c.of-whole.ensures refl refl refl refl c.filled-homes.result c.filled-homes.ensures.wide c.filled-homes.ensures.filled keeps)

pub start-requires-clause-homes : goal.start-requires-clause-homes
start-requires-clause-homes g c =
    let s = c.args.opened in
    let turn : Turns g.row.D.Denot g.row.D-Reader.Denot = record { journal = s.journal; next_name = s.marks.next_name; high_page = s.marks.high_page; file = s.pages; opened = c.of-whole.result } in
    let keeps : Keeps g.D.Disk s.journal = search rules in
    subst (λ (told : Told). FirstHomes (stands_for g.D.Disk) pages_in told c.filled-homes.result)
    (stand.told_here g.D.Disk s c.requires.open c.frontier_of-frontier.result c.frontier_of-frontier.ensures.top turn c.of-whole.ensures refl refl refl refl c.filled-homes.result c.filled-homes.ensures.wide c.filled-homes.ensures.filled)
    (stand.first_homes g.D.Disk s c.requires.open c.frontier_of-frontier.result c.frontier_of-frontier.ensures.top turn c.of-whole.ensures refl refl refl refl c.filled-homes.result c.filled-homes.ensures.wide c.filled-homes.ensures.filled keeps)

pub invariant_of-heap : goal.invariant_of-heap
invariant_of-heap g c =
    let s = c.args.opened in
    let turn : Turns g.row.D.Denot g.row.D-Reader.Denot = record { journal = s.journal; next_name = s.marks.next_name; high_page = s.marks.high_page; file = s.pages; opened = c.of-whole.result } in
    let keeps : Keeps g.D.Disk s.journal = search rules in
    stand.heap_is g.D.Disk s c.requires.open c.frontier_of-frontier.result c.frontier_of-frontier.ensures.top turn c.of-whole.ensures refl refl refl refl c.filled-homes.result c.filled-homes.ensures.wide c.filled-homes.ensures.filled keeps c.frontier_of-frontier.ensures.low c.in-Ok-start.shared.1
    (stand.told_here g.D.Disk s c.requires.open c.frontier_of-frontier.result c.frontier_of-frontier.ensures.top turn c.of-whole.ensures refl refl refl refl c.filled-homes.result c.filled-homes.ensures.wide c.filled-homes.ensures.filled ∙ sym c.in-Ok-start.ensures.ok.0)

pub disks_of-pages-requires : goal.disks_of-pages-requires
disks_of-pages-requires g c =
    let s = c.args.opened in
    let turn : Turns g.row.D.Denot g.row.D-Reader.Denot = record { journal = s.journal; next_name = s.marks.next_name; high_page = s.marks.high_page; file = s.pages; opened = c.of-whole.result } in
    subst (λ (l : List (Option (Value g.row.D.Denot g.row.D-Reader.Denot))). HasTurnLast l) (sym c.in-Err.ensures.err)
    (turn, stand.ends_with g.D.Disk s c.requires.open c.frontier_of-frontier.result c.frontier_of-frontier.ensures.top turn c.of-whole.ensures refl refl refl refl c.filled-homes.result c.filled-homes.ensures.wide c.filled-homes.ensures.filled)

pub returns-in-Ok-start-clause-started : goal.returns-in-Ok-start-clause-started
returns-in-Ok-start-clause-started g c =
    let s = c.args.opened in
    let turn : Turns g.row.D.Denot g.row.D-Reader.Denot = record { journal = s.journal; next_name = s.marks.next_name; high_page = s.marks.high_page; file = s.pages; opened = c.of-whole.result } in
    stand.started g.D.Disk s c.requires.open c.frontier_of-frontier.result c.frontier_of-frontier.ensures.top turn c.of-whole.ensures refl refl refl refl c.filled-homes.result c.filled-homes.ensures.wide c.filled-homes.ensures.filled c.in-Ok-start.shared.1
    (stand.told_here g.D.Disk s c.requires.open c.frontier_of-frontier.result c.frontier_of-frontier.ensures.top turn c.of-whole.ensures refl refl refl refl c.filled-homes.result c.filled-homes.ensures.wide c.filled-homes.ensures.filled ∙ sym c.in-Ok-start.ensures.ok.0)

pub returns-in-Ok-start-clause-first : goal.returns-in-Ok-start-clause-first
returns-in-Ok-start-clause-first g c =
    let s = c.args.opened in
    let turn : Turns g.row.D.Denot g.row.D-Reader.Denot = record { journal = s.journal; next_name = s.marks.next_name; high_page = s.marks.high_page; file = s.pages; opened = c.of-whole.result } in
    stand.first_is g.D.Disk s c.requires.open c.frontier_of-frontier.result c.frontier_of-frontier.ensures.top turn c.of-whole.ensures refl refl refl refl c.filled-homes.result c.filled-homes.ensures.wide c.filled-homes.ensures.filled
    c.args.reader c.in-Ok.refs.items c.in-Ok.wrote.items c.in-Ok-start.pass c.in-Ok-start.shared.0 c.in-Ok-start.ensures.ok.1
    (c.in-Ok-start.ensures.ok.2 ∙ ap first_view (stand.heard g.D.Disk s c.requires.open c.frontier_of-frontier.result c.frontier_of-frontier.ensures.top turn c.of-whole.ensures refl refl refl refl c.filled-homes.result c.filled-homes.ensures.wide c.filled-homes.ensures.filled))
    c.in-Ok.ensures.refs c.in-Ok.ensures.wrote

pub returns-in-Ok-start-clause-belongs : goal.returns-in-Ok-start-clause-belongs
returns-in-Ok-start-clause-belongs g c =
    let s = c.args.opened in
    let turn : Turns g.row.D.Denot g.row.D-Reader.Denot = record { journal = s.journal; next_name = s.marks.next_name; high_page = s.marks.high_page; file = s.pages; opened = c.of-whole.result } in
    stand.first_belongs g.D.Disk s c.requires.open c.frontier_of-frontier.result c.frontier_of-frontier.ensures.top turn c.of-whole.ensures refl refl refl refl c.filled-homes.result c.filled-homes.ensures.wide c.filled-homes.ensures.filled
    g.D.Reader.Reader.content c.in-Ok-start.shared _ c.args.reader
    (stand.told_here g.D.Disk s c.requires.open c.frontier_of-frontier.result c.frontier_of-frontier.ensures.top turn c.of-whole.ensures refl refl refl refl c.filled-homes.result c.filled-homes.ensures.wide c.filled-homes.ensures.filled ∙ sym c.in-Ok-start.ensures.ok.0)
    (returns-in-Ok-start-clause-first g c) c.requires.reads

pub returns-in-Err-clause-back : goal.returns-in-Err-clause-back
returns-in-Err-clause-back g c =
    let s = c.args.opened in
    let turn : Turns g.row.D.Denot g.row.D-Reader.Denot = record { journal = s.journal; next_name = s.marks.next_name; high_page = s.marks.high_page; file = s.pages; opened = c.of-whole.result } in
    let both = c.disks_of-pages.ensures turn (subst (λ (l : List (Option (Value g.row.D.Denot g.row.D-Reader.Denot))). EndsWithTurn l turn) (sym c.in-Err.ensures.err)
    (stand.ends_with g.D.Disk s c.requires.open c.frontier_of-frontier.result c.frontier_of-frontier.ensures.top turn c.of-whole.ensures refl refl refl refl c.filled-homes.result c.filled-homes.ensures.wide c.filled-homes.ensures.filled)) in (
      both.0,
      both.1,
      refl,
    )
