use Rattle.std.proofs.Common.{◌≡◌, None, ap, sym, ◌∙◌}
use Rattle.pm3_journal.proofs.Emptying.{gate_there, none_left, part_left, keeps_emptied, keeps_torn, all_or_none_left, emptied_by, space_cleared, stays_stopped}
use Rattle.pm3_journal.proofs.journal.Journal.close_first_gate.Goals as goal

pub write_through-requires : goal.write_through-requires
write_through-requires g c =
    gate_there g.D.Disk _ c.self.invariant.0 (rw (← c.self.view_is) at c.requires.some) (λ bytes told. g.met.D.Disk.leaves_what_it_reads c.self.inside.disk bytes told)

pub invariant_of-self : goal.invariant_of-self
invariant_of-self g c =
    let stops : c.or-self-inside.result ≡ None → ⊥ = λ is. stays_stopped c.self.inside.stopped c.self.inside.next (sym c.or-self-inside.ensures ∙ is) in
    (keeps_torn g.D.Disk _ c.self.invariant.0 (rw (← c.self.view_is) at c.requires.some) _ c.write_through.ensures.crash stops c.in_default.ensures.torn, c.self.invariant.1, c.self.invariant.2, c.self.invariant.3)

pub returns-in_default-clause-part : goal.returns-in_default-clause-part
returns-in_default-clause-part g c =
    rw (← c.self.view_is) (λ sound. part_left g.D.Disk _ c.self.invariant.0 (rw (← c.self.view_is) at c.requires.some) (λ bytes told. g.met.D.Disk.leaves_what_it_reads c.self.inside.disk bytes told) _ sound c.in_default.ensures.torn)

pub returns-in_default-clause-crash : goal.returns-in_default-clause-crash
returns-in_default-clause-crash g c =
    rw (← c.self.view_is) (all_or_none_left g.D.Disk _ c.self.invariant.0 (rw (← c.self.view_is) at c.requires.some) _ c.write_through.ensures.crash)

pub invariant_of-self-2 : goal.invariant_of-self-2
invariant_of-self-2 g c = (
  keeps_emptied g.D.Disk _ c.self.invariant.0 (rw (← c.self.view_is) at c.requires.some) (λ bytes told. g.met.D.Disk.leaves_what_it_reads c.self.inside.disk bytes told)
      _ c.in-Ok.ensures.written c.in-Ok.ensures.settled (ap g.D.Disk.moment c.of-self-inside.ensures) c.clear.ensures.none,
  space_cleared c.self.inside.room _ _ _ _ _ _ c.clear.ensures.none c.clear.ensures.slots c.self.invariant.1,
  c.self.invariant.2,
  c.clear.ensures.pages ∙ c.self.invariant.3,
)

pub returns-clause-emptied : goal.returns-clause-emptied
returns-clause-emptied g c = rw (← c.self.view_is) (emptied_by c.write_through.new.disk c.self.invariant.0 c.clear.ensures.none (ap g.D.Disk.moment c.of-self-inside.ensures))

pub returns-clause-none : goal.returns-clause-none
returns-clause-none g c =
    rw (← c.self.view_is) (none_left g.D.Disk _ c.self.invariant.0 (rw (← c.self.view_is) at c.requires.some) (λ bytes told. g.met.D.Disk.leaves_what_it_reads c.self.inside.disk bytes told) _ c.in-Ok.ensures.written)

pub returns-clause-crash : goal.returns-clause-crash
returns-clause-crash g c =
    rw (← c.self.view_is) (all_or_none_left g.D.Disk _ c.self.invariant.0 (rw (← c.self.view_is) at c.requires.some) _ c.write_through.ensures.crash)
