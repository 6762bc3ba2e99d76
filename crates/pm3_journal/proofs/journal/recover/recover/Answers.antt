use Rattle.std.proofs.Common.{◌≡◌, ℕ, List, Some, refl, sym, ◌∙◌, ap}
use Rattle.pm3_journal.proofs.Restarting.{keeps_found, list_is, journal_found, last_found}
use Rattle.pm3_journal.proofs.journal.recover.recover.Goals as goal

pub invariant_of-result : goal.invariant_of-result
invariant_of-result g c =
    let before = λ (bytes : List ℕ) (told : g.D.Disk.content c.find.new.disk ≡ Some bytes). sym c.find.ensures.reads.same ∙ told in (
      keeps_found g.D.Disk _ c.in-Ok.found.list.due (ap g.D.Disk.moment c.of-since.ensures) c.in-Ok.ensures.sound.due refl refl refl
          (λ bytes told. (c.in-Ok.ensures.found bytes (before bytes told)).list)
          (λ bytes told. (c.in-Ok.ensures.found bytes (before bytes told)).ends)
          (λ bytes told. (c.in-Ok.ensures.found bytes (before bytes told)).gate)
          c.in-Ok.ensures.settled,
      tt,
      c.in-Ok.ensures.sound.low,
      c.in-Ok.ensures.sound.table,
    )

pub returns-clause-list : goal.returns-clause-list
returns-clause-list g c bytes told =
    let f = c.in-Ok.ensures.found bytes told in (
      f.list.list,
      record {
        list_is = list_is _ _ _ _ _ bytes f.list f.ends;
        page_count = f.list.front.page_count;
        shown = f.list.shown;
        journal = journal_found _ _ _ _ _ bytes f.list f.ends _ _ c.in-Ok.ensures.sound.due f.gate;
        images = last_found _ _ _ _ _ bytes f.list f.ends _ f.images;
        offsets = f.list.offsets_are;
      },
    )
