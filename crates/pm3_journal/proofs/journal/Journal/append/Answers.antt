use Rattle.std.proofs.Common.{All, ◌≡◌, ◌<◌, ◌+◌, ◌++◌, ◌∷◌, [], ℕ, None, length, refl, sym, ◌∙◌, ap, subst, arith, rules, length-append}
use Rattle.pm3_journal.specs.Entered.{record_of}
use Rattle.pm3_journal.specs.Format.{body, closed_gate, IsFit}
use Rattle.pm3_journal.specs.Summaries.{Summary, summary_of}
use Rattle.pm3_journal.proofs.Behind.{length_body, parts_low}
use Rattle.pm3_journal.proofs.Continuing.{maybe_more, maybe_taken, one_more, keeps_failed, keeps_grown, space_stays}
use Rattle.pm3_journal.proofs.journal.Journal.append.Goals as goal

pub append_body-requires-clause-small : goal.append_body-requires-clause-small
append_body-requires-clause-small g c =
    let r = record_of c.self.inside.next c.args.entry.now in
    let fit : IsFit c.self.inside.pages (record_of c.self.inside.next c.args.entry.now) = rw (← c.self.view_is) at c.requires.fit in
    let bytes = c.deref.ensures.value ∙ c.encode.ensures.bytes in
    let long = length_body c.self.inside.pages r fit in
    omega (arith, ap length bytes, length-append (body r) closed_gate, long, c.size_of_record-size.ensures.size, c.size_of_record-size.ensures.small)

pub invariant_of-self : goal.invariant_of-self
invariant_of-self g c =
    let idle : c.self.inside.stopped ≡ None = search rules in
    let r = record_of c.self.inside.next c.args.entry.now in
    let fit : IsFit c.self.inside.pages (record_of c.self.inside.next c.args.entry.now) = rw (← c.self.view_is) at c.requires.fit in
    let bytes = c.deref.ensures.value ∙ c.encode.ensures.bytes in (
      keeps_failed g.D.Disk _ c.self.invariant.0 idle r fit refl _ bytes _ c.append_body.ensures.crash c.in_default-append_body.ensures.torn (ap (record_of c.self.inside.next) (sym c.of-entry.ensures)),
      space_stays c.self.inside.room _ _ _ _ _ c.encode.ensures.capacity c.self.invariant.1,
      c.self.invariant.2,
      c.self.invariant.3,
    )

pub returns-in_default-append_body-clause-crash : goal.returns-in_default-append_body-clause-crash
returns-in_default-append_body-clause-crash g c =
    let idle : c.self.inside.stopped ≡ None = search rules in
    let r = record_of c.self.inside.next c.args.entry.now in
    let fit : IsFit c.self.inside.pages (record_of c.self.inside.next c.args.entry.now) = rw (← c.self.view_is) at c.requires.fit in
    let bytes = c.deref.ensures.value ∙ c.encode.ensures.bytes in
    rw (← c.self.view_is) (maybe_more g.D.Disk _ c.self.invariant.0 idle r fit refl _ bytes _ c.append_body.ensures.crash)

pub invariant_of-self-2 : goal.invariant_of-self-2
invariant_of-self-2 g c =
    let idle : c.self.inside.stopped ≡ None = search rules in
    let r = record_of c.self.inside.next c.args.entry.now in
    let fit : IsFit c.self.inside.pages (record_of c.self.inside.next c.args.entry.now) = rw (← c.self.view_is) at c.requires.fit in
    let bytes = c.deref.ensures.value ∙ c.encode.ensures.bytes in
    let summaries_are : c.self.inside.entries.summaries ++ summary_of (record_of c.self.inside.next c.args.entry.now) ∷ [] ≡ c.add.new.self.summaries = ap (λ (s : Summary). c.self.inside.entries.summaries ++ s ∷ []) (sym c.summarize.ensures) ∙ sym c.add.ensures.summaries in
    let size = sym (ap (λ (n : ℕ). c.self.inside.end + n) c.size_of_record-size.ensures.size) in (
      keeps_grown g.D.Disk _ c.self.invariant.0 idle r fit refl _ bytes _ c.append_body.ensures.crash c.in-Ok.ensures.done c.in-Ok.ensures.settled summaries_are size (sym c.successor-self-inside.ensures.is),
      tt,
      c.self.invariant.2,
      c.add.ensures.pages ∙ c.self.invariant.3,
    )

pub returns-clause-added : goal.returns-clause-added
returns-clause-added g c =
    let idle : c.self.inside.stopped ≡ None = search rules in
    let r = record_of c.self.inside.next c.args.entry.now in
    let fit : IsFit c.self.inside.pages (record_of c.self.inside.next c.args.entry.now) = rw (← c.self.view_is) at c.requires.fit in
    let bytes = c.deref.ensures.value ∙ c.encode.ensures.bytes in
    rw (← c.self.view_is) (one_more g.D.Disk _ c.self.invariant.0 idle r fit refl _ bytes _ c.in-Ok.ensures.done)

pub returns-clause-crash : goal.returns-clause-crash
returns-clause-crash g c =
    let idle : c.self.inside.stopped ≡ None = search rules in
    let r = record_of c.self.inside.next c.args.entry.now in
    let fit : IsFit c.self.inside.pages (record_of c.self.inside.next c.args.entry.now) = rw (← c.self.view_is) at c.requires.fit in
    let bytes = c.deref.ensures.value ∙ c.encode.ensures.bytes in
    rw (← c.self.view_is) (maybe_more g.D.Disk _ c.self.invariant.0 idle r fit refl _ bytes _ c.append_body.ensures.crash)

pub add-requires-clause-pages : goal.add-requires-clause-pages
add-requires-clause-pages g c =
    let fit : IsFit c.self.inside.pages (record_of c.self.inside.next c.args.entry.now) = rw (← c.self.view_is) at c.requires.fit in
    let low : All (λ page. page < c.self.inside.entries.pages) (summary_of (record_of c.self.inside.next c.args.entry.now)).pages =
    subst (λ (pages : ℕ). All (λ page. page < pages) (summary_of (record_of c.self.inside.next c.args.entry.now)).pages) (sym c.self.invariant.3) (parts_low c.self.inside.pages 1 (record_of c.self.inside.next c.args.entry.now).parts fit.parts) in
    subst (λ (s : Summary). All (λ page. page < c.self.inside.entries.pages) s.pages) (sym c.summarize.ensures) low

pub returns-in_default-append_body-clause-part : goal.returns-in_default-append_body-clause-part
returns-in_default-append_body-clause-part g c =
    let idle : c.self.inside.stopped ≡ None = search rules in
    let r = record_of c.self.inside.next c.args.entry.now in
    let fit : IsFit c.self.inside.pages (record_of c.self.inside.next c.args.entry.now) = rw (← c.self.view_is) at c.requires.fit in
    let bytes = c.deref.ensures.value ∙ c.encode.ensures.bytes in
    rw (← c.self.view_is) (λ is. maybe_taken g.D.Disk _ c.self.invariant.0 idle r fit refl _ bytes _ c.in_default-append_body.ensures.torn)
