-- What a transaction held goes back after the commit of its pass.
use Rattle.std.proofs.Common.{◌≡◌, ◌<◌, ◌≤◌, ◌+◌, ◌==◌, ◌||◌, ◌&&◌, ◌++◌, ◌∙◌, ◌⊎◌, inl, inr, ℕ, Bool, true, false, not, nat_lt, List, [], ◌∷◌, Option, Some, None, is_some, unwrap_or, refl, sym, ap, subst, arith}
use Rattle.std.proofs.lemmas.Bool.{and_from, and_parts, cond-true, eq-eqb, eqb-true, false≢true}
use Rattle.std.specs.Option.{option_or}
use Rattle.std.specs.FinMap as map
use Rattle.std.specs.FinMap.{get, contains_key}
use Rattle.std.specs.FinSet as set
use Rattle.pm3_core.specs.declared.naming.TheConstants.{BASE}
use Rattle.pm3_types.specs.Layout.{PageImage, Sheet, page_in, word_in}
use Rattle.pm3_types.specs.PageForm.{HasForm, is_memory_reference}
use Rattle.pm3_types.specs.Shown.{Images as Sheets}
use Rattle.pm3_page.specs.PageMap.{Images}
use Rattle.pm3_page.specs.PageSheets.{sheets_of}
use Rattle.pm3_page.proofs.SheetsOf.{get-sheets_of}
use Rattle.pm3_copy.specs.PassLaws.{OthersAreQuiet}
use Rattle.pm3_access.specs.FreeList.{Numbers}
use Rattle.pm3_access.specs.Holding.{Holding, SpaceState}
use Rattle.pm3_access.specs.Parting.{joined}
use Rattle.pm3_access.specs.Parts.{IsFinishedSpace, is_filled}
use Rattle.pm3_history.specs.Entry.{Done}
use Rattle.pm3_history.proofs.Laying.{none_if, some_none, there_none}
use Rattle.pm3_table.specs.declared.view.Deed.{Deed}
use Rattle.pm3_table.specs.declared.view.Told.{Told}
use Rattle.pm3_table.specs.declared.view.View.{View}
use Rattle.pm3_table.specs.Entries.{writes}
use Rattle.pm3_table.specs.Histories.{some_has}
use Rattle.pm3_table.specs.Holds.{is_in, spans_of}
use Rattle.pm3_table.specs.Telling.{NoneNames, names}
use Rattle.pm3_table.specs.Words.{space_unit, turn_unit}
use Rattle.pm3_txn.specs.CarriedPass.{Carried, IsCarriedBy, is_promoted_in, parts_of}
use Rattle.pm3_txn.specs.Knowing.{is_in_use}
use Rattle.pm3_txn.specs.OwnStarts.{starts_in}
use Rattle.pm3_txn.specs.PassCommits.{Marks, done_with}
use Rattle.pm3_txn.specs.Slots.{pages_of}
use Rattle.pm3_txn.specs.Values.{IsPageOf, IsSpaceOf, after_pass, space_left, space_use}
use Rattle.pm3_txn.proofs.CommitLaws.{persistent_steady}
use Rattle.pm3_txn.proofs.GivenBack.{page_written}
use Rattle.pm3_txn.proofs.OwnerTakes.{pages_in_is}
use Rattle.pm3_txn.proofs.PassCarried.{free_new, has_sheet, own_low, own_of, pass, pinned_now, sheet_of, space_from, space_low, spans, written_from, written_low, written_pinned}
use Rattle.pm3_txn.proofs.PassPlans.{alone_none}
use Rattle.pm3_txn.proofs.PassRefs.{starts_at}
use Rattle.pm3_txn.proofs.PassUses.{space_uses, starts_same, written_uses}
use Rattle.pm3_txn.proofs.Seeing.{use_later}
use Rattle.pm3_txn.proofs.Taking.{page_later}

or_first : (a b : Bool) → a ≡ true → (a || b) ≡ true
or_first a b is = ap (λ (x : Bool). x || b) is

or_second : (a b : Bool) → b ≡ true → (a || b) ≡ true
or_second true b is = refl
or_second false b is = is

either : (a b : Bool) → (a || b) ≡ true → (a ≡ true) ⊎ (b ≡ true)
either true b is = inl refl
either false b is = inr is

fails : (b : Bool) → (b ≡ true → ⊥) → b ≡ false
fails true never = absurd (never refl)
fails false never = refl

same_if : (a b : Bool) → (a ≡ true → b ≡ true) → (b ≡ true → a ≡ true) → a ≡ b
same_if true b to back = sym (to refl)
same_if false true to back = back refl
same_if false false to back = refl

not_off : (b : Bool) → not b ≡ true → b ≡ false
not_off true is = absurd (false≢true is)
not_off false is = refl

-- the last of some commits writes the page
has_last : (seen : List Done) (d : Done) (q : ℕ) → writes d q ≡ true → some_has writes (seen ++ d ∷ []) q ≡ true
has_last [] d q is = or_first (writes d q) false is
has_last (e ∷ es) d q is = or_second (writes e q) (some_has writes (es ++ d ∷ []) q) (has_last es d q is)

-- and its pass is the last one of its space
left_last : (seen : List Done) (d : Done) (number : ℕ) (images : Sheets) → after_pass d.pass number ≡ Some images → space_left (seen ++ d ∷ []) number ≡ Some images
left_last [] d number images is = is
left_last (e ∷ es) d number images is = ap (λ (o : Option Sheets). option_or o (after_pass e.pass number)) (left_last es d number images is)

module _ (others : OthersAreQuiet) (told : Told) (v : View) (number next : ℕ) (log : List Deed) (c : Carried) (has : IsCarriedBy told v number next log c) (marks : Marks) where
  abbrev h : Holding
  h = joined (parts_of c)

  abbrev d : Done
  d = done_with marks h (pass told v number next log c has)

  abbrev later : List Done
  later = v.seen ++ d ∷ []

  -- no page of the space is held alone
  pub own_alone : (q : ℕ) → (contains_key c.volatile.images q || set.contains c.space.free q) ≡ true → is_some (get h.pages.left q) ≡ true → ⊥
  own_alone q own left = of (either (contains_key c.volatile.images q) (set.contains c.space.free q) own)
    where
      of : (contains_key c.volatile.images q ≡ true) ⊎ (set.contains c.space.free q ≡ true) → ⊥
      of (inl there) = there_none (get h.pages.left q) left (alone_none told v number (parts_of c) has.holding has.parted has.small refl q there)
      of (inr free) = false≢true (sym (has.holding.space.1.apart q (has.holding.space.1.spans q ∙ or_second (contains_key c.volatile.images q) (set.contains c.space.free q) free)).bare
          ∙ persistent_steady told v q (has.holding.persistent q left).used)

  -- so one that is written now was promoted
  promoted_own : (q : ℕ) → (contains_key c.volatile.images q || set.contains c.space.free q) ≡ true → contains_key c.written_now q ≡ true → is_promoted_in c q ≡ true
  promoted_own q own on = and_from (contains_key c.written_now q) (not (contains_key c.found q)) on
      (ap not (fails (contains_key c.found q) (λ found. own_alone q own (sym (has.holding.kept q) ∙ found))))

  unpromoted : (q : ℕ) → (contains_key c.written_now q ≡ true → ⊥) → is_promoted_in c q ≡ false
  unpromoted q never = fails (is_promoted_in c q) (λ promoted. never (and_parts (contains_key c.written_now q) (not (contains_key c.found q)) promoted).0)

  -- a page held alone that was not written is named by no image of it
  unnamed : (q : ℕ) → is_some (get h.pages.left q) ≡ true → get c.written.images q ≡ None → NoneNames told (d ∷ []) q
  unnamed q left none = fails (names told d q || false) (λ named. of (either (q == turn_unit told.pages) (contains_key d.written q || (q + 32 == turn_unit told.pages + number)) (drop named)))
    where
      low : q < told.pages
      low = (has.holding.units q left).1

      drop : (names told d q || false) ≡ true → names told d q ≡ true
      drop e = by (names told d q) e
        where
          by : (b : Bool) → (b || false) ≡ true → b ≡ true
          by true x = refl
          by false x = x

      wrote : contains_key c.written_now q ≡ true → ⊥
      wrote on = of (written_from told v number next log c has q on)
        where
          of : (contains_key c.written.images q ≡ true) ⊎ ((set.contains c.pins q ≡ true) ⊎ (set.contains c.space.free q ≡ true)) → ⊥
          of (inl changed) = there_none (get c.written.images q) changed none
          of (inr mine) = own_alone q (own_of told v number next log c has q mine) left

      of : ((q == turn_unit told.pages) ≡ true) ⊎ ((contains_key d.written q || (q + 32 == turn_unit told.pages + number)) ≡ true) → ⊥
      of (inl turn) = (let same = eqb-true q (turn_unit told.pages) turn in omega (arith, low, same))
      of (inr more) = by (either (contains_key d.written q) (q + 32 == turn_unit told.pages + number) more)
        where
          by : (contains_key d.written q ≡ true) ⊎ ((q + 32 == turn_unit told.pages + number) ≡ true) → ⊥
          by (inl on) = wrote (sym (has_sheet c.written_now q) ∙ on)
          by (inr at) = (let same = eqb-true (q + 32) (turn_unit told.pages + number) at in omega (arith, low, same))

  -- so it has the image that it had
  pub unwritten_page : (q : ℕ) (image : PageImage) → get c.others.images q ≡ Some image → IsPageOf told later q image
  unwritten_page q image on =
      let was = (has.parted.others q image).0 on in
      page_later told v.seen (d ∷ []) q image (unnamed q (ap is_some was.0) (apart (get c.written.images q) refl)) (has.holding.found q image was.1)
    where
      apart : (o : Option PageImage) → get c.written.images q ≡ o → get c.written.images q ≡ None
      apart None none = none
      apart (Some x) some = absurd (some_none (get c.others.images q) image on (has.parted.rejoin.apart q (λ none. some_none (get c.written.images q) x some none)))

  still : (a : ℕ) → is_in_use told v.seen a ≡ true → is_in_use told later a ≡ true
  still = use_later told v.seen (d ∷ [])

  pub on_written : (a : ℕ) → is_memory_reference BASE told.pages a ≡ true → contains_key (sheets_of c.written_now) (page_in BASE a) ≡ true → is_in_use told later a ≡ true
  on_written a form on = and_from (is_memory_reference BASE told.pages a) ((a == 0) || (nat_lt (page_in BASE a) told.frontier || some_has writes later (page_in BASE a))) form
      (or_second (a == 0) (nat_lt (page_in BASE a) told.frontier || some_has writes later (page_in BASE a))
      (or_second (nat_lt (page_in BASE a) told.frontier) (some_has writes later (page_in BASE a)) (has_last v.seen d (page_in BASE a) on)))

  -- a written page has its image
  pub written_page : (q : ℕ) (image : PageImage) → get c.written_now q ≡ Some image → IsPageOf told later q image
  written_page q image on =
      let home : image.page ≡ q = has.written_sound.home q image on in
      page_written told v.seen d q image (written_low told v number next log c has q (ap is_some on)) home
      (subst (λ (n : ℕ). HasForm told.opening.catalog (is_in_use told later) n image.sheet) home (written_uses others told v number next log c has (is_in_use told later) still on_written q image on))
      (sheet_of c.written_now q image on)

  -- and the space has the images of its pass
  module _ (freed : Numbers) (freed_are : (q : ℕ) → set.contains freed q ≡ (contains_key c.volatile.images q && not (set.contains c.pins q))) (t : SpaceState)
      (finished : IsFinishedSpace c.space c.space_now c.written_now freed t) where
    number_is : t.number ≡ number
    number_is = finished.number ∙ has.holding.space.0

    space_form : (q : ℕ) (image : PageImage) → get c.space_now q ≡ Some image → HasForm told.opening.catalog (space_use told later c.space_now) image.page image.sheet
    space_form = space_uses others told v number next log c has (space_use told later c.space_now)
        (λ a use_. or_first (is_in_use told later a) (is_memory_reference BASE told.pages a && starts_in c.space_now a) (still a use_))
        (λ a form on. or_first (is_in_use told later a) (is_memory_reference BASE told.pages a && starts_in c.space_now a) (on_written a form on))
        (λ a form begins. or_second (is_in_use told later a) (is_memory_reference BASE told.pages a && starts_in c.space_now a)
        (and_from (is_memory_reference BASE told.pages a) (starts_in c.space_now a) form
        (starts_same (get c.space_now (page_in BASE a)) (word_in BASE a) ∙ sym (ap (λ (o : Option Sheet). starts_at o (word_in BASE a)) (get-sheets_of c.space_now (page_in BASE a))) ∙ begins)))

    -- no free page of it has an image
    free_page : (q : ℕ) → set.contains t.free q ≡ true → (3 ≤ q) × (q < told.pages) × (get c.space_now q ≡ None)
    free_page q is = of (either (set.contains c.space.free q && not (is_filled c.space_now c.written_now q)) (set.contains freed q) (sym (finished.free q) ∙ is))
      where
        bare : (contains_key c.space_now q ≡ true → ⊥) → get c.space_now q ≡ None
        bare never = none_if (get c.space_now q) (λ image on. never (ap is_some on))

        -- a page that is given up has no image, as no word pins it, and it was not free
        given : contains_key c.volatile.images q ≡ true → set.contains c.pins q ≡ false → contains_key c.space_now q ≡ true → ⊥
        given there unpinned on = by (space_from told v number next log c has q on)
          where
            by : (set.contains c.pins q ≡ true) ⊎ (set.contains c.space.free q ≡ true) → ⊥
            by (inl pinned) = false≢true (sym unpinned ∙ pinned)
            by (inr free) = there_none (get c.volatile.images q) there (free_new told v number next log c has q free).0

        of : ((set.contains c.space.free q && not (is_filled c.space_now c.written_now q)) ≡ true) ⊎ (set.contains freed q ≡ true) → (3 ≤ q) × (q < told.pages) × (get c.space_now q ≡ None)
        of (inl left) =
            let parts = and_parts (set.contains c.space.free q) (not (is_filled c.space_now c.written_now q)) left in
            let low = own_low told v number next log c has q (or_second (contains_key c.volatile.images q) (set.contains c.space.free q) parts.0) in
            (low.0, low.1, bare (λ on. false≢true (sym (ap not (or_first (contains_key c.space_now q) (contains_key c.written_now q) on)) ∙ parts.1)))
        of (inr up) =
            let parts = and_parts (contains_key c.volatile.images q) (not (set.contains c.pins q)) (sym (freed_are q) ∙ up) in
            let low = own_low told v number next log c has q (or_first (contains_key c.volatile.images q) (set.contains c.space.free q) parts.0) in
            (low.0, low.1, bare (given parts.0 (not_off (set.contains c.pins q) parts.1)))

    pub space_value : IsSpaceOf told later (space_unit told.pages number) t
    space_value = record {
      unit = ap (space_unit told.pages) (sym number_is);
      low = (let low = has.holding.space.1.low in let same = finished.number in omega (arith, low, same));
      last = ap sheets_of finished.images ∙ sym (ap (λ (o : Option Sheets). unwrap_or o map.empty) (left_last v.seen d t.number (sheets_of c.space_now)
          (cond-true (number == t.number) (Some (sheets_of c.space_now)) None (eq-eqb number t.number (sym number_is)))));
      sound = λ q image on.
          (let on_now : get c.space_now q ≡ Some image = sym (ap (λ (m : Images). get m q) finished.images) ∙ on in
          let low = space_low told v number next log c has q (ap is_some on_now) in (
            has.space_sound.home q image on_now,
            low.0,
            low.1,
            subst (λ (m : Images). HasForm told.opening.catalog (space_use told later m) image.page image.sheet) (sym finished.images) (space_form q image on_now),
          ));
      free = λ q is. (let free = free_page q is in (free.0, free.1, ap (λ (m : Images). get m q) finished.images ∙ free.2));
    }

    -- its pages are those that it had but for the promoted ones
    own_spans : ℕ → Bool
    own_spans q = not (is_promoted_in c q) && spans_of v.spans (space_unit told.pages number) q

    in_space : (q : ℕ) → (contains_key c.volatile.images q || set.contains c.space.free q) ≡ true → (contains_key c.written_now q ≡ true → ⊥) → own_spans q ≡ true
    unfolding own_spans
    in_space q own never = and_from (not (is_promoted_in c q)) (spans_of v.spans (space_unit told.pages number) q) (ap not (unpromoted q never)) (spans told v number next log c has q ∙ own)

    there_now : (q : ℕ) → (contains_key c.space_now q || set.contains t.free q) ≡ true → own_spans q ≡ true
    there_now q on = of (either (contains_key c.space_now q) (set.contains t.free q) on)
      where
        freed_or_left : ((set.contains c.space.free q && not (is_filled c.space_now c.written_now q)) ≡ true) ⊎ (set.contains freed q ≡ true) → own_spans q ≡ true
        freed_or_left (inl left) =
            let parts = and_parts (set.contains c.space.free q) (not (is_filled c.space_now c.written_now q)) left in
            in_space q (or_second (contains_key c.volatile.images q) (set.contains c.space.free q) parts.0)
            (λ written. false≢true (sym (ap not (or_second (contains_key c.space_now q) (contains_key c.written_now q) written)) ∙ parts.1))
        freed_or_left (inr up) =
            let parts = and_parts (contains_key c.volatile.images q) (not (set.contains c.pins q)) (sym (freed_are q) ∙ up) in
            in_space q (or_first (contains_key c.volatile.images q) (set.contains c.space.free q) parts.0)
            (λ written. false≢true (sym (not_off (set.contains c.pins q) parts.1) ∙ written_pinned told v number next log c has q parts.0 written))

        of : (contains_key c.space_now q ≡ true) ⊎ (set.contains t.free q ≡ true) → own_spans q ≡ true
        of (inl now) = in_space q (own_of told v number next log c has q (space_from told v number next log c has q now)) (λ written. there_none (get c.written_now q) written (has.apart q now))
        of (inr free) = freed_or_left (either (set.contains c.space.free q && not (is_filled c.space_now c.written_now q)) (set.contains freed q) (sym (finished.free q) ∙ free))

    was_there : (q : ℕ) → own_spans q ≡ true → (contains_key c.space_now q || set.contains t.free q) ≡ true
    unfolding own_spans
    was_there q is = of (either (contains_key c.volatile.images q) (set.contains c.space.free q) own)
      where
        parts : (not (is_promoted_in c q) ≡ true) × (spans_of v.spans (space_unit told.pages number) q ≡ true)
        parts = and_parts (not (is_promoted_in c q)) (spans_of v.spans (space_unit told.pages number) q) is

        own : (contains_key c.volatile.images q || set.contains c.space.free q) ≡ true
        own = sym (spans told v number next log c has q) ∙ parts.1

        unwritten : contains_key c.written_now q ≡ true → ⊥
        unwritten on = false≢true (sym (ap not (promoted_own q own on)) ∙ parts.0)

        free_now : ((set.contains c.space.free q && not (is_filled c.space_now c.written_now q)) || set.contains freed q) ≡ true → (contains_key c.space_now q || set.contains t.free q) ≡ true
        free_now on = or_second (contains_key c.space_now q) (set.contains t.free q) (finished.free q ∙ on)

        marked : (b : Bool) → set.contains c.pins q ≡ b → contains_key c.volatile.images q ≡ true → (contains_key c.space_now q || set.contains t.free q) ≡ true
        marked true pinned on = or_first (contains_key c.space_now q) (set.contains t.free q) (pinned_now told v number next log c has q pinned unwritten)
        marked false unpinned on = free_now (or_second (set.contains c.space.free q && not (is_filled c.space_now c.written_now q)) (set.contains freed q)
            (freed_are q ∙ and_from (contains_key c.volatile.images q) (not (set.contains c.pins q)) on (ap not unpinned)))

        free : (b : Bool) → contains_key c.space_now q ≡ b → set.contains c.space.free q ≡ true → (contains_key c.space_now q || set.contains t.free q) ≡ true
        free true now on = or_first (contains_key c.space_now q) (set.contains t.free q) now
        free false none on = free_now (or_first (set.contains c.space.free q && not (is_filled c.space_now c.written_now q)) (set.contains freed q)
            (and_from (set.contains c.space.free q) (not (is_filled c.space_now c.written_now q)) on (ap not (fails (is_filled c.space_now c.written_now q)
            (λ filled. unwritten (sym (ap (λ (b : Bool). b || contains_key c.written_now q) none) ∙ filled))))))

        of : (contains_key c.volatile.images q ≡ true) ⊎ (set.contains c.space.free q ≡ true) → (contains_key c.space_now q || set.contains t.free q) ≡ true
        of (inl on) = marked (set.contains c.pins q) refl on
        of (inr on) = free (contains_key c.space_now q) refl on

    pub space_pages : (q : ℕ) → is_in q (pages_of t) ≡ (not (is_promoted_in c q) && spans_of v.spans (space_unit told.pages number) q)
    unfolding own_spans
    space_pages q = pages_in_is t q ∙ ap (λ (m : Images). contains_key m q || set.contains t.free q) finished.images
        ∙ same_if (contains_key c.space_now q || set.contains t.free q) (own_spans q) (there_now q) (was_there q)
