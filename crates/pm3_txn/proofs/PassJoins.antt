-- The commit of a pass may join the history, once the pages that it promoted are settled.
use Rattle.std.proofs.Common.{◌≡◌, ◌<◌, ◌≤◌, ◌+◌, ◌==◌, ◌||◌, ◌&&◌, ◌++◌, ◌∙◌, ◌⊎◌, inl, inr, ℕ, Bool, true, false, not, nat_lt, List, [], ◌∷◌, Option, Some, None, is_some, refl, sym, ap, subst, arith}
use Rattle.std.proofs.lemmas.Bool.{and_from, and_parts, cases_eq, eqb-true, false≢true}
use Rattle.std.specs.FinMap.{get, contains_key}
use Rattle.std.specs.FinSet as set
use Rattle.pm3_core.specs.declared.naming.TheConstants.{BASE}
use Rattle.pm3_core.specs.Naming as core
use Rattle.pm3_types.specs.Layout.{PageImage, Sheet, page_in, word_in}
use Rattle.pm3_types.specs.PageForm.{HasForm, is_memory_reference}
use Rattle.pm3_page.specs.PageMap.{Images}
use Rattle.pm3_page.specs.PageSheets.{AreSoundPages, sheets_of}
use Rattle.pm3_copy.specs.PassLaws.{OthersAreQuiet}
use Rattle.pm3_access.specs.Holding.{Holding}
use Rattle.pm3_access.specs.Parting.{joined}
use Rattle.pm3_history.specs.Entry.{Done}
use Rattle.pm3_history.specs.Opens.{Opens}
use Rattle.pm3_history.specs.State.{State}
use Rattle.pm3_history.proofs.Chronicles.{openings_are_chronicled}
use Rattle.pm3_history.proofs.Committing.{commits_keep}
use Rattle.pm3_table.specs.declared.view.Deed.{Deed}
use Rattle.pm3_table.specs.declared.view.Told.{Told}
use Rattle.pm3_table.specs.declared.view.View.{View}
use Rattle.pm3_table.specs.Deeds.{IsClearedIn}
use Rattle.pm3_table.specs.Entries.{images_refer, writes}
use Rattle.pm3_table.specs.Histories.{some_has}
use Rattle.pm3_table.specs.Holds.{holds_of, is_in, spans_of}
use Rattle.pm3_table.specs.Telling.{HasInSpace, Lawful, MayJoin, is_steady, knows_used, names, names_page}
use Rattle.pm3_table.specs.Words.{space_unit, turn_unit}
use Rattle.pm3_table.proofs.Known.{used_in_space, used_steady}
use Rattle.pm3_txn.specs.CarriedPass.{Carried, HasPromoted, IsCarriedBy, is_promoted_in, names_below, pages_in, parts_of}
use Rattle.pm3_txn.specs.Knowing.{is_in_use, state_seen}
use Rattle.pm3_txn.specs.PassCommits.{Marks, PassesFollow, done_with}
use Rattle.pm3_txn.proofs.CommitLaws.{persistent_steady}
use Rattle.pm3_txn.proofs.PassCarried.{done, has_sheet, in_pages, only_below, own_of, pass, passed, space_from, space_low, spans, written_low, written_pinned}
use Rattle.pm3_txn.proofs.PassRefs.{starts_at}
use Rattle.pm3_txn.proofs.PassTouches.{touches_cleared}
use Rattle.pm3_txn.proofs.PassUses.{space_uses, written_uses}
use Rattle.pm3_txn.proofs.Referred.{refers_used, word_page}
use Rattle.pm3_txn.proofs.Seeing.{page_use, settled_now}
use Rattle.pm3_txn.proofs.Touched.{no_more}

either : (a b : Bool) → (a || b) ≡ true → (a ≡ true) ⊎ (b ≡ true)
either true b is = inl refl
either false b is = inr is

or_first : (a b : Bool) → a ≡ true → (a || b) ≡ true
or_first a b is = ap (λ (x : Bool). x || b) is

or_second : (a b : Bool) → b ≡ true → (a || b) ≡ true
or_second true b is = refl
or_second false b is = is

drop_false : (b : Bool) → (b || false) ≡ true → b ≡ true
drop_false true is = refl
drop_false false is = is

-- where an object begins there is a sheet
starts_there : (o : Option Sheet) (s : ℕ) → starts_at o s ≡ true → is_some o ≡ true
starts_there None s begins = begins
starts_there (Some sheet) s begins = refl

-- a test that cannot pass fails
fails : (b : Bool) → (b ≡ true → ⊥) → b ≡ false
fails true never = absurd (never refl)
fails false never = refl

steady_by : (a b c : Bool) → b ≡ true → (a || (b || c)) ≡ true
steady_by true b c is = refl
steady_by false true c is = refl
steady_by false false c is = absurd (false≢true is)

module _ (follow : PassesFollow) (told : Told) (v : View) (number next : ℕ) (log : List Deed) (c : Carried) (has : IsCarriedBy told v number next log c) (marks : Marks) (low : next ≤ marks.next_name)
    (rise : (st : State) → Opens BASE told.pages told.opening st → ((state_seen told v st).next_name ≤ marks.next_name) × ((state_seen told v st).high_page ≤ marks.high_page))
    (high : (q : ℕ) → contains_key c.written_now q ≡ true → q < marks.high_page) (most : marks.high_page ≤ told.pages) where
  abbrev whole : Holding
  whole = joined (parts_of c)

  abbrev commit : Done
  commit = done_with marks whole (pass told v number next log c has)

  -- the history stays lawful with it
  pub lawful_seen : Lawful told (v.seen ++ commit ∷ [])
  unfolding Rattle.pm3_history.specs.Opens.LawfulFrom
  lawful_seen st opens =
      let works = has.holding.works st opens in
      let settled = settled_now told v.seen st has.lawful opens in
      let may = follow told.opening.catalog told.pages (state_seen told v st) whole works.0 marks (pass told v number next log c has) settled works.1
      (passed told v number next log c has marks low st opens (rise st opens) high most) in
      commits_keep told.opening.catalog BASE told.pages st v.seen commit works.0 (openings_are_chronicled BASE told.pages told.opening st opens) (has.lawful st opens) may.0 may.1 may.2

  -- where its append failed it may be kept as one that did
  pub may_fail : (w : View) → w.seen ≡ v.seen → w.lost ≡ [] → marks.mutator ≡ w.row → MayJoin told w [] (commit ∷ [])
  may_fail w seen none mine = record {
    lawful = subst (Lawful told) (sym seen ∙ no_more w.seen) has.lawful;
    lawful_lost = subst (λ (l : List Done). Lawful told ((w.seen ++ []) ++ (l ++ commit ∷ []))) (sym none) (subst (λ (l : List Done). Lawful told (l ++ commit ∷ [])) (sym seen ∙ no_more w.seen) lawful_seen);
    single = (inl none, inl none);
    own = (mine, tt);
    held = λ u free. refl;
    drawn = λ n is. absurd (false≢true is);
    used = λ q is. absurd (false≢true is);
    cleared = λ q is. absurd (false≢true is);
    kept = λ j q is. absurd (false≢true is);
    read = tt;
  }

module _ (follow : PassesFollow) (others : OthersAreQuiet) (told : Told) (v : View) (number next : ℕ) (log : List Deed) (c : Carried) (has : IsCarriedBy told v number next log c) (frontier : 3 ≤ told.frontier)
    (w : View) (is : HasPromoted told v log (is_promoted_in c) w) (marks : Marks) (low : next ≤ marks.next_name) (mine : marks.mutator ≡ w.row)
    (rise : (st : State) → Opens BASE told.pages told.opening st → ((state_seen told v st).next_name ≤ marks.next_name) × ((state_seen told v st).high_page ≤ marks.high_page))
    (high : (q : ℕ) → contains_key c.written_now q ≡ true → q < marks.high_page) (most : marks.high_page ≤ told.pages) where
  abbrev h : Holding
  h = joined (parts_of c)

  abbrev pub d : Done
  d = done_with marks h (pass told v number next log c has)

  pub lawful : Lawful told (w.seen ++ d ∷ [])
  lawful = subst (λ (seen : List Done). Lawful told (seen ++ d ∷ [])) (sym is.seen) (lawful_seen follow told v number next log c has marks low rise high most)

  -- a written page is held: it was held alone, or it was promoted
  pub written_held : (q : ℕ) → contains_key c.written_now q ≡ true → (is_some (get h.pages.left q) ≡ true) ⊎ (is_promoted_in c q ≡ true)
  written_held q on = of (contains_key c.found q) refl
    where
      of : (b : Bool) → contains_key c.found q ≡ b → (is_some (get h.pages.left q) ≡ true) ⊎ (is_promoted_in c q ≡ true)
      of true found = inl (sym (has.holding.kept q) ∙ found)
      of false none = inr (and_from (contains_key c.written_now q) (not (contains_key c.found q)) on (ap not none))

  named_held : (u : ℕ) → names told d u ≡ true → holds_of w.holds u ≡ true
  named_held u named = of (either (u == turn_unit told.pages) (contains_key d.written u || (u + 32 == turn_unit told.pages + number)) named)
    where
      written : (is_some (get h.pages.left u) ≡ true) ⊎ (is_promoted_in c u ≡ true) → holds_of w.holds u ≡ true
      written (inl alone) = is.holds u (has.holding.units u alone).0
      written (inr promoted) = is.held u promoted

      space : u + 32 ≡ turn_unit told.pages + number → holds_of w.holds u ≡ true
      space at =
          let same = has.holding.space.0 in let here : u ≡ space_unit told.pages c.space.number = omega (arith, at, same) in
          is.holds u (ap (holds_of v.holds) here ∙ has.holding.space.1.unit)

      of : ((u == turn_unit told.pages) ≡ true) ⊎ ((contains_key d.written u || (u + 32 == turn_unit told.pages + number)) ≡ true) → holds_of w.holds u ≡ true
      of (inl turn) = ap (holds_of w.holds) (eqb-true u (turn_unit told.pages) turn) ∙ is.turn
      of (inr more) = by (either (contains_key d.written u) (u + 32 == turn_unit told.pages + number) more)
        where
          by : (contains_key d.written u ≡ true) ⊎ ((u + 32 == turn_unit told.pages + number) ≡ true) → holds_of w.holds u ≡ true
          by (inl on) = written (written_held u (sym (has_sheet c.written_now u) ∙ on))
          by (inr at) = space (eqb-true (u + 32) (turn_unit told.pages + number) at)

  -- each page of the space that it leaves is in the space still
  kept : (q : ℕ) → contains_key c.space_now q ≡ true → HasInSpace told w number q
  kept q on = (
    (let low_is = has.holding.space.1.low in let same = has.holding.space.0 in omega (arith, low_is, same)),
    is.holds (space_unit told.pages number) (subst (λ (n : ℕ). holds_of v.holds (space_unit told.pages n) ≡ true) has.holding.space.0 has.holding.space.1.unit),
    is.spans (space_unit told.pages number) q ∙ and_from (not (is_promoted_in c q)) (spans_of v.spans (space_unit told.pages number) q) (ap not unpromoted) spans_it,
  )
    where
      unpromoted : is_promoted_in c q ≡ false
      unpromoted = fails (is_promoted_in c q) (λ promoted. false≢true (sym (ap is_some (has.apart q on)) ∙ (and_parts (contains_key c.written_now q) (not (contains_key c.found q)) promoted).0))

      spans_it : spans_of v.spans (space_unit told.pages number) q ≡ true
      spans_it = spans told v number next log c has q ∙ own_of told v number next log c has q (space_from told v number next log c has q on)

  -- each page that an image of it names is known to be used
  used_written : (q : ℕ) → contains_key c.written_now q ≡ true → knows_used told w q ≡ true
  used_written q on = used_steady told w q (of (written_held q on))
    where
      of : (is_some (get h.pages.left q) ≡ true) ⊎ (is_promoted_in c q ≡ true) → is_steady told w q ≡ true
      of (inl alone) = persistent_steady told w q (subst (λ (seen : List Done). (q < told.frontier) ⊎ (some_has writes seen q ≡ true)) (sym is.seen) (has.holding.persistent q alone).used)
      of (inr promoted) = steady_by (nat_lt q told.frontier) (is_in q w.steady) (some_has writes w.seen q) (is.steady q promoted)

  -- a word of an image that the pass left
  abbrev may_lead : ℕ → Bool
  may_lead a = is_in_use told v.seen a || (contains_key (sheets_of c.written_now) (page_in BASE a) || contains_key (sheets_of c.space_now) (page_in BASE a))

  leads : (a : ℕ) → may_lead a ≡ true → knows_used told w (core.page_in a) ≡ true
  leads a may = of (either (is_in_use told v.seen a) (contains_key (sheets_of c.written_now) (page_in BASE a) || contains_key (sheets_of c.space_now) (page_in BASE a)) may)
    where
      at : knows_used told w (page_in BASE a) ≡ true → knows_used told w (core.page_in a) ≡ true
      at known = ap (knows_used told w) (word_page a) ∙ known

      in_use : is_in_use told v.seen a ≡ true → knows_used told w (core.page_in a) ≡ true
      in_use passes = elim (cases_eq a 0) [
        | inl nil ↦ used_steady told w (core.page_in a) (persistent_steady told w (core.page_in a) (inl (let none : core.page_in a ≡ 0 = ap core.page_in nil in omega (arith, none, frontier))))
        | inr other ↦ at (used_steady told w (page_in BASE a) (persistent_steady told w (page_in BASE a)
            (subst (λ (seen : List Done). (page_in BASE a < told.frontier) ⊎ (some_has writes seen (page_in BASE a) ≡ true)) (sym is.seen) (page_use told v.seen a other passes))))
      ]

      of : (is_in_use told v.seen a ≡ true) ⊎ ((contains_key (sheets_of c.written_now) (page_in BASE a) || contains_key (sheets_of c.space_now) (page_in BASE a)) ≡ true) → knows_used told w (core.page_in a) ≡ true
      of (inl passes) = in_use passes
      of (inr more) = by (either (contains_key (sheets_of c.written_now) (page_in BASE a)) (contains_key (sheets_of c.space_now) (page_in BASE a)) more)
        where
          by : (contains_key (sheets_of c.written_now) (page_in BASE a) ≡ true) ⊎ (contains_key (sheets_of c.space_now) (page_in BASE a) ≡ true) → knows_used told w (core.page_in a) ≡ true
          by (inl written) = at (used_written (page_in BASE a) (sym (has_sheet c.written_now (page_in BASE a)) ∙ written))
          by (inr own) = at (used_in_space told w number (page_in BASE a) (kept (page_in BASE a) (sym (has_sheet c.space_now (page_in BASE a)) ∙ own)))

  still : (a : ℕ) → is_in_use told v.seen a ≡ true → may_lead a ≡ true
  still a passes = or_first (is_in_use told v.seen a) (contains_key (sheets_of c.written_now) (page_in BASE a) || contains_key (sheets_of c.space_now) (page_in BASE a)) passes

  on_written : (a : ℕ) → is_memory_reference BASE told.pages a ≡ true → contains_key (sheets_of c.written_now) (page_in BASE a) ≡ true → may_lead a ≡ true
  on_written a form on = or_second (is_in_use told v.seen a) (contains_key (sheets_of c.written_now) (page_in BASE a) || contains_key (sheets_of c.space_now) (page_in BASE a))
      (or_first (contains_key (sheets_of c.written_now) (page_in BASE a)) (contains_key (sheets_of c.space_now) (page_in BASE a)) on)

  on_space : (a : ℕ) → is_memory_reference BASE told.pages a ≡ true → starts_at (get (sheets_of c.space_now) (page_in BASE a)) (word_in BASE a) ≡ true → may_lead a ≡ true
  on_space a form begins = or_second (is_in_use told v.seen a) (contains_key (sheets_of c.written_now) (page_in BASE a) || contains_key (sheets_of c.space_now) (page_in BASE a))
      (or_second (contains_key (sheets_of c.written_now) (page_in BASE a)) (contains_key (sheets_of c.space_now) (page_in BASE a)) (starts_there (get (sheets_of c.space_now) (page_in BASE a)) (word_in BASE a) begins))

  used_in : (images : Images) → AreSoundPages told.opening.catalog BASE told.pages images → ((q : ℕ) → contains_key images q ≡ true → (2 ≤ q) × (q < told.pages)) → ((q : ℕ) → contains_key images q ≡ true → knows_used told w q ≡ true)
      → ((q : ℕ) (image : PageImage) → get images q ≡ Some image → HasForm told.opening.catalog may_lead image.page image.sheet)
      → (q : ℕ) → images_refer told.opening.catalog (sheets_of images) q ≡ true → knows_used told w q ≡ true
  used_in images sound within here form = refers_used told.opening.catalog told.pages may_lead images (λ n. knows_used told w n ≡ true) has.small
      (λ q image on. (sound.home q image on, (within q (ap is_some on)).1, form q image on))
      (λ q image on. let at = within q (ap is_some on) in (sound.home q image on, at.0, at.1, sound.form q image on))
      (λ q image on. here q (ap is_some on)) leads

  used : (q : ℕ) → some_has (names_page told) (d ∷ []) q ≡ true → knows_used told w q ≡ true
  used q refers = of (either (images_refer told.opening.catalog d.written q) (images_refer told.opening.catalog (sheets_of c.space_now) q)
      (drop_false (images_refer told.opening.catalog d.written q || images_refer told.opening.catalog (sheets_of c.space_now) q) refers))
    where
      of : (images_refer told.opening.catalog d.written q ≡ true) ⊎ (images_refer told.opening.catalog (sheets_of c.space_now) q ≡ true) → knows_used told w q ≡ true
      of (inl written) = used_in c.written_now has.written_sound (written_low told v number next log c has) used_written
          (written_uses others told v number next log c has may_lead still on_written) q written
      of (inr own) = used_in c.space_now has.space_sound (λ q on. let at = space_low told v number next log c has q on in (let least = at.0 in omega (arith, least), at.1))
          (λ q on. used_in_space told w number q (kept q on)) (space_uses others told v number next log c has may_lead still on_written on_space) q own

  -- it touches pages alone that were marked, and that no word pins
  clear : (q : ℕ) → set.contains (pages_in c.volatile.images) q ≡ true → set.contains c.pins q ≡ false → IsClearedIn told.pages w.log q
  clear q marked unpinned = is.cleared q unpromoted (has.scanned.cleared q there unpinned)
    where
      there : contains_key c.volatile.images q ≡ true
      there = sym (in_pages c.volatile.images q) ∙ marked

      unpromoted : is_promoted_in c q ≡ false
      unpromoted = fails (is_promoted_in c q) (λ promoted. false≢true (sym unpinned ∙ written_pinned told v number next log c has q there (and_parts (contains_key c.written_now q) (not (contains_key c.found q)) promoted).0))

  pub may_record : w.lost ≡ [] → MayJoin told w (d ∷ []) []
  may_record none = record {
    lawful = lawful;
    lawful_lost = subst (λ (l : List Done). Lawful told ((w.seen ++ d ∷ []) ++ l)) (sym (ap (λ (l : List Done). l ++ []) none)) (subst (Lawful told) (no_more (w.seen ++ d ∷ [])) lawful);
    single = (inl none, inr refl);
    own = (mine, tt);
    held = λ u free. fails (names told d u || false) (λ named. false≢true (sym free ∙ named_held u (drop_false (names told d u) named)));
    drawn = λ n made. ap (is_in n) is.names ∙ (only_below next v.names n (drop_false (set.contains (names_below next v.names) n) made)).1;
    used = used;
    cleared = touches_cleared told.opening.catalog told.pages h marks (pass told v number next log c has) (λ q. in_pages c.volatile.images q ∙ sym (has_sheet c.volatile.images q)) (done told v number next log c has).are w.log clear;
    kept = λ j q on. (let at = and_parts (number == j) (contains_key (sheets_of c.space_now) q) (drop_false ((number == j) && contains_key (sheets_of c.space_now) q) on) in
        subst (λ (k : ℕ). HasInSpace told w k q) (eqb-true number j at.0) (kept q (sym (has_sheet c.space_now q) ∙ at.1)));
    read = (
      record {
        wide = has.scanned.wide;
        words_are = λ n low. is.read n ∙ has.scanned.read n low;
        marks_are = λ q. is.marked q ∙ has.scanned.marked q ∙ sym (in_pages c.volatile.images q);
      },
      tt,
    );
  }
