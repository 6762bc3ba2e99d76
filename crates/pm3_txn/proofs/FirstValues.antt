-- The values with which a heap starts stand for their units.
use Rattle.std.proofs.Common.{◌≡◌, ◌⊎◌, ◌<◌, ◌+◌, ◌==◌, ◌||◌, ◌&&◌, nat_lt, ℕ, Bool, true, false, List, [], ◌∷◌, ◌++◌, Option, Some, None, option_map, slice_index, refl, sym, ap, ◌∙◌, subst, inl, inr, ⊎_elim, arith}
use Rattle.std.proofs.lemmas.Bool.Decides.{nat_tests}
use Rattle.std.specs.FinMap as map
use Rattle.std.specs.FinMap.{get, get-empty, same_map, nat_cmp-IsAntisymmetric}
use Rattle.std.specs.Cmp.{nat_cmp_total}
use Rattle.std.specs.Ordering.{nat_cmp}
use Rattle.std.proofs.lemmas.Bool.{false≢true}
use Rattle.pm3_journal.specs.Format.{JournalRecord}
use Rattle.pm3_journal.specs.Journals.{failed_list}
use Rattle.pm3_journal.specs.Records.{records, Whole}
use Rattle.std.specs.FinSet as set
use Rattle.pm3_core.specs.declared.naming.TheConstants.{BASE}
use Rattle.pm3_core.specs.Naming as core
use Rattle.pm3_disk.specs.declared.outside.Disk.{Ghosts}
use Rattle.pm3_types.specs.Fields.{Fields}
use Rattle.pm3_types.specs.Layout as layout
use Rattle.pm3_types.specs.Layout.{Sheet, PageImage, is_start}
use Rattle.pm3_types.specs.PageForm.{HasForm, IsReferenceIn, is_memory_reference, map_at, tail_at}
use Rattle.pm3_page.specs.PageSheets.{sheet_in, sheets_of}
use Rattle.pm3_page.proofs.SheetsOf.{get-sheets_of}
use Rattle.pm3_journal.specs.Journals.{Keeps}
use Rattle.pm3_journal.specs.Opened.{IsOpenStore}
use Rattle.pm3_journal.specs.declared.opened.Opened.{Opened}
use Rattle.pm3_table.specs.declared.view.Told.{Told}
use Rattle.pm3_table.specs.Entries.{images_refer}
use Rattle.pm3_table.specs.Telling.{Good}
use Rattle.pm3_txn.specs.declared.values.Value.TheVariants.{Page}
use Rattle.pm3_txn.specs.Frontiers.{IsTop}
use Rattle.pm3_txn.specs.Knowing.{is_in_use}
use Rattle.pm3_txn.specs.Slots.{stands_for}
use Rattle.pm3_txn.specs.Starts.{blank_space, page_home}
use Rattle.pm3_txn.specs.Values.{IsPageOf, IsSpaceOf, IsTurnOf, TurnState, origin_of, where_whole}
use Rattle.pm3_txn.proofs.OpensAt.{marks_now}
use Rattle.pm3_txn.proofs.Referred.{image_refers, word_page}

-- a form whose references meet another test
form_by : (catalog : List Fields) (first second : ℕ → Bool) (page : ℕ) (sheet : Sheet) → HasForm catalog first page sheet
    → ((slot : ℕ) → page ≡ 2 → slot < 16 → first (slice_index sheet.words (2 + slot)) ≡ true → second (slice_index sheet.words (2 + slot)) ≡ true)
    → ((s k : ℕ) → is_start sheet s ≡ true → IsReferenceIn (map_at catalog sheet s) (tail_at sheet s) k → first (slice_index sheet.words (s + 2 + k)) ≡ true → second (slice_index sheet.words (s + 2 + k)) ≡ true)
    → HasForm catalog second page sheet
form_by catalog first second page sheet form roots objects = record {
  roots = λ two. let h = form.roots two in record {
    words = h.words;
    starts = h.starts;
    head = h.head;
    second = h.second;
    roots = λ slot low. roots slot two low (h.roots slot low);
    rest = h.rest;
    empty = h.empty;
  };
  objects = λ apart. ⊎_elim (λ blank. inl blank) (λ h. inr (record {
    head = h.head;
    second = h.second;
    laid = h.laid;
    heads = h.heads;
    names = h.names;
    references = λ s k begins reference. objects s k begins reference (h.references s k begins reference);
    padding = h.padding;
  })) (form.objects apart);
}

some_none : {A : Type 0} (x : A) → Some x ≡ None → ⊥
some_none x is = cc is

append_nothing : {A : Type 0} (l : List A) → l ≡ l ++ []
append_nothing [] = refl
append_nothing (x ∷ xs) = ap (λ (l : List _). x ∷ l) (append_nothing xs)

module _ {D R : Type 0} (g : Ghosts D R) (s : Opened D R) (open_is : IsOpenStore g s) (frontier : ℕ)
    (top : IsTop (λ p. images_refer s.catalog (sheets_of s.images.images) p ≡ true) s.marks.high_page frontier) where
  -- what is told
  abbrev pub first_told : Told
  first_told = record { pages = s.marks.pages; frontier = frontier; next_name = s.marks.next_name; opening = origin_of g s }

  used : (word : ℕ) → is_memory_reference BASE s.marks.pages word ≡ true → core.page_in word < frontier → is_in_use first_told [] word ≡ true
  used word form low =
      let below : nat_lt (layout.page_in BASE word) frontier ≡ true = (let same = word_page word in grind (arith, nat_tests, low, same)) in
      λ i. form i && inner (word == 0) (nat_lt (layout.page_in BASE word) frontier) below i
    where
      inner : (a b : Bool) → b ≡ true → (a || (b || false)) ≡ true
      inner true b is = refl
      inner false b is = ap (λ x. x || false) is

  page_stands : (u : ℕ) (image : PageImage) → get s.images.images u ≡ Some image → IsPageOf first_told [] u image
  page_stands u image there =
      let is = open_is.sound u image there in
      let sheet_there : get (sheets_of s.images.images) u ≡ Some image.sheet = get-sheets_of s.images.images u ∙ ap sheet_in there in
      let refers = image_refers s.catalog s.marks.pages s.images.images (let most = open_is.bounds.pages.1 in omega (arith, most)) open_is.sound u image there in
      record {
        low = (is.1, is.2);
        home = is.0;
        form = subst (λ (n : ℕ). HasForm s.catalog (is_in_use first_told []) n image.sheet) is.0
            (form_by s.catalog (is_memory_reference BASE s.marks.pages) (is_in_use first_told []) image.page image.sheet is.3
            (λ slot two low form. let word : ℕ = slice_index image.sheet.words (2 + slot) in
            used word form (top.above (core.page_in word) (refers (core.page_in word) (inl (two, (slot, low, refl))))))
            (λ at k begins reference form. let word : ℕ = slice_index image.sheet.words (at + 2 + k) in
            used word form (top.above (core.page_in word) (refers (core.page_in word) (inr (at, (begins, (k, (reference, refl)))))))));
        known = λ sheet known. cc (sym sheet_there ∙ known);
        loaded = λ unknown. absurd (some_none image.sheet (sym sheet_there ∙ unknown));
        last = λ st opens. opens.among u image.sheet sheet_there;
      }

  pub good_page : (u : ℕ) → u < s.marks.pages → Good (stands_for g) first_told [] [] u (page_home s.images.images u)
  good_page u low = of (get s.images.images u) refl
    where
      of : (o : Option PageImage) → get s.images.images u ≡ o → Good (stands_for g) first_told [] [] u (option_map Page o)
      of None none = (low, refl, get-sheets_of s.images.images u ∙ ap sheet_in none)
      of (Some image) there = page_stands u image there

  pub good_space : (j : ℕ) → j < 32 → IsSpaceOf first_told [] (s.marks.pages + j) (blank_space j)
  good_space j low = record {
    unit = refl;
    low = low;
    last = same_map nat_cmp_total nat_cmp-IsAntisymmetric (sheets_of map.empty) map.empty
        (λ q. get-sheets_of map.empty q ∙ ap sheet_in (get-empty nat_cmp q) ∙ sym (get-empty nat_cmp q));
    sound = λ page image there. absurd (some_none image (sym there ∙ get-empty nat_cmp page));
    free = λ page has. absurd (false≢true (sym (set.contains-empty nat_cmp page) ∙ has));
  }

  pub good_turn : Keeps g s.journal → (turn : TurnState D R) → turn.opened ≡ s → turn.journal ≡ s.journal → turn.next_name ≡ s.marks.next_name → turn.high_page ≡ s.marks.high_page → turn.file ≡ s.pages
      → IsTurnOf g first_told [] [] (s.marks.pages + 32) turn
  good_turn keeps turn opened journal next_name high_page file =
      subst (λ (t : TurnState D R). IsTurnOf g first_told [] [] (s.marks.pages + 32) t)
      (λ i. record { journal = sym journal i; next_name = sym next_name i; high_page = sym high_page i; file = sym file i; opened = sym opened i })
      (record {
        unit = refl;
        origin = refl;
        file_is = refl;
        opened_well = open_is;
        opened_keeps = keeps;
        page_count = (sym open_is.page_count, refl);
        summaries = append_nothing s.journal.summaries;
        due = refl;
        bounds = (open_is.bounds.next_name.0, open_is.bounds.next_name.1, open_is.bounds.high_page.0, open_is.bounds.high_page.1);
        last = open_is.last;
        none = λ _. (refl, refl);
        marks = λ st opens. marks_now g s open_is keeps st opens;
        name_is = refl;
        records_are = λ first old runs told is. ([], tt, (λ bytes now. at first old runs told is bytes now), tt);
        tells = λ runs none. sym (ap (λ (o : Option ℕ). where_whole o (g.content s.journal.disk)) runs) ∙ none;
        within = λ page is. absurd (false≢true is);
        later = omega arith;
        stopped_at = λ n is. inl is;
        halted = λ some. absurd (some refl);
        whole = λ _ runs. runs;
        failed = λ d lost. absurd (cc lost);
      })
    where
      same_bytes : (first bytes : List ℕ) → where_whole s.journal.stopped (g.content s.journal.disk) ≡ Some first → s.journal.stopped ≡ None → g.content s.journal.disk ≡ Some bytes → bytes ≡ first
      same_bytes first bytes told runs now = cc (sym now ∙ sym (ap (λ (o : Option ℕ). where_whole o (g.content s.journal.disk)) runs) ∙ told)

      at : (first : List ℕ) (old : List JournalRecord) → s.journal.stopped ≡ None → where_whole s.journal.stopped (g.content s.journal.disk) ≡ Some first → records first ≡ Whole old
          → (bytes : List ℕ) → g.content s.journal.disk ≡ Some bytes
          → (s.journal.stopped ≡ None → records bytes ≡ Whole (old ++ [])) × ((records bytes ≡ Whole (old ++ [])) ⊎ (records bytes ≡ Whole ((old ++ []) ++ failed_list s.journal.failed)))
      at first old runs told is bytes now =
          let here : records bytes ≡ Whole (old ++ []) = ap records (same_bytes first bytes told runs now) ∙ is ∙ ap Whole (append_nothing old) in
          ((λ _. here), inl here)
