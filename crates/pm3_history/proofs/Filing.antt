-- Files whose journal has the records of a history open to the closure of the graph after it.
use Rattle.std.proofs.Common.{◌≡◌, ◌≤◌, ◌*◌, ◌∙◌, ◌++◌, ℕ, true, List, [], ◌∷◌, take, length, Some, is_some, refl, sym, ap, subst}
use Rattle.std.specs.FinMap.{get}
use Rattle.pm3_types.specs.Fields.{Fields}
use Rattle.pm3_types.specs.Graph.{Part, PartOf}
use Rattle.pm3_types.specs.Layout.{page_in}
use Rattle.pm3_types.specs.PageLaws.{IsCatalog}
use Rattle.pm3_types.specs.Reached.{IsClosure}
use Rattle.pm3_types.specs.ReachedLaws.{AgreesOnReached, AlikeClosures}
use Rattle.pm3_types.specs.Shown.{FitsImages, shown}
use Rattle.pm3_types.proofs.Parts.{part_of_part}
use Rattle.pm3_journal.specs.Format.{JournalRecord}
use Rattle.pm3_journal.specs.FileHead.{page_count_of}
use Rattle.pm3_journal.specs.Opening.{AreAt, AreImagesOf, AreReached, OpenTo}
use Rattle.pm3_journal.specs.Records.{records, Whole}
use Rattle.pm3_history.specs.State.{State, all_images, step, entry_after, opening_state, now}
use Rattle.pm3_history.specs.Lawful.{AreLawful}
use Rattle.pm3_history.specs.Opens.{LawfulFrom}
use Rattle.pm3_history.specs.Persistent.{persistent_book, persistent_part}
use Rattle.pm3_history.specs.Bounded.{IsBounded, OpeningsAreBounded, HistoriesAreBounded}
use Rattle.pm3_history.specs.Chronicled.{Chronicled}
use Rattle.pm3_history.specs.Files.{FilesOpen}
use Rattle.pm3_history.proofs.Chronicles.{openings_are_chronicled, histories_keep, entry_keeps}
use Rattle.pm3_history.proofs.Cutting.{cut, of_cut, cut_fits, reached_in_cut, cut_reached, cut_shows}
use Rattle.pm3_history.proofs.Histories.{lawful_split}
use Rattle.pm3_history.proofs.Laying.{some_of, off_cases}
use Rattle.pm3_history.proofs.Marking.{bounds_keep}
use Rattle.pm3_history.proofs.Persisting.{persistent_fits, persistent_placed, persistent_shows, persistent_reached}
use Rattle.pm3_history.proofs.Recording.{AreListed, records_follow}

-- what the bytes of the files of an opening say of its state
pub opening_listed : (base : ℕ) (file journal : List ℕ) (g : Part) (o : OpenTo base file journal g)
    → AreListed o.catalog base (page_count_of (take 32 journal)) (opening_state o.catalog base o.images o.book o.next_name o.high_page) file o.list
opening_listed base file journal g o = record { at = o.at; catalog_is = o.catalog_is; images_are = o.images_are; recorded = o.reached.recorded }

pub opening_bounded : (base : ℕ) (file journal : List ℕ) (g : Part) (o : OpenTo base file journal g)
    → IsBounded o.catalog base (opening_state o.catalog base o.images o.book o.next_name o.high_page)
opening_bounded base file journal g o =
    let st : State = opening_state o.catalog base o.images o.book o.next_name o.high_page in
    record {
      names = o.reached.names;
      pages = λ a n has. o.reached.pages a n (off_cases base st.book st.owner a n has).1;
      references = λ a n s k sheet has on starts is. o.reached.references a n s k sheet (off_cases base st.book st.owner a n has).1 on starts is;
    }

pub openings_are_bounded : OpeningsAreBounded
openings_are_bounded base pages o st opens =
    subst (λ (c : List Fields). IsBounded c base st) (opens.catalog_is)
    (subst (λ (s : State). IsBounded opens.opens.catalog base s) (sym opens.state) (opening_bounded base opens.page_file opens.journal_file opens.graph opens.opens))

pub histories_are_bounded : HistoriesAreBounded
histories_are_bounded catalog base pages st [] chron are bounded = bounded
histories_are_bounded catalog base pages st (d ∷ ds) chron are bounded =
    histories_are_bounded catalog base pages (step base st (entry_after catalog base st d)) ds (entry_keeps catalog base pages st (entry_after catalog base st d) chron are.0) are.1
    (bounds_keep catalog base pages st (entry_after catalog base st d) chron bounded are.0)

-- the graph that is reached
pub reached_graph : List Fields → ℕ → State → Part
reached_graph catalog base st = shown catalog base (cut catalog base (persistent_book base st) st.pages) st.pages

module _ (catalog : List Fields) (base count : ℕ) (st : State) (file : List ℕ) (list : List JournalRecord) (chron : Chronicled catalog base st)
    (bounded : IsBounded catalog base st) (listed : AreListed catalog base count st file list) where
  above : (q : ℕ) → is_some (get st.pages q) ≡ true → 2 ≤ q
  above q is = (let x = some_of (get st.pages q) is in ((listed.images_are q x.0).0 x.1).0)

  fits : FitsImages catalog base (persistent_book base st) st.pages
  fits = persistent_fits catalog base st chron

  placed : (a n : ℕ) → get (persistent_book base st) a ≡ Some n → is_some (get st.pages (page_in base a)) ≡ true
  placed = persistent_placed catalog base st chron

  reached : AreReached catalog base list st.pages (cut catalog base (persistent_book base st) st.pages) st.next_name st.high_page
  reached = record {
    roots = chron.roots;
    recorded = listed.recorded;
    reached = reached_in_cut catalog base (persistent_book base st) st.pages fits placed above chron.roots;
    only = cut_reached catalog base (persistent_book base st) st.pages fits placed above chron.roots;
    fits = cut_fits catalog base (persistent_book base st) st.pages fits placed above chron.roots;
    names = λ a n has. bounded.names a n (off_cases base st.book st.owner a n (of_cut catalog base (persistent_book base st) st.pages fits placed above chron.roots a n has).0).1;
    pages = λ a n has. bounded.pages a n (of_cut catalog base (persistent_book base st) st.pages fits placed above chron.roots a n has).0;
    references = λ a n s k sheet has on starts is.
        bounded.references a n s k sheet (of_cut catalog base (persistent_book base st) st.pages fits placed above chron.roots a n has).0 on starts is;
  }

  -- files of which this holds open to it
  pub opens_to : (journal : List ℕ) → page_count_of (take 32 journal) ≡ count → records journal ≡ Whole list → length file ≡ 4096 * count → IsCatalog catalog
      → OpenTo base file journal (reached_graph catalog base st)
  unfolding reached_graph
  opens_to journal same whole_list size is_catalog = record {
    list = list;
    catalog = catalog;
    images = st.pages;
    book = cut catalog base (persistent_book base st) st.pages;
    next_name = st.next_name;
    high_page = st.high_page;
    records_are = whole_list;
    size = size ∙ ap (λ (n : ℕ). 4096 * n) (sym same);
    at = subst (λ (n : ℕ). AreAt file list n st.next_name st.high_page) (sym same) listed.at;
    is_catalog = is_catalog;
    catalog_is = listed.catalog_is;
    images_are = subst (λ (n : ℕ). AreImagesOf catalog base n file list st.pages) (sym same) listed.images_are;
    reached = reached;
    graph = refl;
  }

  agrees_back : AgreesOnReached catalog (persistent_part catalog base st) st.graph
  agrees_back =
      let part : PartOf (persistent_part catalog base st) st.graph =
      part_of_part (persistent_part catalog base st) (shown catalog base st.book (all_images st)) st.graph (persistent_shows catalog base st chron) chron.shows in
      record { roots = sym (persistent_reached catalog base st chron).roots; records = λ n r reached_ is. part.records n r is }

  pub is_closure : AlikeClosures → IsClosure catalog st.graph (reached_graph catalog base st)
  unfolding reached_graph
  is_closure alike =
      alike catalog (persistent_part catalog base st) st.graph (reached_graph catalog base st) agrees_back (persistent_reached catalog base st chron)
      (cut_shows catalog base (persistent_book base st) st.pages fits placed above chron.roots)

pub files_open : AlikeClosures → FilesOpen
unfolding LawfulFrom
files_open alike base pages o st opens journal h more rs same whole matching lawful =
    let catalog : List Fields = o.catalog in
    let file : List ℕ = opens.page_file in
    let first = opens.opens in
    let list : List JournalRecord = first.list in
    let after : State = now catalog base st h in
    let are : AreLawful catalog base pages st h = (lawful_split catalog base pages st h more (lawful st opens)).0 in
    let chron : Chronicled catalog base st = openings_are_chronicled base pages o st opens in
    let bounded : IsBounded catalog base st = openings_are_bounded base pages o st opens in
    let listed : AreListed catalog base pages st file list =
    subst (λ (c : List Fields). AreListed c base pages st file list) (opens.catalog_is)
    (subst (λ (s : State). AreListed first.catalog base pages s file list) (sym opens.state)
    (subst (λ (n : ℕ). AreListed first.catalog base n (opening_state first.catalog base first.images first.book first.next_name first.high_page) file list) (opens.count)
    (opening_listed base file opens.journal_file opens.graph first))) in
    let chron_after : Chronicled catalog base after = histories_keep catalog base pages st h chron are in
    let bounded_after : IsBounded catalog base after = histories_are_bounded catalog base pages st h chron are bounded in
    let listed_after : AreListed catalog base pages after file (list ++ rs) = records_follow catalog base pages st file list h rs listed are matching in (
      reached_graph catalog base after,
      opens_to catalog base pages after file (list ++ rs) chron_after bounded_after listed_after journal same whole
          (first.size ∙ ap (λ (n : ℕ). 4096 * n) (opens.count)) (subst IsCatalog (opens.catalog_is) first.is_catalog),
      is_closure catalog base pages after file (list ++ rs) chron_after bounded_after listed_after alike,
    )
