-- A commit is an entry that may follow, and its operations run on the whole graph.
use Rattle.std.proofs.Common.{◌≡◌, ◌+◌, ◌∙◌, ◌⊎◌, inl, inr, ℕ, true, List, [], ◌∷◌, Option, Some, None, is_some, refl, sym, ap, subst}
use Rattle.std.specs.Prelude.{slice_index}
use Rattle.std.specs.FinMap.{get}
use Rattle.pm3_types.specs.Fields.{Fields}
use Rattle.pm3_types.specs.Graph.{Part, PartOf}
use Rattle.pm3_types.specs.Layout.{Sheet, page_in, word_in}
use Rattle.pm3_types.specs.Record.{Record}
use Rattle.pm3_types.specs.Shown.{Book, Images, FitsImages, IsOneToOne, roots_in, shown, shown_records, object_at}
use Rattle.pm3_types.proofs.Books.{shown_at, shown_from}
use Rattle.pm3_types.proofs.Parts.{part_of_part}
use Rattle.pm3_graph.specs.declared.operations.Op.{Op}
use Rattle.pm3_graph.specs.Operation.{IsRun}
use Rattle.pm3_graph.specs.Frame.{AreNewTo, FrameOfRuns}
use Rattle.pm3_history.specs.Laid.{laid}
use Rattle.pm3_history.specs.Entry.{Pass, Done, Entry}
use Rattle.pm3_history.specs.Named.{book_of, book_by}
use Rattle.pm3_history.specs.State.{State, all_images, entry_after, now}
use Rattle.pm3_history.specs.Lawful.{Tells, Writes, MeetsPass, IsLawful, images_by}
use Rattle.pm3_history.specs.Chronicled.{Chronicled}
use Rattle.pm3_history.specs.Commits.{IsCommitOf, CommitsKeep, CommitsRun}
use Rattle.pm3_history.proofs.BookOf.{book_of_on}
use Rattle.pm3_history.proofs.Chronicles.{histories_keep}
use Rattle.pm3_history.proofs.Histories.{goes_on, lawful_join}
use Rattle.pm3_history.proofs.Laying.{some_of, some_none, laid_above, laid_cases, laid_still, there_none}
use Rattle.pm3_history.proofs.Replacing.{nothing_at, object_alike, object_same, roots_same}
use Rattle.pm3_history.proofs.RunNames.{run_grows}

-- a book that fits images fits each part of them
pub fits_among : (catalog : List Fields) (base : ℕ) (book : Book) (some all : Images) → ((q : ℕ) (sheet : Sheet) → get some q ≡ Some sheet → get all q ≡ Some sheet)
    → FitsImages catalog base book all → FitsImages catalog base book some
fits_among catalog base book some all among fits = record {
  one = fits.one;
  named = fits.named;
  objects = λ a n sheet has on. fits.objects a n sheet has (among (page_in base a) sheet on);
  references = λ a n k sheet has on is. fits.references a n k sheet has (among (page_in base a) sheet on) is;
  roots = λ slot sheet low on. fits.roots slot sheet low (among 2 sheet on);
}

-- such a part shows a part
pub shows_among : (catalog : List Fields) (base : ℕ) (book : Book) (some all : Images) → ((q : ℕ) (sheet : Sheet) → get some q ≡ Some sheet → get all q ≡ Some sheet)
    → IsOneToOne book → PartOf (shown catalog base book some) (shown catalog base book all)
shows_among catalog base book some all among one = record { records = records; roots = λ names is. roots names is (get some 2) refl }
  where
    same_page : (q : ℕ) (sheet : Sheet) → get some q ≡ Some sheet → get all q ≡ get some q
    same_page q sheet on = among q sheet on ∙ sym on

    object : (a : ℕ) (r : Record) → object_at book catalog base some a ≡ Some r → (o : Option Sheet) → get some (page_in base a) ≡ o → object_at book catalog base all a ≡ Some r
    object a r is None none = absurd (some_none (object_at book catalog base some a) r is (nothing_at catalog base book some a none))
    object a r is (Some sheet) on = object_alike catalog base book some all a (same_page (page_in base a) sheet on) ∙ is

    records : (n : ℕ) (r : Record) → get (shown_records catalog base book some) n ≡ Some r → get (shown_records catalog base book all) n ≡ Some r
    records n r is =
        let from = shown_from catalog base book some n r is in
        shown_at catalog base book all from.0 n one from.1 ∙ object from.0 r from.2 (get some (page_in base from.0)) refl

    roots : (names : List ℕ) → roots_in catalog base book some (get some 2) ≡ Some names → (o : Option Sheet) → get some 2 ≡ o → roots_in catalog base book all (get all 2) ≡ Some names
    roots names is None none = absurd (some_none (roots_in catalog base book some (get some 2)) names is (ap (roots_in catalog base book some) none))
    roots names is (Some sheet) on = ap (roots_in catalog base book all) (same_page 2 sheet on) ∙ is

-- the book by which an entry is read fits its images
pub one_by : (catalog : List Fields) (base pages : ℕ) (st : State) (found left : Part) (tag mutator next_name high_page : ℕ) (written : Images) (pass : Option Pass)
    → let e : Entry = record { tag = tag; mutator = mutator; next_name = next_name; high_page = high_page; found = found; left = left; written = written; pass = pass } in
    MeetsPass catalog base pages st e pass → IsOneToOne (book_by base st.book pass)
one_by catalog base pages st found left tag mutator next_name high_page written None meets = meets.fits.one
one_by catalog base pages st found left tag mutator next_name high_page written (Some p) meets = meets.fits.one

-- it keeps the names of the book before
keeps_names : (base : ℕ) (book : Book) (pass : Option Pass) (w m : ℕ) → get book w ≡ Some m → get (book_by base book pass) w ≡ Some m
keeps_names base book None w m is = is
keeps_names base book (Some p) w m is = laid_above (book_of base p.before) book w m is

-- what it has beside them lies on the images by which the entry is read
further : (base : ℕ) (book : Book) (written : Images) (pass : Option Pass) (a n : ℕ) → get (book_by base book pass) a ≡ Some n
    → (get book a ≡ Some n) ⊎ (is_some (get (images_by written pass) (page_in base a)) ≡ true)
further base book written None a n is = inl is
further base book written (Some p) a n is = by (laid_cases (book_of base p.before) book a n is)
  where
    by : (get book a ≡ Some n) ⊎ ((get book a ≡ None) × (get (book_of base p.before) a ≡ Some n)) → (get book a ≡ Some n) ⊎ (is_some (get (laid p.before p.changed) (page_in base a)) ≡ true)
    by (inl old) = inl old
    by (inr new) = inr (laid_still p.before p.changed (page_in base a) (book_of_on base p.before a n new.1))

-- what was found is part of the graph
pub found_part : (catalog : List Fields) (base : ℕ) (st : State) (d : Done) (ops : List (Op × ℕ)) → Chronicled catalog base st → IsCommitOf catalog base st d ops
    → PartOf (shown catalog base st.book d.found) st.graph
found_part catalog base st d ops chron commit =
    part_of_part (shown catalog base st.book d.found) (shown catalog base st.book (all_images st)) st.graph
    (shows_among catalog base st.book d.found (all_images st) commit.last chron.fits.one) chron.shows

module _ (catalog : List Fields) (base : ℕ) (st : State) (d : Done) (ops : List (Op × ℕ)) (chron : Chronicled catalog base st) (commit : IsCommitOf catalog base st d ops)
    (one : IsOneToOne (book_by base st.book d.pass)) where
  abbrev book : Book
  book = book_by base st.book d.pass

  abbrev images : Images
  images = images_by d.written d.pass

  abbrev found : Part
  found = shown catalog base st.book d.found

  abbrev left : Part
  left = shown catalog base book d.left

  abbrev seen : Part
  seen = shown catalog base book images

  found_fits : FitsImages catalog base st.book d.found
  found_fits = fits_among catalog base st.book d.found (all_images st) commit.last chron.fits

  -- an object of a page that was found is shown as it was
  found_same : (a n : ℕ) (r : Record) (sheet : Sheet) → get st.book a ≡ Some n → get d.found (page_in base a) ≡ Some sheet → get d.left (page_in base a) ≡ Some sheet
      → object_at book catalog base d.left a ≡ Some r → get found.records n ≡ Some r
  found_same a n r sheet has on left_on is =
      shown_at catalog base st.book d.found a n chron.fits.one has
      ∙ sym (object_same catalog base st.book book d.found a n found_fits has
      (λ k m s at reference more named. keeps_names base st.book d.pass (slice_index s.words (word_in base a + 2 + k)) m named))
      ∙ object_alike catalog base book d.left d.found a (on ∙ sym left_on) ∙ is

  read_same : (a n : ℕ) (r : Record) (sheet : Sheet) → get book a ≡ Some n → get images (page_in base a) ≡ Some sheet
      → object_at book catalog base d.left a ≡ Some r → get seen.records n ≡ Some r
  read_same a n r sheet has on is =
      shown_at catalog base book images a n one has
      ∙ object_alike catalog base book d.left images a (on ∙ sym (commit.read (page_in base a) sheet on)) ∙ is

  unchanged : (n : ℕ) (r : Record) → get left.records n ≡ Some r → (get found.records n ≡ Some r) ⊎ (get seen.records n ≡ Some r)
  unchanged n r is = on_page (get d.left (page_in base a)) refl
    where
      from : (a : ℕ) × (get book a ≡ Some n) × (object_at book catalog base d.left a ≡ Some r)
      from = shown_from catalog base book d.left n r is

      a : ℕ
      a = from.0

      by : (sheet : Sheet) → get d.left (page_in base a) ≡ Some sheet → (get st.book a ≡ Some n) ⊎ (is_some (get images (page_in base a)) ≡ true)
          → (get d.found (page_in base a) ≡ Some sheet) ⊎ (get images (page_in base a) ≡ Some sheet) → (get found.records n ≡ Some r) ⊎ (get seen.records n ≡ Some r)
      by sheet on where_ (inr read) = inr (read_same a n r sheet from.1 read from.2)
      by sheet on (inl old) (inl was) = inl (found_same a n r sheet old was on from.2)
      by sheet on (inr there) (inl was) = (let x = some_of (get images (page_in base a)) there in inr (read_same a n r x.0 from.1 x.1 from.2))

      on_page : (o : Option Sheet) → get d.left (page_in base a) ≡ o → (get found.records n ≡ Some r) ⊎ (get seen.records n ≡ Some r)
      on_page None none = absurd (some_none (object_at book catalog base d.left a) r from.2 (nothing_at catalog base book d.left a none))
      on_page (Some sheet) on = by sheet on (further base st.book d.written d.pass a n from.1) (commit.others (page_in base a) sheet on)

  roots : get images 2 ≡ None → left.roots ≡ found.roots
  roots none = by (get d.left 2) (get d.found 2) refl refl
    where
      same : (sheet : Sheet) → get d.found 2 ≡ Some sheet → get d.left 2 ≡ Some sheet → left.roots ≡ found.roots
      same sheet was on =
          ap (roots_in catalog base book d.left) (on ∙ sym was)
          ∙ roots_same catalog base st.book book d.found found_fits (λ slot m s low at more named. keeps_names base st.book d.pass (slice_index s.words (2 + slot)) m named)

      which : (sheet : Sheet) → get d.left 2 ≡ Some sheet → (get d.found 2 ≡ Some sheet) ⊎ (get images 2 ≡ Some sheet) → left.roots ≡ found.roots
      which sheet on (inl was) = same sheet was on
      which sheet on (inr read) = absurd (some_none (get images 2) sheet read none)

      by : (o p : Option Sheet) → get d.left 2 ≡ o → get d.found 2 ≡ p → left.roots ≡ found.roots
      by None None off nothing = ap (roots_in catalog base book d.left) off ∙ sym (ap (roots_in catalog base st.book d.found) nothing)
      by None (Some sheet) off was = (absurd (there_none (get d.left 2) (commit.kept 2 (ap is_some was)) off))
      by (Some sheet) p on was = which sheet on (commit.others 2 sheet on)

  pub tells : Tells st.graph seen (entry_after catalog base st d)
  tells = record {
    found = found_part catalog base st d ops chron commit;
    kept = λ n r is. (run_grows catalog ops found left commit.run).kept n (ap is_some is);
    new = λ n r is none. new n none ((run_grows catalog ops found left commit.run).new n (ap is_some is));
    shows = shows_among catalog base book images d.left commit.read one;
    unchanged = unchanged;
    roots = roots;
  }
    where
      new : (n : ℕ) → get found.records n ≡ None → (is_some (get found.records n) ≡ true) ⊎ ((x : Part) → AreNewTo x ops → get x.records n ≡ None)
          → get st.graph.records n ≡ None
      new n none (inl there) = (absurd (there_none (get found.records n) there none))
      new n none (inr fresh) = fresh st.graph commit.new

  pub lawful : (pages : ℕ) → Writes catalog base pages st (entry_after catalog base st d) → MeetsPass catalog base pages st (entry_after catalog base st d) d.pass
      → IsLawful catalog base pages st (entry_after catalog base st d)
  lawful pages writes meets = record { tells = tells; writes = writes; by_pass = meets }

pub commits_keep : CommitsKeep
commits_keep catalog base pages st h d ops chron are commit writes meets =
    let before : State = now catalog base st h in
    let e : Entry = entry_after catalog base before d in
    let one : IsOneToOne (book_by base before.book d.pass) =
    one_by catalog base pages before e.found e.left e.tag e.mutator e.next_name e.high_page e.written d.pass meets in
    lawful_join catalog base pages st h (d ∷ [])
    (are, (lawful catalog base before d ops (histories_keep catalog base pages st h chron are) commit one pages writes meets, tt))

pub commits_run : FrameOfRuns → CommitsRun
commits_run frame catalog base pages st h d ops chron are commit =
    let before : State = now catalog base st h in
    let e : Entry = entry_after catalog base before d in
    let part : PartOf e.found before.graph = found_part catalog base before d ops (histories_keep catalog base pages st h chron are) commit in
    subst (λ (s : State). IsRun catalog ops before.graph s.graph) (sym (goes_on catalog base st h (d ∷ [])))
    (frame catalog ops e.found before.graph e.left part commit.new commit.run)
