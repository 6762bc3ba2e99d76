-- The commit of a transaction is an entry that may follow, and its operations run on the whole graph.
use Rattle.std.proofs.Common.{◌≡◌, ◌⊎◌, ◌<◌, ◌∙◌, inl, inr, ℕ, true, List, [], Option, Some, None, is_some, refl, sym, ap, subst, arith}
use Rattle.std.specs.Option.{option_or}
use Rattle.std.specs.FinMap as map
use Rattle.std.specs.FinMap.{get, get-empty}
use Rattle.std.specs.Ordering.{nat_cmp}
use Rattle.pm3_core.specs.declared.naming.TheConstants.{BASE}
use Rattle.pm3_types.specs.Fields.{Fields}
use Rattle.pm3_types.specs.Layout.{Sheet, PageImage}
use Rattle.pm3_types.specs.PageForm.{HasForm, is_memory_reference}
use Rattle.pm3_types.specs.Shown.{Images, FitsImages, shown}
use Rattle.pm3_graph.specs.declared.operations.Op.{Op}
use Rattle.pm3_graph.specs.Frame.{FrameOfRuns}
use Rattle.pm3_graph.specs.Operation.{IsRun}
use Rattle.pm3_page.specs.PageMap as page_map
use Rattle.pm3_page.specs.PageSheets.{sheet_in}
use Rattle.pm3_page.proofs.SheetsOf.{get-sheets_of}
use Rattle.pm3_access.specs.Acts.{left_images, found_images, space_found}
use Rattle.pm3_access.specs.Holding.{Holding, HeldSpaceState, image_in, space_now}
use Rattle.pm3_access.proofs.HeldSheets.{get-left_images, get-found_images}
use Rattle.pm3_history.specs.Commits.{IsCommitOf, IsPlainCommit}
use Rattle.pm3_history.specs.Entry.{Done, Pass}
use Rattle.pm3_history.specs.Homes.{IsHome}
use Rattle.pm3_history.specs.Lawful.{HaveForm, Writes, MeetsPass, images_by}
use Rattle.pm3_history.specs.Named.{book_by}
use Rattle.pm3_history.specs.Persistent.{persistent_book}
use Rattle.pm3_history.specs.State.{State, all_images, entry_after}
use Rattle.pm3_history.proofs.Committing.{one_by, lawful, commits_run}
use Rattle.pm3_history.proofs.Laying.{some_of, some_none, one_value}
use Rattle.pm3_history.proofs.PlainCommits.{plain_commits_follow}
use Rattle.pm3_txn.specs.Runs.{Runs}
use Rattle.pm3_txn.specs.TransactionLaws.{IsSettled, IsPlainlyDone, HasMarks, TransactionsCommit}
use Rattle.pm3_txn.proofs.Admitting.{home_image}
use Rattle.pm3_txn.proofs.Going.{form_rises}

sheet_of : (o : Option PageImage) (sheet : Sheet) → sheet_in o ≡ Some sheet → (image : PageImage) × (o ≡ Some image) × (image.sheet ≡ sheet)
sheet_of None sheet is = absurd (cc is)
sheet_of (Some image) sheet is = (image, refl, one_value (Some image.sheet) image.sheet sheet refl is)

module _ (catalog : List Fields) (st : State) (settled : IsSettled catalog st) (h : Holding) (written : page_map.Images) (done : List (Op × ℕ)) (d : Done)
    (runs : Runs catalog st h done) (plainly : IsPlainlyDone h written d) where
  -- what is held alone is all that is held
  alone_in : (q : ℕ) → image_in h q ≡ map.get h.pages.left q
  alone_in q = ap (λ (s : Option HeldSpaceState). option_or (map.get h.pages.left q) (space_now s q)) runs.alone ∙ or_none (map.get h.pages.left q)
    where
      or_none : (o : Option PageImage) → option_or o None ≡ o
      or_none None = refl
      or_none (Some x) = refl

  alone_found : (q : ℕ) → get (found_images h) q ≡ sheet_in (map.get h.pages.found q)
  alone_found q = get-found_images h q ∙ ap (λ (s : Option HeldSpaceState). option_or (sheet_in (map.get h.pages.found q)) (get (space_found s) q)) runs.alone
      ∙ ap (option_or (sheet_in (map.get h.pages.found q))) (get-empty nat_cmp q) ∙ or_none (sheet_in (map.get h.pages.found q))
    where
      or_none : (o : Option Sheet) → option_or o None ≡ o
      or_none None = refl
      or_none (Some x) = refl

  alone_left : (q : ℕ) → get (left_images h) q ≡ sheet_in (map.get h.pages.left q)
  alone_left q = get-left_images h q ∙ ap sheet_in (alone_in q)

  written_left : (page : ℕ) (sheet : Sheet) → get d.written page ≡ Some sheet → (image : PageImage) × (map.get h.pages.left page ≡ Some image) × (image.sheet ≡ sheet)
  written_left page sheet is =
      let from = sheet_of (map.get written page) sheet (sym (ap (λ (m : Images). get m page) plainly.written_is ∙ get-sheets_of written page) ∙ is) in
      (from.0, plainly.changed page from.0 from.1, from.2)

  left_now : (page : ℕ) (image : PageImage) → map.get h.pages.left page ≡ Some image → get d.left page ≡ Some image.sheet
  left_now page image is = ap (λ (m : Images). get m page) plainly.left ∙ alone_left page ∙ ap sheet_in is

  read : (page : ℕ) (sheet : Sheet) → get d.written page ≡ Some sheet → get d.left page ≡ Some sheet
  read page sheet is = (let from = written_left page sheet is in left_now page from.0 from.1 ∙ ap Some from.2)

  held_here : (page : ℕ) (image : PageImage) → map.get h.pages.left page ≡ Some image → is_some (image_in h page) ≡ true
  held_here page image is = ap is_some (alone_in page ∙ is)

  last : (page : ℕ) (sheet : Sheet) → get d.found page ≡ Some sheet → get (all_images st) page ≡ Some sheet
  last page sheet is = runs.last page sheet (sym (ap (λ (m : Images). get m page) plainly.found) ∙ is)

  -- a page that was found is held
  found_held : (page : ℕ) (sheet : Sheet) → get d.found page ≡ Some sheet → is_some (image_in h page) ≡ true
  found_held page sheet is = of (image_in h page) refl
    where
      of : (o : Option PageImage) → image_in h page ≡ o → is_some o ≡ true
      of None none = absurd (some_none (get d.found page) sheet is (ap (λ (m : Images). get m page) plainly.found ∙ runs.places.found page none))
      of (Some image) there = refl

  left_some : (page : ℕ) → is_some (image_in h page) ≡ true → is_some (get d.left page) ≡ true
  left_some page is = (let image = some_of (image_in h page) is in ap is_some (left_now page image.0 (sym (alone_in page) ∙ image.1)))

  kept : (page : ℕ) → is_some (get d.found page) ≡ true → is_some (get d.left page) ≡ true
  kept page is = (let sheet = some_of (get d.found page) is in left_some page (found_held page sheet.0 sheet.1))

  others : (page : ℕ) (sheet : Sheet) → get d.left page ≡ Some sheet → (get d.found page ≡ Some sheet) ⊎ (get d.written page ≡ Some sheet)
  others page sheet is =
      let from = sheet_of (map.get h.pages.left page) sheet (sym (ap (λ (m : Images). get m page) plainly.left ∙ alone_left page) ∙ is) in
      of from.0 from.2 (plainly.others page from.0 from.1)
    where
      of : (image : PageImage) → image.sheet ≡ sheet → (map.get h.pages.found page ≡ Some image) ⊎ (map.get written page ≡ Some image)
          → (get d.found page ≡ Some sheet) ⊎ (get d.written page ≡ Some sheet)
      of image same (inl was) = inl (ap (λ (m : Images). get m page) plainly.found ∙ alone_found page ∙ ap sheet_in was ∙ ap Some same)
      of image same (inr now_) = inr (ap (λ (m : Images). get m page) plainly.written_is ∙ get-sheets_of written page ∙ ap sheet_in now_ ∙ ap Some same)

  -- without a pass the images of the commit are those that it writes
  images_are : images_by d.written d.pass ≡ d.written
  images_are = ap (images_by d.written) plainly.pass

  pub commit : IsCommitOf catalog BASE st d done
  commit = record {
    last = last;
    kept = kept;
    read = λ page sheet is. read page sheet (ap (λ (m : Images). get m page) (sym images_are) ∙ is);
    others = λ page sheet is. by page sheet (others page sheet is);
    run = subst (λ (pass : Option Pass). IsRun catalog done (shown catalog BASE st.book d.found) (shown catalog BASE (book_by BASE st.book pass) d.left)) (sym plainly.pass)
        (subst (λ (m : Images). IsRun catalog done (shown catalog BASE st.book m) (shown catalog BASE st.book d.left)) (sym plainly.found)
        (subst (λ (m : Images). IsRun catalog done (shown catalog BASE st.book (found_images h)) (shown catalog BASE st.book m)) (sym plainly.left) runs.run));
    new = runs.old st.graph;
  }
    where
      by : (page : ℕ) (sheet : Sheet) → (get d.found page ≡ Some sheet) ⊎ (get d.written page ≡ Some sheet)
          → (get d.found page ≡ Some sheet) ⊎ (get (images_by d.written d.pass) page ≡ Some sheet)
      by page sheet (inl was) = inl was
      by page sheet (inr now_) = inr (ap (λ (m : Images). get m page) images_are ∙ now_)

  pub plain : IsPlainCommit catalog BASE st d
  plain = record {
    pass = plainly.pass;
    last = λ page sheet is. (last page sheet is, (home_image catalog st settled page (runs.homes page (found_held page sheet is)).0).0);
    held = λ page is. (let sheet = some_of (get d.left page) is in
        let image = sheet_of (map.get h.pages.left page) sheet.0 (sym (ap (λ (m : Images). get m page) plainly.left ∙ alone_left page) ∙ sheet.1) in
        ap (λ (m : Images). is_some (get m page)) plainly.found ∙ runs.held page (held_here page image.0 image.1));
    written = read;
    fits = subst (λ (m : Images). FitsImages catalog BASE (persistent_book BASE st) m) (sym plainly.left) runs.fits;
  }

  pub writes : (pages : ℕ) → HasMarks pages st d → Writes catalog BASE pages st (entry_after catalog BASE st d)
  writes pages marks = record { form = form; names_rise = marks.names_rise; pages_rise = marks.pages_rise; most = marks.most }
    where
      low : (page : ℕ) → IsHome BASE st page → page < d.high_page
      low page (inl two) = (let least = marks.least in omega (arith, two, least))
      low page (inr (a, n, at, has)) = (let below = settled.bounded.pages a n has in let rise = marks.pages_rise in omega (arith, at, below, rise))

      form : HaveForm catalog BASE d.high_page d.written
      form page sheet is =
          let from = written_left page sheet is in
          let home = runs.homes page (held_here page from.0 from.1) in
          let sound = runs.sound page from.0 (alone_in page ∙ from.1) in (
            home.1,
            low page home.0,
            form_rises catalog st.high_page d.high_page page sheet marks.pages_rise
                (subst (λ (s : Sheet). HasForm catalog (is_memory_reference BASE st.high_page) page s) from.2
                (subst (λ (n : ℕ). HasForm catalog (is_memory_reference BASE st.high_page) n from.0.sheet) (runs.places.home page from.0 (alone_in page ∙ from.1)) sound)),
          )

pub transactions_commit : FrameOfRuns → TransactionsCommit
transactions_commit frame catalog pages st h written done d settled most runs plainly marks =
    let c : IsCommitOf catalog BASE st d done = commit catalog st settled h written done d runs plainly in
    let e = entry_after catalog BASE st d in
    let meets : MeetsPass catalog BASE pages st e d.pass = plain_commits_follow catalog BASE pages st d settled.chronicled (plain catalog st settled h written done d runs plainly) in
    let one = one_by catalog BASE pages st e.found e.left e.tag e.mutator e.next_name e.high_page e.written d.pass meets in (
      lawful catalog BASE st d done settled.chronicled c one pages (writes catalog st settled h written done d runs plainly pages marks) meets,
      commits_run frame catalog BASE pages st [] d done settled.chronicled tt c,
    )
