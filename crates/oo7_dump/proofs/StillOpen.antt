-- A store stays open while pages are loaded, and what is held of it is what its files open to.
use Rattle.std.proofs.Common.{◌≡◌, ◌<◌, ◌≤◌, ◌*◌, ℕ, Bool, true, false, cond, ltb, List, take, length, Option, Some, None, is_some, unwrap_or, Ok, Err, refl, sym, ap, subst, ◌∙◌, arith, ◌⊎◌, inl, inr}
use Rattle.std.specs.FinMap.{get}
use Rattle.pm3_core.specs.declared.naming.TheConstants.{BASE}
use Rattle.pm3_disk.specs.Content.{IfTold}
use Rattle.pm3_disk.specs.declared.outside.Disk.{Ghosts}
use Rattle.pm3_types.specs.Bytes.{piece}
use Rattle.pm3_types.specs.Fields.{Fields}
use Rattle.pm3_types.specs.Graph.{Part}
use Rattle.pm3_types.specs.Layout.{PageImage, Sheet}
use Rattle.pm3_types.specs.PageLaws.{IsCatalog}
use Rattle.pm3_types.proofs.OnePage.{one_catalog}
use Rattle.pm3_page.specs.PageBytes.{page_read}
use Rattle.pm3_page.specs.PageMap.{Images}
use Rattle.pm3_page.specs.Scan.{Read}
use Rattle.pm3_page.specs.declared.marks.Marks.{Marks}
use Rattle.pm3_pagefile.specs.Loading.{read_of}
use Rattle.pm3_pagefile.specs.PageBytes.{page_at}
use Rattle.pm3_journal.specs.FileHead.{page_count_of}
use Rattle.pm3_journal.specs.JournalState.{JournalState}
use Rattle.pm3_journal.specs.Opened.{IsOpen}
use Rattle.pm3_journal.specs.Opening.{OpenTo, last_image, page_bytes}
use Rattle.oo7_dump.specs.Held.{AreAmong, AreSound}

-- what was read of a page was read of a whole one
read_whole : (b : Bool) (word : ℕ) (r : Read) (sheet : Sheet) → cond b (Err word) r ≡ Ok sheet → r ≡ Ok sheet
read_whole true word r sheet is = absurd (cc is)
read_whole false word r sheet is = is

kept_some : (images now : Images) (page : ℕ) (o : Option PageImage) → get images page ≡ o → is_some o ≡ true → ((image : PageImage) → get images page ≡ Some image → get now page ≡ Some image)
    → is_some (get now page) ≡ true
kept_some images now page None is some kept = absurd (cc some)
kept_some images now page (Some image) is some kept = ap is_some (kept image is)

module _ {D R : Type 0} (g : Ghosts D R) where
  -- images of the page file were loaded
  pub still_open : (file : Option (List ℕ)) (j : JournalState D) (catalog : List Fields) (images now : Images) (marks : Marks) → IsOpen g BASE file j catalog images marks
      → AreSound catalog marks.pages now → ((page : ℕ) (image : PageImage) → get images page ≡ Some image → get now page ≡ Some image)
      → IfTold file (λ bytes. (page : ℕ) (image : PageImage) → get now page ≡ Some image
      → (get images page ≡ Some image) ⊎ (read_of catalog BASE marks.pages page (page_at page bytes) ≡ Ok image.sheet))
      → IsOpen g BASE file j catalog now marks
  still_open file j catalog images now marks open_ sound kept loaded = record {
    bounds = open_.bounds;
    page_count = open_.page_count;
    number = open_.number;
    last = open_.last;
    sound = sound;
    recorded = λ page above has. kept_some images now page (get images page) refl (open_.recorded page above has) (kept page);
    recorded_last = λ runs told_bytes told list whole page bytes above is.
        let held = open_.recorded_last runs told_bytes told list whole page bytes above is in
        record { sheet = held.sheet; held = kept page _ held.held; read = held.read; written = held.written };
    size = open_.size;
    head = open_.head;
    catalog_is = open_.catalog_is;
    others = λ bytes told runs told_bytes told_journal list whole page image is none. elim (loaded bytes told page image is) [
      | inl old ↦ open_.others bytes told runs told_bytes told_journal list whole page image old none
      | inr read ↦ read_whole (ltb (length (page_at page bytes)) 4096) _ (page_read catalog BASE marks.pages page (page_at page bytes)) image.sheet read
    ];
  }

  module _ (content : Option (List ℕ)) (j : JournalState D) (catalog : List Fields) (images : Images) (marks : Marks) (open_ : IsOpen g BASE content j catalog images marks)
      (is_catalog : IsCatalog catalog) (file journal : List ℕ) (graph : Part) (told : content ≡ Some file) (told_journal : g.content j.disk ≡ Some journal) (runs : j.stopped ≡ None)
      (o : OpenTo BASE file journal graph) where
    pub same_catalog : catalog ≡ o.catalog
    same_catalog = one_catalog catalog o.catalog is_catalog o.is_catalog (sym (open_.catalog_is file told runs journal told_journal o.list o.records_are) ∙ o.catalog_is)

    pub pages_are : marks.pages ≡ page_count_of (take 32 journal)
    pages_are = let size = open_.size file told in let also = o.size in omega (arith, size, also)

    -- what is read of the last bytes of a page that is held
    read_last : (page : ℕ) (image : PageImage) → get images page ≡ Some image → 2 ≤ page → (last : Option (List ℕ)) → last_image page o.list None ≡ last
        → page_read catalog BASE marks.pages page (unwrap_or last (piece (4096 * page) 4096 file)) ≡ Ok image.sheet
    read_last page image is above None last = open_.others file told runs journal told_journal o.list o.records_are page image is last
    read_last page image is above (Some bytes) last =
        let held = open_.recorded_last runs journal told_journal o.list o.records_are page bytes above last in
        let same : record { page = page; sheet = held.sheet } ≡ image = cc (sym held.held ∙ is) in
        held.read ∙ ap (λ (x : PageImage). Ok x.sheet) same

    -- the images that are held are among those that the files have
    pub held_among : AreAmong images o.images
    held_among page image is =
        let sound = open_.sound page image is in
        let read = ap (λ (c : List Fields). page_read c BASE (page_count_of (take 32 journal)) page (page_bytes file o.list page)) (sym same_catalog)
        ∙ ap (λ (n : ℕ). page_read catalog BASE n page (page_bytes file o.list page)) (sym pages_are)
        ∙ read_last page image is sound.1 (last_image page o.list None) refl in
        (o.images_are page image.sheet).1 (sound.1, subst (λ (n : ℕ). page < n) pages_are sound.2, read)
