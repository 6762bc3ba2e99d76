-- Files open as before while their records are carried into the page file.
use Rattle.std.proofs.Common.{◌≡◌, ⊎_elim, ◌*◌, ◌<◌, ◌≤◌, ℕ, true, List, [], ◌∷◌, ◌++◌, length, take, drop, Option, Some, None, is_some, unwrap_or, refl, sym, ◌∙◌, ap, subst, arith, length-take, length-drop}
use Rattle.pm3_types.specs.Graph.{Part}
use Rattle.pm3_page.specs.Head.{head_page}
use Rattle.pm3_page.specs.PageBytes.{page_read}
use Rattle.pm3_page.specs.declared.marks.Marks.{Marks}
use Rattle.pm3_pagefile.specs.PageBytes.{Given, page_at, ChangesOnly, IsReplaced}
use Rattle.pm3_pagefile.proofs.Replacing.{replaced_changes}
use Rattle.pm3_journal.specs.FileHead.{page_count_of}
use Rattle.pm3_journal.specs.Format.{JournalRecord}
use Rattle.pm3_journal.specs.Opening.{AreAt, AreImagesOf, AreReached, OpenTo, last_image, page_bytes}
use Rattle.pm3_journal.specs.Records.{records, Whole}
use Rattle.pm3_journal.proofs.Listing.{whole_is}
use Rattle.pm3_store.specs.Ahead.{AreLast, AreLeft, TornOpens, WrittenOpens}
use Rattle.pm3_store.proofs.Within.{page_within, pages_range}

-- a file that is no shorter, and ends with the same page, is as long
pub whole_size : (pages : ℕ) (old new : List ℕ) → length old ≡ 4096 * pages → length old ≤ length new → page_at pages new ≡ page_at pages old
    → length new ≡ 4096 * pages
whole_size pages old new size longer same =
    let lengths : length (page_at pages new) ≡ length (page_at pages old) = ap length same in
    let new_take = length-take 4096 (drop (4096 * pages) new) in
    let new_drop = length-drop (4096 * pages) new in
    let old_take = length-take 4096 (drop (4096 * pages) old) in
    let old_drop = length-drop (4096 * pages) old in
    omega arith

stands : (o : Option (List ℕ)) (is was : List ℕ) → (o ≡ None → is ≡ was) → unwrap_or o is ≡ unwrap_or o was
stands None is was same = same refl
stands (Some x) is was same = refl

pub not_some : {A : Type 0} (o : Option A) → (is_some o ≡ true → ⊥) → o ≡ None
not_some None never = refl
not_some (Some x) never = absurd (never refl)

-- a list that has something has a last
pub last_of : (r : JournalRecord) (rs : List JournalRecord) → (front : List JournalRecord) × (last : JournalRecord) × (r ∷ rs ≡ front ++ last ∷ [])
last_of r [] = ([], r, refl)
last_of r (s ∷ rs) =
    let more = last_of s rs in
    (r ∷ more.0, more.1, ap (λ (l : List JournalRecord). r ∷ l) more.2)

pub has_last : (rs : List JournalRecord) → 0 < length rs → (front : List JournalRecord) × (last : JournalRecord) × (rs ≡ front ++ last ∷ [])
has_last [] some = absurd (omega (arith, some))
has_last (r ∷ rs) some = last_of r rs

never_none : (rs : List JournalRecord) → 0 < length rs → rs ≡ [] → ⊥
never_none rs some none = let long : length rs ≡ 0 = ap length none in omega (arith, long, some)

pub never_last : (front : List JournalRecord) (r : JournalRecord) → [] ≡ front ++ r ∷ [] → ⊥
never_last [] r is = absurd (cc is)
never_last (x ∷ front) r is = absurd (cc is)

module _ (base : ℕ) (file journal : List ℕ) (g : Part) (o : OpenTo base file journal g) where
  -- the same records in another journal
  pub same_records : (other : List ℕ) → page_count_of (take 32 other) ≡ page_count_of (take 32 journal) → records other ≡ records journal
      → OpenTo base file other g
  same_records other count same = record {
    list = o.list;
    catalog = o.catalog;
    images = o.images;
    book = o.book;
    next_name = o.next_name;
    high_page = o.high_page;
    records_are = same ∙ o.records_are;
    size = o.size ∙ ap (λ (n : ℕ). 4096 * n) (sym count);
    at = subst (λ (n : ℕ). AreAt file o.list n o.next_name o.high_page) (sym count) o.at;
    is_catalog = o.is_catalog;
    catalog_is = o.catalog_is;
    images_are = subst (λ (n : ℕ). AreImagesOf o.catalog base n file o.list o.images) (sym count) o.images_are;
    reached = o.reached;
    graph = o.graph;
  }

  module _ (torn : List ℕ) (marks : Marks) (given : Given) (some : 0 < length o.list) (last : AreLast o.list marks given) (changes : ChangesOnly given file torn) where
    same_bytes : (page : ℕ) → 1 ≤ page → page_bytes torn o.list page ≡ page_bytes file o.list page
    same_bytes page low = stands (last_image page o.list None) (page_at page torn) (page_at page file) (λ none. changes.others page (last.last page low ∙ none))

    none_past : last_image (page_count_of (take 32 journal)) o.list None ≡ None
    none_past = not_some (last_image (page_count_of (take 32 journal)) o.list None) (λ there.
        let within = page_within journal o.list (page_count_of (take 32 journal)) o.records_are there in
        omega (arith, within.1))

    pub torn_size : length torn ≡ 4096 * page_count_of (take 32 journal)
    torn_size =
        let range = pages_range journal o.list o.records_are in
        whole_size (page_count_of (take 32 journal)) file torn o.size changes.no_shorter
        (changes.others (page_count_of (take 32 journal)) (last.last (page_count_of (take 32 journal)) (omega (arith, range.0)) ∙ none_past))

    torn_images : AreImagesOf o.catalog base (page_count_of (take 32 journal)) torn o.list o.images
    torn_images page sheet = (
      (λ is.
          let was = (o.images_are page sheet).0 is in
          (was.0, was.1, ap (page_read o.catalog base (page_count_of (take 32 journal)) page) (same_bytes page (omega (arith, was.0))) ∙ was.2)),
      (λ is. (o.images_are page sheet).1
          (is.0, is.1, ap (page_read o.catalog base (page_count_of (take 32 journal)) page) (sym (same_bytes page (omega (arith, is.0)))) ∙ is.2)),
    )

    pub torn_to : OpenTo base torn journal g
    torn_to = record {
      list = o.list;
      catalog = o.catalog;
      images = o.images;
      book = o.book;
      next_name = o.next_name;
      high_page = o.high_page;
      records_are = o.records_are;
      size = torn_size;
      at = record { head = λ none. absurd (never_none o.list some none); last = o.at.last };
      is_catalog = o.is_catalog;
      catalog_is = same_bytes 1 (omega arith) ∙ o.catalog_is;
      images_are = torn_images;
      reached = o.reached;
      graph = o.graph;
    }

    -- without records the page file has all bytes of its pages
    module _ (closed : List ℕ) (left : AreLeft o.list (page_count_of (take 32 journal)) marks) (replaced : IsReplaced given file torn)
        (count : page_count_of (take 32 closed) ≡ page_count_of (take 32 journal)) (none : records closed ≡ Whole []) where
      own_bytes : (page : ℕ) → 1 ≤ page → page_at page torn ≡ page_bytes file o.list page
      own_bytes page low = replaced.each page ∙ ap (λ (given_here : Option (List ℕ)). unwrap_or given_here (page_at page file)) (last.last page low)

      own_head : page_at 0 torn ≡ head_page marks
      own_head = replaced.each 0 ∙ ap (λ (given_here : Option (List ℕ)). unwrap_or given_here (page_at 0 file)) last.head

      own_images : AreImagesOf o.catalog base (page_count_of (take 32 journal)) torn [] o.images
      own_images page sheet = (
        (λ is.
            let was = (o.images_are page sheet).0 is in
            (was.0, was.1, ap (page_read o.catalog base (page_count_of (take 32 journal)) page) (own_bytes page (omega (arith, was.0))) ∙ was.2)),
        (λ is. (o.images_are page sheet).1
            (is.0, is.1, ap (page_read o.catalog base (page_count_of (take 32 journal)) page) (sym (own_bytes page (omega (arith, is.0)))) ∙ is.2)),
      )

      own_at : AreAt torn [] (page_count_of (take 32 journal)) o.next_name o.high_page
      own_at =
          let split = has_last o.list some in
          let was = o.at.last split.0 split.1 split.2 in
          let now = left.last split.0 split.1 split.2 in
          record {
            head = λ _. (marks, left.bounds, own_head, left.page_count, now.0 ∙ was.0, now.1 ∙ was.1);
            last = λ front r is. absurd (never_last front r is);
          }

      own_reached : AreReached o.catalog base [] o.images o.book o.next_name o.high_page
      own_reached = record {
        roots = o.reached.roots;
        recorded = λ page there. absurd (cc there);
        reached = o.reached.reached;
        only = o.reached.only;
        fits = o.reached.fits;
        names = o.reached.names;
        pages = o.reached.pages;
        references = o.reached.references;
      }

      pub own_to : OpenTo base torn closed g
      own_to = record {
        list = [];
        catalog = o.catalog;
        images = o.images;
        book = o.book;
        next_name = o.next_name;
        high_page = o.high_page;
        records_are = none;
        size = torn_size ∙ ap (λ (n : ℕ). 4096 * n) (sym count);
        at = subst (λ (n : ℕ). AreAt torn [] n o.next_name o.high_page) (sym count) own_at;
        is_catalog = o.is_catalog;
        catalog_is = own_bytes 1 (omega arith) ∙ o.catalog_is;
        images_are = subst (λ (n : ℕ). AreImagesOf o.catalog base n torn [] o.images) (sym count) own_images;
        reached = own_reached;
        graph = o.graph;
      }

pub torn_opens : TornOpens
torn_opens base file torn journal g list marks given o is some last changes =
    let same : list ≡ o.list = whole_is (sym is ∙ o.records_are) in
    torn_to base file journal g o torn marks given (subst (λ (l : List JournalRecord). 0 < length l) same some) (subst (λ (l : List JournalRecord). AreLast l marks given) same last) changes

pub written_opens : WrittenOpens
written_opens base file written journal closed g list marks given o is some last left replaced count either =
    let same : list ≡ o.list = whole_is (sym is ∙ o.records_are) in
    let some_there = subst (λ (l : List JournalRecord). 0 < length l) same some in
    let last_there = subst (λ (l : List JournalRecord). AreLast l marks given) same last in
    let left_there = subst (λ (l : List JournalRecord). AreLeft l (page_count_of (take 32 journal)) marks) same left in
    let changes = replaced_changes given file written replaced in
    ⊎_elim
    (λ (all : records closed ≡ Whole list). same_records base written journal g (torn_to base file journal g o written marks given some_there last_there changes) closed count (all ∙ sym is))
    (λ (none : records closed ≡ Whole []). own_to base file journal g o written marks given some_there last_there changes closed left_there replaced count none)
    either
