-- What a checkpoint writes of an open store, and that the store stays open.
use Rattle.std.proofs.Common.{◌≡◌, ◌≢◌, ◌⊎◌, inl, inr, ◌*◌, ◌<◌, ◌≤◌, ℕ, Bool, true, false, cond, eqb, leb, ltb, ◌||◌, ◌&&◌, List, [], ◌∷◌, ◌++◌, length, map, take, Option, Some, None, is_some, unwrap_or, option_map, Ok, refl, sym, ◌∙◌, ap, subst, arith, if◌then◌else◌}
use Rattle.std.specs.FinMap.{get}
use Rattle.std.specs.List.{list_any}
use Rattle.std.specs.Option.{option_or}
use Rattle.std.proofs.lemmas.Bool.{cases_Bool, cond-true, cond-false, ne_eqb, and_parts, and_from, ltb-true, lt-ltb}
use Rattle.std.proofs.lemmas.List.{length-map, map-append}
use Rattle.pm3_disk.specs.Content.{Anything, IfTold, Steps}
use Rattle.pm3_disk.specs.Devices.{Leaves, Takes}
use Rattle.pm3_disk.specs.declared.outside.Disk.{Ghosts}
use Rattle.pm3_types.specs.Fields.{Fields}
use Rattle.pm3_types.specs.Layout.{PageImage, Sheet, is_address, word_in}
use Rattle.pm3_types.specs.Layout.{page_in as page_of}
use Rattle.pm3_types.specs.PageForm.{HasForm, IsSound, is_memory_reference}
use Rattle.pm3_page.specs.Head.{head_page}
use Rattle.pm3_page.specs.PageBytes.{file_bytes, page_read}
use Rattle.pm3_page.specs.PageMap.{Images, IsAtHome}
use Rattle.pm3_page.specs.declared.marks.Marks.{Marks}
use Rattle.pm3_pagefile.specs.PageBytes.{Given, page_at, ChangesOnly, IsReplaced}
use Rattle.pm3_pagefile.specs.Writing.{AreWritable, images_given, store_given}
use Rattle.pm3_pagefile.proofs.Replacing.{replaced_changes, steps_weaker}
use Rattle.pm3_journal.specs.FileHead.{page_count_of}
use Rattle.pm3_journal.specs.Format.{PagePart, Image, JournalRecord, page_in}
use Rattle.pm3_journal.specs.Journals.{Keeps}
use Rattle.pm3_journal.specs.JournalState.{JournalState, emptied, torn}
use Rattle.pm3_journal.specs.Opened.{IsOpen}
use Rattle.pm3_journal.specs.Opening.{image_in, last_image, page_bytes}
use Rattle.pm3_journal.specs.Records.{records, Whole}
use Rattle.pm3_journal.specs.Steps.{HasNone}
use Rattle.pm3_journal.specs.Summaries.{Summary, has_page, summary_of}
use Rattle.pm3_journal.proofs.Listing.{records_are, whole_is}
use Rattle.pm3_store.specs.Ahead.{AreLast, AreLeft}
use Rattle.pm3_store.specs.Parting.{ArePartedBy, recorded_given}
use Rattle.pm3_store.proofs.Carrying.{not_some, whole_size}
use Rattle.pm3_store.proofs.Moving.{mine_was}
use Rattle.pm3_store.proofs.Within.{page_within}

or_swap : (a b c : Bool) → (a || (b || c)) ≡ ((b || a) || c)
or_swap true true c = refl
or_swap true false c = refl
or_swap false true c = refl
or_swap false false c = refl

chosen : (b : Bool) (image : List ℕ) (was : Option (List ℕ)) → is_some (if b then Some image else was) ≡ (b || is_some was)
chosen true image was = refl
chosen false image was = refl

image_has : (page : ℕ) (parts : List PagePart) (was : Option (List ℕ)) → is_some (image_in page parts was) ≡ (list_any (λ p. eqb p page) (map page_in parts) || is_some was)
image_has page [] was = refl
image_has page (Image number image ∷ parts) was =
    image_has page parts (if eqb number page then Some image else was)
    ∙ ap (λ (b : Bool). list_any (λ p. eqb p page) (map page_in parts) || b) (chosen (eqb number page) image was)
    ∙ or_swap (list_any (λ p. eqb p page) (map page_in parts)) (eqb number page) (is_some was)

last_has : (page : ℕ) (list : List JournalRecord) (was : Option (List ℕ)) → is_some (last_image page list was) ≡ (has_page (map summary_of list) page || is_some was)
last_has page [] was = refl
last_has page (r ∷ rs) was =
    last_has page rs (image_in page r.parts was)
    ∙ ap (λ (b : Bool). has_page (map summary_of rs) page || b) (image_has page r.parts was)
    ∙ or_swap (has_page (map summary_of rs) page) (list_any (λ p. eqb p page) (map page_in r.parts)) (is_some was)

or_false : (b : Bool) → (b || false) ≡ b
or_false true = refl
or_false false = refl

-- the records have a last image of the pages that their summaries have
pub has_last_image : (page : ℕ) (list : List JournalRecord) → is_some (last_image page list None) ≡ has_page (map summary_of list) page
has_last_image page list = last_has page list None ∙ or_false (has_page (map summary_of list) page)

none_is : {A : Type 0} (o : Option A) → o ≡ None → is_some o ≡ false
none_is o is = ap is_some is

some_is : {A : Type 0} (o : Option A) (x : A) → o ≡ Some x → is_some o ≡ true
some_is o x is = ap is_some is

pub none_or_some : {A : Type 0} (o : Option A) → (o ≡ None) ⊎ ((x : A) × (o ≡ Some x))
none_or_some None = inl refl
none_or_some (Some x) = inr (x, refl)

form_wider : (catalog : List Fields) (f h : ℕ → Bool) (page : ℕ) (sheet : Sheet) → ((w : ℕ) → f w ≡ true → h w ≡ true) → HasForm catalog f page sheet → HasForm catalog h page sheet
form_wider catalog f h page sheet has form = record {
  roots = λ two.
      let r = form.roots two in
      record {
        words = r.words;
        starts = r.starts;
        head = r.head;
        second = r.second;
        roots = λ slot low. has _ (r.roots slot low);
        rest = r.rest;
        empty = r.empty;
      };
  objects = λ apart. elim (form.objects apart) [
    | inl blank ↦ inl blank
    | inr o ↦ inr (record {
      head = o.head;
      second = o.second;
      laid = o.laid;
      heads = o.heads;
      names = o.names;
      references = λ s k start is. has _ (o.references s k start is);
      padding = o.padding;
    })
  ];
}

or_right_of : (a b c : Bool) → (a || b) ≡ true → (b ≡ true → c ≡ true) → (a || c) ≡ true
or_right_of true b c is more = refl
or_right_of false b c is more = more is

inner : ℕ → ℕ → ℕ → Bool
inner base pages a = is_address base a && ((leb 3 (page_of base a) && ltb (page_of base a) pages) && leb 2 (word_in base a))

inner_wider : (base pages more a : ℕ) → pages ≤ more → inner base pages a ≡ true → inner base more a ≡ true
unfolding inner
inner_wider base pages more a le is =
    let one = and_parts (is_address base a) ((leb 3 (page_of base a) && ltb (page_of base a) pages) && leb 2 (word_in base a)) is in
    let two = and_parts (leb 3 (page_of base a) && ltb (page_of base a) pages) (leb 2 (word_in base a)) one.1 in
    let three = and_parts (leb 3 (page_of base a)) (ltb (page_of base a) pages) two.0 in
    let low : page_of base a < pages = ltb-true (page_of base a) pages three.1 in
    let below : page_of base a < more = omega (arith, low, le) in
    and_from (is_address base a) ((leb 3 (page_of base a) && ltb (page_of base a) more) && leb 2 (word_in base a)) one.0
    (and_from (leb 3 (page_of base a) && ltb (page_of base a) more) (leb 2 (word_in base a))
    (and_from (leb 3 (page_of base a)) (ltb (page_of base a) more) three.0 (lt-ltb (page_of base a) more below)) two.1)

reference_wider : (base pages more a : ℕ) → pages ≤ more → is_memory_reference base pages a ≡ true → is_memory_reference base more a ≡ true
unfolding is_memory_reference inner
reference_wider base pages more a le is = or_right_of (eqb a 0) (inner base pages a) (inner base more a) is (inner_wider base pages more a le)

-- an image of a store is one of the largest store
sound_wider : (catalog : List Fields) (base pages : ℕ) (image : PageImage) → pages ≤ 16384 → IsSound catalog base pages image → IsSound catalog base 16384 image
sound_wider catalog base pages image le sound =
    form_wider catalog (is_memory_reference base pages) (is_memory_reference base 16384) image.page image.sheet (λ w. reference_wider base pages 16384 w le) sound

module _ (summaries : List Summary) (marks : Marks) (catalog : List Fields) (base : ℕ) where
  given_zero : (images : Images) (page : ℕ) → page ≢ 0
      → recorded_given summaries marks catalog base images page ≡ cond (has_page summaries page) (option_map (file_bytes catalog base) (get images page)) None
  given_zero images page some = cond-false (eqb page 0) _ _ (ne_eqb page 0 some)

  either_none : (b : Bool) (o : Option (List ℕ)) → o ≡ None → cond b o None ≡ None
  either_none true o is = is
  either_none false o is = refl

  -- nothing is written where no image is held
  pub given_none : (images : Images) (page : ℕ) → page ≢ 0 → get images page ≡ None → recorded_given summaries marks catalog base images page ≡ None
  given_none images page some none =
      given_zero images page some ∙ either_none (has_page summaries page) (option_map (file_bytes catalog base) (get images page)) (ap (option_map (file_bytes catalog base)) none)

  -- nor where the records don't have the page
  pub given_not : (images : Images) (page : ℕ) → page ≢ 0 → has_page summaries page ≡ false → recorded_given summaries marks catalog base images page ≡ None
  given_not images page some none = given_zero images page some ∙ cond-false (has_page summaries page) _ _ none

  pub given_image : (images : Images) (page : ℕ) (image : PageImage) → page ≢ 0 → has_page summaries page ≡ true → get images page ≡ Some image
      → recorded_given summaries marks catalog base images page ≡ Some (file_bytes catalog base image)
  given_image images page image some has is =
      given_zero images page some ∙ cond-true (has_page summaries page) _ _ has ∙ ap (option_map (file_bytes catalog base)) is

  parted_given : (whole mine others : Images) → ArePartedBy (has_page summaries) whole mine others → (page : ℕ)
      → images_given catalog base mine page ≡ cond (has_page summaries page) (option_map (file_bytes catalog base) (get whole page)) None
  parted_given whole mine others parted page = elim (cases_Bool (has_page summaries page)) [
    | inl is ↦ ap (option_map (file_bytes catalog base)) (parted.passed page is).0 ∙ sym (cond-true (has_page summaries page) _ _ is)
    | inr is ↦ ap (option_map (file_bytes catalog base)) (parted.failed page is).0 ∙ sym (cond-false (has_page summaries page) _ _ is)
  ]

  -- the images that were set apart are what is written
  pub given_is : (whole mine others : Images) → ArePartedBy (has_page summaries) whole mine others
      → store_given marks catalog base mine ≡ recorded_given summaries marks catalog base whole
  given_is whole mine others parted = λ i page. cond (eqb page 0) (Some (head_page marks)) (parted_given whole mine others parted page i)

-- A store is open, and its journal isn't stopped and has records.
module _ {D R : Type 0} (g : Ghosts D R) (base : ℕ) (file : Option (List ℕ)) (j : JournalState D) (catalog : List Fields) (images : Images) (marks : Marks)
    (store : IsOpen g base file j catalog images marks) where
  given : Given
  given = recorded_given j.summaries marks catalog base images

  pub home : IsAtHome images
  home page image is = (store.sound page image is).0

  pub writable : AreWritable catalog base marks.pages images
  writable = record {
    within = λ page image is. ((store.sound page image is).1, (store.sound page image is).2);
    sound = λ page image is. sound_wider catalog base marks.pages image (store.bounds.pages).1 (store.sound page image is).3;
  }

  no_image_past : get images marks.pages ≡ None
  no_image_past = not_some (get images marks.pages) (λ is. elim (none_or_some (get images marks.pages)) [
    | inl none ↦ absurd (cc (sym is ∙ none_is (get images marks.pages) none))
    | inr some ↦ (let low = (store.sound marks.pages some.0 some.1).2 in omega (arith, low))
  ])

  no_image_one : get images 1 ≡ None
  no_image_one = not_some (get images 1) (λ is. elim (none_or_some (get images 1)) [
    | inl none ↦ absurd (cc (sym is ∙ none_is (get images 1) none))
    | inr some ↦ (let low = (store.sound 1 some.0 some.1).1 in omega (arith, low))
  ])

  given_one : recorded_given j.summaries marks catalog base images 1 ≡ None
  given_one = given_none j.summaries marks catalog base images 1 (λ is. omega (arith, is)) no_image_one

  given_past : recorded_given j.summaries marks catalog base images marks.pages ≡ None
  given_past =
      let few = store.bounds.pages.0 in
      given_none j.summaries marks catalog base images marks.pages (λ is. omega (arith, is, few)) no_image_past

  pub sized : (now : Option (List ℕ)) → Steps (ChangesOnly (recorded_given j.summaries marks catalog base images)) file now → IfTold now (λ bytes. length bytes ≡ 4096 * marks.pages)
  sized now steps bytes told =
      let from = steps.back bytes told in
      whole_size marks.pages from.0 bytes (store.size from.0 from.1) from.2.no_shorter (from.2.others marks.pages given_past)

  module _ (keeps : Keeps g j) (idle : j.stopped ≡ None) (some : 0 < length j.summaries) where
    -- the records that the journal tells are those of the summaries
    pub told_list : (told : List ℕ) → g.content j.disk ≡ Some told → records told ≡ Whole keeps.list
    told_list told is =
        let at = (keeps.rest idle).told told is in
        records_are j.pages keeps.list j.end told at.front at.ends

    told_pages : (told : List ℕ) → g.content j.disk ≡ Some told → page_count_of (take 32 told) ≡ j.pages
    told_pages told is = ((keeps.rest idle).told told is).front.page_count

    pub some_list : 0 < length keeps.list
    some_list =
        let same : length j.summaries ≡ length keeps.list = ap length keeps.shown ∙ length-map keeps.list summary_of in
        omega (arith, same, some)

    has_summary : (page : ℕ) → is_some (last_image page keeps.list None) ≡ has_page j.summaries page
    has_summary page = has_last_image page keeps.list ∙ ap (λ (s : List Summary). has_page s page) (sym keeps.shown)

    pub are_last : (told : List ℕ) → g.content j.disk ≡ Some told → AreLast keeps.list marks (recorded_given j.summaries marks catalog base images)
    are_last told is = record {
      head = refl;
      last = λ page low. elim (none_or_some (last_image page keeps.list None)) [
        | inl none ↦ given_not j.summaries marks catalog base images page (λ e. omega (arith, e, low)) (sym (has_summary page) ∙ none_is (last_image page keeps.list None) none) ∙ sym none
        | inr last ↦ image_last page low last.0 last.1
      ];
    }
      where
        image_last : (page : ℕ) → 1 ≤ page → (bytes : List ℕ) → last_image page keeps.list None ≡ Some bytes
            → recorded_given j.summaries marks catalog base images page ≡ last_image page keeps.list None
        image_last page low bytes last =
            let there = some_is (last_image page keeps.list None) bytes last in
            let within = page_within told keeps.list page (told_list told is) there in
            let held = store.recorded_last idle told is keeps.list (told_list told is) page bytes within.0 last in
            given_image j.summaries marks catalog base images page (record { page = page; sheet = held.sheet }) (λ e. omega (arith, e, low)) (sym (has_summary page) ∙ there) held.held
            ∙ ap Some held.written ∙ sym last

    pub are_left : (told : List ℕ) → g.content j.disk ≡ Some told → AreLeft keeps.list (page_count_of (take 32 told)) marks
    are_left told is = record {
      bounds = store.bounds;
      page_count = store.page_count ∙ sym (told_pages told is);
      last = λ front r list. store.last (map summary_of front) (summary_of r)
          (keeps.shown ∙ ap (λ (l : List JournalRecord). map summary_of l) list ∙ map-append summary_of front (r ∷ []));
    }

    not_empty : j.summaries ≡ [] → ⊥
    not_empty none = let long : length j.summaries ≡ 0 = ap length none in omega (arith, long, some)

    -- after a fault of the page file
    pub torn_store : (now : Option (List ℕ)) → Steps (ChangesOnly (recorded_given j.summaries marks catalog base images)) file now → IsOpen g base now j catalog images marks
    torn_store now steps = record {
      bounds = store.bounds;
      page_count = store.page_count;
      number = store.number;
      last = store.last;
      sound = store.sound;
      recorded = store.recorded;
      recorded_last = store.recorded_last;
      size = sized now steps;
      head = λ bytes told none. absurd (not_empty none);
      catalog_is = λ bytes told idle_now journal told_journal list is.
          let from = steps.back bytes told in
          ap (unwrap_or (last_image 1 list None)) (from.2.others 1 given_one) ∙ store.catalog_is from.0 from.1 idle_now journal told_journal list is;
      others = λ bytes told idle_now journal told_journal list is page image held none.
          let from = steps.back bytes told in
          let own : list ≡ keeps.list = whole_is (sym is ∙ told_list journal told_journal) in
          let has_not : has_page j.summaries page ≡ false = sym (has_summary page) ∙ ap (λ (l : List JournalRecord). is_some (last_image page l None)) (sym own) ∙ none_is (last_image page list None) none in
          let low = (store.sound page image held).1 in
          ap (page_read catalog base marks.pages page) (from.2.others page (given_not j.summaries marks catalog base images page (λ e. omega (arith, e, low)) has_not))
          ∙ store.others from.0 from.1 idle_now journal told_journal list is page image held none;
    }

    -- after a fault of the journal
    stops : (next : ℕ) → option_or j.stopped (Some next) ≡ None → ⊥
    stops next is = absurd (cc (sym (ap (λ (o : Option ℕ). option_or o (Some next)) idle) ∙ is))

    pub stopped_store : (now : Option (List ℕ)) (disk : D) → Steps (IsReplaced (recorded_given j.summaries marks catalog base images)) file now → IsOpen g base now (torn disk j) catalog images marks
    stopped_store now disk steps = record {
      bounds = store.bounds;
      page_count = store.page_count;
      number = store.number;
      last = store.last;
      sound = store.sound;
      recorded = store.recorded;
      recorded_last = λ idle_now. absurd (stops j.next idle_now);
      size = sized now (steps_weaker (IsReplaced (recorded_given j.summaries marks catalog base images)) (ChangesOnly (recorded_given j.summaries marks catalog base images)) file now (replaced_changes (recorded_given j.summaries marks catalog base images)) steps);
      head = λ bytes told none. absurd (not_empty none);
      catalog_is = λ bytes told idle_now. absurd (stops j.next idle_now);
      others = λ bytes told idle_now. absurd (stops j.next idle_now);
    }

    -- after the checkpoint
    pub emptied_store : (now : Option (List ℕ)) (time : ℕ) (disk : D) → Steps (IsReplaced (recorded_given j.summaries marks catalog base images)) file now
        → Takes g j.disk disk HasNone → IsOpen g base now (emptied time disk j) catalog images marks
    emptied_store now time disk steps emptying = record {
      bounds = store.bounds;
      page_count = store.page_count;
      number = store.number;
      last = λ front s is. absurd (never_summary front s is);
      sound = store.sound;
      recorded = λ page low never. absurd (cc never);
      recorded_last = λ idle_now told is list whole page bytes low last. absurd (cc (sym (ap (λ (l : List JournalRecord). last_image page l None) (no_list told is list whole)) ∙ last));
      size = sized now (steps_weaker (IsReplaced (recorded_given j.summaries marks catalog base images)) (ChangesOnly (recorded_given j.summaries marks catalog base images)) file now (replaced_changes (recorded_given j.summaries marks catalog base images)) steps);
      head = λ bytes told none.
          let from = steps.back bytes told in
          from.2.each 0;
      catalog_is = λ bytes told idle_now journal told_journal list is.
          let from = steps.back bytes told in
          let before = emptying.back journal told_journal in
          let no_last : last_image 1 keeps.list None ≡ None = no_last_one before.0 before.1 in
          ap (λ (l : List JournalRecord). page_bytes bytes l 1) (no_list journal told_journal list is)
          ∙ from.2.each 1 ∙ ap (λ (o : Option (List ℕ)). unwrap_or o (page_at 1 from.0)) given_one
          ∙ ap (λ (o : Option (List ℕ)). unwrap_or o (page_at 1 from.0)) (sym no_last)
          ∙ store.catalog_is from.0 from.1 idle before.0 before.1 keeps.list (told_list before.0 before.1);
      others = λ bytes told idle_now journal told_journal list is page image held none.
          let from = steps.back bytes told in
          let before = emptying.back journal told_journal in
          own_read bytes from.0 from.1 from.2 before.0 before.1 page image held;
    }
      where
        never_summary : (front : List Summary) (s : Summary) → [] ≡ front ++ s ∷ [] → ⊥
        never_summary [] s is = absurd (cc is)
        never_summary (x ∷ front) s is = absurd (cc is)

        no_list : (told : List ℕ) → g.content disk ≡ Some told → (list : List JournalRecord) → records told ≡ Whole list → list ≡ []
        no_list told is list whole =
            let before = emptying.back told is in
            whole_is (sym whole ∙ before.2.list)

        no_last_one : (told : List ℕ) → g.content j.disk ≡ Some told → last_image 1 keeps.list None ≡ None
        no_last_one told is = not_some (last_image 1 keeps.list None) (λ there.
            let within = page_within told keeps.list 1 (told_list told is) there in
            let low = within.0 in
            omega (arith, low))

        own_read : (bytes before : List ℕ) → file ≡ Some before → IsReplaced (recorded_given j.summaries marks catalog base images) before bytes → (told : List ℕ) → g.content j.disk ≡ Some told
            → (page : ℕ) (image : PageImage) → get images page ≡ Some image → page_read catalog base marks.pages page (page_at page bytes) ≡ Ok image.sheet
        own_read bytes before told_file replaced told is page image held = elim (none_or_some (last_image page keeps.list None)) [
          | inl none ↦ ap (page_read catalog base marks.pages page) (replaced.each page ∙ ap (λ (o : Option (List ℕ)). unwrap_or o (page_at page before)) (last_none none))
              ∙ store.others before told_file idle told is keeps.list (told_list told is) page image held none
          | inr last ↦ (let from = store.recorded_last idle told is keeps.list (told_list told is) page last.0 low last.1 in
              let same_sheet : from.sheet ≡ image.sheet = cc (sym from.held ∙ held) in
              ap (page_read catalog base marks.pages page) (replaced.each page ∙ ap (λ (o : Option (List ℕ)). unwrap_or o (page_at page before)) ((are_last told is).last page (omega (arith, low)) ∙ last.1))
              ∙ from.read ∙ ap Ok same_sheet)
        ]
          where
            low : 2 ≤ page
            low = (store.sound page image held).1

            last_none : last_image page keeps.list None ≡ None → recorded_given j.summaries marks catalog base images page ≡ None
            last_none none = (are_last told is).last page (omega (arith, low)) ∙ none

-- the images that were set apart can be written
pub writable_mine : (test : ℕ → Bool) (catalog : List Fields) (base pages : ℕ) (whole mine others : Images) → ArePartedBy test whole mine others
    → AreWritable catalog base pages whole → AreWritable catalog base pages mine
writable_mine test catalog base pages whole mine others parted writable = record {
  within = λ page image is. writable.within page image (mine_was test whole mine others parted page image is);
  sound = λ page image is. writable.sound page image (mine_was test whole mine others parted page image is);
}

pub replaced_as : (some all : Given) (a b : Option (List ℕ)) → some ≡ all → Steps (IsReplaced some) a b → Steps (IsReplaced all) a b
replaced_as some all a b same steps = subst (λ (given : Given). Steps (IsReplaced given) a b) same steps

pub changed_as : (some all : Given) (a b : Option (List ℕ)) → some ≡ all → Steps (ChangesOnly some) a b → Steps (ChangesOnly all) a b
changed_as some all a b same steps = subst (λ (given : Given). Steps (ChangesOnly given) a b) same steps

pub leaves_as : {D R : Type 0} (g : Ghosts D R) (some all : Given) (a b : D) → some ≡ all → Leaves g a b (ChangesOnly some) → Leaves g a b (ChangesOnly all)
leaves_as g some all a b same leaves = subst (λ (given : Given). Leaves g a b (ChangesOnly given)) same leaves

-- the same images, or the same journal
pub with_images : {D R : Type 0} (g : Ghosts D R) (base : ℕ) (file : Option (List ℕ)) (j : JournalState D) (catalog : List Fields) (images now : Images) (marks : Marks) → now ≡ images
    → IsOpen g base file j catalog images marks → IsOpen g base file j catalog now marks
with_images g base file j catalog images now marks same store = subst (λ (m : Images). IsOpen g base file j catalog m marks) (sym same) store

pub with_journal : {D R : Type 0} (g : Ghosts D R) (base : ℕ) (file : Option (List ℕ)) (now j : JournalState D) (catalog : List Fields) (images : Images) (marks : Marks) → now ≡ j
    → IsOpen g base file j catalog images marks → IsOpen g base file now catalog images marks
with_journal {D} g base file now j catalog images marks same store = subst (λ (k : JournalState D). IsOpen g base file k catalog images marks) (sym same) store

pub same_given : (summaries now : List Summary) (marks : Marks) (catalog : List Fields) (base : ℕ) (images : Images) → now ≡ summaries
    → recorded_given now marks catalog base images ≡ recorded_given summaries marks catalog base images
same_given summaries now marks catalog base images same = ap (λ (s : List Summary). recorded_given s marks catalog base images) same

no_records : (list : List JournalRecord) → length (map summary_of list) ≡ 0 → list ≡ []
no_records [] is = refl
no_records (r ∷ rs) is = absurd (omega (arith, is))

-- a journal that isn't stopped and shows no records tells none
pub none_told : {D R : Type 0} (g : Ghosts D R) (j : JournalState D) → Keeps g j → j.stopped ≡ None → length j.summaries ≡ 0 → (told : List ℕ) → g.content j.disk ≡ Some told → records told ≡ Whole []
none_told g j keeps idle none told is =
    let at = (keeps.rest idle).told told is in
    records_are j.pages keeps.list j.end told at.front at.ends ∙ ap Whole (no_records keeps.list (ap length (sym keeps.shown) ∙ none))

-- a content that took a step is told where it was told
pub any_step : {R : List ℕ → List ℕ → Type 0} {old new : Option (List ℕ)} → Steps R old new → Steps Anything old new
any_step steps = record {
  onward = λ before is. (let step = steps.onward before is in (step.0, step.1, tt));
  back = λ after is. (let step = steps.back after is in (step.0, step.1, tt));
}
