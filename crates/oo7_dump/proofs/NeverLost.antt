-- Of files that open to a graph no reference is lost, and what is printed is their dump.
use Rattle.std.proofs.Common.{◌≡◌, ◌<◌, ◌≤◌, ◌*◌, ℕ, Bool, true, ltb, List, [], ◌∷◌, take, drop, length, Option, Some, None, unwrap_or, Ok, refl, sym, ap, subst, ◌∙◌, arith, ◌⊎◌, inl, inr, length-drop, length-take}
use Rattle.std.specs.Prelude.{◌||◌}
use Rattle.std.specs.FinMap.{get}
use Rattle.std.proofs.lemmas.Bool.{and_parts, cases_eq, cond-false, false≢true, le-ltb, ne_eqb}
use Rattle.pm3_core.specs.declared.naming.TheConstants.{BASE}
use Rattle.pm3_disk.specs.declared.outside.Disk.{Ghosts}
use Rattle.pm3_types.specs.Bytes.{piece}
use Rattle.pm3_types.specs.Dump.{dump, text_of}
use Rattle.pm3_types.specs.Fields.{Fields}
use Rattle.pm3_types.specs.Graph.{Part}
use Rattle.pm3_types.specs.Layout.{Sheet, is_start, page_in, word_in}
use Rattle.pm3_types.specs.Numbering.{is_among, names_of}
use Rattle.pm3_types.specs.PageLaws.{IsCatalog}
use Rattle.pm3_types.specs.Shown as shown
use Rattle.pm3_types.specs.Shown.{IsKnown, name_by, shown_records}
use Rattle.pm3_page.specs.PageBytes.{page_read}
use Rattle.pm3_page.specs.PageMap.{Images}
use Rattle.pm3_page.specs.declared.marks.Marks.{Marks}
use Rattle.pm3_pagefile.specs.PageBytes.{page_at}
use Rattle.pm3_journal.specs.FileHead.{page_count_of}
use Rattle.pm3_journal.specs.JournalState.{JournalState}
use Rattle.pm3_journal.specs.Opened.{IsOpen}
use Rattle.pm3_journal.specs.Opening.{OpenTo, last_image}
use Rattle.oo7_dump.specs.ByAddress.{AreAllMet, IsTextOf, met_addresses}
use Rattle.oo7_dump.specs.Held.{AreAmong}
use Rattle.oo7_dump.specs.Lost.{AreMentioned, HasLost, IsBare, IsLost, IsUnread}
use Rattle.oo7_dump.specs.Raw.{raw_at, root_words}
use Rattle.oo7_dump.proofs.Renaming.{Each, known_names}
use Rattle.oo7_dump.proofs.Showing.{dumps_shown, has_object, met_known, on_page, renaming, roots_known, some_of}
use Rattle.oo7_dump.proofs.StillOpen.{held_among, pages_are, same_catalog}

each_among : (P : ℕ → Type 0) (xs : List ℕ) (x : ℕ) → Each P xs → is_among xs x ≡ true → P x
each_among P [] x all is = absurd (cc is)
each_among P (y ∷ xs) x all is = elim (cases_eq x y) [
  | inl same ↦ subst P (sym same) all.0
  | inr apart ↦ each_among P xs x all.1 (sym (ap (λ (b : Bool). b || is_among xs x) (ne_eqb x y apart)) ∙ is)
]

pub lost_as : (catalog catalog_now : List Fields) (pages pages_now : ℕ) (content content_now : Option (List ℕ)) (images images_now : Images) (page word : ℕ) → catalog ≡ catalog_now → pages ≡ pages_now
    → content ≡ content_now → images ≡ images_now → HasLost catalog pages content images page word → HasLost catalog_now pages_now content_now images_now page word
lost_as catalog catalog_now pages pages_now content content_now images images_now page word types count told held lost =
    subst (λ (c : List Fields). HasLost c pages_now content_now images_now page word) types
    (subst (λ (n : ℕ). HasLost catalog n content_now images_now page word) count
    (subst (λ (o : Option (List ℕ)). HasLost catalog pages o images_now page word) told
    (subst (λ (m : Images). HasLost catalog pages content m page word) held lost)))

-- the text of what was met
pub text_met : (catalog catalog_now : List Fields) (images : Images) (met text : List ℕ) → catalog_now ≡ catalog → AreAllMet catalog BASE (AreAmong images) met
    → ((all : shown.Images) → AreAmong images all → text ≡ text_of catalog_now (raw_at catalog_now BASE all) (root_words (get all 2)) met) → IsTextOf catalog BASE (AreAmong images) text
text_met catalog catalog_now images met text same all_met is = record {
  count = all_met.count;
  is = λ all among.
      is all among ∙ ap (λ (c : List Fields). text_of c (raw_at c BASE all) (root_words (get all 2)) met) same
      ∙ ap (text_of catalog (raw_at catalog BASE all) (root_words (get all 2))) (all_met.are all among);
  enough = λ all among. (let long = ap length (all_met.are all among) in let enough = all_met.enough in omega (arith, long, enough));
}

module _ {D R : Type 0} (g : Ghosts D R) (content : Option (List ℕ)) (j : JournalState D) (catalog : List Fields) (images : Images) (marks : Marks)
    (open_ : IsOpen g BASE content j catalog images marks) (is_catalog : IsCatalog catalog) (file journal : List ℕ) (graph : Part) (told : content ≡ Some file)
    (told_journal : g.content j.disk ≡ Some journal) (runs : j.stopped ≡ None) (o : OpenTo BASE file journal graph) where
  types : catalog ≡ o.catalog
  types = same_catalog g content j catalog images marks open_ is_catalog file journal graph told told_journal runs o

  among : AreAmong images o.images
  among = held_among g content j catalog images marks open_ is_catalog file journal graph told told_journal runs o

  count_is : marks.pages ≡ page_count_of (take 32 journal)
  count_is = pages_are g content j catalog images marks open_ is_catalog file journal graph told told_journal runs o

  -- the bytes of a page of the file are whole
  whole : (page : ℕ) → page < page_count_of (take 32 journal) → 4096 ≤ length (page_at page file)
  whole page below = let size = o.size in omega (arith, size, length-drop (4096 * page) file, length-take 4096 (drop (4096 * page) file))

  unread_last : (page word : ℕ) (sheet : Sheet) → IsUnread catalog marks.pages content images page word → 2 ≤ page → page < page_count_of (take 32 journal)
      → (last : Option (List ℕ)) → last_image page o.list None ≡ last → page_read o.catalog BASE (page_count_of (take 32 journal)) page (unwrap_or last (piece (4096 * page) 4096 file)) ≡ Ok sheet → ⊥
  unread_last page word sheet unread above below None last read =
      let departs = sym (cond-false (ltb (length (page_at page file)) 4096) _ _ (le-ltb (length (page_at page file)) 4096 (whole page below))) ∙ unread.read file told in
      let also = ap (λ (c : List Fields). page_read c BASE marks.pages page (page_at page file)) types ∙ ap (λ (n : ℕ). page_read o.catalog BASE n page (page_at page file)) count_is ∙ read in
      absurd (cc (sym departs ∙ also))
  unread_last page word sheet unread above below (Some bytes) last read =
      absurd (cc (sym unread.absent ∙ (open_.recorded_last runs journal told_journal o.list o.records_are page bytes above last).held))

  -- a page that the files have can be read
  unread_never : (page word : ℕ) (sheet : Sheet) → IsUnread catalog marks.pages content images page word → get o.images page ≡ Some sheet → ⊥
  unread_never page word sheet unread is =
      let has = (o.images_are page sheet).0 is in
      unread_last page word sheet unread has.0 has.1 (last_image page o.list None) refl has.2

  positive : 0 < BASE
  positive = omega arith

  -- what is mentioned is nil or known
  known : (names : List ℕ) (at : ℕ) → AreMentioned catalog images names → is_among names at ≡ true → IsKnown o.book at
  known names at mentioned is = from (mentioned o.images among)
    where
      from : (names ≡ root_words (get o.images 2))
          ⊎ ((count : ℕ) × (a : ℕ) × (is_among (met_addresses catalog BASE o.images count) a ≡ true) × (names ≡ names_of catalog (raw_at catalog BASE o.images a))) → IsKnown o.book at
      from (inl roots) =
          each_among (IsKnown o.book) (root_words (get o.images 2)) at (roots_known o.catalog BASE o.book o.images positive o.reached.fits o.reached.only (get o.images 2) refl)
          (sym (ap (λ (l : List ℕ). is_among l at) roots) ∙ is)
      from (inr object) =
          let (count, a, met, are) = object in
          let met_now = sym (ap (λ (c : List Fields). is_among (met_addresses c BASE o.images count) a) types) ∙ met in
          let known_a = (each_among _ (met_addresses o.catalog BASE o.images count) a (met_known o.catalog BASE o.book o.images positive o.reached.fits o.reached.only count) met_now).0 in
          each_among (IsKnown o.book) (names_of o.catalog (raw_at o.catalog BASE o.images a)) at
          (known_names o.catalog (raw_at o.catalog BASE o.images) (get (shown_records o.catalog BASE o.book o.images)) (name_by o.book) (IsKnown o.book)
          (renaming o.catalog BASE o.book o.images positive o.reached.fits o.reached.only) a (raw_at o.catalog BASE o.images a) refl known_a)
          (sym (ap (λ (c : List Fields). is_among (names_of c (raw_at c BASE o.images a)) at) types) ∙ sym (ap (λ (l : List ℕ). is_among l at) are) ∙ is)

  lost_never : (at page word : ℕ) → IsKnown o.book at → IsLost catalog marks.pages content images at page word → ⊥
  lost_never at page word (inl nil) lost = lost.some nil
  lost_never at page word (inr there) lost =
      let (n, has) = some_of (get o.book at) there in
      let (sheet, is, unmoved) = on_page (get o.images (page_in BASE at)) (word_in BASE at) (has_object o.catalog BASE o.book o.images positive o.reached.fits o.reached.only at n has).1 in
      not_found sheet (ap (get o.images) lost.on ∙ is) (and_parts (is_start sheet (word_in BASE at)) _ unmoved).0 lost.why
    where
      not_found : (sheet : Sheet) → get o.images page ≡ Some sheet → is_start sheet (word_in BASE at) ≡ true
          → IsUnread catalog marks.pages content images page word ⊎ ((word ≡ word_in BASE at) × IsBare images page word) → ⊥
      not_found sheet is start (inl unread) = unread_never page word sheet unread is
      not_found sheet is start (inr bare) =
          let same : bare.1.image.sheet ≡ sheet = cc (sym (among page bare.1.image bare.1.on) ∙ is) in
          false≢true (sym bare.1.bare ∙ ap (is_start bare.1.image.sheet) bare.0 ∙ ap (λ (s : Sheet). is_start s (word_in BASE at)) same ∙ start)

  -- nothing is lost
  pub never_lost : (page word : ℕ) → HasLost catalog marks.pages content images page word → ⊥
  never_lost page word (inl roots) =
      let (sheet, is) = some_of (get o.images 2) o.reached.roots in
      unread_never page word sheet roots.1 (ap (get o.images) roots.0 ∙ is)
  never_lost page word (inr mentioned) =
      let (names, are, one) = mentioned in
      lost_never one.at page word (known names one.at are one.among) one.lost

  -- the text by addresses is the dump
  pub dumped : (text : List ℕ) → IsTextOf catalog BASE (AreAmong images) text → text ≡ dump catalog graph
  dumped text = subst (λ (c : List Fields). IsTextOf c BASE (AreAmong images) text → text ≡ dump c graph) (sym types)
      (λ shown. shown.is o.images among
      ∙ sym (ap (dump o.catalog) o.graph ∙ dumps_shown o.catalog BASE o.book o.images positive o.reached.fits o.reached.only shown.count (shown.enough o.images among)))
