-- Calls that load pages, one after another.
use Rattle.std.proofs.Common.{◌≡◌, ◌≢◌, ◌<◌, ◌≤◌, ◌+◌, ℕ, true, false, eqb, List, Option, Some, None, is_some, length, get_or, Ok, refl, sym, ap, subst, ◌∙◌, inl, inr}
use Rattle.std.specs.Prelude.{All, slice_get, slice_index}
use Rattle.std.specs.FinMap.{get, insert}
use Rattle.std.proofs.lemmas.Bool.{cases_eq, cases_lt, eq-eqb, false_from_ne_true, false≢true}
use Rattle.std.proofs.lemmas.List.Elements.{All-from_recursion, All-weaker}
use Rattle.std.proofs.lemmas.List.Folds.{list_any_at}
use Rattle.std.proofs.lemmas.Option.{get_or_from_slice_get, slice_get-get_or, slice_get_within}
use Rattle.pm3_core.specs.declared.naming.TheConstants.{BASE}
use Rattle.pm3_disk.specs.Content.{IfTold}
use Rattle.pm3_disk.specs.Faults.{Rose}
use Rattle.pm3_disk.specs.declared.outside.Reader.{Ghosts}
use Rattle.pm3_types.specs.Fields.{Fields}
use Rattle.pm3_types.specs.Layout.{PageImage, begins_at, is_address, is_start, page_in, word_in}
use Rattle.pm3_types.specs.Numbering.{is_among}
use Rattle.pm3_types.specs.PageForm.{IsSound, is_memory_reference}
use Rattle.pm3_types.specs.Shown as shown
use Rattle.pm3_types.proofs.FormedObjects.{begins}
use Rattle.pm3_page.specs.PageMap.{Images}
use Rattle.pm3_page.specs.PageSheets.{sheet_in, sheets_of}
use Rattle.pm3_page.proofs.SheetsOf.{get-sheets_of}
use Rattle.pm3_pagefile.specs.Loading.{read_of}
use Rattle.pm3_pagefile.specs.PageBytes.{page_at}
use Rattle.pm3_store.proofs.Moving.{get_other, get_same}
use Rattle.oo7_dump.specs.Held.{AreAmong, AreHeld, AreSound, IsHeld}
use Rattle.oo7_dump.specs.Loads.{Loads}
use Rattle.oo7_dump.specs.Raw.{root_words}
use Rattle.oo7_dump.specs.declared.faults.DumpFault.{DumpFault}
use Rattle.oo7_dump.specs.declared.faults.DumpFault.TheVariants.{PageFault}
use Rattle.oo7_dump.proofs.RawNames.{each_of}

-- where no object begins at an address of an image, none begins at its word
pub bare_word : (image : PageImage) (a : ℕ) → is_address BASE a ≡ true → image.page ≡ page_in BASE a → begins_at BASE image a ≡ false → is_start image.sheet (word_in BASE a) ≡ false
bare_word image a is home bare = false_from_ne_true (is_start image.sheet (word_in BASE a)) (λ start. false≢true (sym bare ∙ begins BASE image a is (sym home) start))

-- an item of a list is among it
pub item_among : (names : List ℕ) (i : ℕ) → i < length names → is_among names (get_or names i 0) ≡ true
item_among names i within = list_any_at (λ m. eqb (get_or names i 0) m) names i 0 within (eq-eqb (get_or names i 0) (get_or names i 0) refl)

-- the item at a place of a list is among it
pub place_among : (names : List ℕ) (i n : ℕ) → slice_get names i ≡ Some n → is_among names n ≡ true
place_among names i n is =
    ap (is_among names) (sym (get_or_from_slice_get names i n 0 is)) ∙ item_among names i (slice_get_within names i n is)

-- a list has no place where nothing stands
pub none_past : (names : List ℕ) (i : ℕ) → slice_get names i ≡ None → length names ≤ i
none_past names i is = elim (cases_lt i (length names)) [
  | inl within ↦ absurd (cc (sym is ∙ slice_get-get_or names i 0 within))
  | inr past ↦ past
]

-- images are among their own sheets
pub among_own : (images : Images) → AreAmong images (sheets_of images)
among_own images page image is = get-sheets_of images page ∙ ap sheet_in is

-- the root slots refer to places where objects may begin
pub roots_refer : (catalog : List Fields) (pages : ℕ) (images : Images) (names : List ℕ) → AreSound catalog pages images → is_some (get images 2) ≡ true
    → ((all : shown.Images) → AreAmong images all → root_words (get all 2) ≡ names) → All (λ name. is_memory_reference BASE pages name ≡ true) names
roots_refer catalog pages images names sound there are = from (get images 2) refl there
  where
    from : (o : Option PageImage) → get images 2 ≡ o → is_some o ≡ true → All (λ name. is_memory_reference BASE pages name ≡ true) names
    from None on some = absurd (cc some)
    from (Some image) on some =
        let form = (sound 2 image on).3.roots (sound 2 image on).0 in
        let words = ap root_words (sym (among_own images 2 image on)) ∙ are (sheets_of images) (among_own images) in
        subst (All (λ name. is_memory_reference BASE pages name ≡ true)) words
        (All-from_recursion (λ name. is_memory_reference BASE pages name ≡ true) (root_words (Some image.sheet))
        (each_of (λ name. is_memory_reference BASE pages name ≡ true) (λ slot. slice_index image.sheet.words (2 + slot)) 16 0 (λ slot low high. form.roots slot high)))

module _ {R : Type 0} (g : Ghosts R) (catalog : List Fields) (pages : ℕ) where
  -- no page was loaded
  pub loads_none : (old new : R) (held now : Images) (fault : Option DumpFault) → g.content new ≡ g.content old → now ≡ held → AreSound catalog pages held
      → (fault ≡ Some PageFault → Rose (g.faults old) (g.faults new)) → ((fault ≡ Some PageFault → ⊥) → g.faults new ≡ g.faults old)
      → Loads g catalog pages old new held now fault
  loads_none old new held now fault same unchanged sound failed calm = record {
    same = same;
    sound = subst (AreSound catalog pages) (sym unchanged) sound;
    kept = λ page image is. ap (λ (m : Images). get m page) unchanged ∙ is;
    loaded = λ bytes told page image is. inl (sym (ap (λ (m : Images). get m page) unchanged) ∙ is);
    failed = failed;
    calm = calm;
  }

  -- one page was loaded
  pub loads_one : (old new : R) (held now : Images) (page : ℕ) (image : PageImage) → g.content new ≡ g.content old → g.faults new ≡ g.faults old → now ≡ insert held image.page image
      → get held page ≡ None → image.page ≡ page → (2 ≤ page) × (page < pages) → IsSound catalog BASE pages image → AreSound catalog pages held
      → IfTold (g.content old) (λ bytes. (image.page ≡ page) × (read_of catalog BASE pages page (page_at page bytes) ≡ Ok image.sheet))
      → Loads g catalog pages old new held now None
  loads_one old new held now page image same calm put absent home bounds form sound read = record {
    same = same;
    sound = λ q other is. elim (cases_eq q page) [
      | inl here ↦ (let own : image ≡ other = cc (sym (at_page q here) ∙ is) in
          subst (λ (x : PageImage). (x.page ≡ q) × (2 ≤ q) × (q < pages) × IsSound catalog BASE pages x) own
          (home ∙ sym here, subst (λ (n : ℕ). 2 ≤ n) (sym here) bounds.0, subst (λ (n : ℕ). n < pages) (sym here) bounds.1, form))
      | inr apart ↦ sound q other (sym (elsewhere q apart) ∙ is)
    ];
    kept = λ q other is. elim (cases_eq q page) [
      | inl here ↦ absurd (cc (sym is ∙ ap (get held) here ∙ absent))
      | inr apart ↦ elsewhere q apart ∙ is
    ];
    loaded = λ bytes told q other is. elim (cases_eq q page) [
      | inl here ↦ inr (let own : image ≡ other = cc (sym (at_page q here) ∙ is) in
          ap (λ (n : ℕ). read_of catalog BASE pages n (page_at n bytes)) here ∙ (read bytes told).1 ∙ ap (λ (x : PageImage). Ok x.sheet) own)
      | inr apart ↦ inl (sym (elsewhere q apart) ∙ is)
    ];
    failed = λ never. absurd (cc never);
    calm = λ _. calm;
  }
    where
      at_page : (q : ℕ) → q ≡ page → get now q ≡ Some image
      at_page q here = ap (λ (m : Images). get m q) put ∙ get_same held image.page image q (here ∙ sym home)

      elsewhere : (q : ℕ) → q ≢ page → get now q ≡ get held q
      elsewhere q apart = ap (λ (m : Images). get m q) put ∙ get_other held image.page image q (λ e. apart (e ∙ home))

module _ {R : Type 0} {g : Ghosts R} {catalog : List Fields} {pages : ℕ} where
  -- one call went well, and then another ended with this fault or none
  pub loads_then : {first next last : R} {held more now : Images} {fault : Option DumpFault} → Loads g catalog pages first next held more None
      → Loads g catalog pages next last more now fault → Loads g catalog pages first last held now fault
  loads_then {last = last} before after = record {
    same = after.same ∙ before.same;
    sound = after.sound;
    kept = λ page image is. after.kept page image (before.kept page image is);
    loaded = λ bytes told page image is. elim (after.loaded bytes (before.same ∙ told) page image is) [
      | inl old ↦ before.loaded bytes told page image old
      | inr read ↦ inr read
    ];
    failed = λ is. subst (λ (n : ℕ). Rose n (g.faults last)) (before.calm (λ never. cc never)) (after.failed is);
    calm = λ never. after.calm never ∙ before.calm (λ other. cc other);
  }

  pub among_before : {old new : R} {held now : Images} {fault : Option DumpFault} → Loads g catalog pages old new held now fault → (all : shown.Images) → AreAmong now all → AreAmong held all
  among_before loads all among page image is = among page image (loads.kept page image is)

  pub held_after : {old new : R} {held now : Images} {fault : Option DumpFault} → Loads g catalog pages old new held now fault → (met : List ℕ) → AreHeld held met → AreHeld now met
  held_after {held = held} {now = now} loads met before =
      All-weaker (IsHeld held) (IsHeld now) (λ a is. record { image = is.image; on = loads.kept _ is.image is.on; begins = is.begins }) met before
