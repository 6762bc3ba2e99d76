-- What others leave of the pages of a space, and of pages that no commit writes.
use Rattle.std.proofs.Common.{◌≡◌, ◌∙◌, ◌⊎◌, inl, inr, ℕ, List, [], ◌∷◌, Option, Some, None, is_some, refl, sym, ap}
use Rattle.std.specs.Option.{option_or}
use Rattle.std.specs.FinMap.{get}
use Rattle.pm3_types.specs.Fields.{Fields}
use Rattle.pm3_types.specs.Graph.{Part}
use Rattle.pm3_types.specs.Layout.{Sheet, page_in}
use Rattle.pm3_types.specs.Shown.{Images}
use Rattle.pm3_history.specs.Chronicled.{Chronicled}
use Rattle.pm3_history.specs.Entry.{Pass, Entry}
use Rattle.pm3_history.specs.Laid.{laid}
use Rattle.pm3_history.specs.LastImages.{last_written}
use Rattle.pm3_history.specs.Lawful.{MeetsPass}
use Rattle.pm3_history.specs.Named.{book_of, off_pages, promoted}
use Rattle.pm3_history.specs.Persistent.{persistent_book}
use Rattle.pm3_history.specs.Spaces.{NamesSpace, SpacesStay, PersistentAreWritten}
use Rattle.pm3_history.specs.State.{State, all_images, step, entry_after, now}
use Rattle.pm3_history.proofs.BookOf.{book_of_on}
use Rattle.pm3_history.proofs.Chronicles.{entry_keeps}
use Rattle.pm3_history.proofs.Laying.{some_of, some_none, none_if, laid_above, laid_cases, off_cases, off_keeps, without_keeps, without_cases}
use Rattle.pm3_history.proofs.Passing.{still_booked}
use Rattle.pm3_history.proofs.Spacing.{left_owner, other_owner, other_image, of_pass, of_left}

-- images of spaces lie over those of pages
same_above : (pages now volatile later : Images) (q : ℕ) (sheet : Sheet) → get volatile q ≡ Some sheet → get later q ≡ Some sheet
    → get (laid now later) q ≡ get (laid pages volatile) q
same_above pages now volatile later q sheet before after = laid_above now later q sheet after ∙ sym (laid_above pages volatile q sheet before)

abbrev Stays : ℕ → State → State → ℕ → ℕ → Type 0
Stays base st after space page =
    (get after.owner page ≡ Some space) × (get (all_images after) page ≡ get (all_images st) page)
    × ((a n : ℕ) → page_in base a ≡ page → get st.book a ≡ Some n → get after.book a ≡ Some n)

-- of one entry, by its fields
module _ (catalog : List Fields) (base pages : ℕ) (st : State) (chron : Chronicled catalog base st) (found left : Part) (tag mutator next_name high_page : ℕ) (written : Images) where
  abbrev entry : Option Pass → Entry
  entry pass = record { tag = tag; mutator = mutator; next_name = next_name; high_page = high_page; found = found; left = left; written = written; pass = pass }

  module _ (space page : ℕ) (mine : get st.owner page ≡ Some space) where
    image : (sheet : Sheet) × (get st.volatile page ≡ Some sheet)
    image = some_of (get st.volatile page) (chron.owned page ∙ ap is_some mine)

    stays_by : (pass : Option Pass) → MeetsPass catalog base pages st (entry pass) pass → (NamesSpace pass space → ⊥)
        → Stays base st (step base st (entry pass)) space page
    stays_by None meets other = (mine, same_above st.pages (laid st.pages written) st.volatile st.volatile page image.0 image.1 image.1, λ a n at has. has)
    stays_by (Some p) meets other = (
      other_owner base st (entry (Some p)) p meets.takes page after ∙ without_keeps st.owner p.before page before ∙ mine,
      same_above st.pages (laid st.pages written) st.volatile (step base st (entry (Some p))).volatile page image.0 image.1
          (other_image base st (entry (Some p)) p meets.takes page after ∙ without_keeps st.volatile p.before page before ∙ image.1),
      λ a n at has. still_booked catalog base st (entry (Some p)) p chron meets.takes a n has (ap (get p.before) at ∙ before),
    )
      where
        before : get p.before page ≡ None
        before = none_if (get p.before page) (λ sheet on. other (of_pass base st (entry (Some p)) p meets.takes page space mine (ap is_some on)))

        after : get p.after page ≡ None
        after = none_if (get p.after page) (λ sheet on. other (of_left base st (entry (Some p)) p meets.takes page space mine (ap is_some on)))

  module _ (a n : ℕ) (unwritten : get written (page_in base a) ≡ None) where
    was_by : (pass : Option Pass) → MeetsPass catalog base pages st (entry pass) pass
        → get (persistent_book base (step base st (entry pass))) a ≡ Some n → get (persistent_book base st) a ≡ Some n
    was_by None meets has = has
    was_by (Some p) meets has = by (laid_cases (off_pages base st.book p.before) (book_of base (laid p.after (promoted written p))) a n named.1)
      where
        after : State
        after = step base st (entry (Some p))

        named : (get after.owner (page_in base a) ≡ None) × (get after.book a ≡ Some n)
        named = off_cases base after.book after.owner a n has

        not_left : get p.after (page_in base a) ≡ None
        not_left = none_if (get p.after (page_in base a)) (λ sheet on.
            some_none (get after.owner (page_in base a)) p.space (left_owner base st (entry (Some p)) p meets.takes (page_in base a) sheet on) named.0)

        not_anew : (sheet : Sheet) → (get (promoted written p) (page_in base a) ≡ Some sheet)
            ⊎ ((get (promoted written p) (page_in base a) ≡ None) × (get p.after (page_in base a) ≡ Some sheet)) → ⊥
        not_anew sheet (inl new) = some_none (get written (page_in base a)) sheet (without_cases written p.changed (page_in base a) sheet new).1 unwritten
        not_anew sheet (inr kept) = some_none (get p.after (page_in base a)) sheet kept.1 not_left

        by : (get (book_of base (laid p.after (promoted written p))) a ≡ Some n)
            ⊎ ((get (book_of base (laid p.after (promoted written p))) a ≡ None) × (get (off_pages base st.book p.before) a ≡ Some n))
            → get (persistent_book base st) a ≡ Some n
        by (inl anew) =
            let on = some_of (get (laid p.after (promoted written p)) (page_in base a)) (book_of_on base (laid p.after (promoted written p)) a n anew) in
            absurd (not_anew on.0 (laid_cases p.after (promoted written p) (page_in base a) on.0 on.1))
        by (inr old) =
            let was = off_cases base st.book p.before a n old.1 in
            off_keeps base st.book st.owner a (sym (without_keeps st.owner p.before (page_in base a) was.0)
            ∙ sym (other_owner base st (entry (Some p)) p meets.takes (page_in base a) not_left) ∙ named.0) ∙ was.1

pub spaces_stay : SpacesStay
spaces_stay catalog base pages st [] space page chron are none mine = (mine, refl, λ a n at has. has)
spaces_stay catalog base pages st (d ∷ ds) space page chron are none mine =
    let e : Entry = entry_after catalog base st d in
    let first = stays_by catalog base pages st chron e.found e.left e.tag e.mutator e.next_name e.high_page e.written space page mine e.pass are.0.by_pass none.0 in
    let rest = spaces_stay catalog base pages (step base st e) ds space page (entry_keeps catalog base pages st e chron are.0) are.1 none.1 first.0 in
    (rest.0, rest.1 ∙ first.1, λ a n at has. rest.2 a n at (first.2 a n at has))

neither : (later first : Option Sheet) → option_or later first ≡ None → (later ≡ None) × (first ≡ None)
neither None first is = (refl, is)
neither (Some x) first is = absurd (some_none (Some x) x refl is)

pub persistent_are_written : PersistentAreWritten
persistent_are_written catalog base pages st [] a n chron are none has = has
persistent_are_written catalog base pages st (d ∷ ds) a n chron are none has =
    let e : Entry = entry_after catalog base st d in
    let both = neither (last_written ds (page_in base a)) (get d.written (page_in base a)) none in
    was_by catalog base pages st chron e.found e.left e.tag e.mutator e.next_name e.high_page e.written a n both.1 e.pass are.0.by_pass
    (persistent_are_written catalog base pages (step base st e) ds a n (entry_keeps catalog base pages st e chron are.0) are.1 both.0 has)
