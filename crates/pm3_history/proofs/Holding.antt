-- Pages that stay persistent, and what images of them show while others commit.
use Rattle.std.proofs.Common.{◌≡◌, ◌+◌, ◌∙◌, ◌⊎◌, inl, inr, ℕ, true, List, [], ◌∷◌, Option, Some, None, is_some, refl, sym, ap}
use Rattle.std.specs.Prelude.{slice_index}
use Rattle.std.specs.Option.{option_or}
use Rattle.std.specs.FinMap.{get, contains_key}
use Rattle.pm3_types.specs.Fields.{Fields}
use Rattle.pm3_types.specs.Graph.{Part}
use Rattle.pm3_types.specs.Layout.{Sheet, page_in, word_in}
use Rattle.pm3_types.specs.Record.{Record}
use Rattle.pm3_types.specs.Shown.{Book, Images, IsOneToOne, IsKnown, FitsImages, roots_in, shown, shown_records, object_at}
use Rattle.pm3_types.proofs.Books.{shown_at, shown_from}
use Rattle.pm3_types.proofs.Parts.{same_option, same_part}
use Rattle.pm3_history.specs.Chronicled.{Chronicled}
use Rattle.pm3_history.specs.Entry.{Pass, Done, Entry}
use Rattle.pm3_history.specs.Homes.{IsHome, HomesStay, HomesStand, HeldShowsOn}
use Rattle.pm3_history.specs.Lawful.{AreLawful, MeetsPass, IsFree, IsPass}
use Rattle.pm3_history.specs.Laid.{laid}
use Rattle.pm3_history.specs.Named.{book_of, next_book, off_pages, promoted}
use Rattle.pm3_history.specs.Persistent.{persistent_book}
use Rattle.pm3_history.specs.State.{State, step, entry_after, now}
use Rattle.pm3_history.proofs.Chronicles.{entry_keeps, histories_keep}
use Rattle.pm3_history.proofs.Lasting.{last_is_written}
use Rattle.pm3_history.proofs.Laying.{some_none, laid_cases, off_cases, off_keeps}
use Rattle.pm3_history.proofs.Passing.{named_anew}
use Rattle.pm3_history.proofs.Persisting.{page_same}
use Rattle.pm3_history.proofs.Replacing.{nothing_at, object_same, roots_same, known_kept}
use Rattle.pm3_history.proofs.Staying.{persistent_stay}

module _ (catalog : List Fields) (base : ℕ) (st : State) (chron : Chronicled catalog base st) where
  home_unowned : (q : ℕ) → IsHome base st q → get st.owner q ≡ None
  home_unowned q (inl roots) = ap (get st.owner) roots ∙ chron.roots_free
  home_unowned q (inr (a, n, on, has)) = ap (get st.owner) (sym on) ∙ (off_cases base st.book st.owner a n has).0

  home_used : (q : ℕ) → IsHome base st q → IsFree base st q → ⊥
  home_used q (inl roots) free = free.apart roots
  home_used q (inr (a, n, on, has)) free = free.empty a n (off_cases base st.book st.owner a n has).1 on

  module _ (pages : ℕ) (e : Entry) (p : Pass) (pass : IsPass catalog base pages st e p) where
    not_before : (q : ℕ) → IsHome base st q → contains_key p.before q ≡ true → ⊥
    not_before q home there = which (pass.takes.before q there)
      where
        which : (get st.owner q ≡ Some p.space) ⊎ IsFree base st q → ⊥
        which (inl mine) = some_none (get st.owner q) p.space mine (home_unowned q home)
        which (inr free) = home_used q home free

    -- no object comes to such a page in a pass
    was_named : (a n : ℕ) → IsHome base st (page_in base a) → get (next_book base st.book e.written (Some p)) a ≡ Some n → get st.book a ≡ Some n
    was_named a n home has = by (laid_cases (off_pages base st.book p.before) (book_of base (laid p.after (promoted e.written p))) a n has)
      where
        which : (contains_key p.before (page_in base a) ≡ true) ⊎ IsFree base st (page_in base a) → ⊥
        which (inl there) = not_before (page_in base a) home there
        which (inr free) = home_used (page_in base a) home free

        by : (get (book_of base (laid p.after (promoted e.written p))) a ≡ Some n)
            ⊎ ((get (book_of base (laid p.after (promoted e.written p))) a ≡ None) × (get (off_pages base st.book p.before) a ≡ Some n)) → get st.book a ≡ Some n
        by (inl anew) = absurd (which (named_anew catalog base st e p chron pass.takes a n anew).1)
        by (inr old) = (off_cases base st.book p.before a n old.1).1

was_by : (catalog : List Fields) (base pages : ℕ) (st : State) (found left : Part) (tag mutator next_name high_page : ℕ) (written : Images) (pass : Option Pass)
    → let e : Entry = record { tag = tag; mutator = mutator; next_name = next_name; high_page = high_page; found = found; left = left; written = written; pass = pass } in
    Chronicled catalog base st → MeetsPass catalog base pages st e pass
    → (a n : ℕ) → IsHome base st (page_in base a) → get (step base st e).book a ≡ Some n → get st.book a ≡ Some n
was_by catalog base pages st found left tag mutator next_name high_page written None chron meets a n home has = has
was_by catalog base pages st found left tag mutator next_name high_page written (Some p) chron meets a n home has =
    let e : Entry = record { tag = tag; mutator = mutator; next_name = next_name; high_page = high_page; found = found; left = left; written = written; pass = Some p } in
    was_named catalog base st chron pages e p meets a n home has

home_after : (catalog : List Fields) (base pages : ℕ) (st : State) (h : List Done) (q : ℕ) → Chronicled catalog base st → AreLawful catalog base pages st h → IsHome base st q
    → IsHome base (now catalog base st h) q
home_after catalog base pages st h q chron are (inl roots) = inl roots
home_after catalog base pages st h q chron are (inr (a, n, on, has)) = inr (a, n, on, persistent_stay catalog base pages st h a n chron are has)

pub homes_stay : HomesStay
homes_stay catalog base pages st h q chron are home =
    let later = home_after catalog base pages st h q chron are home in
    (later, home_unowned catalog base (now catalog base st h) (histories_keep catalog base pages st h chron are) q later)

pub homes_stand : HomesStand
homes_stand catalog base pages st h q chron are home unwritten =
    let after : State = now catalog base st h in
    page_same catalog base after (histories_keep catalog base pages st h chron are) q (homes_stay catalog base pages st h q chron are home).1
    ∙ last_is_written catalog base st h q
    ∙ ap (λ (o : Option Sheet). option_or o (get st.pages q)) unwritten
    ∙ sym (page_same catalog base st chron q (home_unowned catalog base st chron q home))

-- an object on such a page was there before the history
pub was_there : (catalog : List Fields) (base pages : ℕ) (st : State) (h : List Done) (a n : ℕ) → Chronicled catalog base st → AreLawful catalog base pages st h
    → IsHome base st (page_in base a) → get (now catalog base st h).book a ≡ Some n → get st.book a ≡ Some n
was_there catalog base pages st [] a n chron are home has = has
was_there catalog base pages st (d ∷ ds) a n chron are home has =
    let e : Entry = entry_after catalog base st d in
    let next : State = step base st e in
    let one : AreLawful catalog base pages st (d ∷ []) = (are.0, tt) in
    was_by catalog base pages st e.found e.left e.tag e.mutator e.next_name e.high_page e.written e.pass chron are.0.by_pass a n home
    (was_there catalog base pages next ds a n (entry_keeps catalog base pages st e chron are.0) are.1
    (home_after catalog base pages st (d ∷ []) (page_in base a) chron one home) has)

-- Two books that agree on images with a third one that fits them show the same.
module _ (catalog : List Fields) (base : ℕ) (held : Images) (some one other : Book) (fits : FitsImages catalog base some held)
    (one_is : IsOneToOne one) (other_is : IsOneToOne other)
    (in_one : (a n : ℕ) → get some a ≡ Some n → get one a ≡ Some n) (in_other : (a n : ℕ) → get some a ≡ Some n → get other a ≡ Some n)
    (of_one : (a n : ℕ) (sheet : Sheet) → get held (page_in base a) ≡ Some sheet → get one a ≡ Some n → get some a ≡ Some n) where
  object : (a n : ℕ) → get some a ≡ Some n → object_at other catalog base held a ≡ object_at one catalog base held a
  object a n has =
      object_same catalog base some other held a n fits has (λ k m sheet on reference more is. in_other (slice_index sheet.words (word_in base a + 2 + k)) m is)
      ∙ sym (object_same catalog base some one held a n fits has (λ k m sheet on reference more is. in_one (slice_index sheet.words (word_in base a + 2 + k)) m is))

  there : (n : ℕ) (r : Record) → get (shown_records catalog base one held) n ≡ Some r → get (shown_records catalog base other held) n ≡ Some r
  there n r is = by (get held (page_in base from.0)) refl
    where
      from : (a : ℕ) × (get one a ≡ Some n) × (object_at one catalog base held a ≡ Some r)
      from = shown_from catalog base one held n r is

      by : (o : Option Sheet) → get held (page_in base from.0) ≡ o → get (shown_records catalog base other held) n ≡ Some r
      by None none = absurd (some_none (object_at one catalog base held from.0) r from.2 (nothing_at catalog base one held from.0 none))
      by (Some sheet) on =
          let has : get some from.0 ≡ Some n = of_one from.0 n sheet on from.1 in
          shown_at catalog base other held from.0 n other_is (in_other from.0 n has) ∙ object from.0 n has ∙ from.2

  roots : roots_in catalog base other held (get held 2) ≡ roots_in catalog base one held (get held 2)
  roots =
      roots_same catalog base some other held fits (λ slot m sheet low on more is. in_other (slice_index sheet.words (2 + slot)) m is)
      ∙ sym (roots_same catalog base some one held fits (λ slot m sheet low on more is. in_one (slice_index sheet.words (2 + slot)) m is))

-- images show the same under another book that has all that the first has, and on their pages no more
pub shown_alike : (catalog : List Fields) (base : ℕ) (held : Images) (some other : Book) → FitsImages catalog base some held → IsOneToOne other
    → ((a n : ℕ) → get some a ≡ Some n → get other a ≡ Some n)
    → ((a n : ℕ) (sheet : Sheet) → get held (page_in base a) ≡ Some sheet → get other a ≡ Some n → get some a ≡ Some n)
    → shown catalog base other held ≡ shown catalog base some held
shown_alike catalog base held some other fits one into of =
    same_part (shown catalog base other held) (shown catalog base some held)
    (λ n. same_option (get (shown_records catalog base other held) n) (get (shown_records catalog base some held) n)
    (there catalog base held some other some fits one fits.one into (λ a m is. is) of n)
    (there catalog base held some some other fits fits.one one (λ a m is. is) into (λ a m sheet on is. is) n))
    (roots catalog base held some some other fits fits.one one (λ a m is. is) into (λ a m sheet on is. is))

-- images of such pages show the same under the later book
pub held_shows_on : HeldShowsOn
held_shows_on catalog base pages st h held chron are fits homes = (same, fits_now)
  where
    after : State
    after = now catalog base st h

    chron_after : Chronicled catalog base after
    chron_after = histories_keep catalog base pages st h chron are

    book : Book
    book = persistent_book base st

    in_now : (a n : ℕ) → get book a ≡ Some n → get (persistent_book base after) a ≡ Some n
    in_now a n has = persistent_stay catalog base pages st h a n chron are has

    home : (a : ℕ) (sheet : Sheet) → get held (page_in base a) ≡ Some sheet → IsHome base st (page_in base a)
    home a sheet on = homes (page_in base a) (ap is_some on)

    of_old : (a n : ℕ) (sheet : Sheet) → get held (page_in base a) ≡ Some sheet → get st.book a ≡ Some n → get book a ≡ Some n
    of_old a n sheet on has = off_keeps base st.book st.owner a (home_unowned catalog base st chron (page_in base a) (home a sheet on)) ∙ has

    of_new : (a n : ℕ) (sheet : Sheet) → get held (page_in base a) ≡ Some sheet → get after.book a ≡ Some n → get book a ≡ Some n
    of_new a n sheet on has = of_old a n sheet on (was_there catalog base pages st h a n chron are (home a sheet on) has)

    of_still : (a n : ℕ) (sheet : Sheet) → get held (page_in base a) ≡ Some sheet → get (persistent_book base after) a ≡ Some n → get book a ≡ Some n
    of_still a n sheet on has = of_new a n sheet on (off_cases base after.book after.owner a n has).1

    in_old : (a n : ℕ) → get book a ≡ Some n → get st.book a ≡ Some n
    in_old a n has = (off_cases base st.book st.owner a n has).1

    in_new : (a n : ℕ) → get book a ≡ Some n → get after.book a ≡ Some n
    in_new a n has = (off_cases base after.book after.owner a n (in_now a n has)).1

    same : shown catalog base after.book held ≡ shown catalog base st.book held
    same =
        same_part (shown catalog base after.book held) (shown catalog base st.book held)
        (λ n. same_option (get (shown_records catalog base after.book held) n) (get (shown_records catalog base st.book held) n)
        (there catalog base held book after.book st.book fits chron_after.fits.one chron.fits.one in_new in_old of_new n)
        (there catalog base held book st.book after.book fits chron.fits.one chron_after.fits.one in_old in_new of_old n))
        (roots catalog base held book st.book after.book fits chron.fits.one chron_after.fits.one in_old in_new of_old)

    still : (w : ℕ) → IsKnown book w → IsKnown (persistent_book base after) w
    still w known = known_kept book (persistent_book base after) w known (λ m more is. in_now w m is)

    fits_now : FitsImages catalog base (persistent_book base after) held
    fits_now = record {
      one = λ a b n has also.
          chron_after.fits.one a b n (off_cases base after.book after.owner a n has).1 (off_cases base after.book after.owner b n also).1;
      named = λ a n has. chron_after.fits.named a n (off_cases base after.book after.owner a n has).1;
      objects = λ a n sheet has on. fits.objects a n sheet (of_still a n sheet on has) on;
      references = λ a n k sheet has on is.
          still (slice_index sheet.words (word_in base a + 2 + k)) (fits.references a n k sheet (of_still a n sheet on has) on is);
      roots = λ slot sheet low on. still (slice_index sheet.words (2 + slot)) (fits.roots slot sheet low on);
    }
