-- A lawful history from an opening leads from state to state of a chronicle.
use Rattle.std.proofs.Common.{◌≡◌, ◌∙◌, inl, ℕ, true, List, [], ◌∷◌, Option, Some, None, is_some, refl, sym, ap, subst}
use Rattle.std.specs.Ordering.{nat_cmp}
use Rattle.std.specs.Cmp.{nat_cmp_total}
use Rattle.std.specs.FinMap.{get, empty, get-empty, same_map, nat_cmp-IsAntisymmetric}
use Rattle.std.proofs.lemmas.Bool.{and_parts}
use Rattle.pm3_types.specs.Fields.{Fields}
use Rattle.pm3_types.specs.Graph.{Part, PartOf}
use Rattle.pm3_types.specs.Layout.{Sheet, page_in, word_in, is_address}
use Rattle.pm3_types.specs.Objects.{is_unmoved_on, is_object_at, IsReachedAt, root, next}
use Rattle.pm3_types.specs.Shown.{Images, FitsImages, shown}
use Rattle.pm3_types.proofs.Parts.{part_of_itself}
use Rattle.pm3_journal.specs.Opening.{OpenTo}
use Rattle.pm3_history.specs.Laid.{laid}
use Rattle.pm3_history.specs.Entry.{Pass, Entry}
use Rattle.pm3_history.specs.State.{State, step, entry_after, opening_state, now}
use Rattle.pm3_history.specs.Lawful.{IsLawful, MeetsPass, Tells, book_for, images_of}
use Rattle.pm3_history.specs.Chronicled.{Chronicled}
use Rattle.pm3_history.specs.ChronicleLaws.{OpeningsAreChronicled, HistoriesKeep, NothingIsLost, NothingIsVolatile}
use Rattle.pm3_history.proofs.Laying.{laid_below, some_none}
use Rattle.pm3_history.proofs.Persisting.{persistent_reached, all_reached}
use Rattle.pm3_history.proofs.Plainly.{plain_keeps, no_zero}
use Rattle.pm3_history.proofs.Passing.{pass_keeps}

keeps_by : (catalog : List Fields) (base pages : ℕ) (st : State) (found left : Part) (tag mutator next_name high_page : ℕ) (written : Images) (pass : Option Pass)
    → let e : Entry = record { tag = tag; mutator = mutator; next_name = next_name; high_page = high_page; found = found; left = left; written = written; pass = pass } in
    Chronicled catalog base st → Tells st.graph (shown catalog base (book_for base st e) (images_of e)) e → MeetsPass catalog base pages st e pass → Chronicled catalog base (step base st e)
keeps_by catalog base pages st found left tag mutator next_name high_page written None chron tells meets =
    plain_keeps catalog base st found left tag mutator next_name high_page written chron tells meets
keeps_by catalog base pages st found left tag mutator next_name high_page written (Some p) chron tells meets =
    pass_keeps catalog base pages st found left tag mutator next_name high_page written p chron tells meets

-- an entry that may follow leads to such a state
pub entry_keeps : (catalog : List Fields) (base pages : ℕ) (st : State) (e : Entry) → Chronicled catalog base st → IsLawful catalog base pages st e → Chronicled catalog base (step base st e)
entry_keeps catalog base pages st e chron lawful =
    keeps_by catalog base pages st e.found e.left e.tag e.mutator e.next_name e.high_page e.written e.pass chron lawful.tells lawful.by_pass

pub histories_keep : HistoriesKeep
histories_keep catalog base pages st [] chron are = chron
histories_keep catalog base pages st (d ∷ ds) chron are =
    histories_keep catalog base pages (step base st (entry_after catalog base st d)) ds (entry_keeps catalog base pages st (entry_after catalog base st d) chron are.0) are.1

pub nothing_is_lost : NothingIsLost
nothing_is_lost catalog base pages st h chron are = all_reached catalog base (now catalog base st h) (histories_keep catalog base pages st h chron are)

pub nothing_is_volatile : NothingIsVolatile
nothing_is_volatile catalog base pages st h chron are = persistent_reached catalog base (now catalog base st h) (histories_keep catalog base pages st h chron are)

-- nothing laid over images leaves them
pub laid_nothing : (images : Images) → laid images empty ≡ images
laid_nothing images = same_map nat_cmp_total nat_cmp-IsAntisymmetric (laid images empty) images (λ q. laid_below images empty q (get-empty nat_cmp q))

on_page : (sheet : Option Sheet) (at : ℕ) → is_unmoved_on sheet at ≡ true → is_some sheet ≡ true
on_page None at is = absurd (cc is)
on_page (Some s) at is = refl

pub object_on_page : (base : ℕ) (images : Images) (a : ℕ) → is_object_at base images a ≡ true → is_some (get images (page_in base a)) ≡ true
object_on_page base images a is =
    on_page (get images (page_in base a)) (word_in base a) (and_parts (is_address base a) (is_unmoved_on (get images (page_in base a)) (word_in base a)) is).1

pub reached_on_page : (catalog : List Fields) (base : ℕ) (images : Images) (a : ℕ) → IsReachedAt catalog base images a → is_some (get images (page_in base a)) ≡ true
reached_on_page catalog base images a (root _ from object) = object_on_page base images a object
reached_on_page catalog base images a (next m _ before refers object) = object_on_page base images a object

pub opening_chronicled : (base : ℕ) (file journal : List ℕ) (g : Part) (o : OpenTo base file journal g)
    → Chronicled o.catalog base (opening_state o.catalog base o.images o.book o.next_name o.high_page)
opening_chronicled base file journal g o =
    let same : o.images ≡ laid o.images empty = sym (laid_nothing o.images) in
    record {
      fits = subst (λ (m : Images). FitsImages o.catalog base o.book m) same o.reached.fits;
      placed = λ a n has. (let P : Images → Type 0 = λ m. is_some (get m (page_in base a)) ≡ true in
          subst P same (reached_on_page o.catalog base o.images a (o.reached.only a n has)));
      named = λ a n is. absurd (some_none (get empty (page_in base a)) is.sheet is.on (get-empty nat_cmp (page_in base a)));
      owned = λ q. ap is_some (get-empty nat_cmp q) ∙ sym (ap is_some (get-empty nat_cmp q));
      shows = subst (λ (m : Images). PartOf (shown o.catalog base o.book m) (shown o.catalog base o.book o.images)) same (part_of_itself (shown o.catalog base o.book o.images));
      roots = o.reached.roots;
      roots_free = get-empty nat_cmp 2;
      no_nil = no_zero o.catalog base o.book o.images o.reached.fits;
      within = record {
        objects = λ a n k sheet has on is more. inl (get-empty nat_cmp _);
        roots = λ slot sheet low on more. inl (get-empty nat_cmp _);
      };
    }

pub openings_are_chronicled : OpeningsAreChronicled
openings_are_chronicled base pages o st opens =
    subst (λ (c : List Fields). Chronicled c base st) (opens.catalog_is)
    (subst (λ (s : State). Chronicled opens.opens.catalog base s) (sym opens.state)
    (opening_chronicled base opens.page_file opens.journal_file opens.graph opens.opens))
