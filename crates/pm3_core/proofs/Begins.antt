-- No word begins to stand that names a marked page.
use Rattle.std.proofs.Common.{◌≡◌, ◌≢◌, ℕ, ◌+◌, Bool, true, false, if◌then◌else◌, List, [], ◌∷◌, ◌++◌, refl, sym, ◌∙◌, subst, All, arith}
use Rattle.std.proofs.lemmas.Bool.{cases_eq}
use Rattle.std.proofs.lemmas.Bool.Decides.{nat_tests}
use Rattle.pm3_core.specs.declared.events.Event.{Event}
use Rattle.pm3_core.specs.declared.events.Event.TheVariants.{Store, Validate, Clear, Mark, Read, Move, Unmark}
use Rattle.pm3_core.specs.Naming.{Names}
use Rattle.pm3_core.specs.Machine.{Machine, spot, put, names_unmarked, stored, validated, marked, read_off, admits, after, run}
use Rattle.pm3_core.specs.Law.{Pins, PinnedBefore, LeavesMark}
use Rattle.pm3_core.proofs.Functions.{each_first, each_rest}
use Rattle.pm3_core.proofs.Names.{unmarked_not}

pub run-append : (pages : ℕ) (events more : List Event) (m : Machine) → run pages (events ++ more) m ≡ run pages more (run pages events m)
run-append pages [] more m = refl
run-append pages (event ∷ events) more m = run-append pages events more (after pages m event)

stored_pinned : (pages : ℕ) (m : Machine) (at w n page : ℕ) → PinnedBefore pages m (stored m at w) n page
stored_pinned pages m at w n page pins =
    let other : n ≢ at = λ e. grind (arith, nat_tests, e, pins.0) in
    let word : m.word n ≡ put m.word at w n = grind (arith, nat_tests, other) in
    ((grind (arith, nat_tests, other, pins.0), subst (λ v. Names pages v page) (sym word) pins.1), word)

validated_pinned : (pages : ℕ) (m : Machine) (at n page : ℕ) → m.mark page ≢ 0 → PinnedBefore pages m (validated pages m at) n page
validated_pinned pages m at n page marks pins = ((stood (names_unmarked pages m.mark (m.word at)) refl pins.0, pins.1), refl)
  where
    stood : (b : Bool) → names_unmarked pages m.mark (m.word at) ≡ b → (if b then put m.stands at true else m.stands) n ≡ true → m.stands n ≡ true
    stood false e stood_so = stood_so
    stood true e stood_so = grind (arith, nat_tests, cases_eq n at, e, stood_so, unmarked_not pages (m.word n) page m.mark pins.1 marks)

chosen_pinned : (pages n page : ℕ) (b : Bool) (m m' : Machine) → PinnedBefore pages m m' n page → PinnedBefore pages m (if b then m' else m) n page
chosen_pinned pages n page true m m' step pins = step pins
chosen_pinned pages n page false m m' step pins = (pins, refl)

-- what pins a marked page after an event pinned it before
pub after_pinned : (pages : ℕ) (m : Machine) (event : Event) (n page : ℕ) → m.mark page ≢ 0 → PinnedBefore pages m (after pages m event) n page
after_pinned pages m (Store who place word) n page marks pins =
    chosen_pinned pages n page (admits pages m (Store who place word)) m (stored m (spot who place) word) (stored_pinned pages m (spot who place) word n page) pins
after_pinned pages m (Validate who place) n page marks pins =
    chosen_pinned pages n page (admits pages m (Validate who place)) m (validated pages m (spot who place)) (validated_pinned pages m (spot who place) n page marks) pins
after_pinned pages m (Clear who place) n page marks pins =
    chosen_pinned pages n page (admits pages m (Clear who place)) m (stored m (spot who place) 0) (stored_pinned pages m (spot who place) 0 n page) pins
after_pinned pages m (Mark who p) n page marks pins =
    chosen_pinned pages n page (admits pages m (Mark who p)) m (marked m p (who + 1)) (λ same. (same, refl)) pins
after_pinned pages m (Read who row place) n page marks pins =
    chosen_pinned pages n page (admits pages m (Read who row place)) m (read_off pages m who (spot row place)) (λ same. (same, refl)) pins
after_pinned pages m (Move who p) n page marks pins =
    chosen_pinned pages n page (admits pages m (Move who p)) m m (λ same. (same, refl)) pins
after_pinned pages m (Unmark who p) n page marks pins =
    chosen_pinned pages n page (admits pages m (Unmark who p)) m (marked m p 0) (λ same. (same, refl)) pins

-- a marked page keeps a mark at each event but its unmark
pub after_marks : (pages : ℕ) (m : Machine) (event : Event) (page : ℕ) → LeavesMark page event → m.mark page ≢ 0 → (after pages m event).mark page ≢ 0
after_marks pages m (Store who place word) page leaves marks = grind (arith, nat_tests, marks)
after_marks pages m (Validate who place) page leaves marks = grind (arith, nat_tests, marks)
after_marks pages m (Clear who place) page leaves marks = grind (arith, nat_tests, marks)
after_marks pages m (Mark who other) page leaves marks = grind (arith, nat_tests, marks, cases_eq page other)
after_marks pages m (Read who row place) page leaves marks = grind (arith, nat_tests, marks)
after_marks pages m (Move who other) page leaves marks = grind (arith, nat_tests, marks)
after_marks pages m (Unmark who other) page leaves marks = grind (arith, nat_tests, marks, leaves, cases_eq page other)

-- what pins a marked page after events that leave its mark pinned it before
pub run_pinned : (pages : ℕ) (more : List Event) (m : Machine) (n page : ℕ) → m.mark page ≢ 0 → All (LeavesMark page) more → PinnedBefore pages m (run pages more m) n page
run_pinned pages [] m n page marks leave pins = (pins, refl)
run_pinned pages (event ∷ more) m n page marks leave pins =
    let later : Pins pages (after pages m event) n page × ((after pages m event).word n ≡ (run pages more (after pages m event)).word n) =
    run_pinned pages more (after pages m event) n page (after_marks pages m event page (each_first (LeavesMark page) event more leave) marks) (each_rest (LeavesMark page) event more leave) pins in
    let sooner : Pins pages m n page × (m.word n ≡ (after pages m event).word n) = after_pinned pages m event n page marks later.0 in
    (sooner.0, sooner.1 ∙ later.1)
